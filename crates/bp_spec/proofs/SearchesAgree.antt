-- Over nodes as built the two searches by the walk equal the two searches by definition. So every call made of them agrees too.
--   searches_defined: both searches at once
--   call_defined: any call made of the two searches
-- Assumes nothing.
use mathlib.Core.Path.{◌≡◌, ap}
use mathlib.Core.List.{List}
use Prim.Native.Nat.{ℕ, ◌<◌}
use native.Mathlib.Omega.{arith}
use lib.IntN.{ℤ}
use lib.ListN.{length}
use Rattle.std.specs.Prelude.{Ok}
use Rattle.row.specs.Answer.{Answer}
use Rattle.mmt_layout.specs.Layout.{nodes_gate}
use Rattle.mmt_layout.proofs.Gates.{gate_fine}
use Rattle.mmt_node.specs.Nodes.{AsBuilt}
use Rattle.walk_spec.proofs.Right.{walk_forward, walk_backward}
use Rattle.bp_spec.specs.SearchPair.{Searches, walked, defined}

module _ (ws : List ℕ) (n : ℕ) (s : List ℤ) (B : ℕ) (g : nodes_gate (length ws) n (length s) B ≡ (Ok tt)) (b : AsBuilt ws n s B) where
  pub searches_defined : walked ws n s B ≡ defined ws n
  searches_defined =
      let f = gate_fine (length ws) n (length s) B g in
      let p : 0 < B = omega (arith, f.eight) in
      λ j. record { fwd = λ i r. walk_forward ws n s B p f.short b i r j; bwd = λ i r. walk_backward ws n s B p f.short b i r j }

  pub call_defined : (call : Searches → Answer) → call (walked ws n s B) ≡ call (defined ws n)
  call_defined call = ap call searches_defined
