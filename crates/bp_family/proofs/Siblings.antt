-- `last_child` and `next_sibling` after their tests have passed.
--   found_after: over any nodes the close of v lies after v and below n
-- Assumes nothing.
use mathlib.Core.Path.{◌≡◌, sym, ◌∙◌}
use Prim.Native.Nat.{ℕ, ◌<◌}
use native.Mathlib.Omega.{arith}
use lib.IntN.{negsuc}
use Rattle.std.specs.Prelude.{Result, Ok, Option, Some}
use Rattle.row.specs.Answer.{paper_found}
use Rattle.row.specs.declared.refusal.Refusal.{Refusal}
use Rattle.mmt_layout.specs.declared.admitted.Admitted.{Admitted}
use Rattle.walk_spec.proofs.Inside.{walk_after}
use Rattle.bp_spec.specs.SearchPair.{walked_on, close_of}

module _ (t : Admitted) (v : ℕ) where
  pub found_after : {f : Result (Option ℕ) Refusal} → paper_found f ≡ close_of (walked_on t) v → {o : Option ℕ} → f ≡ Ok o → {c : ℕ} → o ≡ Some c
      → (v < c) × (c < t.n)
  found_after e p {c} q =
      walk_after t.words.now t.n t.nodes.now t.block (omega (arith, t.fine.eight)) v (negsuc 0) c (sym e ∙ rw (p, q))
