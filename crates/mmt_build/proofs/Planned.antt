-- The node buffer of a plan, after the part of the block leaves is put back.
--   middle: the nodes from I on have their required entries
-- Assumes nothing.
use mathlib.Core.Path.{◌≡◌}
use mathlib.Core.List.{List}
use Prim.Native.Nat.{ℕ, ◌-◌, ◌*◌}
use native.Mathlib.Omega.{arith}
use Rattle.std.proofs.lemmas.Grind.{common_steps}
use lib.IntN.{ℤ}
use borrow.Rule.Slice.PartMut.{put_mid}
use lib.ListN.{length, take, drop}
use Rattle.mmt_layout.specs.Layout.{width, leaves, inner, count}
use Rattle.mmt_build.specs.declared.plan.Plan.{Plan}
use Rattle.mmt_build.specs.Filling.{Filled, Leveled}
use Rattle.mmt_build.specs.Plan.{HasRoom}
use Rattle.mmt_build.proofs.Filled.{leaves_leveled}

-- The part begins after the inner nodes and ends with the last of the a nodes.
pub middle : (p : Plan) (s : List ℤ) (a : ℕ) → a ≡ count p.n p.block → HasRoom p s
    → (ys : List ℤ) → length ys ≡ length (take (width * a - width * p.layout.inner) (drop (width * p.layout.inner) s))
    → Filled p.words.now p.n p.block (leaves p.n p.block) ys
    → Leveled p.words.now p.n s p.block (inner p.n p.block) (put_mid (width * p.layout.inner) (width * a - width * p.layout.inner) s ys)
middle p s a e room ys l g =
    let b = p.laid.blocks in
    leaves_leveled p.words.now p.n s p.block room (omega arith) (width * p.layout.inner) (width * a - width * p.layout.inner) ys
    (grind arith) (grind arith) (grind (arith, common_steps)) g
