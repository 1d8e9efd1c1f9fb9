-- `Backward::holds` asks `spans_back` for the remainder plus the total. Assumes nothing.
use mathlib.Core.Path.{◌≡◌, ap₂}
use Prim.Native.Nat.{◌+◌, ◌<◌}
use native.Mathlib.Omega.{arith}
use lib.IntN.{ℤ, ◌+ℤ◌}
use mir.Syntax.{w64}
use mir.Val.{SFits, to_z, of_z}
use mir.ValLaws.{to_z-of_z}
use Rattle.ints.specs.Limits.{i64_bound}
use Rattle.ints.specs.Sides.{size}
use Rattle.ints.proofs.Linear.{plus_size}
use Rattle.ints.proofs.Shapes.{zsum}
use Rattle.bits_stretch.proofs.direction.BackwardDirection.holds.Goals as goal

-- The sum of two values that are stored in an i64, if it is small enough.
module _ (r t : ℤ) (room : size r + size t < i64_bound) where
  sum_fits : SFits w64 (r +ℤ t)
  sum_fits = let s : size (r +ℤ t) < i64_bound = omega (arith, plus_size r t) in omega (zsum, s)

  sum_back : to_z w64 (of_z w64 r) +ℤ to_z w64 (of_z w64 t) ≡ r +ℤ t
  sum_back =
      let f : SFits w64 r = omega zsum in
      let g : SFits w64 t = omega zsum in
      ap₂ ◌+ℤ◌ (to_z-of_z w64 r f) (to_z-of_z w64 t g)

pub returns : goal.returns
returns c =
    let r = c.args.r in
    let t = c.args.x.total in
    rw (sum_back r t c.requires, to_z-of_z w64 _ (sum_fits r t c.requires)) at c.spans_back.ensures
