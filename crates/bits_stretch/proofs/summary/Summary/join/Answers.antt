-- `Summary::join` returns the join of two summaries. Their values are at most 2^61 in size, so the sums fit into an i64, and each of the
-- three results is that of the definition. Assumes nothing.
use mathlib.Core.Path.{◌≡◌, ap₂, ◌∙◌}
use Prim.Native.Nat.{◌^◌, ◌≤◌, ◌<◌}
use lib.IntN.{ℤ, ◌+ℤ◌}
use lib.Signed.{mag}
use mir.Syntax.{w64}
use mir.Val.{SFits, to_z, of_z}
use mir.ValLaws.{to_z-of_z}
use Rattle.ints.specs.Sides.{size}
use Rattle.ints.specs.Order.{min_z, max_z}
use Rattle.ints.proofs.Shapes.{zsum}
use Rattle.ints.proofs.Order.{min_same, max_same}
use Rattle.bits_stretch.specs.Summary.{join_of, tame_bound}
use Rattle.bits_stretch.proofs.summary.Summary.join.Goals as goal

-- A value of this size is unchanged by being stored in an i64.
back : (a : ℤ) → size a ≤ tame_bound → to_z w64 (of_z w64 a) ≡ a
back a h = to_z-of_z w64 a (omega zsum)

sum_back : (a b : ℤ) → size a ≤ tame_bound → size b ≤ tame_bound → to_z w64 (of_z w64 (to_z w64 (of_z w64 a) +ℤ to_z w64 (of_z w64 b))) ≡ a +ℤ b
sum_back a b h k =
    let f : SFits w64 (a +ℤ b) = omega zsum in
    rw (back a h, back b k) (to_z-of_z w64 _ f)

-- The result of `min` or `max` for two values that were stored in an i64.
answered : (op : ℤ → ℤ → ℤ) {z a b c d : ℤ} → mag z < 2 ^ 63 → z ≡ op a b → a ≡ c → b ≡ d → to_z w64 (of_z w64 z) ≡ op c d
answered op f e p q = to_z-of_z w64 _ (record { sfits = f }) ∙ e ∙ ap₂ op p q

pub returns : goal.returns
unfolding join_of
returns c =
    let x = c.args.self in
    let y = c.args.y in
    let p = c.requires.left in
    let q = c.requires.right in
    let t = sum_back x.total y.total p.total q.total in
    let l = answered min_z c.min.type_inv (c.min.ensures.value ∙ min_same _ _) (back x.least p.least) (sum_back x.total y.least p.total q.least) in
    let g = answered max_z c.max.type_inv (c.max.ensures.value ∙ max_same _ _) (back x.greatest p.greatest) (sum_back x.total y.greatest p.total q.greatest) in
    λ i. record { total = t i; least = l i; greatest = g i }
