-- `Summary::spans` tests whether least <= r <= greatest. If the first comparison fails, the result is no; otherwise the second one
-- decides. Assumes nothing.
use mir.Syntax.{w64}
use mir.Val.{SFits}
use mir.ValLaws.{to_z-of_z}
use native.Mathlib.Omega.{arith}
use Rattle.bits_stretch.specs.Summary.{holds_for}
use Rattle.bits_stretch.proofs.summary.Summary.spans.Goals as goal

pub returns-then-self-r : goal.returns-then-self-r
unfolding holds_for
returns-then-self-r c =
    let f : SFits w64 c.args.self.least = omega arith in
    let g : SFits w64 c.args.self.greatest = omega arith in
    rw (to_z-of_z w64 _ c.ranges.r, to_z-of_z w64 _ g, rw (to_z-of_z w64 _ f, to_z-of_z w64 _ c.ranges.r) at c.if-self-r.true)

pub returns-else-self-r : goal.returns-else-self-r
unfolding holds_for
returns-else-self-r c =
    let f : SFits w64 c.args.self.least = omega arith in
    rw (to_z-of_z w64 _ f, to_z-of_z w64 _ c.ranges.r, rw (to_z-of_z w64 _ f, to_z-of_z w64 _ c.ranges.r) at c.if-self-r.false)
