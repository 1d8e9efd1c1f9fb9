-- `bits_stretch::holds_back` tests whether s = 0 or least <= s <= greatest. If s is 0, the result is yes; otherwise `holds` decides.
-- Assumes nothing.
use mathlib.Core.Path.{ap, ◌≡◌}
use lib.IntN.{pos}
use mir.Syntax.{w64}
use mir.Val.{of_z}
use mir.ValLaws.{to_z-of_z}
use native.Mathlib.Omega.{arith}
use borrow.Author.Tests.{eq-eqb}
use Rattle.ints.proofs.Linear.{bits_≡}
use Rattle.ints.proofs.Order.{eq_z_yes, eq_z_no}
use Rattle.bits_stretch.specs.Summary.{holds_back}
use Rattle.bits_stretch.proofs.summary.Summary.spans_back.Goals as goal

pub returns-then-s-eq0 : goal.returns-then-s-eq0
unfolding holds_back
returns-then-s-eq0 c = let z : c.args.s ≡ pos 0 = bits_≡ c.ranges.s (omega arith) c.if-s-eq0.true in rw (eq-eqb _ _ c.if-s-eq0.true, eq_z_yes _ _ z)

pub returns-else-s-eq0 : goal.returns-else-s-eq0
unfolding holds_back
returns-else-s-eq0 c = rw (eq_z_no _ (pos 0) (λ z. c.if-s-eq0.false (ap (of_z w64) z)), ← to_z-of_z w64 _ c.ranges.s) c.spans.ensures
