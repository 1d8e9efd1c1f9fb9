-- `walk_descend::descend` goes down by up to two levels, by up to two more, and then calls itself. The answers here are those after the first
-- two levels. Assumes nothing.
use native.Mathlib.Omega.{arith}
use Rattle.std.proofs.Common.{rules}
use Rattle.walk_descend.proofs.Descends.{two_left, four_err, four_end, four_left, four_on}
use Rattle.walk_descend.proofs.+descend.Goals as goal

pub down_two-requires-2 : goal.down_two-requires-2
down_two-requires-2 g t c = let l = c.in_ok-two in two_left _ _ _ _ _ c.args.p.remainder c.requires c.down_two.ensures l.two l.was

pub returns-in_err-four : goal.returns-in_err-four
returns-in_err-four g t c =
    let l = c.in_ok-two in search (rules, four_err _ _ _ _ _ c.args.p.remainder c.requires c.down_two.ensures l.two l.was c.down_two-2.ensures)

pub returns-then-p-le4 : goal.returns-then-p-le4
returns-then-p-le4 g t c =
    let l = c.in_ok-two in
    let i = c.in_ok-four in
    four_end _ _ _ _ _ c.args.p.remainder c.requires c.down_two.ensures l.two l.was c.down_two-2.ensures i.four i.was (omega arith)

pub descend-requires : goal.descend-requires
descend-requires g t c κs within =
    let l = c.in_ok-two in
    let i = c.in_ok-four in
    (omega arith, (within, four_left _ _ _ _ _ c.args.p.remainder c.requires c.down_two.ensures l.two l.was c.down_two-2.ensures i.four i.was))

pub returns : goal.returns
returns g t c =
    let l = c.in_ok-two in
    let i = c.in_ok-four in
    four_on _ _ _ _ _ c.args.p.remainder c.requires c.down_two.ensures l.two l.was c.down_two-2.ensures i.four i.was c.descend.ensures
