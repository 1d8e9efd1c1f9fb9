-- `walk_descend::down_two` goes down by one level, and by a second if there is one. The answers here are those of the second level.
-- Assumes nothing.
use native.Mathlib.Omega.{arith}
use Rattle.walk_descend.proofs.Descends.{one_left, one_on}
use Rattle.walk_descend.proofs.down_two.Goals as goal

pub down-requires-2 : goal.down-requires-2
down-requires-2 g c = let l = c.in_ok-one in one_left _ _ _ c.args.p.height _ (omega arith) c.args.p.remainder c.requires c.down.ensures l.one l.was (omega arith)

pub returns : goal.returns
returns g c =
    let l = c.in_ok-one in
    one_on _ _ _ _ _ (omega arith) c.args.p.remainder c.requires c.down.ensures l.one l.was (omega arith) c.down-2.ensures
