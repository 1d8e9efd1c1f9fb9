-- `walk_descend::down` goes down by one level. The answers here are those of a child that does not qualify: it is out of range, it does not exist,
-- or, if it is the second, it is passed. Assumes nothing.
use Rattle.std.proofs.Common.{rules}
use Rattle.walk_descend.proofs.Descends.{down_none, down_err, down_lost, down_far_err}
use Rattle.walk_descend.proofs.down.Goals as goal

pub returns-in_err-ask : goal.returns-in_err-ask
returns-in_err-ask g c = search (rules, down_err)

pub returns-in_err-ask-in-Past : goal.returns-in_err-ask-in-Past
returns-in_err-ask-in-Past g c = search (rules, down_far_err _ _ _ _ c.args.r c.requires.room c.order-near.ensures c.ask.ensures)

pub returns-in-Past-2 : goal.returns-in-Past-2
returns-in-Past-2 g c = search (rules, down_lost _ _ _ _ c.args.r c.requires.room c.order-near.ensures c.ask.ensures)

pub returns-in-Absent : goal.returns-in-Absent
returns-in-Absent g c = search (rules, down_none _ _ _ _ c.args.r c.requires.room c.order-near.ensures c.ask.ensures)
