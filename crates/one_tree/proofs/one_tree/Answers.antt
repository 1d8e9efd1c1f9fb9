-- `one_tree::one_tree` makes the tests of refusals 2 and 3, then tests the row. Assumes nothing.
use Rattle.one_tree.proofs.Decided.{when_told}
use Rattle.one_tree.proofs.one_tree.Goals as goal

pub returns : goal.returns
returns c = let g = c.new.ensures in when_told _ _ g.gate g.parts c.in_ok-new.was c.is_one_tree.ensures
