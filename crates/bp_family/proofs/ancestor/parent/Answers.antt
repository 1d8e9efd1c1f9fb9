-- `bp_family::parent` tests the handle v and then searches backward for -1, because the bit at a handle is open. Assumes nothing.
use Rattle.bp_family.proofs.Ancestors.{parent_ok}
use Rattle.bp_family.proofs.ancestor.parent.Goals as goal

pub returns : goal.returns
returns c = let g = c.row_for_node.ensures in parent_ok _ _ _ _ _ g.gate g.parts c.in_ok-row_for_node.was c.walk.ensures
