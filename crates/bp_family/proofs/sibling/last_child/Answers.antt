-- `bp_family::last_child` tests the handle v and then answers what `last_of` answers. Assumes nothing.
use Rattle.bp_spec.proofs.HandleAnswers.{node_ok}
use Rattle.bp_spec.specs.SiblingCalls.{last_child}
use Rattle.bp_family.proofs.sibling.last_child.Goals as goal

pub returns : goal.returns
returns c = let g = c.row_for_node.ensures in node_ok _ _ _ _ _ g.gate last_child g.parts c.in_ok-row_for_node.was c.last_of.ensures
