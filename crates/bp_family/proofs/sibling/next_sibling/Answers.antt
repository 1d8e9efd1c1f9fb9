-- `bp_family::next_sibling` tests the handle v and then answers what `next_of` answers. Assumes nothing.
use Rattle.bp_spec.proofs.HandleAnswers.{node_ok}
use Rattle.bp_spec.specs.SiblingCalls.{next_sibling}
use Rattle.bp_family.proofs.sibling.next_sibling.Goals as goal

pub returns : goal.returns
returns c = let g = c.row_for_node.ensures in node_ok _ _ _ _ _ g.gate next_sibling g.parts c.in_ok-row_for_node.was c.next_of.ensures
