-- `bp_level::level_next` tests the handle v and then answers what `walk_twice` answers. Assumes nothing.
use Rattle.bp_spec.proofs.HandleAnswers.{node_ok}
use Rattle.bp_spec.specs.LevelCalls.{level_next}
use Rattle.bp_level.proofs.from_node.level_next.Goals as goal

pub returns : goal.returns
unfolding level_next
returns c = let g = c.row_for_node.ensures in node_ok _ _ _ _ _ g.gate level_next g.parts c.in_ok-row_for_node.was c.walk_twice.ensures
