-- `bp_level::level_prev` tests the handle v and then answers what `walk_twice` answers for the difference 1. Assumes nothing.
use Rattle.bp_spec.proofs.HandleAnswers.{node_ok}
use Rattle.bp_spec.specs.LevelCalls.{level_prev}
use Rattle.bp_level.proofs.from_node.level_prev.Goals as goal

pub returns : goal.returns
unfolding level_prev
returns c = let g = c.row_for_node.ensures in node_ok _ _ _ _ _ g.gate level_prev g.parts c.in_ok-row_for_node.was c.walk_twice.ensures
