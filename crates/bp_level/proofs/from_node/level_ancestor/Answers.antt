-- `bp_level::level_ancestor` tests the handle v and then answers what `ancestor_at` answers. Assumes nothing.
use Rattle.bp_spec.proofs.HandleAnswers.{node_ok}
use Rattle.bp_spec.specs.LevelCalls.{level_ancestor}
use Rattle.bp_level.proofs.from_node.level_ancestor.Goals as goal

pub returns : goal.returns
returns c = let g = c.row_for_node.ensures in node_ok _ _ _ _ _ g.gate (level_ancestor c.args.k) g.parts c.in_ok-row_for_node.was c.ancestor_at.ensures
