-- `bp_level::level_leftmost` tests refusals 1 to 4 and then answers what `leftmost_at` answers. Assumes nothing.
use Rattle.bp_spec.specs.LevelEnds.{level_leftmost}
use Rattle.bp_level.proofs.LevelEnds.{level_ok}
use Rattle.bp_level.proofs.ends.level_leftmost.Goals as goal

pub returns : goal.returns
returns c = let g = c.new.ensures in level_ok _ _ _ _ _ g.gate level_leftmost g.parts c.in_ok-new.was c.leftmost_at.ensures
