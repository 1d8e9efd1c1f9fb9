-- `bp_level::level_rightmost` tests refusals 1 to 4 and then answers what `rightmost_at` answers. Assumes nothing.
use Rattle.bp_level.proofs.LevelEnds.{rightmost_ok}
use Rattle.bp_level.proofs.ends.level_rightmost.Goals as goal

pub returns : goal.returns
returns c = let g = c.new.ensures in rightmost_ok _ _ _ _ _ g.gate g.parts c.in_ok-new.was c.rightmost_at.ensures
