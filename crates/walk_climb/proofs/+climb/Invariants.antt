-- The index of the node falls with each call. Assumes nothing.
use Rattle.walk_climb.proofs.+climb.Given as goal

abbrev pub decreases-climb : goal.decreases-climb
decreases-climb g l = l.p.node
