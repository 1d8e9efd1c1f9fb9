-- The height falls with each call. Assumes nothing.
use Rattle.walk_descend.proofs.+descend.Given as goal

abbrev pub decreases-descend : goal.decreases-descend
decreases-descend g l = l.p.height
