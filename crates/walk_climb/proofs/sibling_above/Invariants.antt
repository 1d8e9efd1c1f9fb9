-- The loop goes up from node k at height h to node j. The index j falls. Assumes nothing.
use Rattle.walk_climb.specs.Climbed.{Rises}
use Rattle.walk_climb.proofs.sibling_above.Given as goal

abbrev pub invariant-loop-j : goal.invariant-loop-j
invariant-loop-j g l = Rises g.D.Direction.way l.fn.k l.fn.h l.j l.height

abbrev pub decreases-loop-j : goal.decreases-loop-j
decreases-loop-j g l = l.j
