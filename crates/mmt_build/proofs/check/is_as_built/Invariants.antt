-- `mmt_build::is_as_built` tests the nodes from the last one down to node 0. Loop invariant: the nodes from k on have their required
-- entries, so the nodes below k decide. Assumes nothing.
use Rattle.mmt_build.proofs.Tested.{Checked}
use Rattle.mmt_build.proofs.check.is_as_built.Given as goal

abbrev pub invariant-loop-k : goal.invariant-loop-k
invariant-loop-k l = Checked l.plan.words.now l.plan.n l.nodes l.plan.block l.k
