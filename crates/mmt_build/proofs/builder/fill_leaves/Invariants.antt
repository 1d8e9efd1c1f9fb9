-- `mmt_build::fill_leaves` fills the block leaves from the first to the last. Loop invariant: the first b block leaves are filled.
-- Assumes nothing.
use Rattle.mmt_build.specs.Filling.{Filled}
use Rattle.mmt_build.proofs.builder.fill_leaves.Given as goal

abbrev pub invariant-loop-b : goal.invariant-loop-b
invariant-loop-b l = Filled l.plan.words.now l.plan.n l.plan.block l.b l.part
