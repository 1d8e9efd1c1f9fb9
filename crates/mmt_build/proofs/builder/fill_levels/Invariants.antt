-- `mmt_build::fill_levels` fills the inner nodes from the last one down to node 0. Loop invariant: the nodes from k on have their required
-- entries, and the length and the entries after the nodes are unchanged. Assumes nothing.
use Rattle.mmt_build.specs.Filling.{Leveled}
use Rattle.mmt_build.proofs.builder.fill_levels.Given as goal

abbrev pub invariant-loop-k : goal.invariant-loop-k
invariant-loop-k l = Leveled l.plan.words.now l.plan.n l.initial.nodes l.plan.block l.k l.nodes
