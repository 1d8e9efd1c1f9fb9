-- `mmt_build::is_as_built` tests the nodes from the last one down to node 0. Assumes nothing.
use Rattle.std.proofs.Common.{arith}
use Rattle.mmt_build.specs.Check.{same_summary}
use Rattle.mmt_build.proofs.Tested.{int_same, down, differs}
use Rattle.mmt_build.proofs.check.is_as_built.Goals as goal

pub returns-then-ne : goal.returns-then-ne
unfolding same_summary
returns-then-ne c = let p = c.args.plan.now in grind (arith, int_same, differs p.words.now p.n c.args.nodes.now p.block c.loop-k.k)

pub loop-k-preserved : goal.loop-k-preserved
unfolding same_summary
loop-k-preserved c = let p = c.args.plan.now in grind (arith, int_same, down p.words.now p.n c.args.nodes.now p.block c.loop-k.k)
