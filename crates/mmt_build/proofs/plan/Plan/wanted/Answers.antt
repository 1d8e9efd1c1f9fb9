-- `Plan::wanted` computes the required entries of node k. The children of an inner node have their required entries, so these are small
-- enough to be joined. Assumes nothing.
use Rattle.std.proofs.Common.{◌+◌, arith}
use Rattle.mmt_layout.proofs.Gates.{counted}
use Rattle.mmt_node.proofs.Covered.{ruled_tame}
use Rattle.mmt_build.proofs.plan.Plan.wanted.Goals as goal

pub inner_summary-requires : goal.inner_summary-requires
inner_summary-requires c =
    let p = c.args.self.now in
    let b = p.laid.blocks in
    let r = c.requires in
    let some = counted p.n p.block c.args.k r.inside in
    record {
      long = omega arith;
      inside = omega arith;
      tame = λ j l i. ruled_tame p.words.now p.n c.args.nodes.now p.block (omega arith) some (c.args.k + 1) r.ruled b.short j (omega arith) (omega arith);
    }
