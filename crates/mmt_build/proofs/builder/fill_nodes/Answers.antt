-- `mmt_build::fill_nodes` fills the block leaves in their part of the buffer, then the inner nodes. The proof puts the filled part back into
-- the buffer and continues with the contract of `fill_levels`. Assumes nothing.
use Rattle.std.proofs.Common.{arith}
use Rattle.std.proofs.lemmas.Grind.{common_steps}
use Rattle.mmt_layout.proofs.Gates.{layout_leaves}
use Rattle.mmt_build.proofs.Filled.{leveled_on, leveled_written}
use Rattle.mmt_build.proofs.Planned.{middle}
use Rattle.mmt_build.proofs.builder.fill_nodes.Goals as goal

pub fill_leaves-requires : goal.fill_leaves-requires
fill_leaves-requires c = grind (arith, common_steps, layout_leaves)

pub fill_levels-requires : goal.fill_levels-requires
fill_levels-requires c =
    let l = middle c.args.plan.now c.args.nodes.now c.all-end.result c.all-end.ensures c.requires _ c.fill_leaves.auto.part c.fill_leaves.ensures in
    record { room = rw l.same c.requires; ruled = l.nodes }

pub returns : goal.returns
returns c =
    let p = c.args.plan.now in
    let l = middle p c.args.nodes.now c.all-end.result c.all-end.ensures c.requires _ c.fill_leaves.auto.part c.fill_leaves.ensures in
    leveled_written p.words.now p.n c.args.nodes.now p.block c.requires _ (leveled_on _ _ _ _ _ _ _ _ l c.fill_levels.ensures)
