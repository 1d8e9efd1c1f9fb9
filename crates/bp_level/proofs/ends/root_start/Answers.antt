-- `bp_level::root_start` examines the root and answers n + total - 1 if that is a position of the row. Assumes nothing.
use mathlib.Core.Path.{◌∙◌}
use Rattle.mmt_node.specs.Nodes.{node_at}
use Rattle.bp_spec.proofs.RightmostStart.{start_root}
use Rattle.bp_level.proofs.LevelEnds.{root_fit, root_near, root_read}
use Rattle.bp_level.proofs.ends.root_start.Goals as goal

pub start_by-requires : goal.start_by-requires
start_by-requires c =
    let x = node_at c.args.nodes.now 0 in
    let e = c.examine.ensures in
    rw (root_read x e c.in_ok-root.was) (record { short = c.requires.short; near = root_near x e c.in_ok-root.was })

pub returns : goal.returns
returns c =
    let x = node_at c.args.nodes.now 0 in
    let e = c.examine.ensures in
    (rw (root_read x e c.in_ok-root.was) at c.start_by.ensures) ∙ start_root c.args.n c.args.nodes.now c.if-n-eq0.false (root_fit x e c.in_ok-root.was).0
