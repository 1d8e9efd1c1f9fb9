-- `wire::lists::write` writes values at the front of a byte slice, eight bytes each. Assumes nothing.
use Rattle.std.proofs.Common.{ap, ◌∙◌, arith}
use Rattle.wire.proofs.Runs.{over_none, over_next}
use Rattle.wire.proofs.lists.write.Goals as goal

pub loop-i-init : goal.loop-i-init
loop-i-init g c = over_none g.T.EightBytes.bytes g.met.T.EightBytes.long c.args.values.now c.args.bytes.now

pub loop-i-preserved : goal.loop-i-preserved
loop-i-preserved g c =
    let b = g.T.EightBytes.bytes in
    over_next b g.met.T.EightBytes.long c.args.values.now c.index-values-i.result c.args.bytes.now c.loop-i.bytes c.copy_from_slice.new.self c.loop-i.i _
    (omega arith) (omega arith) c.loop-i.invariant
    (c.copy_from_slice.ensures.after ∙ c.to_bytes.ensures ∙ ap b c.index-values-i.is)
