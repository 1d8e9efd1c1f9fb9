-- `wire::bits` turns a bit count above 4,096 into 2^32 + 1. Each return follows from the test. Assumes nothing.
use borrow.Author.Tests.{lt-leb, le-leb}
use Rattle.wire.specs.Limit.{wire_bits}
use Rattle.wire.proofs.limit.bits.Goals as goal

pub returns-then-bits : goal.returns-then-bits
unfolding wire_bits
returns-then-bits c = simp (lt-leb _ _ c.if-bits.true)

pub returns : goal.returns
unfolding wire_bits
returns c = simp (le-leb _ _ c.if-bits.false)
