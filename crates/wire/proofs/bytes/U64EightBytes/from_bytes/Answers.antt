-- The word in eight bytes is the one that `u64::from_le_bytes` gives. Assumes nothing.
use Rattle.std.proofs.Common.{arith}
use Rattle.wire.specs.Bytes.{half_at, word_at}
use Rattle.wire.proofs.bytes.U64EightBytes.from_bytes.Goals as goal

pub returns : goal.returns
unfolding half_at word_at
returns c = omega (arith, c.from_le_bytes.ensures)
