-- The signed number in eight bytes is the one that `i64::from_le_bytes` gives. Assumes nothing.
use Rattle.std.proofs.Common.{arith, ap, ◌∙◌, to_z}
use Rattle.std.specs.Int.{w64}
use mir.ValLaws.{to_z-of_z}
use Rattle.wire.specs.Bytes.{half_at, word_at}
use Rattle.wire.proofs.bytes.I64EightBytes.from_bytes.Goals as goal

pub returns : goal.returns
unfolding half_at word_at
returns c = to_z-of_z w64 _ (record { sfits = c.from_le_bytes.type_inv }) ∙ c.from_le_bytes.ensures ∙ ap (to_z w64) (omega arith)
