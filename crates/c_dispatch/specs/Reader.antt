-- SCOPE, The C functions: the text reader over the bytes of a row, for texts of at most 4,096 bytes.
-- Assumes nothing.
use Rattle.std.specs.Prelude.{cond, List, ℕ, leb, ℤ, length}
use Rattle.row.specs.Limits.{max_short_bits}
use Rattle.row.specs.declared.refusal.Refusal.TheVariants.{TooManyBits}
use Rattle.row.specs.Gates.{Gate}
use Rattle.std.specs.Prelude.{Err}
use Rattle.row.specs.Answer.{at}
use Rattle.row.specs.Gates.{words_for, through, kept}
use Rattle.text.specs.Text.{words_of, text_gate}
use Rattle.wire.specs.Answer.{wire_of}
use Rattle.wire.specs.Limit.{word_room, fit}
use Rattle.wire.specs.Bytes.{words_over}

-- Refusals 2, 6 and 3, in this order, for a text and room for w words.
unfoldable pub short_gate : List ℕ → ℕ → Gate
short_gate text w = cond (leb (length text) max_short_bits) (text_gate text w) (Err TooManyBits)

-- The bytes of a row after the tests g: the words that the bits need at the front, the rest unchanged; after a refusal all unchanged.
abbrev pub left_row : Gate → List ℕ → List ℕ → List ℕ
left_row g text row = kept g (words_over (words_of text (words_for (length text))) row) row

-- The number that the reader answers: the bit count, or a refusal.
abbrev pub read_wire : List ℕ → List ℕ → ℤ
read_wire text row = wire_of (through (short_gate text (fit (length row) word_room)) (at (length text)))

-- The bytes of the row after the reader.
abbrev pub read_bytes : List ℕ → List ℕ → List ℕ
read_bytes text row = left_row (short_gate text (fit (length row) word_room)) text row
