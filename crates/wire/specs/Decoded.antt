-- The words and node numbers that are decoded from bytes (SCOPE, The C functions).
-- Assumes nothing.
use Rattle.std.specs.Prelude.{List, ℕ, ℤ, length}
use Rattle.wire.specs.Limit.{word_room, number_room, fit}
use Rattle.wire.specs.Bytes.{words_in, numbers_in}

-- The words decoded from the bytes of a row, at most 64.
abbrev pub row_words : List ℕ → List ℕ
row_words row = words_in row (fit (length row) word_room)

-- The node numbers decoded from the bytes of a node buffer, at most 3,069.
abbrev pub node_numbers : List ℕ → List ℤ
node_numbers nodes = numbers_in nodes (fit (length nodes) number_room)
