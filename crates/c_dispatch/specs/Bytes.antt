-- SCOPE, The C functions: the answer over the bytes of a row and of its node buffer, as one signed number.
-- Here f gives the answer to a question over words, a bit count, node numbers and a block size; `promised` and `requested` are such functions.
-- Assumes nothing.
use Rattle.std.specs.Prelude.{List, [], ℕ, ℤ}
use Rattle.row.specs.Answer.{Answer}
use Rattle.wire.specs.Answer.{wire_of}
use Rattle.wire.specs.Limit.{wire_bits}
use Rattle.wire.specs.Decoded.{row_words, node_numbers}

-- Over bytes a call with nodes answers as over the decoded words and node numbers.
abbrev pub byte_answer : {Q : Type 0} → (List ℕ → ℕ → List ℤ → ℕ → Q → Answer) → List ℕ → ℕ → List ℕ → ℕ → Q → ℤ
byte_answer f row bits nodes B q = wire_of (f (row_words row) (wire_bits bits) (node_numbers nodes) B q)

-- Over bytes a call without nodes answers as over the decoded words and an empty node buffer.
abbrev pub row_answer : {Q : Type 0} → (List ℕ → ℕ → List ℤ → ℕ → Q → Answer) → List ℕ → ℕ → Q → ℤ
row_answer f row bits q = wire_of (f (row_words row) (wire_bits bits) [] 0 q)
