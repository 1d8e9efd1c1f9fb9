-- The bits of a row. Bit 1 is `(`, bit 0 is `)` (SCOPE, The row and its excess).
-- Assumes nothing.
use Rattle.std.specs.Prelude.{List, ℕ, ◌*◌, ◌/◌, ◌%◌, ◌^◌, get_or}

-- Binary digit k of the number n. Digit 0 is the least significant one.
abbrev pub digit : ℕ → ℕ → ℕ
digit n k = n / 2 ^ k % 2

-- Bit i is digit (i mod 64) of word (i div 64). A word past the end of the slice counts as 0.
abbrev pub bit_at : List ℕ → ℕ → ℕ
bit_at ws i = digit (get_or ws (i / 64) 0) (i % 64)

-- Byte q consists of the bits 8q to 8q + 7. Bit 8q is its least significant digit.
abbrev pub byte_at : List ℕ → ℕ → ℕ
byte_at ws q = get_or ws (q / 8) 0 / 2 ^ (8 * (q % 8)) % 256
