-- The limits on the length of a row (SCOPE, The row and its excess; SCOPE, Refusals).
-- Assumes nothing.
use Rattle.std.specs.Prelude.{ℕ}

-- A row has at most 2^32 bits.
abbrev pub max_bits : ℕ
max_bits = 4294967296

-- 2^32 bits are 2^29 bytes.
abbrev pub max_bytes : ℕ
max_bytes = 536870912

-- They fill 2^26 words.
abbrev pub max_words : ℕ
max_words = 67108864

-- A row that the program `levels` reads, or that crosses the C boundary as bytes, has at most 4,096 bits.
abbrev pub max_short_bits : ℕ
max_short_bits = 4096
