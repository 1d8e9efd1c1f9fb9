-- The limits on what crosses the C boundary as bytes (SCOPE, The C functions).
-- Assumes nothing.
use Rattle.std.specs.Prelude.{cond, ◌+◌, ℕ, ◌/◌, min, leb}
use Rattle.row.specs.Limits.{max_bits, max_short_bits}

-- At most 64 words are decoded, as many as 4,096 bits need.
abbrev pub word_room : ℕ
word_room = 64

-- At most 3,069 node numbers are decoded, as many as 4,096 bits need in blocks of 8: three for each of 512 block leaves and 511 inner nodes.
abbrev pub number_room : ℕ
number_room = 3069

-- A listing over 4,096 bits has at most 4,098 answers: at most one per bit, then a refusal and nothing.
abbrev pub answer_room : ℕ
answer_room = 4098

-- A bit count above 4,096 counts as 2^32 + 1, which every call refuses by 2 at its place in the order of tests.
unfoldable pub wire_bits : ℕ → ℕ
wire_bits b = cond (leb b max_short_bits) b (max_bits + 1)

-- The number of words or node numbers is the number of bytes div 8, at most as many as there is room for.
abbrev pub fit : ℕ → ℕ → ℕ
fit bytes room = min (bytes / 8) room
