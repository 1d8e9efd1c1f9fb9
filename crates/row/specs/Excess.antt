-- The excess: the number of open bits minus the number of close bits (SCOPE, The row and its excess).
-- Assumes nothing.
use Rattle.std.specs.Prelude.{List, ℕ, zero, suc, ℤ, pos, negsuc, ◌+ℤ◌}
use Rattle.row.specs.Bits.{bit_at}

-- What a bit adds to the excess: 1 for an open bit, -1 for a close bit.
unfoldable pub sign : ℕ → ℤ
sign zero = negsuc 0
sign (suc b) = pos 1

-- The excess of the first k bits of a sequence f, which may be a row, a word, a byte or a block.
unfoldable pub excess : (ℕ → ℕ) → ℕ → ℤ
excess f zero = pos 0
excess f (suc k) = excess f k +ℤ sign (f k)

-- E(k) is the excess of the first k bits of the row. So E(0) = 0.
abbrev pub E : List ℕ → ℕ → ℤ
E ws = excess (bit_at ws)
