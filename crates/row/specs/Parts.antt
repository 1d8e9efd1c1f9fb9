-- The parts of a row that has passed tests 2 and 3 (SCOPE, Refusals).
-- Assumes nothing.
use Rattle.std.specs.Prelude.{◌≡◌, List, ℕ, ◌≤◌}
use Rattle.row.specs.Limits.{max_bits}
use Rattle.row.specs.declared.row.Row.{Row}

-- The row t has the words ws and n bits, and n is at most 2^32.
pub record HasBits (ws : List ℕ) (n : ℕ) (t : Row) : Type 0 where
  pub words : t.words.now ≡ ws
  pub bits : t.n ≡ n
  pub short : n ≤ max_bits
