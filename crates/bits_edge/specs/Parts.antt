-- The bounds on a stretch of a row, on a stretch inside one word, and on a scan of the latter (SCOPE, Shapes of code that are required).
-- Assumes nothing.
use Rattle.std.specs.Prelude.{ℕ, ◌+◌, ◌*◌, ◌/◌, ◌≤◌, ◌<◌, ℤ}
use Rattle.ints.specs.Limits.{i64_bound}
use Rattle.ints.specs.Sides.{size}
use Rattle.row.specs.Limits.{max_bits}

-- A stretch of a row: `to` is at least `from`, at most the end `all` of the words, and at most `most`. All are counted in bits or in bytes.
pub record InRow (all from to most : ℕ) : Type 0 where
  pub order : from ≤ to
  pub inside : to ≤ all
  pub short : to ≤ most

-- A stretch inside one of w words: `to` is also at most the end of the word of `from`.
pub record InWord (w from to : ℕ) : Type 0 where
  pub order : from ≤ to
  pub inside : to ≤ 64 * w
  pub one : to ≤ 64 * (from / 64) + 64
  pub short : to ≤ max_bits

-- A scan of a stretch inside one of w words, with the remainder r. The remainder fits into an i64 even after 64 more bits.
pub record EdgeScan (w from to : ℕ) (r : ℤ) : Type 0 where
  pub bits : InWord w from to
  pub room : size r + 64 < i64_bound
