-- The requirements of the scans: the bits, bytes or words to read, and the remainder r (SCOPE, Shapes of code that are
-- required: Bounds inside the code). The remainder fits into an i64 even after as many more bits as `room` adds.
-- Assumes nothing.
use Rattle.std.specs.Prelude.{ℕ, ◌+◌, ◌*◌, ◌≤◌, ◌<◌, ℤ}
use Rattle.ints.specs.Limits.{i64_bound}
use Rattle.ints.specs.Sides.{size}
use Rattle.row.specs.Limits.{max_bits, max_words}
use Rattle.bits_edge.specs.Parts.{InRow, InWord}

-- A scan of bits or bytes `from` to `to` - 1 of one word, which has `all` of them.
pub record WordScan (all from to : ℕ) (r : ℤ) : Type 0 where
  pub order : from ≤ to
  pub inside : to ≤ all
  pub room : size r + (all + 128) < i64_bound

-- A scan of a stretch inside one of w words.
pub record PartScan (w from to : ℕ) (r : ℤ) : Type 0 where
  pub bits : InWord w from to
  pub room : size r + 256 < i64_bound

-- A scan of words `from` to `to` - 1 of w words.
pub record WordsScan (w from to : ℕ) (r : ℤ) : Type 0 where
  pub words : InRow w from to max_words
  pub room : size r + (max_bits + 512) < i64_bound

-- A scan of bits `from` to `to` - 1 of w words.
pub record BitsScan (w from to : ℕ) (r : ℤ) : Type 0 where
  pub bits : InRow (64 * w) from to max_bits
  pub room : size r + (max_bits + 1024) < i64_bound
