-- The requirements of the two steps that find the start of `level_rightmost`, n + total - 1 with the total of the root.
-- Assumes nothing.
use Rattle.std.specs.Prelude.{ℕ, ◌≤◌, ◌<◌, ℤ}
use Rattle.ints.specs.Sides.{size}
use Rattle.row.specs.Limits.{max_bits}
use Rattle.mmt_layout.specs.Layout.{width}

-- The root can be read: if the row has bits, the m entries of the buffer have at least one node.
pub record RootThere (n m : ℕ) : Type 0 where
  pub short : n ≤ max_bits
  pub root : 0 < n → width ≤ m

-- The start can be computed: both n and the size of the total are at most 2^32.
pub record RootTotal (n : ℕ) (total : ℤ) : Type 0 where
  pub short : n ≤ max_bits
  pub near : size total ≤ max_bits
