-- What holds of the row, the blocks and the layout of a plan (SCOPE, Shapes of code that are required: Bounds inside the code).
-- No public promise depends on this file.
-- Assumes nothing.
use Rattle.std.specs.Prelude.{◌≡◌, ℕ, ◌*◌, ◌%◌, ◌≤◌}
use Rattle.row.specs.Limits.{max_bits}
use Rattle.mmt_layout.specs.declared.Layout.{Layout}
use Rattle.mmt_layout.specs.Layout.{max_block, layout_of}

-- A row of n bits in w words and its blocks of B bits, after tests 1 to 3.
pub record Blocks (w n B : ℕ) : Type 0 where
  pub short : n ≤ max_bits
  pub words : n ≤ 64 * w
  pub eight : 8 ≤ B
  pub small : B ≤ max_block
  pub eights : B % 8 ≡ 0

-- Tests 1 to 3 have passed, and `l` is the layout.
pub record Laid (w n B : ℕ) (l : Layout) : Type 0 where
  pub blocks : Blocks w n B
  pub layout : l ≡ layout_of n B
