-- The parts of a walk and their requirements: the first bits, the rest of the start block, the climb and descent after it, and the scan of
-- the target block (SCOPE, How a search walks).
-- Assumes nothing.
use Rattle.std.specs.Prelude.{◌≡◌, false, true, List, ℕ, ◌+◌, ◌-◌, ◌*◌, ◌/◌, ◌≤◌, ◌<◌, min, ℤ, Option, Some, None}
use Rattle.ints.specs.Sides.{size}
use Rattle.row.specs.Limits.{max_bits}
use Rattle.row.specs.Bits.{bit_at}
use Rattle.row.specs.Way.{Way, forward, backward}
use Rattle.bits_stretch.specs.Scan.{Scanned, order, scan}
use Rattle.mmt_layout.specs.Layout.{max_block}
use Rattle.walk_spec.specs.Walk.{ends_at_once}
use Rattle.walk_examine.specs.Asked.{Room}
use Rattle.walk_code.specs.declared.start.FirstBits.{FirstBits}

-- The first bits of a walk from position i: forward from i + 1 up to a byte boundary, backward from i - 1 down to one.
abbrev pub first_bits : Way → ℕ → ℕ → FirstBits
first_bits forward n i = record { first = i + 1; from = i + 1; to = min n ((i + 1 + 7) / 8 * 8) }
first_bits backward n i = record { first = i - 1; from = i / 8 * 8; to = i }

-- A walk that does not end at once starts with the first bits.
abbrev pub Starts : Way → ℕ → ℕ → Option FirstBits → Type 0
Starts w n i (Some s) = (ends_at_once w n i ≡ false) × (s ≡ first_bits w n i)
Starts w n i None = ends_at_once w n i ≡ true

-- A stretch of bits, from the first position to before the second.
abbrev pub Stretch : Type 0
Stretch = ℕ × ℕ

-- The rest of the start block after its first bits s: forward those after s, backward those before s.
abbrev pub rest_of_start : Way → ℕ → ℕ → FirstBits → Stretch
rest_of_start w n B s =
    let start = s.first / B * B in
    (order w (start, s.from) (s.to, min n (start + B))).1

-- The scan of a stretch of a row.
abbrev pub scan_of : Way → List ℕ → Stretch → ℤ → Scanned
scan_of w ws x r = scan w (bit_at ws) (x.1 - x.0) x.0 r

-- The rest of the start block is still to scan. The size of r stays at most 2^32 + 2^16 during the scan.
pub record RestOfStart (w : Way) (n B : ℕ) (s : FirstBits) (r : ℤ) : Type 0 where
  pub begins : s.first < n
  pub order : (rest_of_start w n B s).0 ≤ (rest_of_start w n B s).1
  pub inside : (rest_of_start w n B s).1 ≤ n
  pub near : size r + ((rest_of_start w n B s).1 - (rest_of_start w n B s).0) ≤ (max_bits + max_block)

-- The start block b is scanned without a hit and leaves the remainder r, of a size of at most 2^32 + 2^16.
pub record StartPassed (n B b : ℕ) (r : ℤ) : Type 0 where
  pub begins : b * B < n
  pub near : size r ≤ (max_bits + max_block)

-- The target block b begins in the row, and the remainder r has room for the bits of a block.
pub record TargetBlock (n B b : ℕ) (r : ℤ) : Type 0 where
  pub begins : b * B < n
  pub room : Room 0 r
