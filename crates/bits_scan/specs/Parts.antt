-- The parts of a stretch beside and between multiples of a unit: a stretch of a row is cut at words, one of a word at bytes.
-- Assumes nothing.
use Rattle.std.specs.Prelude.{ℕ, ◌+◌, ◌-◌, ◌*◌, ◌/◌, ◌≤◌, ◌<◌, min, max}
use Rattle.row.specs.Limits.{max_bits}
use Rattle.row.specs.Way.{Way}
use Rattle.bits_stretch.specs.Scan.{order}
use Rattle.bits_scan.specs.declared.Parts.{Parts}

-- Bits `from` to `to` - 1 are cut at multiples of u.
pub record CutAt (u from to : ℕ) : Type 0 where
  pub unit : (0 < u) × (u ≤ 64)
  pub order : from ≤ to
  pub short : to ≤ max_bits

-- The first multiple of u from `from` on, and the last one up to `to`, as numbers of units. If the latter is smaller, there is no whole unit.
abbrev pub begin_of : ℕ → ℕ → ℕ
begin_of u from = (from + (u - 1)) / u

abbrev pub end_of : ℕ → ℕ → ℕ → ℕ
end_of u from to = max (begin_of u from) (to / u)

-- The bits before the first whole unit, and those after the last one.
abbrev pub beside : ℕ → ℕ → ℕ → (ℕ × ℕ) × (ℕ × ℕ)
beside u from to = ((from, min to (u * begin_of u from)), (min to (u * end_of u from to), to))

abbrev pub parts_of : Way → ℕ → ℕ → ℕ → Parts
parts_of w from to u =
    let o = order w (beside u from to).0 (beside u from to).1 in
    record { first = o.0; whole = (begin_of u from, end_of u from to); last = o.1 }
