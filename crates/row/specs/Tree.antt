-- Open and close bits of a row (SCOPE, The row and its excess). Handles, and rows that are one tree (SCOPE, The calls).
-- Assumes nothing.
use Rattle.std.specs.Prelude.{◌≡◌, Bool, true, ◌&&◌, List, ℕ, zero, suc, ◌-◌, ◌≤◌, ◌<◌, ltb, leb, eqb, pos, ◌<ℤ◌}
use Rattle.std.specs.Int.Signed.{lt_z}
use Rattle.ints.specs.Order.{eq_z}
use Rattle.row.specs.Bits.{bit_at}
use Rattle.row.specs.Excess.{E}

-- Tests whether position i is an open bit of the row: it is below n and its bit is 1.
unfoldable pub opens : List ℕ → ℕ → ℕ → Bool
opens ws n i = ltb i n && eqb (bit_at ws i) 1

-- A handle is a position below n whose bit is open.
abbrev pub Handle : List ℕ → ℕ → ℕ → Type 0
Handle ws n v = opens ws n v ≡ true

-- Tests whether position i is a close bit of the row: it is below n and its bit is 0.
unfoldable pub closes : List ℕ → ℕ → ℕ → Bool
closes ws n i = ltb i n && eqb (bit_at ws i) 0

-- A row is one tree if n >= 2, E(n) = 0, and E(k) > 0 for every k with 0 < k < n.
pub record OneTree (ws : List ℕ) (n : ℕ) : Type 0 where
  pub two : 2 ≤ n
  pub closed : E ws n ≡ pos 0
  pub above : (k : ℕ) → 0 < k → k < n → pos 0 <ℤ E ws k

-- Tests whether p holds of every number below c.
unfoldable pub all_below : (ℕ → Bool) → ℕ → Bool
all_below p zero = true
all_below p (suc c) = p c && all_below p c

-- The same three conditions as a test. It reads E(k + 1) for every k below n - 1, so E(1) to E(n - 1).
unfoldable pub one_tree : List ℕ → ℕ → Bool
one_tree ws n = leb 2 n && eq_z (E ws n) (pos 0) && all_below (λ k. lt_z (pos 0) (E ws (suc k))) (n - 1)
