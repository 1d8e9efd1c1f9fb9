-- The last position before which the excess is v, in the stretch a..t. The stretch has the positions from a to t - 1.
--   last: the search for this position; it answers nothing if there is none
--   last_is: the answer is the greatest position with this property, or nothing if there is none
-- Assumes nothing.
use mathlib.Core.Path.{◌≡◌, refl}
use Prim.Native.Nat.{ℕ, ◌-◌}
use lib.IntN.{ℤ}
use Rattle.ints.proofs.Order.{eq_z_true, eq_z_yes}
use Rattle.row.specs.Answer.{Answer}
use Rattle.row.specs.Search.{greatest, excess_before}
use Rattle.row.proofs.Nearest.{Greatest, InStretch, greatest_is}

unfoldable pub last : (ℕ → ℤ) → ℤ → ℕ → ℕ → Answer
last e v a t = greatest (excess_before e v) (t - a) a

module _ (e : ℕ → ℤ) (v : ℤ) where
  abbrev Has : ℕ → Type 0
  Has k = e k ≡ v

  pub last_is : (a t : ℕ) → Greatest (InStretch Has a t) (last e v a t)
  unfolding last
  last_is a t = greatest_is (excess_before e v) Has (λ k. eq_z_true (e k) v) (λ k. eq_z_yes (e k) v) (t - a) a t refl
