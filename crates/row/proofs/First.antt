-- The first position after which the excess is v, in the stretch a..t. The stretch has the positions from a to t - 1.
--   first: the search for this position; it answers nothing if there is none
--   first_is: the answer is the least position with this property, or nothing if there is none
--   first_at: an answered position lies in the stretch, and the excess after it is v
--   first_least: no earlier position of the stretch has the excess v after it
--   first_nothing: if the answer is nothing, no position of the stretch has the excess v after it
--   first_answers: the answer is never a refusal
-- Assumes nothing.
use mathlib.Core.Path.{◌≡◌, refl}
use Prim.Native.Nat.{ℕ, suc, ◌-◌, ◌≤◌, ◌<◌}
use native.Mathlib.Omega.{arith}
use lib.IntN.{ℤ}
use Rattle.ints.proofs.Order.{eq_z_true, eq_z_yes}
use Rattle.row.specs.Answer.{Answer, at, nothing, refused}
use Rattle.row.specs.Search.{least, excess_after}
use Rattle.row.proofs.Nearest.{Least, InStretch, least_is}

unfoldable pub first : (ℕ → ℤ) → ℤ → ℕ → ℕ → Answer
first e v a t = least (excess_after e v) (t - a) a

module _ (e : ℕ → ℤ) (v : ℤ) where
  abbrev Has : ℕ → Type 0
  Has k = e (suc k) ≡ v

  pub first_is : (a t : ℕ) → Least (InStretch Has a t) (first e v a t)
  unfolding first
  first_is a t = least_is (excess_after e v) Has (λ k. eq_z_true (e (suc k)) v) (λ k. eq_z_yes (e (suc k)) v) (t - a) a t refl

  pub first_at : (a t j : ℕ) → first e v a t ≡ at j → (a ≤ j) × (j < t) × (e (suc j) ≡ v)
  first_at a t j q = (rw q at (first_is a t)).0

  pub first_least : (a t j : ℕ) → first e v a t ≡ at j → (k : ℕ) → a ≤ k → k < j → e (suc k) ≡ v → ⊥
  first_least a t j q k h l r = let b = first_at a t j q in (rw q at (first_is a t)).1 k (h, omega arith, r) l

  pub first_nothing : (a t : ℕ) → first e v a t ≡ nothing → (k : ℕ) → a ≤ k → k < t → e (suc k) ≡ v → ⊥
  first_nothing a t q k h l r = (rw q at (first_is a t)) k (h, l, r)

  pub first_answers : (a t m : ℕ) → first e v a t ≡ refused m → ⊥
  first_answers a t m q = rw q at (first_is a t)
