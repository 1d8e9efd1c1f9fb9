-- Laws of the excess.
--   sign_close, sign_open: a close bit adds -1, an open bit adds 1
--   sign_size: what a bit adds has the size 1
--   StepsByOne: the claim that e(k) and e(k + 1) differ by at most 1
--   steps: the excess satisfies this claim
--   excess_size: the excess of k bits has a size of at most k
--   excess_add: the excess of a + k bits is that of the first a plus that of the other k
--   excess_ext: the excess depends only on the bits that it counts
--   excess_ones: the excess of the digits of a number is its ones minus its zeros
-- Assumes nothing.
use mathlib.Core.Path.{◌≡◌, refl, ap, ap₂}
use Prim.Native.Nat.{ℕ, zero, suc, ◌+◌, ◌-◌, ◌/◌, ◌%◌, ◌^◌, ◌≤◌, ◌<◌}
use native.Mathlib.Nat.{add-zero, add-suc, div-one}
use native.Mathlib.Numerals.{add-one, one-add}
use native.Mathlib.Omega.{arith}
use lib.Arith.{lt-one}
use lib.Count.{ones, ones_step, ones-le}
use lib.IntN.{ℤ, pos, negsuc, ◌+ℤ◌, ◌-ℤ◌}
use lib.Pow.{shr_lt}
use lib.Signed.{◌≤ℤ◌}
use Rattle.ints.specs.Sides.{size}
use Rattle.ints.proofs.Linear.{plus, diff, plus_size}
use Rattle.ints.proofs.Shapes.{zsum}
use Rattle.row.specs.Bits.{digit}
use Rattle.row.specs.Excess.{sign, excess}
use Rattle.row.proofs.Digits.{digit_lt, digit_suc}

pub sign_close : (b : ℕ) → b ≡ 0 → negsuc 0 ≡ sign b
unfolding sign
sign_close b e = rw e

pub sign_open : (b : ℕ) → (b ≡ 0 → ⊥) → pos 1 ≡ sign b
unfolding sign
sign_open zero z = absurd (z refl)
sign_open (suc b) z = refl

pub sign_size : (b : ℕ) → size (sign b) ≡ 1
unfolding sign
sign_size zero = refl
sign_size (suc b) = refl

-- From k to k + 1 the value of e rises by at most 1 and falls by at most 1.
pub record StepsByOne (e : ℕ → ℤ) (k : ℕ) : Type 0 where
  pub rises : e (suc k) ≤ℤ (e k +ℤ pos 1)
  pub falls : e k ≤ℤ (e (suc k) +ℤ pos 1)

module _ (f : ℕ → ℕ) where
  pub steps : (k : ℕ) → StepsByOne (excess f) k
  unfolding excess
  steps k = record {
    rises = omega (zsum, sign_size (f k), plus (excess f k) (sign (f k)));
    falls = omega (zsum, sign_size (f k), plus (excess f k) (sign (f k)));
  }

  pub excess_size : (k : ℕ) → size (excess f k) ≤ k
  unfolding excess
  excess_size zero = omega arith
  excess_size (suc k) = omega (arith, plus_size (excess f k) (sign (f k)), sign_size (f k), excess_size k)

  pub excess_add : (a k : ℕ) → excess f (a + k) ≡ excess f a +ℤ excess (λ j. f (a + j)) k
  unfolding excess
  excess_add a zero = rw add-zero (omega zsum)
  excess_add a (suc k) =
      rw add-suc (omega (zsum, excess_add a k, plus (excess f (a + k)) (sign (f (a + k))), plus (excess (λ j. f (a + j)) k) (sign (f (a + k)))))

pub excess_ext : (f g : ℕ → ℕ) (k : ℕ) → ((j : ℕ) → j < k → f j ≡ g j) → excess f k ≡ excess g k
unfolding excess
excess_ext f g zero h = refl
excess_ext f g (suc k) h = ap₂ (λ (x : ℤ) (b : ℕ). x +ℤ sign b) (excess_ext f g k (λ j l. h j (omega arith))) (h k (omega arith))

-- ---- the excess by counting ones and zeros
sign_count : (b : ℕ) → b < 2 → sign b ≡ pos b -ℤ pos (1 - b)
unfolding sign
sign_count zero h = refl
sign_count (suc zero) h = refl
sign_count (suc (suc b)) h = absurd (omega arith)

first_bit : (f : ℕ → ℕ) → excess f 1 ≡ sign (f 0)
unfolding excess
first_bit f = omega zsum

no_bits : (n : ℕ) → n ≡ 0 → excess (digit n) 0 ≡ pos (ones n) -ℤ pos (0 - ones n)
unfolding excess ones
no_bits n e = rw e

pub excess_ones : (k n : ℕ) → n < 2 ^ k → excess (digit n) k ≡ pos (ones n) -ℤ pos (k - ones n)
excess_ones zero n h = no_bits n (lt-one h)
excess_ones (suc k) n h =
    let l : n / 2 < 2 ^ k = shr_lt k 1 (rw add-one h) in
    let s : excess (digit n) (suc k) ≡ excess (digit n) 1 +ℤ excess (λ j. digit n (1 + j)) k = rw (← one-add k) (excess_add (digit n) 1 k) in
    let t : excess (λ j. digit n (1 + j)) k ≡ excess (digit (n / 2)) k = excess_ext _ _ k (λ j i. rw one-add (digit_suc n j)) in
    let z : digit n 0 ≡ n % 2 = ap (λ (x : ℕ). x % 2) (div-one n) in
    let b = sign_count (digit n 0) (digit_lt n 0) in
    omega (zsum, first_bit (digit n), excess_ones k (n / 2) l, ones_step n, ones-le k (n / 2) l, diff (digit n 0) (1 - digit n 0), digit_lt n 0, diff (ones (n / 2)) (k - ones (n / 2)), diff (ones n) (suc k - ones n))
