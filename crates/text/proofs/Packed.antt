-- Laws of `packed`: a number made of given bits, the first one least significant.
--   packed_front: one bit more in front gives that bit plus twice the number
--   packed_lt: a number made of at most m bits is below 2^m
--   packed_digit: digit j of the number is bit a + j
-- Assumes nothing.
use mathlib.Core.Path.{◌≡◌}
use Prim.Native.Nat.{ℕ, zero, suc, ◌+◌, ◌-◌, ◌*◌, ◌/◌, ◌^◌, ◌≤◌, ◌<◌}
use native.Mathlib.Nat.{one-le-pow, two-pow-succ, pow-succ', div-div-eq-div-mul, add-zero, div-one}
use native.Mathlib.Omega.{arith}
use Rattle.row.specs.Bits.{digit}
use Rattle.text.specs.Text.{packed}

module _ (f : ℕ → ℕ) where
  pub packed_front : (a j c : ℕ) → 0 < j → j ≤ c → f (a + (j - 1)) + 2 * packed f (a + j) (c - j) ≡ packed f (a + (j - 1)) (c - (j - 1))
  unfolding packed
  packed_front a j c h l =
      let e : c - (j - 1) ≡ suc (c - j) = omega arith in
      let d : suc (a + (j - 1)) ≡ a + j = omega arith in
      rw (e, ← d)

  module _ (bit : (i : ℕ) → f i < 2) where
    pub packed_lt : (a c m : ℕ) → c ≤ m → packed f a c < 2 ^ m
    unfolding packed
    packed_lt a zero m h = one-le-pow m 2 (omega arith)
    packed_lt a (suc c) zero h = absurd (omega arith)
    packed_lt a (suc c) (suc m) h = omega (arith, bit a, packed_lt (suc a) c m (omega arith), two-pow-succ m)

    pub packed_digit : (a c j : ℕ) → j < c → digit (packed f a c) j ≡ f (a + j)
    unfolding packed
    packed_digit a zero j h = absurd (omega arith)
    packed_digit a (suc c) zero h = rw (add-zero, div-one) (omega (arith, bit a))
    packed_digit a (suc c) (suc j) h =
        let e : (f a + 2 * packed f (suc a) c) / 2 ≡ packed f (suc a) c = omega (arith, bit a) in
        let d : suc a + j ≡ a + suc j = omega arith in
        rw (pow-succ', ← div-div-eq-div-mul, e, ← d) (packed_digit (suc a) c j (omega arith))
