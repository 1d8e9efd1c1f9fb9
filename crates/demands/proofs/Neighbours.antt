-- The next number that passes a test, and the last one before: `least` and `greatest` of the definition of the searches.
--   next, prev: the first number from a on and below n that passes; the last number below t that passes
--   next_yes, next_no, prev_yes, prev_no: the same, if the test of one number is known
--   next_skip, prev_skip: numbers that do not pass are skipped
--   next_is, prev_is: the nearest number that passes; next_none, prev_none: no number passes
--   NearestBelow, nearest: the last number below t that passes, with its properties, or none
--   prev_same: two tests that agree from a number on that passes both
-- Assumes nothing.
use mathlib.Core.Path.{◌≡◌, refl, sym, ap, ◌∙◌}
use mathlib.Core.Bool.{Bool, true, false}
use mathlib.Core.Logic.{◌⊎◌, inl, inr}
use Prim.Native.Nat.{ℕ, zero, suc, ◌+◌, ◌-◌, ◌≤◌, ◌<◌}
use native.Mathlib.Omega.{arith}
use native.Mathlib.Decide.{dec_lt}
use native.Mathlib.Nat.{zero-add}
use Rattle.ints.proofs.Linear.{never_true}
use Rattle.row.specs.Answer.{Answer, at, nothing}
use Rattle.row.specs.Search.{least, greatest}

module _ (p : ℕ → Bool) where
  abbrev pub next : ℕ → ℕ → Answer
  next n a = least p (n - a) a

  abbrev pub prev : ℕ → Answer
  prev t = greatest p t 0

  -- ---- one number
  pub next_yes : (n a : ℕ) → a < n → p a ≡ true → next n a ≡ at a
  unfolding least
  next_yes n a l h = let w : n - a ≡ suc (n - suc a) = omega arith in rw (w, least, h)

  pub next_no : (n a : ℕ) → a < n → p a ≡ false → next n a ≡ next n (suc a)
  unfolding least
  next_no n a l h = let w : n - a ≡ suc (n - suc a) = omega arith in rw (w, least, h)

  pub prev_yes : (t : ℕ) → p t ≡ true → prev (suc t) ≡ at t
  unfolding greatest
  prev_yes t h = let q : p (0 + t) ≡ true = ap p (zero-add t) ∙ h in rw (q, greatest) (ap at (zero-add t))

  pub prev_no : (t : ℕ) → p t ≡ false → prev (suc t) ≡ prev t
  unfolding greatest
  prev_no t h = let q : p (0 + t) ≡ false = ap p (zero-add t) ∙ h in rw (q, greatest)

  -- ---- numbers that do not pass
  pub next_skip : (n a b : ℕ) → a ≤ b → b ≤ n → ((k : ℕ) → a ≤ k → k < b → p k ≡ false) → next n a ≡ next n b
  next_skip n a zero l m f = let w : a ≡ 0 = omega arith in rw w
  next_skip n a (suc b) l m f = go (dec_lt b a) (next_skip n a b)
    where
      go : Dec (b < a) → (a ≤ b → b ≤ n → ((k : ℕ) → a ≤ k → k < b → p k ≡ false) → next n a ≡ next n b) → next n a ≡ next n (suc b)
      go (yes y) rest = let w : a ≡ suc b = omega arith in rw w
      go (no y) rest = rest (omega arith) (omega arith) (λ k h q. f k h (omega arith)) ∙ next_no n b m (f b (omega arith) (omega arith))

  pub prev_skip : (b t : ℕ) → b ≤ t → ((k : ℕ) → b ≤ k → k < t → p k ≡ false) → prev t ≡ prev b
  prev_skip b zero l f = let w : b ≡ 0 = omega arith in rw w
  prev_skip b (suc t) l f = go (dec_lt t b) (prev_skip b t)
    where
      go : Dec (t < b) → (b ≤ t → ((k : ℕ) → b ≤ k → k < t → p k ≡ false) → prev t ≡ prev b) → prev (suc t) ≡ prev b
      go (yes y) rest = let w : b ≡ suc t = omega arith in rw w
      go (no y) rest = prev_no t (f t (omega arith) (omega arith)) ∙ rest (omega arith) (λ k h q. f k h (omega arith))

  -- ---- the nearest, or none
  pub next_is : (n a j : ℕ) → a ≤ j → j < n → p j ≡ true → ((k : ℕ) → a ≤ k → k < j → p k ≡ false) → next n a ≡ at j
  next_is n a j l m h f = next_skip n a j l (omega arith) f ∙ next_yes n j m h

  pub next_none : (n a : ℕ) → ((k : ℕ) → a ≤ k → k < n → p k ≡ false) → next n a ≡ nothing
  unfolding least
  next_none n a f = go (dec_lt n a)
    where
      go : Dec (n < a) → next n a ≡ nothing
      go (yes y) = let w : n - a ≡ 0 = omega arith in rw (w, least)
      go (no y) = next_skip n a n (omega arith) (omega arith) f ∙ (let w : n - n ≡ 0 = omega arith in rw (w, least))

  pub prev_is : (t j : ℕ) → j < t → p j ≡ true → ((k : ℕ) → j < k → k < t → p k ≡ false) → prev t ≡ at j
  prev_is t j l h f = prev_skip (suc j) t l f ∙ prev_yes j h

  pub prev_none : (t : ℕ) → ((k : ℕ) → k < t → p k ≡ false) → prev t ≡ nothing
  unfolding greatest
  prev_none t f = prev_skip 0 t (omega arith) (λ k h q. f k q)

  -- j is the last number below t that passes.
  pub record NearestBelow (t j : ℕ) : Type 0 where
    pub is : prev t ≡ at j
    pub low : j < t
    pub has : p j ≡ true
    pub rest : (k : ℕ) → j < k → k < t → p k ≡ false

  pub nearest : (t : ℕ) → ((j : ℕ) × NearestBelow t j) ⊎ ((k : ℕ) → k < t → p k ≡ false)
  nearest zero = inr (λ k l. absurd (omega arith))
  nearest (suc t) = go (p t) refl (nearest t)
    where
      last : p t ≡ false → (k : ℕ) → Dec (k < t) → k < suc t → (k < t → p k ≡ false) → p k ≡ false
      last q k (yes y) l f = f y
      last q k (no y) l f = let w : k ≡ t = omega arith in rw w q

      go : (b : Bool) → p t ≡ b → ((j : ℕ) × NearestBelow t j) ⊎ ((k : ℕ) → k < t → p k ≡ false)
          → ((j : ℕ) × NearestBelow (suc t) j) ⊎ ((k : ℕ) → k < suc t → p k ≡ false)
      go true q x = inl (t, record { is = prev_yes t q; low = omega arith; has = q; rest = λ k l m. absurd (omega arith) })
      go false q (inl (j, h)) =
          inl (j, record { is = prev_no t q ∙ h.is; low = omega arith; has = h.has; rest = λ k m r. last q k (dec_lt k t) r (h.rest k m) })
      go false q (inr f) = inr (λ k l. last q k (dec_lt k t) l (f k))

-- Two tests that agree from b on, where b passes both, have the same last number below t.
pub prev_same : (p q : ℕ → Bool) (b t : ℕ) → b < t → p b ≡ true → ((k : ℕ) → b ≤ k → k < t → q k ≡ p k) → prev p t ≡ prev q t
prev_same p q b t l h f = go (nearest p t)
  where
    go : ((j : ℕ) × NearestBelow p t j) ⊎ ((k : ℕ) → k < t → p k ≡ false) → prev p t ≡ prev q t
    go (inl (j, m)) = elim (dec_lt j b) [
      | yes y ↦ absurd (never_true (sym (m.rest b y l) ∙ h))
      | no y ↦ m.is ∙ sym (prev_is q t j m.low (f j (omega arith) m.low ∙ m.has) (λ k u r. f k (omega arith) r ∙ m.rest k u r))
    ]
    go (inr g) = absurd (never_true (sym (g b l) ∙ h))
