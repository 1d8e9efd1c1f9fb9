-- The list `those` has exactly the numbers that pass a test, each once, in rising order.
--   among: every number that passes is in the list; Has, among_has: every number in the list passes
--   those_rise: the list rises; exact: all three facts
--   none_those: the list is empty if no number passes
-- Assumes nothing.
use mathlib.Core.Path.{◌≡◌, refl, sym, ap, ◌∙◌}
use mathlib.Core.Bool.{Bool, true, false}
use mathlib.Core.List.Memᴰ
use mathlib.Core.List.{[]}
use mathlib.Core.Logic.{inl, inr}
use Prim.Native.Nat.{ℕ, zero, suc, ◌+◌, ◌≤◌, ◌<◌}
use native.Mathlib.Omega.{arith}
use native.Mathlib.Decide.{dec_lt}
use Rattle.ints.proofs.Linear.{never_true}
use Rattle.demands.specs.Lists.{those, Rising, Exactly}
use Rattle.bp_spec.specs.Ranges.{Among}

module _ (p : ℕ → Bool) where
  -- x is one of the c numbers from a on, and it passes.
  pub record Has (x c a : ℕ) : Type 0 where
    pub from : a ≤ x
    pub below : x < a + c
    pub passes : p x ≡ true

  pub among : (x c a : ℕ) → a ≤ x → x < a + c → p x ≡ true → Among x (those p c a)
  unfolding those
  among x zero a l m h = absurd (omega arith)
  among x (suc c) a l m h = go (p a) refl (dec_lt a x) (λ k. among x c (suc a) k (omega arith) h)
    where
      go : (t : Bool) → p a ≡ t → Dec (a < x) → (suc a ≤ x → Among x (those p c (suc a))) → Among x (those p (suc c) a)
      go true q (yes y) rest = rw (q, those) (Memᴰ.tail (rest y))
      go true q (no y) rest = let w : x ≡ a = omega arith in rw (q, those) (Memᴰ.head w)
      go false q (yes y) rest = rw (q, those) (rest y)
      go false q (no y) rest = let w : x ≡ a = omega arith in absurd (never_true (sym q ∙ ap p (sym w) ∙ h))

  pub among_has : (x c a : ℕ) → Among x (those p c a) → Has x c a
  unfolding those
  among_has x zero a h = absurd (Memᴰ.not-nil h)
  among_has x (suc c) a h = go (p a) refl (among_has x c (suc a))
    where
      wide : Has x c (suc a) → Has x (suc c) a
      wide t = record { from = omega arith; below = omega arith; passes = t.passes }

      go : (t : Bool) → p a ≡ t → (Among x (those p c (suc a)) → Has x c (suc a)) → Has x (suc c) a
      go true q rest = elim (Memᴰ.cases_cons (rw (q, those) at h)) [
        | inl e ↦ record { from = omega arith; below = omega arith; passes = ap p e ∙ q }
        | inr r ↦ wide (rest r)
      ]
      go false q rest = wide (rest (rw (q, those) at h))

  pub those_rise : (c a : ℕ) → Rising (those p c a)
  unfolding those
  those_rise zero a = tt
  those_rise (suc c) a = go (p a) refl (those_rise c (suc a))
    where
      go : (t : Bool) → p a ≡ t → Rising (those p c (suc a)) → Rising (those p (suc c) a)
      go true q r = rw (q, those) ((λ y m. (among_has y c (suc a) m).from, r))
      go false q r = rw (q, those) r

  pub exact : (n : ℕ) → Exactly p n (those p n 0)
  exact n = record {
    rising = those_rise n 0;
    all = λ v l h. among v n 0 (omega arith) (omega arith) h;
    only = λ v m. let h = among_has v n 0 m in (omega arith, h.passes);
  }

  pub none_those : (c a : ℕ) → ((k : ℕ) → a ≤ k → k < a + c → p k ≡ false) → those p c a ≡ []
  unfolding those
  none_those zero a f = refl
  none_those (suc c) a f = rw (f a (omega arith) (omega arith), those) (none_those c (suc a) (λ k l m. f k (omega arith) (omega arith)))
