-- The least and the greatest position with a property, as relations. `least` and `greatest` of specs/Search.antt satisfy them.
--   NearestBy: the answer is the position with property P that comes first in the order R, or nothing if there is none
--   Least, Greatest: NearestBy in rising and in falling order
--   InStretch: the position lies in a stretch and has a property
--   or_else: the first answer, or the second one if the first is nothing
--   one_least, one_greatest: at most one answer satisfies the relation
--   join_least, join_greatest: over two adjacent stretches, the answer is that of the one met first, or else that of the other
--   least_is, greatest_is: `least` (`greatest`) satisfies the relation, for a property that a test decides
-- Assumes nothing.
use mathlib.Core.Path.{◌≡◌, refl, sym, ap, ◌∙◌}
use mathlib.Core.Bool.{Bool, true, false, cond, true≢false}
use Prim.Native.Nat.{ℕ, zero, suc, ◌+◌, ◌-◌, ◌≤◌, ◌<◌}
use native.Mathlib.Omega.{arith}
use native.Mathlib.Decide.{dec_lt}
use Rattle.row.specs.Answer.{Answer, at, nothing, refused}
use Rattle.row.specs.Search.{least, greatest}

-- The answer is a position with property P, and no other one comes before it in the order R. It is nothing if there is none.
abbrev pub NearestBy : (ℕ → ℕ → Type 0) → (ℕ → Type 0) → Answer → Type 0
NearestBy R P (at j) = P j × ((k : ℕ) → P k → R k j → ⊥)
NearestBy R P nothing = (k : ℕ) → P k → ⊥
NearestBy R P (refused m) = ⊥

abbrev pub Least : (ℕ → Type 0) → Answer → Type 0
Least = NearestBy (λ k j. k < j)

abbrev pub Greatest : (ℕ → Type 0) → Answer → Type 0
Greatest = NearestBy (λ k j. j < k)

-- Position k lies in the stretch from a to t - 1 and has property Q.
abbrev pub InStretch : (ℕ → Type 0) → ℕ → ℕ → ℕ → Type 0
InStretch Q a t k = (a ≤ k) × (k < t) × Q k

-- The first answer, or the second one if the first is nothing.
abbrev pub or_else : Answer → Answer → Answer
or_else (at j) y = at j
or_else nothing y = y
or_else (refused m) y = refused m

module _ (R : ℕ → ℕ → Type 0) (P : ℕ → Type 0) where
  one_answer : ((j k : ℕ) → (R j k → ⊥) → (R k j → ⊥) → j ≡ k) → (x y : Answer) → NearestBy R P x → NearestBy R P y → x ≡ y
  one_answer c (at j) (at k) h g = ap at (c j k (g.1 j h.0) (h.1 k g.0))
  one_answer c (at j) nothing h g = absurd (g j h.0)
  one_answer c (at j) (refused m) h g = absurd g
  one_answer c nothing (at k) h g = absurd (h k g.0)
  one_answer c nothing nothing h g = refl
  one_answer c nothing (refused m) h g = absurd g
  one_answer c (refused m) y h g = absurd h

  -- A position has S if it has P or Q, and no position with Q comes before one with P.
  join : (Q S : ℕ → Type 0) → ((k : ℕ) → P k → S k) → ((k : ℕ) → Q k → S k) → ((k : ℕ) → S k → (P k → ⊥) → (Q k → ⊥) → ⊥)
      → ((j k : ℕ) → P j → Q k → R k j → ⊥) → (x y : Answer) → NearestBy R P x → NearestBy R Q y → NearestBy R S (or_else x y)
  join Q S p q s c (at j) y h g = (p j h.0, λ k u b. s k u (λ v. h.1 k v b) (λ v. c j k h.0 v b))
  join Q S p q s c nothing (at j) h g = (q j g.0, λ k u b. s k u (h k) (λ v. g.1 k v b))
  join Q S p q s c nothing nothing h g = λ k u. s k u (h k) (g k)
  join Q S p q s c nothing (refused m) h g = g
  join Q S p q s c (refused m) y h g = h

module _ (P : ℕ → Type 0) where
  pub one_least : (x y : Answer) → Least P x → Least P y → x ≡ y
  one_least = one_answer (λ k j. k < j) P (λ j k p q. omega arith)

  pub one_greatest : (x y : Answer) → Greatest P x → Greatest P y → x ≡ y
  one_greatest = one_answer (λ k j. j < k) P (λ j k p q. omega arith)

module _ (Q : ℕ → Type 0) (a m t : ℕ) (am : a ≤ m) (mt : m ≤ t) where
  left : (k : ℕ) → InStretch Q a m k → InStretch Q a t k
  left k h = (h.0, omega arith, h.2)

  right : (k : ℕ) → InStretch Q m t k → InStretch Q a t k
  right k h = (omega arith, h.1, h.2)

  halves : (k : ℕ) → InStretch Q a t k → (InStretch Q a m k → ⊥) → (InStretch Q m t k → ⊥) → ⊥
  halves k h f g = elim (dec_lt k m) [ yes l ↦ f (h.0, l, h.2) | no l ↦ g (omega arith, h.1, h.2) ]

  pub join_least : (x y : Answer) → Least (InStretch Q a m) x → Least (InStretch Q m t) y → Least (InStretch Q a t) (or_else x y)
  join_least = join (λ k j. k < j) (InStretch Q a m) (InStretch Q m t) (InStretch Q a t) left right halves (λ j k h g b. omega arith)

  pub join_greatest : (x y : Answer) → Greatest (InStretch Q m t) x → Greatest (InStretch Q a m) y → Greatest (InStretch Q a t) (or_else x y)
  join_greatest = join (λ k j. j < k) (InStretch Q m t) (InStretch Q a m) (InStretch Q a t) right left (λ k h f g. halves k h g f) (λ j k h g b. omega arith)

module _ (p : ℕ → Bool) (Q : ℕ → Type 0) (sound : (k : ℕ) → p k ≡ true → Q k) (full : (k : ℕ) → Q k → p k ≡ true) where
  missed : (j t : ℕ) → t ≡ suc j → p j ≡ false → (k : ℕ) → InStretch Q j t k → ⊥
  missed j t e f k h = let q : k ≡ j = omega arith in true≢false (sym (full k h.2) ∙ ap p q ∙ f)

  pub least_is : (c a t : ℕ) → c ≡ t - a → Least (InStretch Q a t) (least p c a)
  unfolding least
  least_is zero a t e = λ k h. omega arith
  least_is (suc c) a t e = go (p a) refl (least_is c (suc a) t (omega arith))
    where
      go : (b : Bool) → p a ≡ b → Least (InStretch Q (suc a) t) (least p c (suc a)) → Least (InStretch Q a t) (cond b (at a) (least p c (suc a)))
      go true f h = ((omega arith, omega arith, sound a f), λ k g b. omega arith)
      go false f h = join_least Q a (suc a) t (omega arith) (omega arith) nothing (least p c (suc a)) (missed a (suc a) refl f) h

  pub greatest_is : (c a t : ℕ) → c ≡ t - a → Greatest (InStretch Q a t) (greatest p c a)
  unfolding greatest
  greatest_is zero a t e = λ k h. omega arith
  greatest_is (suc c) a t e = go (p (a + c)) refl (greatest_is c a (a + c) (omega arith))
    where
      go : (b : Bool) → p (a + c) ≡ b → Greatest (InStretch Q a (a + c)) (greatest p c a) → Greatest (InStretch Q a t) (cond b (at (a + c)) (greatest p c a))
      go true f h = ((omega arith, omega arith, sound (a + c) f), λ k g b. omega arith)
      go false f h = join_greatest Q a (a + c) t (omega arith) (omega arith) nothing (greatest p c a) (missed (a + c) t (omega arith) f) h
