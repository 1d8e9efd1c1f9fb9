-- If each call goes to the next number that passes a test, the calls name all such numbers, rising, and then nothing. If each call goes to the
-- last such number before, the calls name the same numbers in reverse.
--   onward, rises: forward, by induction on the numbers left
--   those_end: the list for m + 1 numbers is that for the first m and then that for the last
--   back, falls: backward, by induction on the numbers left
-- Assumes nothing.
use mathlib.Core.Path.{◌≡◌, refl, ap, ◌∙◌}
use mathlib.Core.Bool.{Bool, true, false}
use mathlib.Core.List.{List, [], ◌∷◌, ◌++◌, reverse, reverse-append}
use Prim.Native.Nat.{ℕ, zero, suc, ◌+◌, ◌-◌}
use native.Mathlib.Omega.{arith}
use Rattle.row.specs.Answer.{Answer}
use Rattle.row.specs.Search.{least, greatest}
use Rattle.bp_spec.specs.declared.question.Question.{Question}
use Rattle.demands.specs.Lists.{Names, those}
use Rattle.demands.proofs.Neighbours.{next, prev, prev_yes, prev_no}

module _ (p : ℕ → Bool) (ask : Question → Answer) (step : ℕ → Question) where
  -- ---- forward: the m numbers from a on are left
  onward : (n : ℕ) → ((v : ℕ) → p v ≡ true → ask (step v) ≡ next p n (suc v))
      → (m a : ℕ) → m ≡ n - a → (start : Question) → ask start ≡ least p m a → Names ask step start (those p m a)
  unfolding those least
  onward n h zero a e start q = q
  onward n h (suc m) a e start q = go (p a) refl (onward n h m (suc a) (omega arith))
    where
      w : n - suc a ≡ m
      w = omega arith

      go : (t : Bool) → p a ≡ t → ((x : Question) → ask x ≡ least p m (suc a) → Names ask step x (those p m (suc a)))
          → Names ask step start (those p (suc m) a)
      go true y rest = rw (y, those) ((rw (y, least) at q, rest (step a) (rw w at (h a y))))
      go false y rest = rw (y, those) (rest start (rw (y, least) at q))

  pub rises : (n : ℕ) (start : Question) → ask start ≡ next p n 0 → ((v : ℕ) → p v ≡ true → ask (step v) ≡ next p n (suc v))
      → Names ask step start (those p n 0)
  rises n start q h = let w : n - 0 ≡ n = omega arith in onward n h n 0 (omega arith) start (rw w at q)

  -- ---- backward
  those_end : (m a b : ℕ) → b ≡ a + m → those p (suc m) a ≡ those p m a ++ those p 1 b
  unfolding those
  those_end zero a b e = let w : b ≡ a = omega arith in rw w
  those_end (suc m) a b e = go (p a) refl (those_end m (suc a) b (omega arith))
    where
      go : (t : Bool) → p a ≡ t → those p (suc m) (suc a) ≡ those p m (suc a) ++ those p 1 b
          → those p (suc (suc m)) a ≡ those p (suc m) a ++ those p 1 b
      go true q x = rw (q, those) (ap (λ (l : List ℕ). a ∷ l) x)
      go false q x = rw (q, those) x

  back : ((v : ℕ) → p v ≡ true → ask (step v) ≡ prev p v)
      → (m : ℕ) (start : Question) → ask start ≡ prev p m → Names ask step start (reverse (those p m 0))
  unfolding those greatest
  back h zero start q = q
  back h (suc m) start q = go (p m) refl (back h m)
    where
      grown : reverse (those p (suc m) 0) ≡ reverse (those p 1 m) ++ reverse (those p m 0)
      grown = ap reverse (those_end m 0 m (omega arith)) ∙ reverse-append (those p m 0) (those p 1 m)

      one : p m ≡ true → those p 1 m ≡ m ∷ []
      one y = rw (y, those)

      none : p m ≡ false → those p 1 m ≡ []
      none y = rw (y, those)

      go : (t : Bool) → p m ≡ t → ((x : Question) → ask x ≡ prev p m → Names ask step x (reverse (those p m 0)))
          → Names ask step start (reverse (those p (suc m) 0))
      go true y rest = rw (grown, one y) ((q ∙ prev_yes p m y, rest (step m) (h m y)))
      go false y rest = rw (grown, none y) (rest start (q ∙ prev_no p m y))

  pub falls : (n : ℕ) (start : Question) → ask start ≡ prev p n → ((v : ℕ) → p v ≡ true → ask (step v) ≡ prev p v)
      → Names ask step start (reverse (those p n 0))
  falls n start q h = back h n start q
