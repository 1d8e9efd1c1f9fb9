-- The number of answers of a listing, over any nodes. Each handle is further on than the one before. After the handles come at most one
-- refusal and one `nothing`.
--   answers_few: a listing has at most n + 2 answers
--   answers_enough: any two limits of n + 2 or more steps give the same answers
--   count_small: the count that `list` answers is at most 2^32 + 2
--   room_cut: a room cut to n + 2 or more gives the same answers
-- Assumes nothing.
use mathlib.Core.Path.{◌≡◌, refl, ap}
use mathlib.Core.Bool.{Bool}
use mathlib.Core.List.{List, ◌∷◌}
use Prim.Native.Nat.{ℕ, zero, suc, ◌+◌, ◌≤◌, min}
use native.Mathlib.Omega.{arith}
use native.Mathlib.Decide.{dec_lt}
use lib.IntN.{ℤ}
use lib.ListN.{length}
use Rattle.row.specs.Limits.{max_bits}
use Rattle.row.specs.Answer.{Answer, at, nothing, refused}
use Rattle.bp_spec.proofs.HandleAnswers.{passed_fine}
use Rattle.list_slice.specs.Seek.{sought, held_after, Below}
use Rattle.list_slice.proofs.FirstSought.{Unrefused, sought_passed}
use Rattle.list_slice.proofs.HeldRange.{Only, left, HandlesLeft, sought_within, after_within}
use Rattle.list_slice.specs.WholeListing.{answers, unless_refused, answers_of, count_of}

module _ (rising : Bool) (ws : List ℕ) (n : ℕ) (s : List ℤ) (B : ℕ) where
  -- What the listing holds after it has answered.
  abbrev next : Answer → Answer
  next = held_after rising ws n s B

  -- If the listing can still meet fewer than f handles, it has at most f + 2 answers.
  answers_few : (c f : ℕ) (a : Answer) → Only (HandlesLeft rising n f) a → length (answers next c a) ≤ f + 2
  unfolding answers
  answers_few zero f a w = omega arith
  answers_few (suc c) f (at u) w = let h = answers_few c (left rising n u) (next (at u)) (after_within rising ws n s B u) in omega (arith, w.1)
  answers_few (suc c) f nothing w = omega arith
  answers_few (suc zero) f (refused k) w = omega arith
  answers_few (suc (suc c)) f (refused k) w = omega arith

  answers_enough : (c d f : ℕ) (a : Answer) → Only (HandlesLeft rising n f) a → f + 2 ≤ c → f + 2 ≤ d → answers next c a ≡ answers next d a
  unfolding answers
  answers_enough zero d f a w p q = absurd (omega arith)
  answers_enough (suc c) zero f a w p q = absurd (omega arith)
  answers_enough (suc c) (suc d) f (at u) w p q =
      ap (λ l. at u ∷ l)
      (answers_enough c d (left rising n u) (next (at u)) (after_within rising ws n s B u) (omega (arith, w.1)) (omega (arith, w.1)))
  answers_enough (suc c) (suc d) f nothing w p q = refl
  answers_enough (suc zero) (suc d) f (refused k) w p q = absurd (omega arith)
  answers_enough (suc (suc c)) (suc zero) f (refused k) w p q = absurd (omega arith)
  answers_enough (suc (suc c)) (suc (suc d)) f (refused k) w p q = refl

  module _ (v : ℕ) where
    -- If the constructor is not refused, n is at most 2^32.
    short : (a : Answer) → sought rising ws n s B v ≡ a → Unrefused a → n ≤ max_bits
    short a e u = (passed_fine _ _ _ _ _ (sought_passed ws n s B v rising (rw e u))).short

    pub count_small : (c : ℕ) → Below (max_bits + 3) (count_of rising ws n s B v c)
    unfolding count_of
    count_small c = go (sought rising ws n s B v) refl
      where
        l : length (answers_of rising ws n s B v c) ≤ n + 2
        l = answers_few c n (sought rising ws n s B v) (sought_within rising ws n s B v)

        go : (a : Answer) → sought rising ws n s B v ≡ a
            → Below (max_bits + 3) (unless_refused a (at (length (answers_of rising ws n s B v c))) refused)
        go (at u) e = omega (arith, l, short (at u) e tt)
        go nothing e = omega (arith, l, short nothing e tt)
        go (refused k) e = tt

    answers_cut : (c m : ℕ) → n + 2 ≤ m → answers_of rising ws n s B v (min c m) ≡ answers_of rising ws n s B v c
    answers_cut c m h = elim (dec_lt m c) [
      | yes l ↦ answers_enough (min c m) c n (sought rising ws n s B v) (sought_within rising ws n s B v) (omega arith) (omega arith)
      | no l ↦ (let e : min c m ≡ c = omega arith in ap (answers_of rising ws n s B v) e)
    ]

    pub room_cut : {A : Type 0} (f : List Answer → A) (g : ℕ → A) (c m : ℕ) → (n ≤ max_bits → n + 2 ≤ m)
        → unless_refused (sought rising ws n s B v) (f (answers_of rising ws n s B v (min c m))) g
        ≡ unless_refused (sought rising ws n s B v) (f (answers_of rising ws n s B v c)) g
    room_cut f g c m h = go (sought rising ws n s B v) refl
      where
        go : (a : Answer) → sought rising ws n s B v ≡ a
            → unless_refused a (f (answers_of rising ws n s B v (min c m))) g ≡ unless_refused a (f (answers_of rising ws n s B v c)) g
        go (at u) e = ap f (answers_cut c m (h (short (at u) e tt)))
        go nothing e = ap f (answers_cut c m (h (short nothing e tt)))
        go (refused k) e = refl
