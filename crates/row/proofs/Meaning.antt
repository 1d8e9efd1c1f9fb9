-- The two searches as relations, as SCOPE, The two searches, states them. The computed searches satisfy the relations, and no other answer does.
--   Ahead, Behind: position j fits the forward (backward) search from i for r
--   IsFwd, IsBwd: the answer is the nearest position that fits, or nothing if none fits
--   nearest_ext: if two properties hold of the same positions, they have the same nearest position
--   fwd_first: a forward search answers the first fitting position of the stretch from i + 1 to n - 1
--   bwd_last: for i < n a backward search answers the last fitting position of the stretch from 0 to i - 1
--   bwd_past: for i >= n a backward search answers nothing
--   fwd_is, bwd_is: the computed search satisfies its relation
--   fwd_only, bwd_only: at most one answer satisfies the relation
-- Assumes nothing.
use mathlib.Core.Path.{◌≡◌, refl}
use mathlib.Core.List.{List}
use Prim.Native.Nat.{ℕ, suc, ◌≤◌, ◌<◌}
use native.Mathlib.Nat.{sub-zero}
use native.Mathlib.Omega.{arith}
use native.Mathlib.Decide.{dec_lt}
use borrow.Author.Tests.{lt-ltb, le-ltb}
use lib.IntN.{ℤ, ◌+ℤ◌}
use Rattle.row.specs.Answer.{Answer, at, nothing, refused}
use Rattle.row.specs.Excess.{E}
use Rattle.row.specs.Search.{fwd, bwd}
use Rattle.row.proofs.Nearest.{NearestBy, Least, Greatest, one_least, one_greatest}
use Rattle.row.proofs.First.{first, first_is}
use Rattle.row.proofs.Last.{last, last_is}

-- fwd_search(i, r): the smallest j with i < j < n and E(j+1) = E(i+1) + r. It is nothing if no such j exists, so also if i >= n.
abbrev pub Ahead : List ℕ → ℕ → ℕ → ℤ → ℕ → Type 0
Ahead ws n i r j = (i < j) × (j < n) × (E ws (suc j) ≡ E ws (suc i) +ℤ r)

abbrev pub IsFwd : List ℕ → ℕ → ℕ → ℤ → Answer → Type 0
IsFwd ws n i r = Least (Ahead ws n i r)

-- bwd_search(i, r): the greatest j < i with E(j) = E(i) + r. It is nothing if no such j exists, and if i >= n.
abbrev pub Behind : List ℕ → ℕ → ℕ → ℤ → ℕ → Type 0
Behind ws n i r j = (i < n) × (j < i) × (E ws j ≡ E ws i +ℤ r)

abbrev pub IsBwd : List ℕ → ℕ → ℕ → ℤ → Answer → Type 0
IsBwd ws n i r = Greatest (Behind ws n i r)

pub nearest_ext : (R : ℕ → ℕ → Type 0) (P Q : ℕ → Type 0) → ((k : ℕ) → P k → Q k) → ((k : ℕ) → Q k → P k) → (x : Answer) → NearestBy R P x → NearestBy R Q x
nearest_ext R P Q p q (at j) h = (p j h.0, λ k u. h.1 k (q k u))
nearest_ext R P Q p q nothing h = λ k u. h k (q k u)
nearest_ext R P Q p q (refused m) h = h

module _ (ws : List ℕ) (n i : ℕ) (r : ℤ) where
  pub fwd_first : fwd ws n i r ≡ first (E ws) (E ws (suc i) +ℤ r) (suc i) n
  unfolding fwd first
  fwd_first = refl

  pub bwd_last : i < n → bwd ws n i r ≡ last (E ws) (E ws i +ℤ r) 0 i
  unfolding bwd last
  bwd_last h = simp (lt-ltb i n h, sub-zero)

  pub bwd_past : n ≤ i → bwd ws n i r ≡ nothing
  unfolding bwd
  bwd_past h = simp (le-ltb i n h)

  pub fwd_is : IsFwd ws n i r (fwd ws n i r)
  fwd_is = rw fwd_first (first_is (E ws) (E ws (suc i) +ℤ r) (suc i) n)

  pub bwd_is : IsBwd ws n i r (bwd ws n i r)
  bwd_is = elim (dec_lt i n) [
    | yes l ↦ rw (bwd_last l) (nearest_ext (λ k j. j < k) _ (Behind ws n i r) (λ k h. (l, h.1, h.2)) (λ k h. (omega arith, h.1, h.2)) (last (E ws) (E ws i +ℤ r) 0 i) (last_is (E ws) (E ws i +ℤ r) 0 i))
    | no l ↦ rw (bwd_past (omega arith)) (λ k h. l h.0)
  ]

  pub fwd_only : (x y : Answer) → IsFwd ws n i r x → IsFwd ws n i r y → x ≡ y
  fwd_only = one_least (Ahead ws n i r)

  pub bwd_only : (x y : Answer) → IsBwd ws n i r x → IsBwd ws n i r y → x ≡ y
  bwd_only = one_greatest (Behind ws n i r)
