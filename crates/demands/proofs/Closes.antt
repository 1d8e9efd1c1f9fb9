-- In a row that is one tree every handle has a close, and `open` from an excess of k + 1 answers the last handle of depth k.
--   bwd_prev: a backward search answers the last position below its start with the searched excess
--   open_deep: `open` from an excess of k + 1
--   E_zero, nonneg: the excess is 0 at the start and never negative
--   Closed, closing: the close of a handle; up to it the excess stays above that of the handle
--   root_up: the first bit is open
-- Assumes nothing.
use mathlib.Core.Path.{◌≡◌, refl, sym, ◌∙◌}
use mathlib.Core.Logic.{inl, inr}
use mathlib.Core.List.{List}
use Prim.Native.Nat.{ℕ, zero, suc, ◌≤◌, ◌<◌}
use native.Mathlib.Omega.{arith}
use native.Mathlib.Decide.{dec_lt}
use borrow.Author.Tests.{lt-ltb}
use lib.IntN.{ℤ, pos, negsuc, ◌+ℤ◌}
use lib.Signed.{◌≤ℤ◌, ◌<ℤ◌}
use Rattle.ints.proofs.Shapes.{zsum}
use Rattle.row.specs.Answer.{Answer, at, nothing, refused}
use Rattle.row.specs.Excess.{excess, E}
use Rattle.row.specs.Search.{excess_before, fwd, bwd}
use Rattle.row.specs.Tree.{OneTree, Handle}
use Rattle.row.proofs.First.{first, first_at, first_least, first_nothing, first_answers}
use Rattle.row.proofs.Meaning.{fwd_first}
use Rattle.demands.specs.Handles.{at_depth}
use Rattle.demands.proofs.Neighbours.{prev}
use Rattle.demands.proofs.Depths.{Up, turn, opens_up, stays, last_deep}
use Rattle.row.proofs.Tree.{opens_low}

-- c is the close of the handle v.
pub record Closed (ws : List ℕ) (n v c : ℕ) : Type 0 where
  pub is : fwd ws n v (negsuc 0) ≡ at c
  pub right : v < c
  pub low : c < n
  pub back : E ws (suc c) ≡ E ws v
  pub over : (x : ℕ) → v < x → x ≤ c → E ws v <ℤ E ws x

module _ (ws : List ℕ) (n : ℕ) where
  pub bwd_prev : (i : ℕ) (r : ℤ) → i < n → bwd ws n i r ≡ prev (excess_before (E ws) (E ws i +ℤ r)) i
  unfolding bwd
  bwd_prev i r h = rw (lt-ltb i n h, bwd)

  pub open_deep : (k : ℤ) (j : ℕ) → j < n → E ws j ≡ k +ℤ pos 1 → bwd ws n j (negsuc 0) ≡ prev (at_depth ws n k) j
  open_deep k j h w = bwd_prev j (negsuc 0) h ∙ last_deep ws n k (E ws j +ℤ negsuc 0) j (omega zsum) (omega arith) (omega zsum)

  pub E_zero : E ws 0 ≡ pos 0
  unfolding excess
  E_zero = refl

  module _ (t : OneTree ws n) where
    pub nonneg : (k : ℕ) → k ≤ n → pos 0 ≤ℤ E ws k
    nonneg zero h = rw E_zero (omega zsum)
    nonneg (suc k) h = go (dec_lt (suc k) n)
      where
        go : Dec (suc k < n) → pos 0 ≤ℤ E ws (suc k)
        go (yes y) = let z = t.above (suc k) (omega arith) y in omega zsum
        go (no y) = let w : suc k ≡ n = omega arith in rw w (omega zsum)

    pub closing : (v : ℕ) → Handle ws n v → (c : ℕ) × Closed ws n v c
    closing v o = go (fwd ws n v (negsuc 0)) refl
      where
        T : ℤ
        T = E ws (suc v) +ℤ negsuc 0

        u : E ws (suc v) ≡ E ws v +ℤ pos 1
        u = (opens_up ws n v o).step

        w : T ≡ E ws v
        w = omega (zsum, u)

        up : E ws v <ℤ E ws (suc v)
        up = omega (zsum, u)

        go : (x : Answer) → fwd ws n v (negsuc 0) ≡ x → (c : ℕ) × Closed ws n v c
        go (at c) q =
            let f : first (E ws) T (suc v) n ≡ at c = sym (fwd_first ws n v (negsuc 0)) ∙ q in
            let h = first_at (E ws) T (suc v) n c f in (
              c,
              record {
                is = q;
                right = h.0;
                low = h.1;
                back = h.2 ∙ w;
                over = λ x l m.
                    stays ws n (E ws v) (suc v) x l (omega arith) up (λ y a b z. first_least (E ws) T (suc v) n c f y a (omega arith) (z ∙ sym w));
              },
            )
        go nothing q =
            let f : first (E ws) T (suc v) n ≡ nothing = sym (fwd_first ws n v (negsuc 0)) ∙ q in
            let g : (y : ℕ) → suc v ≤ y → y < n → E ws (suc y) ≡ E ws v → ⊥ = λ y a b z. first_nothing (E ws) T (suc v) n f y a b (z ∙ sym w) in
            let z = stays ws n (E ws v) (suc v) n (opens_low ws n v o) (omega arith) up g in
            let h = nonneg v (let l = opens_low ws n v o in omega arith) in
            absurd (omega zsum)
        go (refused m) q = absurd (first_answers (E ws) T (suc v) n m (sym (fwd_first ws n v (negsuc 0)) ∙ q))

    pub root_up : Up ws n 0
    root_up =
        let two = t.two in
        let a = t.above 1 (omega arith) two in
        elim (turn ws n 0 (omega arith)) [ inl u ↦ u | inr d ↦ absurd (omega (zsum, E_zero)) ]
