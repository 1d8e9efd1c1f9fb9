-- By definition the calls that a listing uses answer an open bit of the row or nothing, never a refusal.
--   HandleOrNothing: the answer is an open bit of the row, or nothing
--   bwd_opens: a backward search for -1 answers an open bit, from every position
--   start_handle: the first child and the last child are open bits or nothing
--   next_handle: the two siblings are open bits or nothing
-- Assumes nothing.
use mathlib.Core.Path.{◌≡◌, refl}
use mathlib.Core.Bool.{Bool, true, false, cond, ◌&&◌}
use mathlib.Core.List.{List}
use Prim.Native.Nat.{ℕ, zero, suc, ◌+◌, ◌-◌, ◌/◌, ◌%◌, ◌<◌}
use native.Mathlib.Omega.{arith}
use native.Mathlib.Decide.{dec_lt}
use borrow.Author.Tests.{lt-ltb, eqb-false}
use lib.Dec.{ltb, eqb}
use lib.IntN.{negsuc}
use lib.ListN.{get_or}
use lib.Signed.{lt_z, ◌<ℤ◌}
use Rattle.ints.proofs.Linear.{plus}
use Rattle.ints.proofs.Shapes.{zsum}
use Rattle.row.specs.Answer.{Answer, at, nothing, refused}
use Rattle.row.specs.Bits.{bit_at}
use Rattle.row.specs.Excess.{E, excess, sign}
use Rattle.row.specs.Search.{fwd, bwd}
use Rattle.row.specs.Tree.{opens, closes}
use Rattle.row.proofs.Bools.{and_both}
use Rattle.row.proofs.Digits.{digit_lt}
use Rattle.row.proofs.Excess.{StepsByOne, sign_close, steps}
use Rattle.row.proofs.Meaning.{IsBwd, fwd_is, bwd_is}
use Rattle.bp_spec.specs.RowCalls.{handle_at, first_child}
use Rattle.bp_spec.specs.SearchPair.{defined, onward}
use Rattle.bp_spec.specs.SiblingCalls.{last_child, next_sibling, previous_sibling}
use Rattle.list_slice.specs.Seek.{start_call, next_call}

-- The answer is an open bit of the row, or nothing.
abbrev pub HandleOrNothing : List ℕ → ℕ → Answer → Type 0
HandleOrNothing ws n (at v) = opens ws n v ≡ true
HandleOrNothing ws n nothing = Unit {0}
HandleOrNothing ws n (refused k) = ⊥

module _ (ws : List ℕ) (n : ℕ) where
  -- ---- a backward search for -1
  module _ (i j : ℕ) (h : IsBwd ws n i (negsuc 0) (at j)) where
    -- No position k between j and i has an excess below that of j. From k the excess would have to rise to E(j) + 1 at i, and so pass E(j) at a
    -- later position, which would be the answer instead of j.
    stays : (d k : ℕ) → d + k ≡ i → j < k → E ws k <ℤ E ws j → ⊥
    stays zero k e l b = let q : k ≡ i = omega arith in let c = rw q at b in omega (zsum, h.0.2)
    stays (suc d) k e l b = elim (dec_lt (suc k) i) [
      | yes m ↦ met (lt_z (E ws (suc k)) (E ws j)) refl m (stays d (suc k) (omega arith) (omega arith))
      | no m ↦ (let q : suc k ≡ i = omega arith in let c = rw q at up.rises in omega (zsum, h.0.2))
    ]
      where
        up : StepsByOne (E ws) k
        up = steps (bit_at ws) k

        met : (t : Bool) → lt_z (E ws (suc k)) (E ws j) ≡ t → suc k < i → (E ws (suc k) <ℤ E ws j → ⊥) → ⊥
        met true t m on = on (omega zsum)
        met false t m on = h.1 (suc k) (h.0.0, m, (let u = up.rises in omega (zsum, h.0.2))) (omega arith)

  pub bwd_opens : (i j : ℕ) → bwd ws n i (negsuc 0) ≡ at j → opens ws n j ≡ true
  unfolding opens excess
  bwd_opens i j e = and_both (ltb j n) (eqb (bit_at ws j) 1) (lt-ltb j n (omega (arith, h.0.0, h.0.1))) (bit (eqb (bit_at ws j) 1) refl)
    where
      h : IsBwd ws n i (negsuc 0) (at j)
      h = rw e at (bwd_is ws n i (negsuc 0))

      bit : (t : Bool) → eqb (bit_at ws j) 1 ≡ t → t ≡ true
      bit true b = refl
      bit false b =
          let z : bit_at ws j ≡ 0 = (let c = eqb-false (bit_at ws j) 1 b in omega (arith, digit_lt (get_or ws (j / 64) 0) (j % 64))) in
          let d : E ws (suc j) <ℤ E ws j = omega (zsum, sign_close (bit_at ws j) z, plus (E ws j) (sign (bit_at ws j))) in
          absurd (stays i j h (i - suc j) (suc j) (omega (arith, h.0.1)) (omega arith) d)

  -- ---- the calls
  open_handle : (i : ℕ) → HandleOrNothing ws n (bwd ws n i (negsuc 0))
  open_handle i = go (bwd ws n i (negsuc 0)) refl
    where
      go : (a : Answer) → bwd ws n i (negsuc 0) ≡ a → HandleOrNothing ws n a
      go (at j) e = bwd_opens i j e
      go nothing e = tt
      go (refused k) e = rw e at (bwd_is ws n i (negsuc 0))

  where_handle : (t : Bool) (a : Answer) → (t ≡ true → HandleOrNothing ws n a) → HandleOrNothing ws n (cond t a nothing)
  where_handle true a f = f refl
  where_handle false a f = tt

  -- If the second step gives an open bit or nothing, so does the call that starts with `close`.
  close_handle : (v : ℕ) (next : ℕ → Answer) → ((c : ℕ) → HandleOrNothing ws n (next c)) → HandleOrNothing ws n (onward (fwd ws n v (negsuc 0)) next)
  close_handle v next f = go (fwd ws n v (negsuc 0)) refl
    where
      go : (a : Answer) → fwd ws n v (negsuc 0) ≡ a → HandleOrNothing ws n (onward a next)
      go (at c) e = f c
      go nothing e = tt
      go (refused k) e = rw e at (fwd_is ws n v (negsuc 0))

  module _ (v : ℕ) where
    pub start_handle : (rising : Bool) → HandleOrNothing ws n (start_call rising ws n (defined ws n) v)
    unfolding first_child last_child
    start_handle true = where_handle (opens ws n (v + 1)) (at (v + 1)) (λ o. o)
    start_handle false =
        where_handle (opens ws n (v + 1)) (onward (fwd ws n v (negsuc 0)) (λ c. bwd ws n (c - 1) (negsuc 0)))
        (λ o. close_handle v (λ c. bwd ws n (c - 1) (negsuc 0)) (λ c. open_handle (c - 1)))

    pub next_handle : (rising : Bool) → HandleOrNothing ws n (next_call rising ws n (defined ws n) v)
    unfolding next_sibling previous_sibling
    next_handle true = close_handle v (λ c. handle_at ws n (c + 1)) (λ c. where_handle (opens ws n (c + 1)) (at (c + 1)) (λ o. o))
    next_handle false = where_handle (ltb 0 v && closes ws n (v - 1)) (bwd ws n (v - 1) (negsuc 0)) (λ t. open_handle (v - 1))
