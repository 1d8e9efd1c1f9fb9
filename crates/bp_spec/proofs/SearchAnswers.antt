-- From the result of the tests to the promise of a search, and how far `enclose` searches.
--   fwd_err, bwd_err: the promise if a test refuses
--   fwd_ok, bwd_ok: the promise if all tests pass; over nodes as built the walk answers the definition
--   outward_past, outward_short: from position n on, and past the words, `enclose` searches for -2
--   outward_open, outward_close: at an open bit it searches for -1, at a close bit for -2
-- Assumes nothing.
use mathlib.Core.Path.{◌≡◌, ◌∙◌}
use mathlib.Core.Bool.{true, false, and-false}
use mathlib.Core.List.{List}
use Prim.Native.Nat.{ℕ, ◌/◌, ◌%◌, ◌^◌, ◌≤◌, ◌<◌}
use native.Mathlib.Nat.{zero-div}
use borrow.Author.Tests.{lt-ltb, le-ltb}
use lib.Dec.{ltb, eqb}
use lib.IntN.{ℤ, negsuc}
use lib.ListN.{length, get_or-eq_default}
use Rattle.row.specs.declared.refusal.Refusal.{Refusal}
use Rattle.std.specs.Prelude.{Result, Ok, Err, IfOk}
use Rattle.row.specs.Answer.{Answer, refused, number_of}
use Rattle.row.specs.Bits.{digit, bit_at}
use Rattle.row.specs.Search.{fwd, bwd}
use Rattle.row.specs.Tree.{opens}
use Rattle.row.specs.Gates.{gate_of}
use Rattle.mmt_layout.specs.declared.admitted.Admitted.{Admitted}
use Rattle.mmt_layout.specs.Parts.{HasParts}
use Rattle.bp_spec.specs.SearchPair.{walked, walked_on}
use Rattle.bp_spec.specs.SearchCalls.{search_answer, FwdPromise, BwdPromise, outward}
use Rattle.bp_spec.proofs.SearchesAgree.{call_defined}
use Rattle.bp_spec.proofs.HandleAnswers.{gate, same_row, plain_err, plain_ok}

module _ (ws : List ℕ) (n : ℕ) (s : List ℤ) (B i : ℕ) (r : ℤ) {q : Result Admitted Refusal} (g : gate_of q ≡ gate ws n s B) where
  module _ {k : Refusal} (e : q ≡ Err k) where
    pub fwd_err : FwdPromise ws n s B i r (refused (number_of k))
    unfolding search_answer
    fwd_err = plain_err ws n s B ((walked ws n s B).fwd i r) (fwd ws n i r) g e

    pub bwd_err : BwdPromise ws n s B i r (refused (number_of k))
    unfolding search_answer
    bwd_err = plain_err ws n s B ((walked ws n s B).bwd i r) (bwd ws n i r) g e

  module _ {t : Admitted} (p : IfOk q (HasParts ws n s B)) (e : q ≡ Ok t) {a : Answer} where
    pub fwd_ok : a ≡ (walked_on t).fwd i r → FwdPromise ws n s B i r a
    unfolding search_answer
    fwd_ok f =
        plain_ok ws n s B ((walked ws n s B).fwd i r) (fwd ws n i r) g e (f ∙ same_row ws n s B p e (λ us m y. y.fwd i r))
        (λ o b. call_defined ws n s B o b (λ y. y.fwd i r))

    pub bwd_ok : a ≡ (walked_on t).bwd i r → BwdPromise ws n s B i r a
    unfolding search_answer
    bwd_ok f =
        plain_ok ws n s B ((walked ws n s B).bwd i r) (bwd ws n i r) g e (f ∙ same_row ws n s B p e (λ us m y. y.bwd i r))
        (λ o b. call_defined ws n s B o b (λ y. y.bwd i r))

-- A word past the end of the slice has only zero digits.
zero_digit : (k : ℕ) → digit 0 k ≡ 0
zero_digit k = rw (zero-div (2 ^ k))

module _ (ws : List ℕ) (n i : ℕ) where
  pub outward_past : n ≤ i → negsuc 1 ≡ outward ws n i
  unfolding outward opens
  outward_past h = rw (le-ltb i n h)

  pub outward_short : length ws ≤ i / 64 → negsuc 1 ≡ outward ws n i
  unfolding outward opens
  outward_short h = rw (get_or-eq_default ws 0 {n = i / 64} h, zero_digit (i % 64), and-false (ltb i n))

  pub outward_open : i < n → eqb (bit_at ws i) 1 ≡ true → negsuc 0 ≡ outward ws n i
  unfolding outward opens
  outward_open h b = rw (lt-ltb i n h, b)

  pub outward_close : i < n → eqb (bit_at ws i) 1 ≡ false → negsuc 1 ≡ outward ws n i
  unfolding outward opens
  outward_close h b = rw (lt-ltb i n h, b)

-- The laws of `enclose`'s searched difference, for the proof of the code.
pub ruleset outward_steps = (outward_past, outward_short, outward_open, outward_close)
