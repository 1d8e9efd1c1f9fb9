-- Laws of the tests, the bits and the words of the text reader.
--   bit_past: an index past the end gives the bit 0
--   bit_lt: a bit is below 2
--   words_length: `words_of s m` has m words
--   words_at: word k of `words_of s m` is `word_of s k`
--   words_step: writing word k turns k written words into k + 1
--   text_many: a text with too many bytes gives refusal 2
--   text_other: a byte that is no parenthesis gives refusal 6
--   text_row: otherwise the gate of the text is the gate of the row
--   text_fits: if the gate passes, the text has at most 2^32 bytes and the words are enough
--   words_passed, words_refused: the words after the call, if the gate passes and if it refuses
-- Assumes nothing.
use mathlib.Core.Path.{◌≡◌, refl, ◌∙◌}
use mathlib.Core.Bool.{Bool, true, false, cond}
use mathlib.Core.Logic.{⊎_elim}
use mathlib.Core.List.{List, [], ◌++◌, append_assoc}
use Prim.Native.Nat.{ℕ, zero, suc, ◌+◌, ◌≤◌, ◌<◌}
use native.Mathlib.Nat.{eq-or-lt_of_le, le_of_suc-le-suc}
use native.Mathlib.Numerals.{add-one}
use native.Mathlib.Omega.{arith}
use borrow.Author.Tests.{le-leb, lt-leb, leb-false, leb-true}
use lib.Dec.{leb, eqb}
use lib.ListN.{length, get_or, drop, set, length-append, get_or-eq_default, get_or-append}
use lib.Seq.{drop-cons, set_at, get_or_at}
use Rattle.row.specs.Limits.{max_bits}
use Rattle.row.specs.declared.refusal.Refusal.{Refusal}
use Rattle.row.specs.declared.refusal.Refusal.TheVariants.{TooManyBits, NotAParenthesis}
use Rattle.std.specs.Prelude.{Ok, Err}
use Rattle.row.specs.Gates.{words_for, row_gate}
use Rattle.row.proofs.Gates.{row_fits}
use Rattle.text.specs.Text.{all_parentheses, text_bit, word_of, words_of, text_gate, text_words}

module _ (s : List ℕ) (i : ℕ) where
  pub bit_past : length s ≤ i → 0 ≡ text_bit s i
  bit_past h = rw (get_or-eq_default s 0)

  pub bit_lt : text_bit s i < 2
  bit_lt = by (eqb (get_or s i 0) 40)
    where
      by : (b : Bool) → cond b 1 0 < 2
      by true = omega arith
      by false = omega arith

module _ (s : List ℕ) where
  pub words_length : (m : ℕ) → length (words_of s m) ≡ m
  unfolding words_of
  words_length zero = refl
  words_length (suc m) = simp (length-append, words_length m) (omega arith)

  pub words_at : (m k : ℕ) → k < m → get_or (words_of s m) k 0 ≡ word_of s k
  unfolding words_of
  words_at zero k h = absurd (omega arith)
  words_at (suc m) k h =
      ⊎_elim (λ e. cc (get_or_at (words_of s m) (word_of s m) [] 0 m (words_length m)))
      (λ l. rw (get_or-append (words_of s m) _ 0 k (omega (arith, words_length m))) (words_at m k l))
      (eq-or-lt_of_le (le_of_suc-le-suc h))

  pub words_step : (ws : List ℕ) (k : ℕ) → k < length ws → set (words_of s k ++ drop k ws) k (word_of s k) ≡ words_of s (k + 1) ++ drop (k + 1) ws
  unfolding words_of
  words_step ws k h = let l = words_length k in rw (add-one, drop-cons ws k 0, append_assoc, set_at)

module _ (s : List ℕ) (w : ℕ) where
  pub text_many : max_bits < length s → Err TooManyBits ≡ text_gate s w
  unfolding text_gate
  text_many h = simp (lt-leb (length s) max_bits h)

  pub text_other : length s ≤ max_bits → all_parentheses s ≡ false → Err NotAParenthesis ≡ text_gate s w
  unfolding text_gate
  text_other h a = simp (le-leb (length s) max_bits h, a)

  pub text_row : length s ≤ max_bits → all_parentheses s ≡ true → row_gate w (length s) ≡ text_gate s w
  unfolding text_gate
  text_row h a = simp (le-leb (length s) max_bits h, a)

  pub text_fits : text_gate s w ≡ (Ok tt) → (length s ≤ max_bits) × (words_for (length s) ≤ w)
  text_fits g = by (leb (length s) max_bits) refl (all_parentheses s) refl
    where
      by : (a : Bool) → leb (length s) max_bits ≡ a → (b : Bool) → all_parentheses s ≡ b → (length s ≤ max_bits) × (words_for (length s) ≤ w)
      by true p true q = let r = row_fits w (length s) (text_row (leb-true (length s) max_bits p) q ∙ g) in omega arith
      by true p false q = let z : ◌≡◌ {A = ℕ} 0 1 = cc (text_other (leb-true (length s) max_bits p) q) in absurd (omega arith)
      by false p b q = let z : ◌≡◌ {A = ℕ} 0 1 = cc (text_many (leb-false (length s) max_bits p)) in absurd (omega arith)

module _ (s ws : List ℕ) where
  pub words_passed : text_gate s (length ws) ≡ (Ok tt) → words_of s (words_for (length s)) ++ drop (words_for (length s)) ws ≡ text_words s ws
  unfolding text_words
  words_passed g = simp g

  pub words_refused : (k : Refusal) → text_gate s (length ws) ≡ Err k → ws ≡ text_words s ws
  unfolding text_words
  words_refused k g = simp g
