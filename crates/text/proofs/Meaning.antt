-- What the promise of the reader means for single bits and words. No proof of a function uses these laws.
--   refusal_keeps: a refused text leaves every word unchanged
--   length_stays: the number of words is unchanged
--   past_stays: words after those that the bits need are unchanged
--   bits_are: after a successful reading, bit i of the words is bit i of the text
--   unused_zero: after a successful reading, bits past the text are 0, up to the end of the last needed word
-- Assumes nothing.
use mathlib.Core.Path.{◌≡◌, refl, sym, ap, ◌∙◌}
use mathlib.Core.List.{List, ◌++◌}
use Prim.Native.Nat.{ℕ, ◌+◌, ◌-◌, ◌*◌, ◌/◌, ◌%◌, ◌≤◌, ◌<◌}
use native.Mathlib.Omega.{arith}
use lib.ListN.{length, get_or, drop, length-append, length-drop, get_or-append}
use lib.Seq.{get_or-append-add, get_or-drop}
use Rattle.row.specs.declared.refusal.Refusal.{Refusal}
use Rattle.row.specs.Gates.{Gate, words_for}
use Rattle.std.specs.Prelude.{Ok, Err}
use Rattle.row.specs.Bits.{digit, bit_at}
use Rattle.text.specs.Text.{text_bit, word_of, words_of, text_gate, text_words}
use Rattle.text.proofs.Packed.{packed_digit}
use Rattle.text.proofs.Text.{bit_lt, bit_past, words_length, words_at, text_fits, words_passed, words_refused}

-- Digit j of word k is bit 64k + j of the text.
word_digit : (s : List ℕ) (k j : ℕ) → j < 64 → digit (word_of s k) j ≡ text_bit s (64 * k + j)
unfolding word_of
word_digit s k j h = packed_digit (text_bit s) (bit_lt s) (64 * k) 64 j h

-- Words after the m written ones are unchanged.
word_past : (s ws : List ℕ) (m k : ℕ) → m ≤ k → get_or (words_of s m ++ drop m ws) k 0 ≡ get_or ws k 0
word_past s ws m k h =
    let e : length (words_of s m) + (k - m) ≡ k = omega (arith, words_length s m) in
    let d : m + (k - m) ≡ k = omega arith in
    cc (get_or-append-add (words_of s m) (drop m ws) (k - m) 0, get_or-drop m ws (k - m) 0)

module _ (s ws : List ℕ) where
  -- A refused text leaves every word unchanged.
  pub refusal_keeps : (k : Refusal) → text_gate s (length ws) ≡ Err k → text_words s ws ≡ ws
  refusal_keeps k g = sym (words_refused s ws k g)

  -- The number of words is unchanged.
  pub length_stays : length (text_words s ws) ≡ length ws
  length_stays = by (text_gate s (length ws)) refl
    where
      by : (g : Gate) → text_gate s (length ws) ≡ g → length (text_words s ws) ≡ length ws
      by (Ok tt) g =
          let f = text_fits s (length ws) g in
          rw (← words_passed s ws g, length-append, words_length, length-drop) (omega arith)
      by (Err k) g = ap length (refusal_keeps k g)

  -- Words after those that the bits of the text need are unchanged.
  pub past_stays : (k : ℕ) → words_for (length s) ≤ k → get_or (text_words s ws) k 0 ≡ get_or ws k 0
  past_stays k h = by (text_gate s (length ws)) refl
    where
      by : (g : Gate) → text_gate s (length ws) ≡ g → get_or (text_words s ws) k 0 ≡ get_or ws k 0
      by (Ok tt) g = rw (← words_passed s ws g) (word_past s ws (words_for (length s)) k h)
      by (Err r) g = ap (λ l. get_or l k 0) (refusal_keeps r g)

  module _ (g : text_gate s (length ws) ≡ (Ok tt)) where
    -- Every bit of the written words is the bit of the text with the same index.
    written : (i : ℕ) → i < 64 * words_for (length s) → bit_at (text_words s ws) i ≡ text_bit s i
    written i h =
        let e : 64 * (i / 64) + i % 64 ≡ i = omega arith in
        let l : i / 64 < words_for (length s) = omega arith in
        let m : i / 64 < length (words_of s (words_for (length s))) = rw words_length l in
        rw (← words_passed s ws g, get_or-append, words_at) (word_digit s (i / 64) (i % 64) (omega arith) ∙ ap (text_bit s) e)

    -- Bit i of the words is 1 exactly if byte i of the text is `(`.
    pub bits_are : (i : ℕ) → i < length s → bit_at (text_words s ws) i ≡ text_bit s i
    bits_are i h = written i (omega arith)

    -- The bits past the text are 0, up to the end of the last word that it needs.
    pub unused_zero : (i : ℕ) → length s ≤ i → i < 64 * words_for (length s) → bit_at (text_words s ws) i ≡ 0
    unused_zero i l h = written i h ∙ sym (bit_past s i l)
