-- What the text reader over bytes answers and writes.
--   count_passed: an answer that is a bit count means that the tests passed, and the count is the length of the text
--   read_short, read_fits: then the bit count is at most 2^32, and its words fit
--   row_passed: the bytes of the row after success
--   too_long, short: the test of the limit of 4,096 bytes
-- Assumes nothing.
use mathlib.Core.Path.{◌≡◌, refl, sym, ap, ◌∙◌}
use mathlib.Core.List.{List}
use Prim.Native.Nat.{ℕ, ◌≤◌, ◌<◌}
use borrow.Author.Tests.{le-leb, lt-leb}
use lib.ListN.{length, take, drop}
use lib.Seq.{take_at, length-take-le}
use Rattle.std.proofs.lemmas.Grind.{common_steps}
use Rattle.row.specs.Limits.{max_bits, max_short_bits}
use Rattle.row.specs.declared.refusal.Refusal.TheVariants.{TooManyBits}
use Rattle.row.specs.Gates.{Gate}
use Rattle.std.specs.Prelude.{Ok, Err}
use Rattle.row.specs.Answer.{at}
use Rattle.row.specs.Gates.{words_for, through}
use Rattle.text.specs.Text.{words_of, text_gate, text_words}
use Rattle.text.proofs.Text.{text_fits, words_length, words_passed}
use Rattle.wire.specs.Bytes.{words_over}
use Rattle.c_dispatch.specs.Reader.{short_gate, left_row}

count_passed : (g : Gate) (n m : ℕ) → at n ≡ through g (at m) → (g ≡ (Ok tt)) × (n ≡ m)
count_passed (Ok tt) n m e = (refl, cc)
count_passed (Err k) n m e = cc

module _ (text : List ℕ) where
  module _ (w n : ℕ) (e : at n ≡ through (text_gate text w) (at (length text))) where
    fits : (n ≤ max_bits) × (words_for n ≤ w)
    fits = let p = count_passed (text_gate text w) n (length text) e in rw p.1 (text_fits text w p.0)

    pub read_short : n ≤ max_bits
    read_short = fits.0

    pub read_fits : words_for n ≤ w
    read_fits = fits.1

  front : (ws : List ℕ) → text_gate text (length ws) ≡ (Ok tt) → take (words_for (length text)) (text_words text ws) ≡ words_of text (words_for (length text))
  front ws g =
      let c = words_for (length text) in
      ap (take c) (sym (words_passed text ws g)) ∙ take_at (words_of text c) (drop c ws) c (words_length text c)

  pub row_passed : (ws row : List ℕ) (n : ℕ) → at n ≡ through (text_gate text (length ws)) (at (length text))
      → words_over (take (words_for n) (text_words text ws)) row ≡ left_row (text_gate text (length ws)) text row
  row_passed ws row n e =
      let p = count_passed (text_gate text (length ws)) n (length text) e in
      rw (p.1, p.0, front ws p.0)

  pub too_long : (w : ℕ) → max_short_bits < length text → short_gate text w ≡ Err TooManyBits
  unfolding short_gate
  too_long w h = rw (lt-leb (length text) max_short_bits h)

  pub short : (w : ℕ) → length text ≤ max_short_bits → short_gate text w ≡ text_gate text w
  unfolding short_gate
  short w h = rw (le-leb (length text) max_short_bits h)

-- The laws for the proof of `read_through`.
pub ruleset through_steps = (common_steps, length-take-le, read_short, read_fits, row_passed)

-- The laws for the proof of `read_text`.
pub ruleset text_steps = (common_steps, length-take-le, too_long, short)
