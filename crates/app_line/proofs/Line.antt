-- Laws about the end of a line, the text of a line, and the one-tree test.
--   end_first: the end of the line is the first newline
--   tree_refused, tree_told: the answer for a row, from the answer of the one-tree test
--   line_many, words_many: a line that is too long; line_read, words_read, words_end: a line that the text reader is passed
--   input_refused, input_tree: the answer for the input, from the answers for the line and for the row
-- Assumes nothing.
use mathlib.Core.Path.{◌≡◌, refl, sym, ap, ◌∙◌}
use mathlib.Core.Bool.{Bool, true, false, cond, beq}
use mathlib.Core.List.{List, [], ◌∷◌}
use Prim.Native.Nat.{ℕ, zero, suc, ◌≤◌, ◌<◌}
use native.Mathlib.Omega.{arith}
use borrow.Author.Tests.{eq-eqb, ne_eqb, le-leb, lt-leb, leb-true}
use lib.Dec.{leb}
use lib.ListN.{length, get_or}
use Rattle.row.specs.Limits.{max_short_bits}
use Rattle.row.specs.Gates.{Gate}
use Rattle.std.specs.Prelude.{take, Option, Some, None, Ok, Err}
use Rattle.std.specs.Option.{option_eq}
use Rattle.row.specs.Answer.{Answer, at, refused, paper_told}
use Rattle.row.specs.Gates.{row_gate, through}
use Rattle.row.specs.Tree.{one_tree}
use Rattle.row.proofs.Gates.{row_passed}
use Rattle.one_tree.specs.OneTree.{one_tree_answer}
use Rattle.text.specs.Text.{all_parentheses, text_gate, text_words}
use Rattle.text.proofs.Text.{text_other, text_row}
use Rattle.app_line.specs.Input.{line_end, line, line_answer, line_words, tree_answer, input_answer}

-- No byte before r is a newline, and byte r is one unless r is the length.
pub end_first : (s : List ℕ) (r : ℕ) → r ≤ length s → ((k : ℕ) → k < r → get_or s k 0 ≡ 10 → ⊥) → (r < length s → get_or s r 0 ≡ 10) → r ≡ line_end s
unfolding line_end
end_first [] r h before here = omega arith
end_first (b ∷ s) zero h before here = simp (eq-eqb b 10 (here (omega arith)))
end_first (b ∷ s) (suc r) h before here =
    simp (ne_eqb b 10 (before 0 (omega arith)))
    (ap suc (end_first s r (omega arith) (λ k l. before (suc k) (omega arith)) (λ l. here (omega arith))))

module _ (ws : List ℕ) (n : ℕ) where
  pub tree_refused : (k : ℕ) → refused k ≡ one_tree_answer ws n → refused k ≡ tree_answer ws n
  unfolding one_tree_answer tree_answer
  tree_refused k h = by (row_gate (length ws) n) refl (one_tree ws n) refl
    where
      by : (g : Gate) → row_gate (length ws) n ≡ g → (b : Bool) → one_tree ws n ≡ b → refused k ≡ tree_answer ws n
      by (Ok tt) g true b = cc (h, g, b)
      by (Ok tt) g false b = cc (h, g, b)
      by (Err r) g b e = cc (h, g)

  -- The answer of the test is only compared with yes.
  pub tree_told : (r : Option Bool) (t : Bool) → t ≡ option_eq beq r (Some true) → paper_told (Ok r) ≡ one_tree_answer ws n
      → cond t (at n) (refused 7) ≡ tree_answer ws n
  unfolding one_tree_answer tree_answer
  tree_told r t e h = rw e (by r h (row_gate (length ws) n) refl (one_tree ws n) refl)
    where
      by : (r : Option Bool) → paper_told (Ok r) ≡ one_tree_answer ws n → (g : Gate) → row_gate (length ws) n ≡ g → (b : Bool) → one_tree ws n ≡ b
          → cond (option_eq beq r (Some true)) (at n) (refused 7) ≡ tree_answer ws n
      by (Some true) h (Ok tt) g true b = simp (g, b)
      by (Some true) h (Ok tt) g false b = cc (h, g, b)
      by (Some true) h (Err k) g b e = cc (h, g)
      by (Some false) h (Ok tt) g true b = cc (h, g, b)
      by (Some false) h (Ok tt) g false b = simp (g, b)
      by (Some false) h (Err k) g b e = cc (h, g)
      by None h (Ok tt) g true b = cc (h, g, b)
      by None h (Ok tt) g false b = simp (g, b)
      by None h (Err k) g b e = cc (h, g)

-- A line that is too long, whose end was found at e.
module _ (s : List ℕ) {e : ℕ} (end : e ≡ line_end s) (many : max_short_bits < e) where
  pub line_many : refused 2 ≡ line_answer s
  unfolding line_answer
  line_many = simp (lt-leb (line_end s) max_short_bits (rw end at many))

  pub words_many : (ws : List ℕ) → ws ≡ line_words s ws
  unfolding line_words
  words_many ws = simp (lt-leb (line_end s) max_short_bits (rw end at many))

module _ (s ws : List ℕ) where
  pub words_read : line_end s ≤ max_short_bits → text_words (line s) ws ≡ line_words s ws
  unfolding line_words
  words_read h = simp (le-leb (line_end s) max_short_bits h)

  line_read_lem : line_end s ≤ max_short_bits → length (line s) ≡ line_end s → length ws ≡ 64
      → through (text_gate (line s) (length ws)) (at (length (line s))) ≡ line_answer s
  unfolding line_answer
  line_read_lem h l w = by (all_parentheses (line s)) refl
    where
      by : (b : Bool) → all_parentheses (line s) ≡ b → through (text_gate (line s) (length ws)) (at (length (line s))) ≡ line_answer s
      by true e =
          let o = row_passed (length ws) (length (line s)) (omega (arith, l)) (omega (arith, l, w)) in
          let g : (Ok tt) ≡ text_gate (line s) (length ws) = o ∙ text_row (line s) (length ws) (omega (arith, l)) e in
          rw (← g) (simp (le-leb (line_end s) max_short_bits h, e, l))
      by false e =
          let g = text_other (line s) (length ws) (omega (arith, l)) e in
          rw (← g) (simp (le-leb (line_end s) max_short_bits h, e))

  -- The same for the text before the end that was found, and what the text reader gave for it.
  module _ {e : ℕ} (end : e ≡ line_end s) (short : e ≤ max_short_bits) where
    pub line_read : {a : Answer} → e ≡ length (take e s) → length ws ≡ 64 → a ≡ through (text_gate (take e s) (length ws)) (at (length (take e s))) → a ≡ line_answer s
    line_read l w h = rw end at h ∙ line_read_lem (rw end at short) (rw end at (sym l)) w

    pub words_end : {us : List ℕ} → us ≡ text_words (take e s) ws → us ≡ line_words s ws
    words_end h = rw end at h ∙ words_read (rw end at short)

  pub input_refused : (k : ℕ) → refused k ≡ line_answer s → refused k ≡ input_answer s ws
  unfolding line_answer input_answer
  input_refused k h = by (leb (line_end s) max_short_bits) refl (all_parentheses (line s)) refl
    where
      by : (a : Bool) → leb (line_end s) max_short_bits ≡ a → (b : Bool) → all_parentheses (line s) ≡ b → refused k ≡ input_answer s ws
      by true p true q = cc (h, p, q)
      by true p false q = cc (h, p, q)
      by false p b q = cc (h, p)

  input_tree_lem : (n : ℕ) → 64 ≡ length (line_words s ws) → at n ≡ line_answer s → tree_answer (line_words s ws) n ≡ input_answer s ws
  unfolding line_answer input_answer tree_answer
  input_tree_lem n w h = by (leb (line_end s) max_short_bits) refl (all_parentheses (line s)) refl
    where
      by : (a : Bool) → leb (line_end s) max_short_bits ≡ a → (b : Bool) → all_parentheses (line s) ≡ b → tree_answer (line_words s ws) n ≡ input_answer s ws
      by true p true q =
          let l = leb-true (line_end s) max_short_bits p in
          let e : n ≡ line_end s = cc (h, p, q) in
          let o = row_passed (length (line_words s ws)) n (omega (arith, l, e)) (omega (arith, l, e, w)) in
          rw (← o, ← words_read l, e) (simp (p, q))
      by true p false q = cc (h, p, q)
      by false p b q = cc (h, p)

  -- The same for the words us that were read and the answer a for them.
  pub input_tree : {us : List ℕ} {n : ℕ} {a : Answer} → us ≡ line_words s ws → 64 ≡ length us → at n ≡ line_answer s → a ≡ tree_answer us n → a ≡ input_answer s ws
  input_tree {n = n} e w h q = rw e at q ∙ input_tree_lem n (rw e at w) h

-- The laws for the proof of `read_line`, and for that of `read_tree`.
pub ruleset line_steps = (line_many, words_many, line_read, words_end)

pub ruleset input_steps = (input_refused, input_tree)
