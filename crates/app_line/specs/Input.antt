-- SCOPE, The program `levels`: the text before the first newline, and refusals 2, 6 and 7 in this order.
-- Assumes nothing.
use Rattle.std.specs.Prelude.{◌≡◌, cond, List, [], ◌∷◌, ℕ, suc, leb, eqb, length, take}
use Rattle.row.specs.Limits.{max_short_bits}
use Rattle.row.specs.Answer.{Answer, at, refused, number_of}
use Rattle.row.specs.declared.refusal.Refusal.TheVariants.{TooManyBits, NotAParenthesis, NotOneTree}
use Rattle.row.specs.Gates.{row_gate, through}
use Rattle.row.specs.Tree.{one_tree}
use Rattle.text.specs.Text.{all_parentheses, text_words}

-- The end of the line: the index of the first newline (byte 10), or the length if there is none.
unfoldable pub line_end : List ℕ → ℕ
line_end [] = 0
line_end (b ∷ s) = cond (eqb b 10) 0 (suc (line_end s))

-- The text: everything before the first newline, or before the end of the input.
abbrev pub line : List ℕ → List ℕ
line s = take (line_end s) s

-- The answer for the line: refusal 2 (more than 4,096 bytes), then refusal 6 (a byte that is no parenthesis), else the number of bits.
unfoldable pub line_answer : List ℕ → Answer
line_answer s =
    cond (leb (line_end s) max_short_bits) (cond (all_parentheses (line s)) (at (line_end s)) (refused (number_of NotAParenthesis))) (refused (number_of TooManyBits))

-- The words after the line is read. A line that is refused by 2 or 6 leaves them unchanged.
unfoldable pub line_words : List ℕ → List ℕ → List ℕ
line_words s ws = cond (leb (line_end s) max_short_bits) (text_words (line s) ws) ws

-- The answer for a row: refusal 7 if it is not one tree, after refusals 2 and 3, else the number of bits.
unfoldable pub tree_answer : List ℕ → ℕ → Answer
tree_answer ws n = through (row_gate (length ws) n) (cond (one_tree ws n) (at n) (refused (number_of NotOneTree)))

-- The answer a for the row that was read: 7 or the bit count. The row is held in 64 words.
pub record Admits (a : Answer) (ws : List ℕ) (n : ℕ) : Type 0 where
  pub answer : a ≡ tree_answer ws n
  pub words : 64 ≡ length ws

-- The answer for the input, by the first case that applies: refusal 2 (more than 4,096 bytes), refusal 6 (a byte that is no parenthesis),
-- refusal 7 (not one tree), the number of bits.
unfoldable pub input_answer : List ℕ → List ℕ → Answer
input_answer s ws =
    cond (leb (line_end s) max_short_bits)
    (cond (all_parentheses (line s))
    (cond (one_tree (text_words (line s) ws) (line_end s)) (at (line_end s)) (refused (number_of NotOneTree)))
    (refused (number_of NotAParenthesis)))
    (refused (number_of TooManyBits))
