-- The text reader by definition: what it refuses, and what the words contain afterwards (SCOPE, The text reader).
-- Assumes nothing.
use Rattle.std.specs.Prelude.{Bool, ◌||◌, cond, List, [], ◌∷◌, ◌++◌, ℕ, zero, suc, ◌+◌, ◌*◌, leb, eqb, length, get_or, drop, Err}
use Rattle.std.specs.List.{list_all}
use Rattle.row.specs.Limits.{max_bits}
use Rattle.row.specs.declared.refusal.Refusal.TheVariants.{TooManyBits, NotAParenthesis}
use Rattle.row.specs.Gates.{Gate, words_for, row_gate, through, kept}
use Rattle.row.specs.Answer.{Answer, at}

-- A parenthesis is the byte 40, which is `(`, or the byte 41, which is `)`.
abbrev pub is_parenthesis : ℕ → Bool
is_parenthesis b = eqb b 40 || eqb b 41

-- Tests whether every byte of a text is a parenthesis.
unfoldable pub all_parentheses : List ℕ → Bool
all_parentheses s = list_all is_parenthesis s

-- Bit i of a text is 1 if byte i is `(`, otherwise 0. It is also 0 past the end of the text.
abbrev pub text_bit : List ℕ → ℕ → ℕ
text_bit s i = cond (eqb (get_or s i 0) 40) 1 0

-- The number made of the c bits f a, f (a + 1) and so on, the first one least significant.
unfoldable pub packed : (ℕ → ℕ) → ℕ → ℕ → ℕ
packed f a zero = 0
packed f a (suc c) = f a + 2 * packed f (suc a) c

-- Word k holds bits 64k to 64k + 63, the first one least significant.
unfoldable pub word_of : List ℕ → ℕ → ℕ
word_of s k = packed (text_bit s) (64 * k) 64

-- The words 0 to m - 1 of a text.
unfoldable pub words_of : List ℕ → ℕ → List ℕ
words_of s zero = []
words_of s (suc m) = words_of s m ++ (word_of s m ∷ [])

-- The gate of the reader: refusal 2, then 6, then 3, for a text that is to go into w words.
unfoldable pub text_gate : List ℕ → ℕ → Gate
text_gate s w = cond (leb (length s) max_bits) (cond (all_parentheses s) (row_gate w (length s)) (Err NotAParenthesis)) (Err TooManyBits)

-- The answer of the reader: the bit count, which is the number of bytes, or the refusal of the gate.
abbrev pub read_answer : List ℕ → List ℕ → Answer
read_answer s ws = through (text_gate s (length ws)) (at (length s))

-- The words after the call: the needed ones are written, those after them are unchanged. On refusal all words are unchanged.
unfoldable pub text_words : List ℕ → List ℕ → List ℕ
text_words s ws = kept (text_gate s (length ws)) (words_of s (words_for (length s)) ++ drop (words_for (length s)) ws) ws
