-- SCOPE, The program `levels`: what the program prints for the bytes that it reads, the page of a tree or the line of a refusal.
-- Assumes nothing.
use Rattle.std.specs.Prelude.{List, ℕ, ◌≤◌, replicate}
use Rattle.row.specs.Limits.{max_short_bits}
use Rattle.row.specs.Tree.{OneTree}
use Rattle.app_line.specs.Input.{input_answer, line_words}
use Rattle.app_levels.specs.Levels.{lines_for}
use Rattle.app_levels.specs.Outline.{defined_lines}

-- The words before the text is read into them: 64 words that are 0, with room for 4,096 bits.
abbrev pub blank_words : List ℕ
blank_words = replicate 64 0

-- All output for the bytes s.
unfoldable pub printed : List ℕ → List ℕ
printed s = lines_for (input_answer s blank_words) (defined_lines (line_words s blank_words))

-- A row that the program prints: at most 4,096 bits, and one tree.
pub record ShortTree (ws : List ℕ) (n : ℕ) : Type 0 where
  pub short : n ≤ max_short_bits
  pub tree : OneTree ws n
