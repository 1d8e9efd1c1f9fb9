-- SCOPE, The program `levels`: the page by definition. The first line has the number of outline nodes and the number of bits. Each further
-- line has one outline node: level, open position, close position, parent. The lines go by level, and within a level from the left.
-- Assumes nothing.
use Rattle.std.specs.Prelude.{List, [], ◌∷◌, ◌++◌, ℕ, zero, suc, ◌/◌}
use Rattle.bp_spec.specs.declared.question.Question.TheVariants.{Close, Parent}
use Rattle.bp_spec.specs.Questions.{definition}
use Rattle.demands.specs.Handles.{level}
use Rattle.app_page.specs.Page.{decimal_of}
use Rattle.app_levels.specs.Shown.{line_of}

-- The lines of the outline nodes in a list, one after another.
abbrev pub lines_of : (ℕ → List ℕ) → List ℕ → List ℕ
lines_of line [] = []
lines_of line (v ∷ l) = line v ++ lines_of line l

module _ (ws : List ℕ) (n : ℕ) where
  -- The line of the outline node v on level k, with its close and its parent by definition.
  unfoldable pub defined_line : ℕ → ℕ → List ℕ
  defined_line k v = line_of k v (definition ws n (Close v)) (definition ws n (Parent v))

  -- The lines of the f levels from k on. Each level lists exactly its outline nodes, from the left.
  unfoldable pub defined_levels : ℕ → ℕ → List ℕ
  defined_levels k zero = []
  defined_levels k (suc f) = lines_of (defined_line k) (level ws n k) ++ defined_levels (suc k) f

  -- The page. A row of n bits has at most n levels.
  unfoldable pub defined_lines : List ℕ
  defined_lines = (decimal_of (n / 2) ++ (32 ∷ [])) ++ ((decimal_of n ++ (10 ∷ [])) ++ defined_levels 0 n)
