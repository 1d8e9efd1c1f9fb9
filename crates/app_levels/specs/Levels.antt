-- SCOPE, The program `levels`: the lines of a level, the lines of all levels, and the page, over any node buffer and with B = 64.
-- Assumes nothing.
use Rattle.std.specs.Prelude.{List, [], ◌∷◌, ◌++◌, ℕ, zero, suc, ◌/◌, ℤ}
use Rattle.row.specs.Answer.{Answer, at, nothing, refused}
use Rattle.bp_spec.specs.HandleCalls.{node_answer}
use Rattle.bp_spec.specs.LevelCalls.{level_next}
use Rattle.bp_spec.specs.LevelEnds.{level_leftmost, level_answer}
use Rattle.app_page.specs.Page.{decimal_of}
use Rattle.app_levels.specs.Shown.{refusal_line, node_line}

-- The lines that follow from an answer: those of the answered position, no line for nothing, the refusal line for a refusal.
abbrev pub lines_for : Answer → (ℕ → List ℕ) → List ℕ
lines_for (at v) lines = lines v
lines_for nothing lines = []
lines_for (refused k) lines = refusal_line k

module _ (ws : List ℕ) (n : ℕ) (s : List ℤ) where
  -- The lines after the line of v on level k: by `level_next` until nothing or a refusal, at most f lines.
  unfoldable pub next_lines : ℕ → ℕ → ℕ → List ℕ
  next_lines k zero v = []
  next_lines k (suc f) v = lines_for (node_answer level_next ws n s 64 v) (λ w. node_line ws n s k w ++ next_lines k f w)

  -- The lines of level k from its outline node v on: the line of v and at most n lines after it.
  unfoldable pub level_lines : ℕ → ℕ → List ℕ
  level_lines k v = node_line ws n s k v ++ next_lines k n v

  -- The lines of the levels from k on: each level from `level_leftmost` on, until nothing or a refusal, at most f levels.
  unfoldable pub levels_lines : ℕ → ℕ → List ℕ
  levels_lines k zero = []
  levels_lines k (suc f) = lines_for (level_answer level_leftmost ws n s 64 k) (λ v. level_lines k v ++ levels_lines (suc k) f)

  -- The page: the first line, with the number of outline nodes and the number of bits, and then the levels from 0 on, at most n of them.
  unfoldable pub tree_lines : List ℕ
  tree_lines = (decimal_of (n / 2) ++ (32 ∷ [])) ++ ((decimal_of n ++ (10 ∷ [])) ++ levels_lines 0 n)
