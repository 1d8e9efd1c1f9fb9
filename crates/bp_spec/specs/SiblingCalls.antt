-- SCOPE, The calls: `last_child`, `next_sibling` and `previous_sibling`, each as a rule over any two searches.
-- Assumes nothing.
use Rattle.std.specs.Prelude.{cond, ◌&&◌, List, ℕ, ◌+◌, ◌-◌, ltb}
use Rattle.row.specs.Answer.{Answer, nothing}
use Rattle.row.specs.Tree.{opens, closes}
use Rattle.bp_spec.specs.RowCalls.{handle_at}
use Rattle.bp_spec.specs.SearchPair.{Searches, onward, close_of, open_of}

module _ (ws : List ℕ) (n : ℕ) (s : Searches) where
  -- `last_child(v)` is `open(c - 1)` with c = `close(v)`, if position v + 1 is an open bit of the row; otherwise nothing.
  unfoldable pub last_child : ℕ → Answer
  last_child v = cond (opens ws n (v + 1)) (onward (close_of s v) (λ c. open_of s (c - 1))) nothing

  -- `next_sibling(v)` is c + 1 with c = `close(v)`, if position c + 1 is an open bit of the row; otherwise nothing.
  unfoldable pub next_sibling : ℕ → Answer
  next_sibling v = onward (close_of s v) (λ c. handle_at ws n (c + 1))

  -- `previous_sibling(v)` is `open(v - 1)` if v > 0 and position v - 1 is a close bit of the row; otherwise nothing.
  unfoldable pub previous_sibling : ℕ → Answer
  previous_sibling v = cond (ltb 0 v && closes ws n (v - 1)) (open_of s (v - 1)) nothing
