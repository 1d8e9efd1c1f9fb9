-- SCOPE, The calls: the calls along a level and up the levels, each as a rule over any two searches.
-- HandleCalls says what these calls answer, refusals included.
-- Assumes nothing.
use Rattle.std.specs.Prelude.{cond, List, ℕ, eqb, pos, neg_ℤ}
use Rattle.row.specs.Answer.{Answer, at}
use Rattle.bp_spec.specs.SearchPair.{Searches, onward, close_of, open_of}

module _ (ws : List ℕ) (n : ℕ) (s : Searches) where
  -- `level_next(v)` is fwd(c, 1) with c = `close(v)`.
  unfoldable pub level_next : ℕ → Answer
  level_next v = onward (close_of s v) (λ c. s.fwd c (pos 1))

  -- `level_prev(v)` is `open(j)` with j = bwd(v, 1).
  unfoldable pub level_prev : ℕ → Answer
  level_prev v = onward (s.bwd v (pos 1)) (open_of s)

-- `level_ancestor(v, k)` is bwd(v, -k) for k > 0, and v for k = 0.
unfoldable pub level_ancestor : ℕ → List ℕ → ℕ → Searches → ℕ → Answer
level_ancestor k ws n s v = cond (eqb k 0) (at v) (s.bwd v (neg_ℤ (pos k)))
