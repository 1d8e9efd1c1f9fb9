-- SCOPE, The calls and How a search walks (Where `level_rightmost` starts): the first and the last outline node of a level.
-- Each call is a rule over any two searches; below are the starts of `level_rightmost` and what both calls answer.
-- Assumes nothing.
use Rattle.std.specs.Prelude.{cond, ◌&&◌, List, ℕ, zero, suc, ◌+◌, ◌-◌, ◌*◌, ltb, eqb, ℤ, pos, negsuc, ◌+ℤ◌, ◌-ℤ◌, length}
use Rattle.row.specs.Answer.{Answer, at, nothing, refused}
use Rattle.row.specs.Bits.{bit_at}
use Rattle.row.specs.Gates.{through}
use Rattle.mmt_layout.specs.Layout.{nodes_gate}
use Rattle.mmt_node.specs.Nodes.{node_at}
use Rattle.walk_spec.specs.Walk.{fits}
use Rattle.bp_spec.specs.SearchPair.{Searches, walked, defined, onward, open_of}
use Rattle.bp_spec.specs.SearchCalls.{Promise}

module _ (ws : List ℕ) (n : ℕ) (s : Searches) where
  -- `level_leftmost(k)` is fwd(0, k), except that level 0 of a row with n > 0 gives 0.
  unfoldable pub level_leftmost : ℕ → Answer
  level_leftmost k = cond (eqb k 0 && ltb 0 n) (at 0) (s.fwd 0 (pos k))

  -- `level_rightmost(k)` is `open(j)` with j = bwd(i, k) from its start i, and nothing for k > n.
  unfoldable pub level_rightmost : Answer → ℕ → Answer
  level_rightmost start k = cond (ltb n k) nothing (onward start (λ i. onward (s.bwd i (pos k)) (open_of s)))

-- ---- where `level_rightmost` starts

-- The number of open bits among the first k bits.
unfoldable pub ones : List ℕ → ℕ → ℕ
ones ws zero = 0
ones ws (suc k) = ones ws k + bit_at ws k

-- The start by definition is 2*ones - 1 for the open bits of the row, and nothing if ones = 0.
unfoldable pub last_start : List ℕ → ℕ → Answer
last_start ws n = cond (eqb (ones ws n) 0) nothing (at (2 * ones ws n - 1))

-- An integer as a position of the row: nothing if it is below 0 or at least n.
abbrev pub in_row : ℕ → ℤ → Answer
in_row n (pos i) = cond (ltb i n) (at i) nothing
in_row n (negsuc i) = nothing

-- The start over any nodes is n + total - 1 of the root, after the root is examined; it is nothing on an empty row.
unfoldable pub root_start : ℕ → List ℤ → Answer
root_start n s = cond (eqb n 0) nothing (cond (fits (node_at s 0)) (in_row n (pos n +ℤ (node_at s 0).total -ℤ pos 1)) (refused 8))

-- ---- calls without a handle

-- A call on a level over any nodes: refusals 1 to 4, then the call by the walk.
unfoldable pub level_answer : (List ℕ → ℕ → Searches → ℕ → Answer) → List ℕ → ℕ → List ℤ → ℕ → ℕ → Answer
level_answer call ws n s B k = through (nodes_gate (length ws) n (length s) B) (call ws n (walked ws n s B) k)

-- `level_rightmost` over any nodes: refusals 1 to 4, then the call by the walk, with the start that the root gives.
unfoldable pub rightmost_answer : List ℕ → ℕ → List ℤ → ℕ → ℕ → Answer
rightmost_answer ws n s B k = through (nodes_gate (length ws) n (length s) B) (level_rightmost ws n (walked ws n s B) (root_start n s) k)

-- `level_rightmost` by definition, which starts at 2*ones - 1.
unfoldable pub rightmost_defined : List ℕ → ℕ → ℕ → Answer
rightmost_defined ws n k = level_rightmost ws n (defined ws n) (last_start ws n) k

-- The promise of a call on a level, and of `level_rightmost`.
abbrev pub LevelPromise : (List ℕ → ℕ → Searches → ℕ → Answer) → List ℕ → ℕ → List ℤ → ℕ → ℕ → Answer → Type 0
LevelPromise call ws n s B k = Promise ws n s B (level_answer call ws n s B k) (call ws n (defined ws n) k)

abbrev pub RightmostPromise : List ℕ → ℕ → List ℤ → ℕ → ℕ → Answer → Type 0
RightmostPromise ws n s B k = Promise ws n s B (rightmost_answer ws n s B k) (rightmost_defined ws n k)
