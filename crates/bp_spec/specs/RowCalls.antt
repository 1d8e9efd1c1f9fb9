-- SCOPE, The calls and Refusals: the calls that need no search, and what a call of this kind on a handle answers, refusals included.
-- Assumes nothing.
use Rattle.std.specs.Prelude.{Bool, cond, List, ℕ, ◌+◌, ltb, length}
use Rattle.row.specs.Answer.{Answer, at, nothing}
use Rattle.row.specs.Gates.{row_gate, handle_gate, and_then, through}
use Rattle.row.specs.Tree.{opens, closes}

-- Yes is the value 1, no is the value 0.
abbrev pub told : Bool → Answer
told b = cond b (at 1) (at 0)

-- Position i if it is an open bit of the row, otherwise nothing.
abbrev pub handle_at : List ℕ → ℕ → ℕ → Answer
handle_at ws n i = cond (opens ws n i) (at i) nothing

-- `root()` is 0, and nothing if n = 0.
unfoldable pub root : ℕ → Answer
root n = cond (ltb 0 n) (at 0) nothing

-- `first_child(v)` is v + 1 if position v + 1 is an open bit of the row, otherwise nothing.
unfoldable pub first_child : List ℕ → ℕ → ℕ → Answer
first_child ws n v = handle_at ws n (v + 1)

-- `is_leaf(v)` is yes if position v + 1 is a close bit of the row, else no.
unfoldable pub is_leaf : List ℕ → ℕ → ℕ → Answer
is_leaf ws n v = told (closes ws n (v + 1))

-- A call on a handle that needs no search: refusals 2, 3 and 5, then the call.
unfoldable pub handle_answer : (List ℕ → ℕ → ℕ → Answer) → List ℕ → ℕ → ℕ → Answer
handle_answer call ws n v = through (and_then (row_gate (length ws) n) (handle_gate ws n v)) (call ws n v)
