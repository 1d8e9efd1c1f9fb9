-- SCOPE, Listing children: the first handle of a listing, and what the listing holds after each step.
-- The direction is a Bool: true for `children`, false for `rev_children`.
-- Assumes nothing.
use Rattle.std.specs.Prelude.{Bool, true, false, List, ℕ, ◌<◌, ℤ}
use Rattle.row.specs.Answer.{Answer, at, nothing, refused}
use Rattle.bp_spec.specs.RowCalls.{first_child}
use Rattle.bp_spec.specs.SearchPair.{Searches}
use Rattle.bp_spec.specs.HandleCalls.{node_answer}
use Rattle.bp_spec.specs.SiblingCalls.{last_child, next_sibling, previous_sibling}

-- The first handle: `first_child(v)` for `children`, `last_child(v)` for `rev_children`.
abbrev pub start_call : Bool → List ℕ → ℕ → Searches → ℕ → Answer
start_call true ws n s = first_child ws n
start_call false ws n s = last_child ws n s

-- The next handle: `next_sibling(v)` for `children`, `previous_sibling(v)` for `rev_children`.
abbrev pub next_call : Bool → List ℕ → ℕ → Searches → ℕ → Answer
next_call true = next_sibling
next_call false = previous_sibling

-- What the constructor finds: refusals 1 to 5 in this order, then the first handle.
unfoldable pub sought : Bool → List ℕ → ℕ → List ℤ → ℕ → ℕ → Answer
sought rising ws n s B v = node_answer (start_call rising) ws n s B v

-- The answer of the constructor: the refusal that it met, otherwise the value 0, like a successful build.
abbrev pub making : Answer → Answer
making (at v) = at 0
making nothing = at 0
making (refused k) = refused k

-- What the listing holds at first: the answer found, or nothing after a refusal.
abbrev pub begun : Answer → Answer
begun (at v) = at v
begun nothing = nothing
begun (refused k) = nothing

-- What the listing holds after a step: after a handle the answer of its sibling call, after a refusal or `nothing` the answer `nothing`.
abbrev pub held_after : Bool → List ℕ → ℕ → List ℤ → ℕ → Answer → Answer
held_after rising ws n s B (at v) = node_answer (next_call rising) ws n s B v
held_after rising ws n s B nothing = nothing
held_after rising ws n s B (refused k) = nothing

-- If the answer is a position, it is below m.
abbrev pub Below : ℕ → Answer → Type 0
Below m (at v) = v < m
Below m nothing = Unit {0}
Below m (refused k) = Unit {0}
