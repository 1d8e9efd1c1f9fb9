-- SCOPE, The calls and Refusals: what a call on one handle answers over any nodes, and what it answers by definition.
-- Assumes nothing.
use Rattle.std.specs.Prelude.{List, ℕ, ℤ, length}
use Rattle.row.specs.Answer.{Answer}
use Rattle.row.specs.Gates.{handle_gate, and_then, through}
use Rattle.mmt_layout.specs.Layout.{nodes_gate}
use Rattle.bp_spec.specs.SearchPair.{Searches, walked, defined}
use Rattle.bp_spec.specs.SearchCalls.{Promise}

-- A call on a handle over any nodes: refusals 1 to 5, then the call by the walk.
unfoldable pub node_answer : (List ℕ → ℕ → Searches → ℕ → Answer) → List ℕ → ℕ → List ℤ → ℕ → ℕ → Answer
node_answer call ws n s B v = through (and_then (nodes_gate (length ws) n (length s) B) (handle_gate ws n v)) (call ws n (walked ws n s B) v)

-- A call on a handle by definition: refusal 5, then the call by the searches by definition.
unfoldable pub node_defined : (List ℕ → ℕ → Searches → ℕ → Answer) → List ℕ → ℕ → ℕ → Answer
node_defined call ws n v = through (handle_gate ws n v) (call ws n (defined ws n) v)

-- The promise of a call on a handle.
abbrev pub HandlePromise : (List ℕ → ℕ → Searches → ℕ → Answer) → List ℕ → ℕ → List ℤ → ℕ → ℕ → Answer → Type 0
HandlePromise call ws n s B v = Promise ws n s B (node_answer call ws n s B v) (node_defined call ws n v)
