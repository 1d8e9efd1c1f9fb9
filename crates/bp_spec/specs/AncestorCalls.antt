-- SCOPE, The calls: `parent` and `is_ancestor`, each as a rule over any two searches; also what `is_ancestor` answers, refusals included.
-- Assumes nothing.
use Rattle.std.specs.Prelude.{◌&&◌, List, ℕ, ltb, leb, ℤ, length}
use Rattle.row.specs.Gates.{Gate}
use Rattle.row.specs.Answer.{Answer}
use Rattle.row.specs.Gates.{handle_gate, and_then, through}
use Rattle.mmt_layout.specs.Layout.{nodes_gate}
use Rattle.bp_spec.specs.RowCalls.{told}
use Rattle.bp_spec.specs.SearchCalls.{outward, Promise}
use Rattle.bp_spec.specs.SearchPair.{Searches, walked, defined, onward, close_of}

module _ (ws : List ℕ) (n : ℕ) (s : Searches) where
  -- `parent(v)` is `enclose(v)`: bwd(v, -1) at an open bit of the row, bwd(v, -2) at any other position.
  unfoldable pub parent : ℕ → Answer
  parent i = s.bwd i (outward ws n i)

  -- `is_ancestor(a, d)` is nothing if a has no close; with c = `close(a)` it is yes if a <= d < c, else no.
  unfoldable pub is_ancestor : ℕ → ℕ → Answer
  is_ancestor a d = onward (close_of s a) (λ c. told (leb a d && ltb d c))

-- ---- a call on two handles

-- `is_ancestor` tests both handles, a first, before it searches.
abbrev pub both_gate : List ℕ → ℕ → ℕ → ℕ → Gate
both_gate ws n a d = and_then (handle_gate ws n a) (handle_gate ws n d)

-- What `is_ancestor` answers over any nodes: refusals 1 to 5, then the call by the walk.
unfoldable pub ancestor_answer : List ℕ → ℕ → List ℤ → ℕ → ℕ → ℕ → Answer
ancestor_answer ws n s B a d = through (and_then (nodes_gate (length ws) n (length s) B) (both_gate ws n a d)) (is_ancestor ws n (walked ws n s B) a d)

-- `is_ancestor` by definition: refusal 5, then the call by the searches by definition.
unfoldable pub ancestor_defined : List ℕ → ℕ → ℕ → ℕ → Answer
ancestor_defined ws n a d = through (both_gate ws n a d) (is_ancestor ws n (defined ws n) a d)

-- The promise of `is_ancestor`.
abbrev pub AncestorPromise : List ℕ → ℕ → List ℤ → ℕ → ℕ → ℕ → Answer → Type 0
AncestorPromise ws n s B a d = Promise ws n s B (ancestor_answer ws n s B a d) (ancestor_defined ws n a d)
