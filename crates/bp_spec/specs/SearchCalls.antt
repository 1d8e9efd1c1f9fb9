-- SCOPE, The two searches and How a search walks: what a search answers over any nodes, and how far `enclose` searches.
-- Assumes nothing.
use Rattle.std.specs.Prelude.{◌≡◌, cond, List, ℕ, ℤ, negsuc, length}
use Rattle.std.specs.Prelude.{Ok}
use Rattle.row.specs.Answer.{Answer}
use Rattle.row.specs.Gates.{through}
use Rattle.row.specs.Search as search
use Rattle.row.specs.Tree.{opens}
use Rattle.row.specs.Way.{Way, forward, backward}
use Rattle.mmt_layout.specs.Layout.{nodes_gate}
use Rattle.mmt_node.specs.Nodes.{AsBuilt}
use Rattle.walk_spec.specs.Walk.{walk}

-- A search in direction w: refusals 1, 2, 3 and 4, then the walk, over any words, nodes, position and r.
unfoldable pub search_answer : Way → List ℕ → ℕ → List ℤ → ℕ → ℕ → ℤ → Answer
search_answer w ws n s B i r = through (nodes_gate (length ws) n (length s) B) (walk w ws n s B i r).answer

-- What `fwd_search` answers.
abbrev pub fwd_answer : List ℕ → ℕ → List ℤ → ℕ → ℕ → ℤ → Answer
fwd_answer = search_answer forward

-- What `bwd_search` answers.
abbrev pub bwd_answer : List ℕ → ℕ → List ℤ → ℕ → ℕ → ℤ → Answer
bwd_answer = search_answer backward

-- If refusals 1 to 4 pass and the nodes are as built for this row, n and B, the answer a equals the definition d.
abbrev pub WhereBuilt : List ℕ → ℕ → List ℤ → ℕ → Answer → Answer → Type 0
WhereBuilt ws n s B a d = nodes_gate (length ws) n (length s) B ≡ (Ok tt) → AsBuilt ws n s B → a ≡ d

-- The promise of a call over nodes: its answer a is x, by the walk over any nodes; over nodes as built it is the definition d.
pub record Promise (ws : List ℕ) (n : ℕ) (s : List ℤ) (B : ℕ) (x d a : Answer) : Type 0 where
  pub answer : a ≡ x
  pub as_built : WhereBuilt ws n s B a d

-- The promises of the two searches.
abbrev pub FwdPromise : List ℕ → ℕ → List ℤ → ℕ → ℕ → ℤ → Answer → Type 0
FwdPromise ws n s B i r = Promise ws n s B (fwd_answer ws n s B i r) (search.fwd ws n i r)

abbrev pub BwdPromise : List ℕ → ℕ → List ℤ → ℕ → ℕ → ℤ → Answer → Type 0
BwdPromise ws n s B i r = Promise ws n s B (bwd_answer ws n s B i r) (search.bwd ws n i r)

-- `enclose` searches for -1 at an open bit of the row and for -2 at any other position.
unfoldable pub outward : List ℕ → ℕ → ℕ → ℤ
outward ws n i = cond (opens ws n i) (negsuc 0) (negsuc 1)
