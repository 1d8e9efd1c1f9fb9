-- The node buffer during a build (SCOPE, Shapes of code that are required: Bounds inside the code). No public promise depends on this file.
-- Assumes nothing.
use Rattle.std.specs.Prelude.{◌≡◌, List, ℕ, ◌*◌, ◌≤◌, ◌<◌, ℤ, pos, get_or, length}
use Rattle.mmt_layout.specs.Layout.{width, count}
use Rattle.mmt_node.specs.Nodes.{node_at, leaf_of, Ruled}

-- The first b nodes in the part of the block leaves are the first b block leaves.
abbrev pub Filled : List ℕ → ℕ → ℕ → ℕ → List ℤ → Type 0
Filled ws n B b part = (j : ℕ) → j < b → node_at part j ≡ leaf_of ws n B j

-- The buffer t is the buffer s during a build: the nodes from k on have their required entries.
-- The length and the entries after the nodes are unchanged.
pub record Leveled (ws : List ℕ) (n : ℕ) (s : List ℤ) (B : ℕ) (k : ℕ) (t : List ℤ) : Type 0 where
  pub nodes : Ruled ws n t B k
  pub past : (i : ℕ) → width * count n B ≤ i → get_or t i (pos 0) ≡ get_or s i (pos 0)
  pub same : length t ≡ length s
