-- The parts of a plan, and the requirements of the functions that fill and test nodes (SCOPE, Shapes of code that are required: Bounds
-- inside the code). No public promise depends on this file.
-- Assumes nothing.
use Rattle.std.specs.Prelude.{◌≡◌, List, ℕ, ◌+◌, ◌*◌, ◌≤◌, ◌<◌, ℤ, length}
use Rattle.mmt_layout.specs.Layout.{width, inner, count}
use Rattle.mmt_node.specs.Nodes.{Ruled}
use Rattle.mmt_build.specs.declared.plan.Plan.{Plan}

-- The plan p has the words ws, n bits and the block size B.
pub record HasParts (ws : List ℕ) (n B : ℕ) (p : Plan) : Type 0 where
  pub words : p.words.now ≡ ws
  pub bits : p.n ≡ n
  pub block : p.block ≡ B

-- The buffer s has room for all nodes. This is test 4.
abbrev pub HasRoom : Plan → List ℤ → Type 0
HasRoom p s = width * count p.n p.block ≤ length s

-- The inner nodes of the buffer s can be filled: the block leaves have their required entries.
pub record LeavesRuled (p : Plan) (s : List ℤ) : Type 0 where
  pub room : HasRoom p s
  pub ruled : Ruled p.words.now p.n s p.block (inner p.n p.block)

-- Node k of the buffer s can be computed: the nodes after k have their required entries.
pub record LaterRuled (p : Plan) (s : List ℤ) (k : ℕ) : Type 0 where
  pub room : HasRoom p s
  pub inside : k < count p.n p.block
  pub ruled : Ruled p.words.now p.n s p.block (k + 1)
