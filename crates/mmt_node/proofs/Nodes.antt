-- Laws of one min-max node: its entries by cases, the nodes on which they depend, and a write to the buffer.
--   inner_both, inner_left, inner_none: an inner node with two children, with a left child only, and without children
--   from_inner, from_leaf: a node below I is an inner node, a node from I on is a block leaf
--   from_ext: a node depends only on nodes with greater indices
--   put_length: a write to node k keeps the length of the buffer
--   node_put: after the write, node k has the written entries
--   other_number, node_other: the write changes no other entry and no other node
-- Assumes nothing.
use mathlib.Core.Path.{◌≡◌}
use mathlib.Core.List.{List}
use Prim.Native.Nat.{ℕ, ◌+◌, ◌-◌, ◌*◌, ◌≤◌, ◌<◌}
use native.Mathlib.Omega.{arith}
use Rattle.std.proofs.lemmas.Grind.{common_steps}
use lib.IntN.{ℤ, pos}
use lib.ListN.{get_or, length}
use Rattle.bits_stretch.specs.declared.summary.Summary.{Summary}
use Rattle.bits_stretch.specs.Summary.{none, join_of}
use Rattle.mmt_layout.specs.Layout.{width, inner, count}
use Rattle.mmt_node.specs.Nodes.{node_at, with_node, leaf_of, inner_of, node_from}

-- ---- an inner node of a tree with m nodes
module _ (m : ℕ) (node : ℕ → Summary) (k : ℕ) where
  pub inner_both : 2 * k + 2 < m → join_of (node (2 * k + 1)) (node (2 * k + 2)) ≡ inner_of m node k
  unfolding inner_of
  inner_both h = grind arith

  pub inner_left : m ≤ 2 * k + 2 → 2 * k + 1 < m → node (2 * k + 1) ≡ inner_of m node k
  unfolding inner_of
  inner_left h l = grind arith

  pub inner_none : m ≤ 2 * k + 1 → none ≡ inner_of m node k
  unfolding inner_of
  inner_none h = grind arith

-- ---- any node
module _ (ws : List ℕ) (n B : ℕ) (node : ℕ → Summary) (k : ℕ) where
  pub from_inner : k < inner n B → node_from ws n B node k ≡ inner_of (count n B) node k
  unfolding node_from
  from_inner h = grind arith

  pub from_leaf : inner n B ≤ k → node_from ws n B node k ≡ leaf_of ws n B (k - inner n B)
  unfolding node_from
  from_leaf h = grind arith

pub from_ext : (ws : List ℕ) (n B k : ℕ) (f g : ℕ → Summary) → ((j : ℕ) → k < j → j < count n B → f j ≡ g j) → node_from ws n B f k ≡ node_from ws n B g k
unfolding node_from inner_of
from_ext ws n B k f g p = grind (arith, p (2 * k + 1), p (2 * k + 2))

-- ---- the buffer after a write to node k
module _ (s : List ℤ) (k : ℕ) (x : Summary) where
  pub put_length : length (with_node s k x) ≡ length s
  put_length = grind (arith, common_steps)

  pub node_put : width * (k + 1) ≤ length s → node_at (with_node s k x) k ≡ x
  unfolding node_at
  node_put h = grind (arith, common_steps)

  -- an entry that does not belong to node k is unchanged
  pub other_number : (i : ℕ) → (i ≡ width * k → ⊥) → (i ≡ width * k + 1 → ⊥) → (i ≡ width * k + 2 → ⊥) → get_or (with_node s k x) i (pos 0) ≡ get_or s i (pos 0)
  other_number i p q r = grind (arith, common_steps)

  pub node_other : (j : ℕ) → (j ≡ k → ⊥) → node_at (with_node s k x) j ≡ node_at s j
  unfolding node_at
  node_other j d = grind (arith, common_steps)
