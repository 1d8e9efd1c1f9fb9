-- The entries of each min-max node, and the buffer that a build writes (SCOPE, The node buffer: The entries, The build and the as-built test).
-- Assumes nothing.
use Rattle.std.specs.Prelude.{◌≡◌, cond, List, [], ◌∷◌, ℕ, zero, suc, ◌+◌, ◌-◌, ◌*◌, ◌≤◌, ◌<◌, min, ltb, ℤ, pos, get_or, length, set}
use Rattle.row.specs.Bits.{bit_at}
use Rattle.bits_stretch.specs.declared.summary.Summary.{Summary}
use Rattle.bits_stretch.specs.Summary.{none, summary_of, join_of, Tame}
use Rattle.mmt_layout.specs.Layout.{width, inner, count}

-- Node k has the entries 3k, 3k + 1 and 3k + 2 of the buffer: total, least and greatest.
unfoldable pub node_at : List ℤ → ℕ → Summary
node_at s k = record {
  total = get_or s (width * k) (pos 0);
  least = get_or s (width * k + 1) (pos 0);
  greatest = get_or s (width * k + 2) (pos 0);
}

-- The buffer s after the summary x is written to node k.
abbrev pub with_node : List ℤ → ℕ → Summary → List ℤ
with_node s k x = set (set (set s (width * k) x.total) (width * k + 1) x.least) (width * k + 2) x.greatest

-- Block leaf b has the summary of the bits of block b. The last block ends at n.
unfoldable pub leaf_of : List ℕ → ℕ → ℕ → ℕ → Summary
leaf_of ws n B b = summary_of (bit_at ws) (b * B) (min B (n - b * B))

-- Inner node k of m nodes is the join of its two children, a copy of an only left child, or (0, 0, 0) without children.
unfoldable pub inner_of : ℕ → (ℕ → Summary) → ℕ → Summary
inner_of m node k = cond (ltb (2 * k + 2) m) (join_of (node (2 * k + 1)) (node (2 * k + 2))) (cond (ltb (2 * k + 1) m) (node (2 * k + 1)) none)

-- The children of node k can be joined: the buffer s has all m nodes, and the entries of those after k are small.
pub record Joinable (s : List ℤ) (m k : ℕ) : Type 0 where
  pub long : width * m ≤ length s
  pub inside : k < m
  pub tame : (j : ℕ) → k < j → j < m → Tame (node_at s j)

-- The required entries of node k. Below I it is an inner node, computed from its children; node I + b is block leaf b.
unfoldable pub node_from : List ℕ → ℕ → ℕ → (ℕ → Summary) → ℕ → Summary
node_from ws n B node k = cond (ltb k (inner n B)) (inner_of (count n B) node k) (leaf_of ws n B (k - inner n B))

-- Each node from k on has its required entries, computed from its bits or from its children in the same buffer.
abbrev pub Ruled : List ℕ → ℕ → List ℤ → ℕ → ℕ → Type 0
Ruled ws n s B k = (j : ℕ) → k ≤ j → j < count n B → node_at s j ≡ node_from ws n B (node_at s) j

-- A buffer is as built if it has at least 3(L + I) entries and every node has its required entries.
pub record AsBuilt (ws : List ℕ) (n : ℕ) (s : List ℤ) (B : ℕ) : Type 0 where
  pub long : width * count n B ≤ length s
  pub node : Ruled ws n s B 0

-- Node k computed without a buffer, by a recursion of depth f. Children have greater indices, so f = L + I - k is deep enough.
unfoldable pub node_of : List ℕ → ℕ → ℕ → ℕ → ℕ → Summary
node_of ws n B zero k = none
node_of ws n B (suc f) k = node_from ws n B (node_of ws n B f) k

-- The entries of the c nodes from node k on, in the order of the nodes.
unfoldable pub listed : (ℕ → Summary) → ℕ → ℕ → List ℤ
listed node k zero = []
listed node k (suc c) = (node k).total ∷ (node k).least ∷ (node k).greatest ∷ listed node (suc k) c

-- The entries that a build writes: those of all L + I nodes, from node 0 on.
unfoldable pub written : List ℕ → ℕ → ℕ → List ℤ
written ws n B = listed (node_of ws n B (count n B)) 0 (count n B)
