-- The entries that a build writes. Every buffer as built begins with exactly these entries.
--   of_stable: `node_of` does not depend on the depth of its recursion, if it is deep enough
--   node: `node_of` with a depth that is enough for every node
--   of_rule: `node` gives each node its required entries
--   ruled_of: nodes from k₀ on that have their required entries equal `node`
--   of_ruled: in a buffer whose nodes all equal `node`, each node has its required entries
--   ruled_same: two buffers in which each node has its required entries have the same nodes
--   listed_length, node_listed: the length of a list of entries, and the nodes in it
--   same_numbers: two buffers with the same nodes have the same entries
--   written_length: a build writes 3(L + I) entries
--   written_node: the written entries contain the nodes `node`
--   written_built: the written entries, followed by any other entries, are as built
--   written_is: a buffer with the nodes `node` and an unchanged rest consists of the written entries and that rest
-- Assumes nothing.
use mathlib.Core.Path.{◌≡◌, refl, sym, ◌∙◌}
use mathlib.Core.List.{List, ◌++◌}
use Prim.Native.Nat.{ℕ, zero, suc, ◌+◌, ◌*◌, ◌/◌, ◌≤◌, ◌<◌}
use native.Mathlib.Omega.{arith}
use lib.IntN.{ℤ, pos}
use Rattle.std.proofs.lemmas.Grind.{common_steps}
use lib.ListN.{get_or, length, drop, length-append, length-drop, get_or-append}
use lib.Seq.{ext_get_or}
use Rattle.bits_stretch.specs.declared.summary.Summary.{Summary}
use Rattle.mmt_layout.specs.Layout.{width, count}
use Rattle.mmt_node.specs.Nodes.{node_at, node_from, Ruled, AsBuilt, node_of, listed, written}
use Rattle.mmt_node.proofs.Nodes.{from_ext}

-- ---- a node computed without a buffer
module _ (ws : List ℕ) (n B : ℕ) where
  pub of_stable : (f g k : ℕ) → count n B ≤ k + f → count n B ≤ k + g → k < count n B → node_of ws n B f k ≡ node_of ws n B g k
  unfolding node_of
  of_stable zero g k p q i = absurd (omega arith)
  of_stable (suc f) zero k p q i = absurd (omega arith)
  of_stable (suc f) (suc g) k p q i = grind (arith, from_ext, of_stable f g)

  abbrev pub node : ℕ → Summary
  node = node_of ws n B (count n B)

  one_more : (k : ℕ) → node_of ws n B (suc (count n B)) k ≡ node_from ws n B node k
  unfolding node_of
  one_more k = refl

  pub of_rule : (k : ℕ) → k < count n B → node k ≡ node_from ws n B node k
  of_rule k i = of_stable (count n B) (suc (count n B)) k (omega arith) (omega arith) i ∙ one_more k

  -- ---- nodes as built
  module _ (s : List ℤ) (k₀ : ℕ) (ruled : Ruled ws n s B k₀) where
    late : (c k : ℕ) → count n B ≤ k + c → k₀ ≤ k → k < count n B → node_at s k ≡ node k
    late zero k l o i = absurd (omega arith)
    late (suc c) k l o i = ruled k o i ∙ from_ext ws n B k (node_at s) node (λ j g h. late c j (omega arith) (omega arith) h) ∙ sym (of_rule k i)

    pub ruled_of : (k : ℕ) → k₀ ≤ k → k < count n B → node_at s k ≡ node k
    ruled_of k o i = late (count n B) k (omega arith) o i

  pub of_ruled : (s : List ℤ) → ((k : ℕ) → k < count n B → node_at s k ≡ node k) → Ruled ws n s B 0
  of_ruled s h k o i = h k i ∙ of_rule k i ∙ from_ext ws n B k node (node_at s) (λ j l m. sym (h j m))

  pub ruled_same : (s t : List ℤ) → Ruled ws n s B 0 → Ruled ws n t B 0 → (k : ℕ) → k < count n B → node_at s k ≡ node_at t k
  ruled_same s t p q k i = ruled_of s 0 p k (omega arith) i ∙ sym (ruled_of t 0 q k (omega arith) i)

-- ---- a list of nodes
pub listed_length : (node : ℕ → Summary) (k c : ℕ) → length (listed node k c) ≡ width * c
unfolding listed
listed_length node k zero = refl
listed_length node k (suc c) = omega (arith, listed_length node (suc k) c)

pub node_listed : (node : ℕ → Summary) (c k j : ℕ) → j < c → node_at (listed node k c) j ≡ node (k + j)
unfolding listed node_at
node_listed node zero k j h = absurd (omega arith)
node_listed node (suc c) k zero h = grind arith
node_listed node (suc c) k (suc j) h = grind (arith, node_listed node c (suc k) j, common_steps)

-- ---- entries and nodes
pub same_numbers : (s t : List ℤ) (m : ℕ) → ((k : ℕ) → k < m → node_at s k ≡ node_at t k) → (i : ℕ) → i < width * m → get_or s i (pos 0) ≡ get_or t i (pos 0)
unfolding node_at
same_numbers s t m h i l = grind (arith, h (i / 3))

-- ---- the buffer that a build writes
module _ (ws : List ℕ) (n B : ℕ) where
  pub written_length : length (written ws n B) ≡ width * count n B
  unfolding written
  written_length = listed_length (node ws n B) 0 (count n B)

  written_at : (k : ℕ) → k < count n B → node_at (written ws n B) k ≡ node ws n B k
  unfolding written
  written_at k i = grind (arith, node_listed)

  pub written_node : (rest : List ℤ) (k : ℕ) → k < count n B → node_at (written ws n B ++ rest) k ≡ node ws n B k
  unfolding node_at
  written_node rest k i = grind (arith, get_or-append, written_length, written_at k)

  -- the written entries, followed by any other entries, are as built
  pub written_built : (rest : List ℤ) → AsBuilt ws n (written ws n B ++ rest) B
  written_built rest = record {
    long = grind (arith, written_length, length-append);
    node = of_ruled ws n B (written ws n B ++ rest) (written_node rest);
  }

  pub written_is : (s t : List ℤ) → width * count n B ≤ length s → length t ≡ length s → ((k : ℕ) → k < count n B → node_at t k ≡ node ws n B k)
      → ((i : ℕ) → width * count n B ≤ i → get_or t i (pos 0) ≡ get_or s i (pos 0)) → t ≡ written ws n B ++ drop (width * count n B) s
  written_is s t long same nodes rest = ext_get_or (pos 0) t (written ws n B ++ drop (width * count n B) s) size each
    where
      size : length t ≡ length (written ws n B ++ drop (width * count n B) s)
      size = grind (arith, written_length, length-append, length-drop)

      each : (i : ℕ) → i < length t → get_or t i (pos 0) ≡ get_or (written ws n B ++ drop (width * count n B) s) i (pos 0)
      each i l = grind (arith, same_numbers t (written ws n B ++ drop (width * count n B) s) (count n B), written_node, written_length, common_steps)
