-- The node buffer during a build: one more block leaf is filled, the part of the block leaves is put back, one more inner node is filled.
--   filled_more: one more block leaf is filled
--   leveled_down: one more inner node is filled
--   back_length: the buffer keeps its length when its c entries from a on were passed as a slice of their own, which contains ys afterwards
--   back_past: the entries after the slice are unchanged
--   back_node: the nodes inside the slice are those of ys
--   leveled_on: two parts of a build, one after the other
--   leaves_leveled: after the block leaves are filled, the nodes from I on have their required entries
--   leveled_written: after all nodes are filled, the buffer begins with the entries that a build writes
-- Assumes nothing.
use mathlib.Core.Path.{◌≡◌, ◌∙◌}
use mathlib.Core.List.{List, ◌++◌}
use Prim.Native.Nat.{ℕ, ◌+◌, ◌-◌, ◌*◌, ◌≤◌, ◌<◌}
use native.Mathlib.Omega.{arith}
use Rattle.std.proofs.lemmas.Grind.{common_steps, elements}
use lib.IntN.{ℤ, pos}
use borrow.Rule.Slice.PartMut.{put_mid}
use lib.ListN.{get_or, length, drop}
use Rattle.bits_stretch.specs.declared.summary.Summary.{Summary}
use Rattle.mmt_layout.specs.Layout.{width, leaves, inner, count}
use Rattle.mmt_node.specs.Nodes.{node_at, with_node, leaf_of, node_from, Ruled, written}
use Rattle.mmt_build.specs.Filling.{Filled, Leveled}
use Rattle.mmt_layout.proofs.Gates.{layout_leaves}
use Rattle.mmt_node.proofs.Nodes.{from_leaf, from_ext, put_length, node_put, other_number, node_other}
use Rattle.mmt_node.proofs.Written.{ruled_of, written_is}

-- ---- block leaves
pub filled_more : (ws : List ℕ) (n B b : ℕ) (part : List ℤ) (x : Summary) → width * (b + 1) ≤ length part → x ≡ leaf_of ws n B b
    → Filled ws n B b part → Filled ws n B (b + 1) (with_node part b x)
filled_more ws n B b part x h e f j l = grind (arith, node_other, node_put, f j)

-- ---- inner nodes
module _ (ws : List ℕ) (n : ℕ) (s t : List ℤ) (B : ℕ) (k : ℕ) (x : Summary) where
  -- if the nodes after k have their required entries, so do the nodes from k on after the write to node k
  put_rule : width * (k + 1) ≤ length t → x ≡ node_from ws n B (node_at t) k → Ruled ws n t B (k + 1) → Ruled ws n (with_node t k x) B k
  put_rule h e r j o i =
      let later = from_ext ws n B j (node_at t) (node_at (with_node t k x)) (λ g p q. grind (arith, node_other t k x g)) in
      grind (arith, r j, later, node_other t k x j, node_put t k x)

  pub leveled_down : width * count n B ≤ length t → k < count n B → x ≡ node_from ws n B (node_at t) k → Leveled ws n s B (k + 1) t
      → Leveled ws n s B k (with_node t k x)
  leveled_down h l e f = record {
    nodes = put_rule (omega arith) e f.nodes;
    past = λ i m. other_number t k x i (λ q. omega arith) (λ q. omega arith) (λ q. omega arith) ∙ f.past i m;
    same = put_length t k x ∙ f.same;
  }

-- ---- the c entries from a on are passed as a slice of their own, which contains ys afterwards
module _ (a c : ℕ) (s ys : List ℤ) (room : a + c ≤ length s) (size : length ys ≡ c) where
  pub back_length : length (put_mid a c s ys) ≡ length s
  back_length = grind (arith, common_steps)

  in_part : (i : ℕ) → i < c → get_or (put_mid a c s ys) (a + i) (pos 0) ≡ get_or ys i (pos 0)
  in_part i h = grind (arith, elements)

  pub back_past : (i : ℕ) → a + c ≤ i → get_or (put_mid a c s ys) i (pos 0) ≡ get_or s i (pos 0)
  back_past i h = grind (arith, elements)

  pub back_node : (k j : ℕ) → a ≡ width * k → width * (j + 1) ≤ c → node_at (put_mid a c s ys) (k + j) ≡ node_at ys j
  unfolding node_at
  back_node k j e h = grind (arith, in_part (width * j), in_part (width * j + 1), in_part (width * j + 2))

-- ---- all nodes
pub leveled_on : (ws : List ℕ) (n : ℕ) (s t u : List ℤ) (B : ℕ) (k j : ℕ) → Leveled ws n s B k t → Leveled ws n t B j u → Leveled ws n s B j u
leveled_on ws n s t u B k j f g = record { nodes = g.nodes; past = λ i l. g.past i l ∙ f.past i l; same = g.same ∙ f.same }

module _ (ws : List ℕ) (n : ℕ) (s : List ℤ) (B : ℕ) (long : width * count n B ≤ length s) where
  pub leaves_leveled : 0 < B → (a c : ℕ) (ys : List ℤ) → a ≡ width * inner n B → a + c ≡ width * count n B → length ys ≡ c
      → Filled ws n B (leaves n B) ys → Leveled ws n s B (inner n B) (put_mid a c s ys)
  leaves_leveled pB a c ys p q e f = record {
    nodes = λ j o i. let b = j - inner n B in grind (arith, f b, back_node a c s ys (omega arith) e (inner n B) b, layout_leaves, from_leaf);
    past = λ i l. back_past a c s ys (omega arith) e i (omega arith);
    same = back_length a c s ys (omega arith) e;
  }

  pub leveled_written : (t : List ℤ) → Leveled ws n s B 0 t → t ≡ written ws n B ++ drop (width * count n B) s
  leveled_written t f = written_is ws n B s t long f.same (λ k h. ruled_of ws n B t 0 f.nodes k (omega arith) h) f.past
