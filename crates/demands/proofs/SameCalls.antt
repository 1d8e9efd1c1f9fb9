-- Besides its searches a call reads only bits of the row before n, and so do a build and the as-built test. So they read the same over two
-- rows with the same first n bits. Calls that are not named here read the row only through their searches.
--   all_same: two tests that agree on the numbers below c; opening, closing: the open bits and the close bits of the row
--   gate_same: the gate of a handle
--   outward_same: the difference that `enclose` searches; first_child_same, is_leaf_same: calls without a search
--   parent_same, last_child_same, next_sibling_same, previous_sibling_same: calls over any pair of searches
--   leaf_same, from_same, nodes_same: a block leaf, the rule of one min-max node, all min-max nodes
--   written_same: the entries that a build writes; built_same: the as-built test
-- Assumes nothing.
use mathlib.Core.Path.{◌≡◌, refl, ap, ap₂, ◌∙◌, fun_ext}
use mathlib.Core.Bool.{Bool, ◌&&◌, cond}
use mathlib.Core.List.{List}
use Prim.Native.Nat.{ℕ, zero, suc, ◌+◌, ◌-◌, ◌*◌, ◌<◌, min}
use native.Mathlib.Omega.{arith}
use lib.Dec.{ltb}
use lib.IntN.{ℤ}
use Rattle.row.specs.Bits.{bit_at}
use Rattle.row.specs.Gates.{handle_gate}
use Rattle.row.specs.Tree.{opens, closes, all_below}
use Rattle.row.proofs.Surplus.{Same, opens_same, closes_same}
use Rattle.bits_stretch.specs.declared.summary.Summary.{Summary}
use Rattle.bits_stretch.proofs.Full.{summary_ext}
use Rattle.mmt_layout.specs.Layout.{inner, count}
use Rattle.bp_spec.specs.RowCalls.{first_child, is_leaf}
use Rattle.mmt_node.specs.Nodes.{node_at, leaf_of, inner_of, node_from, node_of, listed, written}
use Rattle.mmt_node.proofs.Nodes.{from_ext}
use Rattle.mmt_build.specs.Check.{same_summary, built_test}
use Rattle.bp_spec.specs.SearchPair.{Searches}
use Rattle.bp_spec.specs.SearchCalls.{outward}
use Rattle.bp_spec.specs.AncestorCalls.{parent}
use Rattle.bp_spec.specs.SiblingCalls.{last_child, next_sibling, previous_sibling}
use Rattle.demands.proofs.SameWalk.{Alike}

all_same : (p q : ℕ → Bool) (c : ℕ) → ((k : ℕ) → k < c → p k ≡ q k) → all_below p c ≡ all_below q c
unfolding all_below
all_same p q zero h = refl
all_same p q (suc c) h = ap₂ ◌&&◌ (h c (omega arith)) (all_same p q c (λ k l. h k (omega arith)))

module _ (ws vs : List ℕ) (n : ℕ) (same : Same ws vs n) where
  opening : opens ws n ≡ opens vs n
  opening = fun_ext (opens_same ws vs n same)

  closing : closes ws n ≡ closes vs n
  closing = fun_ext (closes_same ws vs n same)

  pub gate_same : (v : ℕ) → handle_gate ws n v ≡ handle_gate vs n v
  unfolding handle_gate
  gate_same v = rw opening

  -- ---- calls without a search
  pub outward_same : (i : ℕ) → outward ws n i ≡ outward vs n i
  unfolding outward
  outward_same i = rw opening

  pub first_child_same : (v : ℕ) → first_child ws n v ≡ first_child vs n v
  unfolding first_child
  first_child_same v = rw opening

  pub is_leaf_same : (v : ℕ) → is_leaf ws n v ≡ is_leaf vs n v
  unfolding is_leaf
  is_leaf_same v = rw closing

  -- ---- calls by searches
  module _ (s : Searches) where
    pub parent_same : (v : ℕ) → parent ws n s v ≡ parent vs n s v
    unfolding parent
    parent_same v = ap (s.bwd v) (outward_same v)

    pub last_child_same : (v : ℕ) → last_child ws n s v ≡ last_child vs n s v
    unfolding last_child
    last_child_same v = rw opening

    pub next_sibling_same : (v : ℕ) → next_sibling ws n s v ≡ next_sibling vs n s v
    unfolding next_sibling
    next_sibling_same v = rw opening

    pub previous_sibling_same : (v : ℕ) → previous_sibling ws n s v ≡ previous_sibling vs n s v
    unfolding previous_sibling
    previous_sibling_same v = rw closing

  -- ---- min-max nodes
  module _ (B : ℕ) where
    leaf_same : (b : ℕ) → leaf_of ws n B b ≡ leaf_of vs n B b
    unfolding leaf_of
    leaf_same b = summary_ext (bit_at ws) (bit_at vs) (b * B) (b * B) (min B (n - b * B)) (λ k l. same (b * B + k) (omega arith))

    from_same : (node : ℕ → Summary) (k : ℕ) → node_from ws n B node k ≡ node_from vs n B node k
    unfolding node_from
    from_same node k = ap (cond (ltb k (inner n B)) (inner_of (count n B) node k)) (leaf_same (k - inner n B))

    nodes_same : (f k : ℕ) → node_of ws n B f k ≡ node_of vs n B f k
    unfolding node_of
    nodes_same zero k = refl
    nodes_same (suc f) k =
        from_same (node_of ws n B f) k ∙ ap (λ (node : ℕ → Summary). node_from vs n B node k) (fun_ext (nodes_same f))

    pub written_same : written ws n B ≡ written vs n B
    unfolding written
    written_same = ap (λ (node : ℕ → Summary). listed node 0 (count n B)) (fun_ext (nodes_same (count n B)))

    pub built_same : (s t : List ℤ) → Alike s t (count n B) → built_test ws n s B ≡ built_test vs n t B
    unfolding built_test
    built_same s t e =
        all_same (λ k. same_summary (node_at s k) (node_from ws n B (node_at s) k))
        (λ k. same_summary (node_at t k) (node_from vs n B (node_at t) k)) (count n B)
        (λ k l. ap₂ same_summary (e k l) (from_same (node_at s) k ∙ from_ext vs n B k (node_at s) (node_at t) (λ j i m. e j m)))
