-- If the min-max nodes from k₀ on have their required entries, each of them has the summary of the bits that it covers.
-- The bits that a node covers are called its stretch.
--   Node: x is the summary of the stretch from a to t, or (0, 0, 0) if the stretch is empty
--   start_of: the position at which the stretch of node k begins; it ends where the stretch of node k + 1 begins
--   top: the height of the root
--   start_child: the stretch of a left child begins where that of its parent begins
--   start_le: no stretch begins after n
--   start_mono, start_lt: a stretch does not end before it begins; it has a bit if it begins before n
--   start_leaf: the stretch of block leaf b begins with block b
--   inside: a node with a height above 0 is an inner node
--   absent: the stretch of a node that does not exist begins at n
--   covers: each node has the summary of its stretch, in the sense of `Node`
--   node_is: the entries of a node are `summary_of` its stretch
--   ruled_tame: the entries of a node are small enough to be joined
-- Assumes nothing.
use mathlib.Core.Path.{◌≡◌, refl, sym, ap, ◌∙◌}
use mathlib.Core.List.{List}
use Prim.Native.Nat.{ℕ, zero, suc, ◌+◌, ◌-◌, ◌*◌, ◌≤◌, ◌<◌, min}
use native.Mathlib.Omega.{arith}
use Rattle.std.proofs.lemmas.Int.{ints}
use native.Mathlib.Decide.{dec_lt}
use lib.IntN.{ℤ}
use lib.Pow.{pow_pos}
use Rattle.row.specs.Limits.{max_bits}
use Rattle.ints.specs.Order.{min_z, max_z}
use Rattle.row.specs.Bits.{bit_at}
use Rattle.row.specs.Excess.{E}
use Rattle.row.proofs.Excess.{StepsByOne, steps}
use Rattle.bits_stretch.specs.declared.summary.Summary.{Summary}
use Rattle.bits_stretch.specs.Summary.{none, summary_of, join_of, Tame}
use Rattle.bits_stretch.proofs.Full.{Full, end_over, end_under, join_full, full_only, summary_full, summary_tame}
use Rattle.mmt_layout.specs.Layout.{leaves, inner_for, count}
use Rattle.mmt_node.specs.Nodes.{node_at, leaf_of, inner_of, Ruled}
use Rattle.mmt_layout.proofs.Powers.{levels, inner_top, inner_room, leaves_in}
use Rattle.mmt_node.proofs.Nodes.{inner_both, inner_left, inner_none, from_inner, from_leaf}
use Rattle.mmt_layout.proofs.Places.{inner_is, count_is, block_at, block_mono, block_le, block_in, block_out, block_next, block_lt, reach, reach_zero, reach_next, reach_child, Place, place_left, place_right, place_ge, place_inner, place_leaf, place_of}

-- ---- the summary of a stretch, which is (0, 0, 0) if the stretch is empty
pub data Node (e : ℕ → ℤ) (a t : ℕ) (x : Summary) : Type 0 where
  full : Full e a t x → Node e a t x
  empty : t ≡ a → x ≡ none → Node e a t x

join_none : (e : ℕ → ℤ) (a t : ℕ) (x : Summary) → Full e a t x → join_of x none ≡ x
unfolding join_of none min_z max_z
join_none e a t x f = grind (arith, ints, end_over e a t x f, end_under e a t x f)

none_none : join_of none none ≡ none
unfolding join_of none min_z max_z
none_none = refl

module _ (e : ℕ → ℤ) (near : (k : ℕ) → StepsByOne e k) where
  -- the join of two neighbouring stretches; if the left one is empty, so is the right one
  join_node : (a m t : ℕ) (x y : Summary) → (m ≡ a → t ≡ m) → Node e a m x → Node e m t y → Node e a t (join_of x y)
  join_node a m t x y c (full f) (full g) = full (join_full e near a m t x y f g)
  join_node a m t x y c (full f) (empty q w) = rw (q, w, join_none e a m x f) (full f)
  join_node a m t x y c (empty p u) (full g) = let s = g.some in let q = c p in absurd (omega arith)
  join_node a m t x y c (empty p u) (empty q w) = rw (u, w, none_none) (empty (q ∙ p) refl)

  -- an inner node has the summary of the stretch a to t if its children have those of a to m and m to t
  inner_node : (M : ℕ) (node : ℕ → Summary) (k a m t n : ℕ) → a ≤ m → m ≤ t → t ≤ n → (a < n → a < m)
      → (2 * k + 1 < M → Node e a m (node (2 * k + 1))) → (2 * k + 2 < M → Node e m t (node (2 * k + 2)))
      → (M ≤ 2 * k + 1 → a ≡ n) → (M ≤ 2 * k + 2 → m ≡ n) → Node e a t (inner_of M node k)
  inner_node M node k a m t n am mt tn strict x y ax ay = elim (dec_lt (2 * k + 2) M) [
    | yes i ↦ rw (← inner_both M node k i) (join_node a m t (node (2 * k + 1)) (node (2 * k + 2)) (λ q. grind arith) (x (omega arith)) (y i))
    | no i ↦ elim (dec_lt (2 * k + 1) M) [
      | yes j ↦ (let z = x j in grind (arith, inner_left))
      | no j ↦ (let z : Node e a t none = empty (grind arith) refl in grind (arith, inner_none))
    ]
  ]

-- ---- the position at which the stretch of node k at height h begins
unfoldable pub start_of : ℕ → ℕ → ℕ → ℕ → ℕ
start_of n B h k = block_at n B (reach h k - suc (inner_for (leaves n B)))

abbrev pub top : ℕ → ℕ → ℕ
top n B = levels (leaves n B)

module _ (n B : ℕ) (pB : 0 < B) where
  pub start_child : (h k : ℕ) → start_of n B h (2 * k + 1) ≡ start_of n B (suc h) k
  unfolding start_of
  start_child h k = grind (arith, reach_child)

  pub start_le : (h k : ℕ) → start_of n B h k ≤ n
  unfolding start_of
  start_le h k = block_le n B pB (reach h k - suc (inner_for (leaves n B)))

  pub start_mono : (h k : ℕ) → start_of n B h k ≤ start_of n B h (suc k)
  unfolding start_of
  start_mono h k = grind (arith, block_mono, reach_next)

  pub start_lt : (h k : ℕ) → Place (top n B) h k → start_of n B h k < n → start_of n B h k < start_of n B h (suc k)
  unfolding start_of
  start_lt h k p l = grind (arith, block_lt, reach_next, pow_pos h, place_ge (top n B) h k p, inner_top (leaves n B))

  pub start_leaf : (b : ℕ) → start_of n B 0 (inner_for (leaves n B) + b) ≡ block_at n B b
  unfolding start_of
  start_leaf b = grind (arith, reach_zero)

  pub inside : (h k : ℕ) → Place (top n B) (suc h) k → k < inner_for (leaves n B)
  inside h k p = omega (arith, place_inner (top n B) h k p, inner_top (leaves n B))

  module _ (some : 0 < n) where
    -- the stretch of a node that does not exist begins at n, so it is empty
    pub absent : (h k : ℕ) → Place (top n B) h k → count n B ≤ k → start_of n B h k ≡ n
    unfolding start_of
    absent zero k p a = grind (arith, block_out n B pB, reach_zero, count_is n B some)
    absent (suc h) k p a = grind (arith, inside h k p, count_is n B some)

    -- block leaf b has the summary of the bits of its block
    leaf_node : (ws : List ℕ) (b : ℕ) → b < leaves n B → Node (E ws) (block_at n B b) (block_at n B (suc b)) (leaf_of ws n B b)
    unfolding leaf_of
    leaf_node ws b h =
        let i = leaves_in n B pB b h in
        let q : block_at n B (suc b) ≡ b * B + min B (n - b * B) = block_next n B pB b ∙ (omega arith) in
        rw (q, block_in n B pB b h) (full (summary_full (bit_at ws) (b * B) (min B (n - b * B)) (omega arith)))

module _ (ws : List ℕ) (n : ℕ) (s : List ℤ) (B : ℕ) (pB : 0 < B) (some : 0 < n) (k₀ : ℕ) (ruled : Ruled ws n s B k₀) where
  pub covers : (h k : ℕ) → Place (top n B) h k → k₀ ≤ k → k < count n B → Node (E ws) (start_of n B h k) (start_of n B h (suc k)) (node_at s k)
  covers zero k p o i =
      let g = place_leaf (top n B) k p in
      let I = inner_for (leaves n B) in
      let b = k - I in
      let t = inner_top (leaves n B) in
      let q : k ≡ I + b = omega arith in
      let q₂ : suc k ≡ I + suc b = omega arith in
      let l : b < leaves n B = omega (arith, count_is n B some) in
      let w : node_at s k ≡ leaf_of ws n B b = ruled k o i ∙ from_leaf ws n B (node_at s) k (omega (arith, inner_is n B some)) ∙ ap (λ (x : ℕ). leaf_of ws n B (k - x)) (inner_is n B some) in
      let u : start_of n B 0 k ≡ block_at n B b = ap (start_of n B 0) q ∙ start_leaf n B pB b in
      let v : start_of n B 0 (suc k) ≡ block_at n B (suc b) = ap (start_of n B 0) q₂ ∙ start_leaf n B pB (suc b) in
      rw (w, u, v) (leaf_node n B pB some ws b l)
  covers (suc h) k p o i =
      let w : node_at s k ≡ inner_of (count n B) (node_at s) k = ruled k o i ∙ from_inner ws n B (node_at s) k (omega (arith, inside n B pB h k p, inner_is n B some)) in
      rw w
      (inner_node (E ws) (steps (bit_at ws)) (count n B) (node_at s) k a m t n am mt (start_le n B pB (suc h) (suc k)) strict
      (λ x. rw (ea, s₂) at (covers h (2 * k + 1) pl (omega arith) x))
      (λ x. rw et at (covers h (2 * k + 2) pr (omega arith) x))
      (λ x. sym ea ∙ absent n B pB some h (2 * k + 1) pl x)
      (λ x. absent n B pB some h (2 * k + 2) pr x))
    where
      pl : Place (top n B) h (2 * k + 1)
      pl = place_left (top n B) h k p

      pr : Place (top n B) h (2 * k + 2)
      pr = place_right (top n B) h k p

      a : ℕ
      a = start_of n B (suc h) k

      m : ℕ
      m = start_of n B h (2 * k + 2)

      t : ℕ
      t = start_of n B (suc h) (suc k)

      ea : start_of n B h (2 * k + 1) ≡ a
      ea = start_child n B pB h k

      s₂ : suc (2 * k + 1) ≡ 2 * k + 2
      s₂ = omega arith

      et : start_of n B h (suc (2 * k + 2)) ≡ t
      et = ap (start_of n B h) (let q : suc (2 * k + 2) ≡ 2 * suc k + 1 = omega arith in q) ∙ start_child n B pB h (suc k)

      am : a ≤ m
      am = rw (ea, s₂) at (start_mono n B pB h (2 * k + 1))

      mt : m ≤ t
      mt = rw et at (start_mono n B pB h (2 * k + 2))

      strict : a < n → a < m
      strict = rw (ea, s₂) at (start_lt n B pB h (2 * k + 1) pl)

  -- the three entries of a node are the summary of its stretch
  pub node_is : (h k : ℕ) → Place (top n B) h k → k₀ ≤ k → k < count n B
      → node_at s k ≡ summary_of (bit_at ws) (start_of n B h k) (start_of n B h (suc k) - start_of n B h k)
  unfolding summary_of
  node_is h k p o i = go (covers h k p o i) (start_mono n B pB h k)
    where
      go : {a t : ℕ} {x : Summary} → Node (E ws) a t x → a ≤ t → x ≡ summary_of (bit_at ws) a (t - a)
      go {a} {t} {x} (full f) l =
          let q : a + (t - a) ≡ t = omega arith in
          let m = f.some in
          full_only (E ws) a t x (summary_of (bit_at ws) a (t - a)) f (rw q at (summary_full (bit_at ws) a (t - a) (omega arith)))
      go {a} {t} {x} (empty q w) l = let z : t - a ≡ 0 = omega arith in rw z w

  pub ruled_tame : n ≤ max_bits → (k : ℕ) → k₀ ≤ k → k < count n B → Tame (node_at s k)
  ruled_tame short k o i =
      let p = place_of (top n B) k (omega (arith, inner_top (leaves n B), inner_room (leaves n B), count_is n B some)) in
      let a = start_of n B p.0 k in
      let t = start_of n B p.0 (suc k) in
      rw (node_is p.0 k p.1 o i) (summary_tame (bit_at ws) a (t - a) (omega (arith, start_le n B pB p.0 (suc k))))
