-- The place of each node in the min-max tree (SCOPE, The node buffer: The layout): node k at height h covers the blocks from
-- (k + 1)·2^h - (I + 1) on, up to the first block of node k + 1.
--   inner_is, count_is: I and L + I of a row that has bits
--   leaf_in: the block of a block leaf begins before n
--   block_at: the position at which block b begins, or n if block b would begin after n
--   block_mono: a later block does not begin earlier
--   block_le: no block begins after n
--   block_in, block_out: block b begins at b·B if b is below L, and at n otherwise
--   block_next: block b + 1 begins B bits after block b, or at n
--   block_lt: a block that begins before n begins before every later block
--   reach: (k + 1)·2^h
--   reach_zero, reach_next, reach_child: `reach` at height 0, of node k + 1, and of a left child
--   Place: node k has height h
--   place_left, place_right, place_up: the heights of the left child, the right child and the parent
--   place_ge: `reach` is at least 2 to the power of the height of the root
--   place_inner: a node with a height above 0 is an inner node
--   place_leaf, leaf_place: a node has height 0 exactly if it is a block leaf
--   place_of: every node has a height
-- Assumes nothing.
use mathlib.Core.Path.{◌≡◌}
use Prim.Native.Nat.{ℕ, zero, suc, ◌+◌, ◌-◌, ◌*◌, ◌/◌, ◌%◌, ◌^◌, ◌≤◌, ◌<◌, min}
use native.Mathlib.Omega.{arith}
use native.Mathlib.Nat.{suc-mul, mul_comm, pow-succ', mul-le-mul_right}
use native.Mathlib.Decide.{dec_lt}
use lib.Pow.{pow_mono, pow-add}
use Rattle.mmt_layout.specs.Layout.{leaves, inner_for, layout_of, inner, count}
use Rattle.mmt_layout.proofs.Powers.{leaves_in, leaves_out}

-- ---- the counts
module _ (n B : ℕ) where
  pub inner_is : 0 < n → inner n B ≡ inner_for (leaves n B)
  unfolding layout_of
  inner_is some = grind arith

  pub count_is : 0 < n → count n B ≡ leaves n B + inner_for (leaves n B)
  unfolding layout_of
  count_is some = grind arith

  pub leaf_in : (k : ℕ) → 0 < B → k < count n B → inner n B ≤ k → (k - inner n B) * B < n
  unfolding layout_of
  leaf_in k pB h l = grind (arith, leaves_in n B pB (k - inner n B))

-- ---- blocks
unfoldable pub block_at : ℕ → ℕ → ℕ → ℕ
block_at n B b = min n (b * B)

module _ (n B : ℕ) (pB : 0 < B) where
  pub block_mono : (b c : ℕ) → b ≤ c → block_at n B b ≤ block_at n B c
  unfolding block_at
  block_mono b c h = grind (arith, mul-le-mul_right)

  pub block_le : (b : ℕ) → block_at n B b ≤ n
  unfolding block_at
  block_le b = omega arith

  pub block_in : (b : ℕ) → b < leaves n B → block_at n B b ≡ b * B
  unfolding block_at
  block_in b h = grind (arith, leaves_in)

  pub block_out : (b : ℕ) → leaves n B ≤ b → block_at n B b ≡ n
  unfolding block_at
  block_out b h = grind (arith, leaves_out)

  pub block_next : (b : ℕ) → block_at n B (suc b) ≡ min n (b * B + B)
  unfolding block_at
  block_next b = rw suc-mul

  pub block_lt : (b c : ℕ) → b < c → block_at n B b < n → block_at n B b < block_at n B c
  unfolding block_at
  block_lt b c h k = grind (arith, mul-le-mul_right {m = suc b} {n = c} B)

-- ---- (k + 1) * 2 ^ h
unfoldable pub reach : ℕ → ℕ → ℕ
reach h k = suc k * 2 ^ h

pub reach_zero : (k : ℕ) → reach 0 k ≡ suc k
unfolding reach
reach_zero k = omega arith

pub reach_next : (h k : ℕ) → reach h (suc k) ≡ reach h k + 2 ^ h
unfolding reach
reach_next h k = grind arith

pub reach_child : (h k : ℕ) → reach h (2 * k + 1) ≡ reach (suc h) k
unfolding reach
reach_child h k = grind (arith, pow-succ')

-- ---- node k has height h and is d levels below the root; the root has height `top`
pub record Place (top h k : ℕ) : Type 0 where
  pub d : ℕ
  pub sum : h + d ≡ top
  pub lo : 2 ^ d ≤ suc k
  pub hi : suc (suc k) ≤ 2 * 2 ^ d

module _ (top : ℕ) where
  module _ (h k : ℕ) where
    pub place_left : Place top (suc h) k → Place top h (2 * k + 1)
    place_left p = record { d = suc p.d; sum = grind arith; lo = grind (arith, pow-succ'); hi = grind (arith, pow-succ') }

    pub place_right : Place top (suc h) k → Place top h (2 * k + 2)
    place_right p = record { d = suc p.d; sum = grind arith; lo = grind (arith, pow-succ'); hi = grind (arith, pow-succ') }

    -- a node other than the root is at least one level below the root
    pub place_up : 0 < k → Place top h k → Place top (suc h) ((k - 1) / 2)
    place_up z p =
        let b : 0 < p.d = grind (arith, p.hi) in
        let t = pow-succ' 2 (p.d - 1) in
        record { d = p.d - 1; sum = grind arith; lo = grind (arith, t); hi = grind (arith, t) }

    -- the first node of a level has the reach 2^top; the nodes after it have a greater one
    pub place_ge : Place top h k → 2 ^ top ≤ reach h k
    unfolding reach
    place_ge p = grind (arith, pow-add, mul_comm, mul-le-mul_right {m = 2 ^ p.d} {n = suc k} (2 ^ h))

    pub place_inner : Place top (suc h) k → suc k < 2 ^ top
    place_inner p = grind (arith, pow-succ', pow_mono {i = suc p.d} {j = top})

  pub place_leaf : (k : ℕ) → Place top 0 k → 2 ^ top ≤ suc k
  place_leaf k p = grind (arith, place_ge 0 k p)

  pub leaf_place : (k : ℕ) → 2 ^ top ≤ suc k → suc (suc k) ≤ 2 * 2 ^ top → Place top 0 k
  leaf_place k l u = record { d = top; sum = omega arith; lo = l; hi = u }

  -- ---- every node has a height

  root : (k : ℕ) → k ≡ 0 → (h : ℕ) × Place top h k
  root k e = (top, record { d = 0; sum = omega arith; lo = omega arith; hi = omega arith })

  -- a child of a node with a height has a height: it is the left or the right child
  child : (k : ℕ) → 0 < k → suc (suc k) ≤ 2 * 2 ^ top → (h : ℕ) × Place top h ((k - 1) / 2) → (h : ℕ) × Place top h k
  child k z l (zero, p) = absurd (omega (arith, place_leaf ((k - 1) / 2) p))
  child k z l (suc h, p) =
      elim (dec_lt 0 (k % 2)) [
        | yes y ↦ (let e : 2 * ((k - 1) / 2) + 1 ≡ k = omega arith in (h, rw e at (place_left h ((k - 1) / 2) p)))
        | no y ↦ (let e : 2 * ((k - 1) / 2) + 2 ≡ k = omega arith in (h, rw e at (place_right h ((k - 1) / 2) p)))
      ]

  -- a recursion from node k to its parent; the measure is f, which is at least k
  seek : (f k : ℕ) → k ≤ f → suc (suc k) ≤ 2 * 2 ^ top → (h : ℕ) × Place top h k
  seek zero k h l = root k (omega arith)
  seek (suc f) k h l = go (dec_lt 0 k) (λ z. seek f ((k - 1) / 2) (omega arith) (omega arith))
    where
      go : Dec (0 < k) → (0 < k → (h : ℕ) × Place top h ((k - 1) / 2)) → (h : ℕ) × Place top h k
      go (yes z) p = child k z l (p z)
      go (no z) p = root k (omega arith)

  pub place_of : (k : ℕ) → suc (suc k) ≤ 2 * 2 ^ top → (h : ℕ) × Place top h k
  place_of k l = seek k k (omega arith) l
