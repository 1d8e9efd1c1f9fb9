-- The walk of a search over any node buffer (SCOPE, How a search walks): scan of the start block, climb, descent, scan of the target block.
-- A walk gives an answer and the number of examined nodes. One definition covers both directions: the direction is a parameter.
-- In this crate a node is a min-max node, and its height is its distance from the block leaves.
-- Assumes nothing.
use Rattle.std.specs.Prelude.{Bool, cond, ◌&&◌, ◌||◌, List, ℕ, zero, suc, ◌+◌, ◌-◌, ◌*◌, ◌/◌, ◌%◌, min, ltb, leb, eqb, ℤ, pos, neg_ℤ}
use Rattle.std.specs.Int.Signed.{le_z}
use Rattle.row.specs.Limits.{max_bits}
use Rattle.ints.specs.Sides.{size}
use Rattle.row.specs.Answer.{Answer, at, nothing, refused}
use Rattle.row.specs.Bits.{bit_at}
use Rattle.row.specs.Way.{Way, forward, backward}
use Rattle.bits_stretch.specs.declared.summary.Summary.{Summary}
use Rattle.std.specs.declared.ops.ControlFlow.TheVariants.{Break, Continue}
use Rattle.bits_stretch.specs.Summary.{holds_on}
use Rattle.bits_stretch.specs.Scan.{Scanned, passed, scan}
use Rattle.mmt_layout.specs.Layout.{inner, count}
use Rattle.mmt_node.specs.Nodes.{node_at}

-- ---- examining a node

-- An entry is in range if it is at least -2^32 and at most 2^32.
unfoldable pub in_range : ℤ → Bool
in_range z = le_z (neg_ℤ (pos max_bits)) z && le_z z (pos max_bits)

-- All three entries are in range, whether they are used or not.
unfoldable pub fits : Summary → Bool
fits x = in_range x.total && in_range x.least && in_range x.greatest

-- Examining a node gives `bad` if an entry is out of range and `here` if the node qualifies for r.
-- Otherwise the walk passes the node and gets `past` with the remainder after it.
abbrev pub examine : {A : Type 0} → Way → Summary → ℤ → A → A → (ℤ → A) → A
examine w x r bad here past = cond (fits x) (cond (holds_on w x r) here (past (passed w r x.total))) bad

-- ---- the climb: up from a node at height h, to the node where the descent starts

-- A climb turns to a descent at a node, at a height, with a remainder; or it leaves the tree; or it is refused.
-- The last number of `turn` and `out` is the number of examined nodes.
pub data Climb : Type 0 where
  turn : ℕ → ℕ → ℤ → ℕ → Climb
  out : ℕ → Climb
  misfit : Climb

-- Node k has no sibling beyond it: forward it is a right child, backward a left child.
abbrev pub last_sibling : Way → ℕ → Bool
last_sibling forward k = eqb (k % 2) 0
last_sibling backward k = eqb (k % 2) 1

-- The sibling beyond node k: the right one forward, the left one backward.
abbrev pub sibling_beyond : Way → ℕ → ℕ
sibling_beyond forward k = k + 1
sibling_beyond backward k = k - 1

-- The climb from node k at height h with the remainder r, after c examined nodes. It is allowed f steps.
-- The index of the node falls with each step, so f = k is enough.
unfoldable pub climb : Way → ℕ → List ℤ → ℕ → ℕ → ℕ → ℤ → ℕ → Climb
climb w m s zero h k r c = out c
climb w m s (suc f) h k r c =
    cond (eqb k 0) (out c)
    (cond (last_sibling w k) (climb w m s f (suc h) ((k - 1) / 2) r c)
    (cond (leb m (sibling_beyond w k)) (out c)
    (examine w (node_at s (sibling_beyond w k)) r misfit
    (turn (sibling_beyond w k) h r (suc c))
    (λ q. climb w m s f (suc h) ((k - 1) / 2) q (suc c)))))

-- ---- the descent: down from a node to the block leaf that should contain the position

-- A descent reaches a block leaf with a remainder, or it is refused. The last number of `leaf` is the number of examined nodes.
pub data Descent : Type 0 where
  leaf : ℕ → ℤ → ℕ → Descent
  lost : Descent

-- The child that a descent examines first: the left one forward, the right one backward.
abbrev pub nearer : Way → ℕ → ℕ
nearer forward k = 2 * k + 1
nearer backward k = 2 * k + 2

-- The child that it examines second.
abbrev pub farther : Way → ℕ → ℕ
farther forward k = 2 * k + 2
farther backward k = 2 * k + 1

-- The descent from node k with h levels left and the remainder r, after c examined nodes.
unfoldable pub descend : Way → ℕ → List ℤ → ℕ → ℕ → ℤ → ℕ → Descent
descend w m s zero k r c = leaf k r c
descend w m s (suc h) k r c =
    cond (leb m (nearer w k)) lost
    (examine w (node_at s (nearer w k)) r lost
    (descend w m s h (nearer w k) r (suc c))
    (λ q. cond (leb m (farther w k)) lost
    (examine w (node_at s (farther w k)) q lost
    (descend w m s h (farther w k) q (suc (suc c)))
    (λ z. lost))))

-- ---- the whole walk

-- A walk has an answer and a number of examined nodes. For a refused search this number is 0.
pub record Walk : Type 0 where
  pub answer : Answer
  pub seen : ℕ

-- The walk with the answer a and c examined nodes.
abbrev pub found : Answer → ℕ → Walk
found a c = record { answer = a; seen = c }

-- The search is answered by nothing because |r| > n.
abbrev pub far : ℕ → ℤ → Bool
far n r = ltb n (size r)

-- The search is answered by nothing because of its position: forward if i + 1 >= n, backward if i = 0 or i >= n.
abbrev pub ends_at_once : Way → ℕ → ℕ → Bool
ends_at_once forward n i = leb n (i + 1)
ends_at_once backward n i = eqb i 0 || leb n i

-- The start block: forward the block of position i + 1, backward the block of position i - 1.
abbrev pub start_block : Way → ℕ → ℕ → ℕ
start_block forward B i = (i + 1) / B
start_block backward B i = (i - 1) / B

-- The scan of the start block: forward from i + 1 to its end, backward from i - 1 down to its first bit.
abbrev pub start_scan : Way → List ℕ → ℕ → ℕ → ℕ → ℤ → Scanned
start_scan forward ws n B i r = scan forward (bit_at ws) (min n (((i + 1) / B + 1) * B) - (i + 1)) (i + 1) r
start_scan backward ws n B i r = scan backward (bit_at ws) (i - (i - 1) / B * B) ((i - 1) / B * B) r

module _ (w : Way) (ws : List ℕ) (n : ℕ) (s : List ℤ) (B : ℕ) where
  -- A hit in the target block is the answer. Without one the search is refused by 8.
  abbrev pub in_leaf : Scanned → ℕ → Walk
  in_leaf (Break j) c = found (at j) c
  in_leaf (Continue q) c = found (refused 8) 0

  -- After the descent: the scan of the target block, or refusal 8.
  abbrev pub land : Descent → Walk
  land (leaf k r c) = let b = k - inner n B in in_leaf (scan w (bit_at ws) (min B (n - b * B)) (b * B) r) c
  land lost = found (refused 8) 0

  -- After the climb: the descent, or nothing if the climb has left the tree, or refusal 8.
  abbrev pub after_climb : Climb → Walk
  after_climb (turn k h r c) = land (descend w (count n B) s h k r c)
  after_climb (out c) = found nothing c
  after_climb misfit = found (refused 8) 0

  -- The walk after the start block b with the remainder r: climb, descent and target block.
  abbrev pub beyond : ℕ → ℤ → Walk
  beyond b r = after_climb (climb w (count n B) s (inner n B + b) 0 (inner n B + b) r 0)

  -- A hit in the start block b is the answer. Without one the walk goes on with the remainder that is left.
  abbrev pub in_start : ℕ → Scanned → Walk
  in_start b (Break j) = found (at j) 0
  in_start b (Continue q) = beyond b q

  -- The walk of a search from position i for the difference r.
  unfoldable pub walk : ℕ → ℤ → Walk
  walk i r =
      cond (ends_at_once w n i) (found nothing 0)
      (cond (far n r) (found nothing 0)
      (in_start (start_block w B i) (start_scan w ws n B i r)))
