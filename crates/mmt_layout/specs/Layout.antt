-- The layout of the min-max tree for n bits in blocks of B bits (SCOPE, The node buffer: The layout), and the tests for refusals 1 to 4
-- (SCOPE, Refusals).
-- Assumes nothing.
use Rattle.std.specs.Prelude.{◌≡◌, cond, ◌&&◌, ℕ, zero, suc, ◌+◌, ◌-◌, ◌*◌, ◌/◌, ◌%◌, ◌^◌, ◌≤◌, max, ltb, leb, eqb, Ok, Err}
use Rattle.row.specs.Limits.{max_bits}
use Rattle.row.specs.declared.refusal.Refusal.TheVariants.{BlockSize, TooFewNodes}
use Rattle.row.specs.Gates.{Gate, row_gate, and_then}
use Rattle.mmt_layout.specs.declared.Layout.{Layout}

-- A block has at most 65,536 bits.
abbrev pub max_block : ℕ
max_block = 65536

-- The greatest number of block leaves, 2^29: 2^32 bits in blocks of 8.
abbrev pub max_leaves : ℕ
max_leaves = 536870912

-- The greatest number of nodes, 2^30 - 1: 2^29 block leaves and 2^29 - 1 inner nodes.
abbrev pub max_nodes : ℕ
max_nodes = 1073741823

-- Each min-max node has three entries in the buffer: total, least and greatest.
abbrev pub width : ℕ
width = 3

-- L = n div B, rounded up, is the number of block leaves.
unfoldable pub leaves : ℕ → ℕ → ℕ
leaves n B = (n + (B - 1)) / B

-- The smallest exponent from d on whose power of two is at least x. It tries at most f exponents.
unfoldable pub exponent : ℕ → ℕ → ℕ → ℕ
exponent zero d x = d
exponent (suc f) d x = cond (leb x (2 ^ d)) d (exponent f (suc d) x)

-- P is the smallest power of two that is at least x.
unfoldable pub power : ℕ → ℕ
power x = 2 ^ exponent x 0 x

-- I = max(1, P - 1) is the number of inner nodes above l block leaves.
unfoldable pub inner_for : ℕ → ℕ
inner_for l = max 1 (power l - 1)

-- The layout consists of L and I. With n = 0 both are 0: there are no min-max nodes.
unfoldable pub layout_of : ℕ → ℕ → Layout
layout_of n B = cond (eqb n 0) (record { leaves = 0; inner = 0 }) (record { leaves = leaves n B; inner = inner_for (leaves n B) })

-- I, the number of inner nodes. The first block leaf is node I.
abbrev pub inner : ℕ → ℕ → ℕ
inner n B = (layout_of n B).inner

-- L + I, the number of all nodes.
abbrev pub count : ℕ → ℕ → ℕ
count n B = (layout_of n B).leaves + (layout_of n B).inner

-- Test 1 refuses B if it is 0, above 65,536 or not a multiple of 8.
unfoldable pub block_gate : ℕ → Gate
block_gate B = cond (ltb 0 B && leb B max_block && eqb (B % 8) 0) (Ok tt) (Err BlockSize)

-- Test 4 refuses a node buffer of t entries if t is below 3(L + I).
unfoldable pub room_gate : ℕ → ℕ → ℕ → Gate
room_gate n t B = cond (leb (width * count n B) t) (Ok tt) (Err TooFewNodes)

-- Tests 1 to 4 in their order, for n bits in w words, a node buffer of t entries and block size B.
unfoldable pub nodes_gate : ℕ → ℕ → ℕ → ℕ → Gate
nodes_gate w n t B = and_then (block_gate B) (and_then (row_gate w n) (room_gate n t B))

-- The facts that hold after tests 1 to 4 have passed.
pub record Fine (w n t B : ℕ) : Type 0 where
  pub eight : 8 ≤ B
  pub eights : B % 8 ≡ 0
  pub small : B ≤ max_block
  pub short : n ≤ max_bits
  pub words : n ≤ 64 * w
  pub nodes : width * count n B ≤ t
