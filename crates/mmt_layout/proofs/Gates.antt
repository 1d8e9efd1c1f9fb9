-- Laws of the layout and of the tests for refusals 1 to 4. In this crate a node is a min-max node.
--   layout_none: the layout of a row without bits
--   layout_leaves: for every n the number of block leaves is n div B, rounded up
--   counted: a row that has a node has a bit
--   count_small: there are at most 2^30 - 1 nodes
--   block_passed: test 1 passes every multiple of 8 up to 65,536 but 0
--   block_fits: after test 1 has passed, B is a multiple of 8 from 8 to 65,536
--   room_few: test 4 refuses a buffer that is too short
--   gate_block, gate_row, gate_room: the result of tests 1 to 4 is that of test 1, of tests 2 and 3, or of test 4
--   gate_fine, fine_gate: tests 1 to 4 pass exactly when the facts of `Fine` hold
-- Assumes nothing.
use mathlib.Core.Path.{◌≡◌}
use Prim.Native.Nat.{ℕ, ◌*◌, ◌%◌, ◌≤◌, ◌<◌}
use native.Mathlib.Omega.{arith}
use Rattle.row.specs.Limits.{max_bits}
use Rattle.row.specs.declared.refusal.Refusal.{Refusal}
use Rattle.row.specs.declared.refusal.Refusal.TheVariants.{TooFewNodes}
use Rattle.row.specs.Gates.{row_gate}
use Rattle.std.specs.Prelude.{Ok, Err}
use Rattle.mmt_layout.specs.Layout.{width, leaves, layout_of, count, block_gate, room_gate, nodes_gate, Fine, max_block, max_nodes}
use Rattle.mmt_layout.proofs.Powers.{leaves_in, leaves_small, inner_small}

-- ---- the layout
module _ (n B : ℕ) where
  pub layout_none : n ≡ 0 → record { leaves = 0; inner = 0 } ≡ layout_of n B
  unfolding layout_of
  layout_none e = grind arith

  pub layout_leaves : 0 < B → (layout_of n B).leaves ≡ leaves n B
  unfolding layout_of leaves
  layout_leaves pB = grind (arith, leaves_in n B pB 0)

  pub counted : (k : ℕ) → k < count n B → 0 < n
  unfolding layout_of
  counted k h = grind arith

  pub count_small : 8 ≤ B → n ≤ max_bits → count n B ≤ max_nodes
  unfolding layout_of
  count_small h k = grind (arith, leaves_small, inner_small (leaves n B) 29)

-- ---- tests 1 and 4
module _ (B : ℕ) where
  pub block_passed : (B ≡ 0 → ⊥) → B ≤ max_block → B % 8 ≡ 0 → Ok tt ≡ block_gate B
  unfolding block_gate
  block_passed z h o = grind arith

  pub block_fits : block_gate B ≡ Ok tt → (8 ≤ B) × (B ≤ max_block) × (B % 8 ≡ 0)
  unfolding block_gate
  block_fits g = grind arith

pub room_few : (n t B : ℕ) → t < width * count n B → Err TooFewNodes ≡ room_gate n t B
unfolding room_gate
room_few n t B h = grind arith

-- ---- tests 1 to 4 together
module _ (w n t B : ℕ) where
  pub gate_block : (k : Refusal) → block_gate B ≡ Err k → Err k ≡ nodes_gate w n t B
  unfolding nodes_gate
  gate_block k b = rw b

  pub gate_row : (k : Refusal) → block_gate B ≡ Ok tt → row_gate w n ≡ Err k → Err k ≡ nodes_gate w n t B
  unfolding nodes_gate
  gate_row k b r = rw (b, r)

  pub gate_room : block_gate B ≡ Ok tt → row_gate w n ≡ Ok tt → room_gate n t B ≡ nodes_gate w n t B
  unfolding nodes_gate
  gate_room b r = rw (b, r)

  pub gate_fine : nodes_gate w n t B ≡ Ok tt → Fine w n t B
  unfolding nodes_gate block_gate row_gate room_gate
  gate_fine g = grind arith

  pub fine_gate : Fine w n t B → nodes_gate w n t B ≡ Ok tt
  unfolding nodes_gate block_gate row_gate room_gate
  fine_gate f = grind arith
