-- The C functions over bytes decode at most 64 words and 3,069 node numbers (SCOPE, The C functions). For every input, the tests on what is
-- decoded give the same result as the tests on all words and node numbers of the bytes.
--   leb_min: a bound that is cut at m gives the same comparison for numbers of at most m
--   leaves_fit, nodes_fit: a row of up to 4,096 bits has at most 512 block leaves and needs at most 3,069 entries
--   row_is, room_is: tests 2 and 3, and test 4, for such a row; too_long: more than 2^32 bits are refusal 2
--   row_all: tests 2 and 3 for any row; short, long, past_block, gate_all: tests 1 to 4 for any row
--   over_limit: a bit count above 4,096 is refusal 2 if the block size is not refused
-- Assumes nothing.
use mathlib.Core.Path.{◌≡◌, refl, sym, ◌∙◌}
use mathlib.Core.Bool.{Bool, true, false}
use Prim.Native.Nat.{◌+◌, ℕ, ◌*◌, ◌≤◌, ◌<◌, min}
use native.Mathlib.Omega.{arith}
use native.Mathlib.Decide.{dec_lt}
use borrow.Author.Tests.{le-leb, lt-leb}
use lib.Dec.{leb, eqb}
use Rattle.row.specs.Limits.{max_bits, max_short_bits}
use Rattle.row.specs.declared.refusal.Refusal.TheVariants.{TooManyBits}
use Rattle.row.specs.Gates.{Gate}
use Rattle.std.specs.Prelude.{Ok, Err}
use Rattle.row.specs.Gates.{words_for, row_gate, and_then}
use Rattle.mmt_layout.specs.Layout.{width, leaves, layout_of, count, block_gate, room_gate, nodes_gate}
use Rattle.mmt_layout.proofs.Gates.{block_fits}
use Rattle.mmt_layout.proofs.Powers.{leaves_in, inner_small}
use Rattle.wire.specs.Limit.{word_room, number_room, wire_bits}

leb_min : (x a m : ℕ) → x ≤ m → leb x (min a m) ≡ leb x a
leb_min x a m h =
    elim (dec_lt a x) [
      | yes l ↦ let k : min a m < x = omega arith in lt-leb x (min a m) k ∙ sym (lt-leb x a l)
      | no l ↦ let k : x ≤ min a m = omega arith in le-leb x (min a m) k ∙ sym (le-leb x a (omega arith))
    ]

-- ---- a row of up to 4,096 bits
leaves_fit : (n B : ℕ) → 8 ≤ B → n ≤ max_short_bits → leaves n B ≤ 512
leaves_fit n B h k = elim (dec_lt 512 (leaves n B)) [ yes l ↦ absurd (omega (arith, leaves_in n B (omega arith) 512 l)) | no l ↦ omega arith ]

pub nodes_fit : (n B : ℕ) → 8 ≤ B → n ≤ max_short_bits → width * count n B ≤ number_room
unfolding layout_of
nodes_fit n B h k = go (eqb n 0) refl
  where
    go : (t : Bool) → eqb n 0 ≡ t → width * count n B ≤ number_room
    go true e = rw e (omega arith)
    go false e = let l = leaves_fit n B h k in rw e (omega (arith, inner_small (leaves n B) 9 (omega arith) (omega arith)))

row_is : (w n : ℕ) → n ≤ max_short_bits → row_gate (min w word_room) n ≡ row_gate w n
unfolding row_gate
row_is w n h = rw (leb_min (words_for n) w word_room (omega arith))

room_is : (n t B : ℕ) → 8 ≤ B → n ≤ max_short_bits → room_gate n (min t number_room) B ≡ room_gate n t B
unfolding room_gate
room_is n t B h k = rw (leb_min (width * count n B) t number_room (nodes_fit n B h k))

-- ---- any row
too_long : (w n : ℕ) → max_bits < n → row_gate w n ≡ Err TooManyBits
unfolding row_gate
too_long w n h = rw (lt-leb n max_bits h)

pub row_all : (w bits : ℕ) → row_gate (min w word_room) (wire_bits bits) ≡ row_gate w (wire_bits bits)
unfolding wire_bits
row_all w bits =
    elim (dec_lt max_short_bits bits) [
      | yes l ↦ rw (lt-leb bits max_short_bits l) (too_long (min w word_room) (max_bits + 1) (omega arith) ∙ sym (too_long w (max_bits + 1) (omega arith)))
      | no l ↦ let h : bits ≤ max_short_bits = omega arith in rw (le-leb bits max_short_bits h) (row_is w bits h)
    ]

module _ (w bits t B : ℕ) where
  short : block_gate B ≡ (Ok tt) → bits ≤ max_short_bits
      → and_then (row_gate (min w word_room) bits) (room_gate bits (min t number_room) B) ≡ and_then (row_gate w bits) (room_gate bits t B)
  short b h = rw (row_is w bits h, room_is bits t B (block_fits B b).0 h)

  long : (n : ℕ) → max_bits < n → and_then (row_gate (min w word_room) n) (room_gate n (min t number_room) B) ≡ and_then (row_gate w n) (room_gate n t B)
  long n h = rw (too_long (min w word_room) n h, too_long w n h)

  past_block : block_gate B ≡ (Ok tt)
      → and_then (row_gate (min w word_room) (wire_bits bits)) (room_gate (wire_bits bits) (min t number_room) B)
      ≡ and_then (row_gate w (wire_bits bits)) (room_gate (wire_bits bits) t B)
  unfolding wire_bits
  past_block b =
      elim (dec_lt max_short_bits bits) [
        | yes l ↦ rw (lt-leb bits max_short_bits l) (long (max_bits + 1) (omega arith))
        | no l ↦ let h : bits ≤ max_short_bits = omega arith in rw (le-leb bits max_short_bits h) (short b h)
      ]

  pub gate_all : nodes_gate (min w word_room) (wire_bits bits) (min t number_room) B ≡ nodes_gate w (wire_bits bits) t B
  unfolding nodes_gate
  gate_all = go (block_gate B) refl
    where
      go : (g : Gate) → block_gate B ≡ g
          → and_then g (and_then (row_gate (min w word_room) (wire_bits bits)) (room_gate (wire_bits bits) (min t number_room) B))
          ≡ and_then g (and_then (row_gate w (wire_bits bits)) (room_gate (wire_bits bits) t B))
      go (Ok tt) e = past_block e
      go (Err k) e = refl

  pub over_limit : max_short_bits < bits → block_gate B ≡ (Ok tt) → nodes_gate w (wire_bits bits) t B ≡ Err TooManyBits
  unfolding nodes_gate wire_bits
  over_limit h b = rw (lt-leb bits max_short_bits h, b, too_long w (max_bits + 1) (omega arith))
