-- A call over bytes answers as over all words and node numbers of the bytes. Those that are not decoded never matter.
--   cut_at: a list that is cut at m has the same entries below m; few: a bit count that passes test 2 is at most 4,096
--   bits_same, rows: the row; nodes_same, both: the node buffer
--   crossed_same: every call
-- Assumes nothing.
use mathlib.Core.Path.{◌≡◌, sym, ap, ◌∙◌}
use mathlib.Core.List.{List}
use Prim.Native.Nat.{ℕ, ◌+◌, ◌*◌, ◌/◌, ◌%◌, ◌≤◌, ◌<◌, min}
use native.Mathlib.Omega.{arith}
use native.Mathlib.Decide.{dec_lt}
use borrow.Author.Tests.{le-leb, lt-leb}
use lib.IntN.{ℤ, pos}
use lib.ListN.{length, get_or}
use Rattle.row.specs.Limits.{max_bits, max_short_bits}
use Rattle.row.specs.Bits.{digit}
use Rattle.row.proofs.Gates.{row_fits}
use Rattle.row.proofs.Surplus.{Same}
use Rattle.mmt_layout.specs.Layout.{width, count}
use Rattle.mmt_node.specs.Nodes.{node_at}
use Rattle.mmt_layout.proofs.Gates.{gate_fine}
use Rattle.bp_spec.specs.declared.question.Question.{Question}
use Rattle.bp_spec.specs.Questions.{promised}
use Rattle.demands.proofs.SameWalk.{Alike}
use Rattle.demands.proofs.SameAnswers.{RowAlike, NodesAlike, answers_same}
use Rattle.wire.specs.Limit.{word_room, number_room, wire_bits, fit}
use Rattle.wire.specs.Bytes.{word_at, number_at, tabulate, words_in, numbers_in}
use Rattle.wire.specs.Decoded.{row_words, node_numbers}
use Rattle.wire.proofs.Runs.{length_made, made_at}
use Rattle.demands.proofs.ByteRoom.{gate_all, row_all, nodes_fit}

-- A list that is cut at m has the same entries below m.
cut_at : {A : Type 0} (g : ℕ → A) (d : A) (a m j : ℕ) → j < m → get_or (tabulate g 0 (min a m)) j d ≡ get_or (tabulate g 0 a) j d
cut_at g d a m j h = elim (dec_lt a m) [
  | yes l ↦ (let e : min a m ≡ a = omega arith in rw e)
  | no l ↦ made_at g d 0 (min a m) j (omega arith) ∙ sym (made_at g d 0 a j (omega arith))
]

-- A row that is not refused by 2 has at most 4,096 bits.
few : (bits : ℕ) → wire_bits bits ≤ max_bits → wire_bits bits ≤ max_short_bits
unfolding wire_bits
few bits = elim (dec_lt max_short_bits bits) [
  | yes l ↦ rw (lt-leb bits max_short_bits l) (λ h. absurd (omega arith))
  | no l ↦ let h : bits ≤ max_short_bits = omega arith in rw (le-leb bits max_short_bits h) (λ z. h)
]

module _ (row : List ℕ) (bits : ℕ) where
  abbrev all : List ℕ
  all = words_in row (length row / 8)

  bits_same : wire_bits bits ≤ max_short_bits → Same (row_words row) all (wire_bits bits)
  bits_same h k l = ap (λ (w : ℕ). digit w (k % 64)) (cut_at (λ j. word_at row (8 * j)) 0 (length row / 8) word_room (k / 64) (omega arith))

  rows : RowAlike (row_words row) all (wire_bits bits)
  rows = record {
    gate =
        rw (length_made (λ j. word_at row (8 * j)) 0 (fit (length row) word_room), length_made (λ j. word_at row (8 * j)) 0 (length row / 8))
        (row_all (length row / 8) bits);
    bits = λ o. bits_same (few bits (row_fits _ _ o).0);
  }

  module _ (nodes : List ℕ) (B : ℕ) where
    abbrev numbers : List ℤ
    numbers = numbers_in nodes (length nodes / 8)

    nodes_same : wire_bits bits ≤ max_short_bits → 8 ≤ B → Alike (node_numbers nodes) numbers (count (wire_bits bits) B)
    unfolding node_at
    nodes_same h b k l =
        let f = nodes_fit (wire_bits bits) B b h in
        let c : (j : ℕ) → j < number_room → get_or (node_numbers nodes) j (pos 0) ≡ get_or numbers j (pos 0) =
        λ j m. cut_at (λ i. number_at nodes (8 * i)) (pos 0) (length nodes / 8) number_room j m in
        let p = c (width * k) (omega arith) in
        let q = c (width * k + 1) (omega arith) in
        let r = c (width * k + 2) (omega arith) in
        λ i. record { total = p i; least = q i; greatest = r i }

    both : NodesAlike (row_words row) all (wire_bits bits) (node_numbers nodes) numbers B
    both = record {
      gate =
          rw (
            length_made (λ j. word_at row (8 * j)) 0 (fit (length row) word_room),
            length_made (λ j. word_at row (8 * j)) 0 (length row / 8),
            length_made (λ j. number_at nodes (8 * j)) 0 (fit (length nodes) number_room),
            length_made (λ j. number_at nodes (8 * j)) 0 (length nodes / 8),
          )
          (gate_all (length row / 8) bits (length nodes / 8) B);
      bits = λ o. bits_same (few bits (gate_fine _ _ _ _ o).short);
      nodes = λ o. let f = gate_fine _ _ _ _ o in nodes_same (few bits f.short) f.eight;
    }

    pub crossed_same : (q : Question) → promised (row_words row) (wire_bits bits) (node_numbers nodes) B q ≡ promised all (wire_bits bits) numbers B q
    crossed_same q = answers_same (row_words row) all (wire_bits bits) (node_numbers nodes) numbers B rows q (λ e. both)
