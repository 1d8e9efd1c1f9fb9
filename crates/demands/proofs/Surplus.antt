-- Surplus never matters to an answer. Both rows have enough words and both buffers enough room. So the tests before an answer give the same
-- result, whatever the bit count and the block size are.
--   row_same, room_same, nodes_gate_same: the tests; first_bits, first_nodes: the bits and the min-max nodes
--   row_alike, nodes_alike: so SameAnswers applies to the rows and the buffers
--   done_same: the answer of a build; open_at: a gate passes if the answer after it is 0; front: the nodes that a build writes
--   with, step_same, listing_same: a listing step by step
--   more_words, more_numbers: added words and added entries
--   surplus: the whole statement
-- Assumes nothing.
use mathlib.Core.Path.{◌≡◌, refl, sym, ap, ◌∙◌}
use mathlib.Core.Bool.{Bool}
use mathlib.Core.List.{List, ◌++◌}
use Prim.Native.Nat.{ℕ, zero, suc, ◌+◌, ◌*◌, ◌≤◌}
use native.Mathlib.Omega.{arith}
use borrow.Author.Tests.{le-leb}
use lib.IntN.{ℤ, pos}
use lib.ListN.{length, take, drop, length-append, get_or-append}
use lib.Seq.{take_at}
use denote.Ref.{Bor}
use Rattle.row.specs.Gates.{Gate}
use Rattle.std.specs.Prelude.{Ok, Err}
use Rattle.row.specs.Answer.{Answer, at}
use Rattle.row.specs.Gates.{words_for, row_gate, and_then, through}
use Rattle.row.proofs.Surplus.{Same, words_beyond}
use Rattle.mmt_layout.specs.Layout.{width, count, block_gate, room_gate, nodes_gate}
use Rattle.mmt_node.specs.Nodes.{node_at, written}
use Rattle.mmt_build.specs.Build.{built_nodes, build_answer}
use Rattle.mmt_node.proofs.Written.{written_length}
use Rattle.list_slice.specs.Seek.{sought, making, begun, held_after}
use Rattle.list_struct.specs.Listing.{Listing}
use Rattle.list_struct.specs.Steps.{answer_at}
use Rattle.demands.specs.Surplus.{SameRow, Roomy, SameNodes, SameListing, Surplus}
use Rattle.demands.proofs.SameWalk.{Alike}
use Rattle.demands.proofs.SameCalls.{written_same}
use Rattle.demands.proofs.SameAnswers.{RowAlike, NodesAlike, tree_same, test_same, sought_same, after_same, count_same, left_same, answers_same}

-- ---- the tests: both rows have enough words, and both buffers enough room
row_same : (ws vs : List ℕ) (n : ℕ) → SameRow ws vs n → row_gate (length ws) n ≡ row_gate (length vs) n
unfolding row_gate
row_same ws vs n same =
    let l = same.words in
    let p : words_for n ≤ length ws = omega arith in
    let q : words_for n ≤ length vs = omega arith in
    rw (le-leb (words_for n) (length ws) p, le-leb (words_for n) (length vs) q)

room_same : (n : ℕ) (s t : List ℤ) (B : ℕ) → Roomy s t (count n B) → room_gate n (length s) B ≡ room_gate n (length t) B
unfolding room_gate
room_same n s t B room = rw (le-leb (width * count n B) (length s) room.0, le-leb (width * count n B) (length t) room.1)

nodes_gate_same : (ws vs : List ℕ) (n : ℕ) (s t : List ℤ) (B : ℕ) → SameRow ws vs n → Roomy s t (count n B)
    → nodes_gate (length ws) n (length s) B ≡ nodes_gate (length vs) n (length t) B
unfolding nodes_gate
nodes_gate_same ws vs n s t B same room =
    let r = row_same ws vs n same in
    let u = room_same n s t B room in
    λ i. and_then (block_gate B) (and_then (r i) (u i))

-- ---- bits and nodes
first_bits : (ws vs : List ℕ) (n : ℕ) → SameRow ws vs n → Same ws vs n
first_bits ws vs n same i l = same.bits i (omega arith)

first_nodes : (s t : List ℤ) (m : ℕ) → SameNodes s t m → Alike s t m
unfolding node_at
first_nodes s t m nodes k l =
    let p = nodes.numbers (width * k) (omega arith) in
    let q = nodes.numbers (width * k + 1) (omega arith) in
    let r = nodes.numbers (width * k + 2) (omega arith) in
    λ i. record { total = p i; least = q i; greatest = r i }

row_alike : (ws vs : List ℕ) (n : ℕ) → SameRow ws vs n → RowAlike ws vs n
row_alike ws vs n same = record { gate = row_same ws vs n same; bits = λ o. first_bits ws vs n same }

nodes_alike : (ws vs : List ℕ) (n : ℕ) (s t : List ℤ) (B : ℕ) → SameRow ws vs n → SameNodes s t (count n B) → NodesAlike ws vs n s t B
nodes_alike ws vs n s t B same nodes = record {
  gate = nodes_gate_same ws vs n s t B same nodes.room;
  bits = λ o. first_bits ws vs n same;
  nodes = λ o. first_nodes s t (count n B) nodes;
}

-- ---- the build
done_same : (ws vs : List ℕ) (n : ℕ) (s t : List ℤ) (B : ℕ) → SameRow ws vs n → Roomy s t (count n B) → build_answer ws n s B ≡ build_answer vs n t B
done_same ws vs n s t B same room = ap (λ (g : Gate). through g (at 0)) (nodes_gate_same ws vs n s t B same room)

-- If the answer after a gate is no refusal, the gate passes.
open_at : (g : Gate) → through g (at 0) ≡ at 0 → g ≡ (Ok tt)
open_at (Ok tt) e = refl
open_at (Err k) e = cc

front : (ws : List ℕ) (n : ℕ) (s : List ℤ) (B : ℕ) → build_answer ws n s B ≡ at 0 → take (width * count n B) (built_nodes ws n s B) ≡ written ws n B
unfolding built_nodes
front ws n s B e =
    rw (open_at (nodes_gate (length ws) n (length s) B) e)
    (take_at (written ws n B) (drop (width * count n B) s) (width * count n B) (written_length ws n B))

-- ---- a listing, step by step
module _ (rising : Bool) (ws vs : Bor (List ℕ)) (n : ℕ) (s t : Bor (List ℤ)) (B : ℕ) (same : NodesAlike ws.now vs.now n s.now t.now B) where
  -- The listing over the words us and the node buffer u that holds a.
  abbrev with : Bor (List ℕ) → Bor (List ℤ) → Answer → Listing
  with us u a = record { words = us; n = n; nodes = u; block = B; rising = rising; held = a }

  step_same : (k : ℕ) (a : Answer) → answer_at k (with ws s a) ≡ answer_at k (with vs t a)
  unfolding answer_at
  step_same zero a = refl
  step_same (suc k) a =
      step_same k (held_after rising ws.now n s.now B a)
      ∙ ap (λ (b : Answer). answer_at k (with vs t b)) (after_same ws.now vs.now n s.now t.now B same rising a)

  listing_same : (v : ℕ) → SameListing rising ws vs n s t B v
  listing_same v =
      let a = sought_same ws.now vs.now n s.now t.now B same rising v in
      record {
        making = ap making a;
        step = λ k. step_same k (begun (sought rising ws.now n s.now B v)) ∙ ap (λ (b : Answer). answer_at k (with vs t (begun b))) a;
      }

-- ---- added words and added entries
more_words : (ws vs : List ℕ) (n : ℕ) → n ≤ 64 * length ws → SameRow (ws ++ vs) ws n
more_words ws vs n l = record {
  words = (simp length-append (omega arith), l);
  bits = λ i h. sym (words_beyond ws vs n l i h);
}

more_numbers : (s t : List ℤ) (m : ℕ) → width * m ≤ length s → SameNodes (s ++ t) s m
more_numbers s t m l = record {
  room = (simp length-append (omega arith), l);
  numbers = λ k h. get_or-append s t (pos 0) k (omega arith);
}

-- ---- the whole statement
pub surplus : Surplus
surplus = record {
  answers = λ ws vs n s t B q same nodes.
      answers_same ws vs n s t B (row_alike ws vs n same) q (λ e. nodes_alike ws vs n s t B same (nodes e));
  one_tree = λ ws vs n same. tree_same ws vs n (row_alike ws vs n same);
  as_built = λ ws vs n s t B same nodes. test_same ws vs n s t B (nodes_alike ws vs n s t B same nodes);
  build = done_same;
  build_left = λ ws vs n s t B same room e.
      front ws n s B e ∙ written_same ws vs n (first_bits ws vs n same) B ∙ sym (front vs n t B (sym (done_same ws vs n s t B same room) ∙ e));
  listing = λ rising ws vs n s t B v same nodes.
      listing_same rising ws vs n s t B (nodes_alike ws.now vs.now n s.now t.now B same nodes) v;
  list = λ rising ws vs n s t B v c same nodes. count_same ws vs n s t B (nodes_alike ws vs n s t B same nodes) rising v c;
  list_left = λ rising ws vs n s t B v out same nodes. left_same ws vs n s t B (nodes_alike ws vs n s t B same nodes) rising v out;
  added = λ ws vs n s t B q l r.
      let same = more_words ws vs n l in
      answers_same (ws ++ vs) ws n (s ++ t) s B (row_alike (ws ++ vs) ws n same) q
      (λ e. nodes_alike (ws ++ vs) ws n (s ++ t) s B same (more_numbers s t (count n B) r));
}
