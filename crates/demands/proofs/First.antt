-- Proof of demand 1.
--   yes_or_no: a test answers 1 or 0
--   tree_may, built_may, build_may, read_may: the values and refusals that the two tests, the build and the text reader may give
--   rooms, rooms_may: the numbers of refusals 1 to 4, and the refusals of an answer after these tests
--   texts: the numbers of the refusals of the text reader
--   keeps: a gate that refuses keeps the old content; build_leaves, read_leaves: so do a refused build and a refused reading
--   first: the demand
-- Assumes nothing.
use mathlib.Core.Path.{◌≡◌, refl}
use mathlib.Core.Bool.{Bool, true, false, cond}
use mathlib.Core.List.{List, [], ◌∷◌, ◌++◌}
use Prim.Native.Nat.{◌+◌, ℕ, ◌*◌}
use native.Mathlib.Omega.{arith}
use borrow.Author.Tests.{leb-true}
use lib.Dec.{leb}
use lib.IntN.{ℤ}
use lib.ListN.{length, drop}
use Rattle.row.specs.Limits.{max_bits}
use Rattle.row.specs.declared.refusal.Refusal.TheVariants.{TooManyBits, NotAParenthesis}
use Rattle.row.specs.Gates.{Gate}
use Rattle.std.specs.Prelude.{Ok, Err}
use Rattle.row.specs.Answer.{Answer, at, refused}
use Rattle.row.specs.Gates.{words_for, row_gate, through, kept}
use Rattle.row.specs.Tree.{one_tree}
use Rattle.text.specs.Text.{all_parentheses, words_of, text_gate, text_words, read_answer}
use Rattle.one_tree.specs.OneTree.{one_tree_answer}
use Rattle.mmt_layout.specs.Layout.{width, count, nodes_gate}
use Rattle.mmt_node.specs.Nodes.{written}
use Rattle.mmt_build.specs.Build.{built_nodes, build_answer}
use Rattle.mmt_build.specs.Check.{built_test, as_built_answer}
use Rattle.demands.specs.First.{First}
use Rattle.bp_spec.specs.Ranges.{May}
use Rattle.bp_spec.proofs.AnswerRange.{one, two, three, four, answers_may}
use Rattle.demands.proofs.CallOrder.{order_of}
use Rattle.bp_spec.proofs.GateRange.{refused_row, refused_nodes, may_through}

yes_or_no : (l : List ℕ) (t : Bool) → May 2 l (cond t (at 1) (at 0))
yes_or_no l true = omega arith
yes_or_no l false = omega arith

tree_may : (ws : List ℕ) (n : ℕ) → May 2 (2 ∷ 3 ∷ []) (one_tree_answer ws n)
unfolding one_tree_answer
tree_may ws n =
    may_through (2 ∷ 3 ∷ []) 2 (row_gate (length ws) n) (cond (one_tree ws n) (at 1) (at 0)) (refused_row (2 ∷ 3 ∷ []) (length ws) n one two)
    (λ g. yes_or_no (2 ∷ 3 ∷ []) (one_tree ws n))

-- The numbers of refusals 1 to 4.
abbrev rooms : List ℕ
rooms = 1 ∷ 2 ∷ 3 ∷ 4 ∷ []

module _ (ws : List ℕ) (n : ℕ) (s : List ℤ) (B : ℕ) where
  rooms_may : (b : ℕ) (a : Answer) → May b rooms a → May b rooms (through (nodes_gate (length ws) n (length s) B) a)
  rooms_may b a h =
      may_through rooms b (nodes_gate (length ws) n (length s) B) a (refused_nodes rooms (length ws) n (length s) B one two three four) (λ g. h)

  built_may : May 2 rooms (as_built_answer ws n s B)
  unfolding as_built_answer
  built_may = rooms_may 2 (cond (built_test ws n s B) (at 1) (at 0)) (yes_or_no rooms (built_test ws n s B))

  build_may : May 1 rooms (build_answer ws n s B)
  build_may = rooms_may 1 (at 0) (omega arith)

-- The refusals of the text reader, in their order: 2, 6, 3.
abbrev texts : List ℕ
texts = 2 ∷ 6 ∷ 3 ∷ []

read_may : (text ws : List ℕ) → May (max_bits + 1) texts (read_answer text ws)
unfolding text_gate
read_may text ws = go (leb (length text) max_bits) refl (all_parentheses text)
  where
    go : (t : Bool) → leb (length text) max_bits ≡ t → (u : Bool)
        → May (max_bits + 1) texts
        (through (cond t (cond u (row_gate (length ws) (length text)) (Err NotAParenthesis)) (Err TooManyBits)) (at (length text)))
    go true e true =
        let l = leb-true (length text) max_bits e in
        may_through texts (max_bits + 1) (row_gate (length ws) (length text)) (at (length text))
        (refused_row texts (length ws) (length text) one three) (λ g. omega arith)
    go true e false = two
    go false e u = one

-- If the answer after a gate is a refusal, the old content is kept.
keeps : {A : Type 0} (g : Gate) (x k : ℕ) (new old : A) → through g (at x) ≡ refused k → kept g new old ≡ old
keeps (Ok tt) x k new old e = cc
keeps (Err j) x k new old e = refl

build_leaves : (ws : List ℕ) (n : ℕ) (s : List ℤ) (B k : ℕ) → build_answer ws n s B ≡ refused k → built_nodes ws n s B ≡ s
unfolding built_nodes
build_leaves ws n s B k e = keeps (nodes_gate (length ws) n (length s) B) 0 k (written ws n B ++ drop (width * count n B) s) s e

read_leaves : (text ws : List ℕ) (k : ℕ) → read_answer text ws ≡ refused k → text_words text ws ≡ ws
unfolding text_words
read_leaves text ws k e =
    keeps (text_gate text (length ws)) (length text) k (words_of text (words_for (length text)) ++ drop (words_for (length text)) ws) ws e

pub first : First
first = record {
  answers = answers_may;
  order = order_of;
  one_tree = tree_may;
  as_built = built_may;
  build = build_may;
  build_leaves = build_leaves;
  read = read_may;
  read_leaves = read_leaves;
}
