-- SCOPE, The demands, demand 1: every input is safe. It is stated of what the calls promise, for every input:
--   answers, one_tree, as_built, build, read: the values and the refusals that each call may give
--   order: the first test that fails gives its number
--   build_leaves, read_leaves: a refused build leaves the node buffer unchanged, and a refused reading leaves the words unchanged
--
-- Rattle proves of every function that it terminates and never crashes, so this file does not state it.
-- It says nothing of listings either: their steps answer what the child and sibling calls answer.
-- Three calls are passed a slice that they may write: `build`, the text reader and `list`. What `list` leaves in its slice `out` is fixed by
-- `left_of` in list_slice: if the constructor is refused, that is `out` unchanged.
-- Assumes nothing.
use Rattle.std.specs.Prelude.{◌≡◌, true, List, [], ◌∷◌, ◌+◌, ℕ, ◌*◌, ◌%◌, ◌≤◌, ◌<◌, ℤ, length}
use Rattle.row.specs.Limits.{max_bits}
use Rattle.row.specs.Answer.{Answer, refused}
use Rattle.text.specs.Text.{read_answer, text_words}
use Rattle.one_tree.specs.OneTree.{one_tree_answer}
use Rattle.mmt_layout.specs.Layout.{width, count, Fine, max_block}
use Rattle.mmt_build.specs.Build.{build_answer, built_nodes}
use Rattle.mmt_build.specs.Check.{as_built_answer}
use Rattle.bp_spec.specs.declared.question.Question.{Question}
use Rattle.bp_spec.specs.Questions.{promised}
use Rattle.row.specs.Tree.{Handle}
use Rattle.bp_spec.specs.Ranges.{Among, Kind, May, kind, refusals}

-- A block size that passes refusal 1: a multiple of 8 from 8 to 65,536.
pub record BlockSize (B : ℕ) : Type 0 where
  pub eight : 8 ≤ B
  pub eights : B % 8 ≡ 0
  pub small : B ≤ max_block

-- The tests come in the order 1, 2, 3, 4, 5, and the first test that fails gives the answer (SCOPE, Refusals).
-- Tests 1 and 4 concern only calls that take a node buffer, test 5 only calls that take a handle.
pub record InOrder (ws : List ℕ) (n : ℕ) (s : List ℤ) (B : ℕ) (k : Kind) (a : Answer) : Type 0 where
  pub one : k.nodes ≡ true → (BlockSize B → ⊥) → a ≡ refused 1
  pub two : (k.nodes ≡ true → BlockSize B) → max_bits < n → a ≡ refused 2
  pub three : (k.nodes ≡ true → BlockSize B) → n ≤ max_bits → 64 * length ws < n → a ≡ refused 3
  pub four : k.nodes ≡ true → BlockSize B → n ≤ max_bits → n ≤ 64 * length ws → length s < width * count n B → a ≡ refused 4
  pub five : (k.nodes ≡ true → Fine (length ws) n (length s) B) → n ≤ max_bits → n ≤ 64 * length ws
      → (v : ℕ) → Among v k.handles → (Handle ws n v → ⊥) → a ≡ refused 5

-- Demand 1, for every input.
pub record First : Type 0 where
  pub answers : (ws : List ℕ) (n : ℕ) (s : List ℤ) (B : ℕ) (q : Question)
      → May (kind n q).below (refusals (kind n q).nodes (kind n q).handles) (promised ws n s B q)
  pub order : (ws : List ℕ) (n : ℕ) (s : List ℤ) (B : ℕ) (q : Question) → InOrder ws n s B (kind n q) (promised ws n s B q)
  pub one_tree : (ws : List ℕ) (n : ℕ) → May 2 (2 ∷ 3 ∷ []) (one_tree_answer ws n)
  pub as_built : (ws : List ℕ) (n : ℕ) (s : List ℤ) (B : ℕ) → May 2 (1 ∷ 2 ∷ 3 ∷ 4 ∷ []) (as_built_answer ws n s B)
  pub build : (ws : List ℕ) (n : ℕ) (s : List ℤ) (B : ℕ) → May 1 (1 ∷ 2 ∷ 3 ∷ 4 ∷ []) (build_answer ws n s B)
  pub build_leaves : (ws : List ℕ) (n : ℕ) (s : List ℤ) (B k : ℕ) → build_answer ws n s B ≡ refused k → built_nodes ws n s B ≡ s
  pub read : (text ws : List ℕ) → May (max_bits + 1) (2 ∷ 6 ∷ 3 ∷ []) (read_answer text ws)
  pub read_leaves : (text ws : List ℕ) (k : ℕ) → read_answer text ws ≡ refused k → text_words text ws ≡ ws
