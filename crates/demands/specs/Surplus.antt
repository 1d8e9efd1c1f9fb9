-- SCOPE, The demands: surplus never matters. Bits from position n on, words beyond the needed ones and entries after the nodes change no
-- answer.
--
-- Two rows with the same first n bits, and two buffers with the same first 3(L + I) entries, get the same answers, refusals included.
-- This holds over any nodes, foreign ones too. Second.antt states that a build leaves the entries after the nodes unchanged.
-- Assumes nothing.
use Rattle.std.specs.Prelude.{◌≡◌, Bool, true, List, ◌++◌, ℕ, ◌*◌, ◌≤◌, ◌<◌, ℤ, pos, length, get_or, take}
use Rattle.std.specs.Borrow.{Bor}
use Rattle.row.specs.Answer.{at}
use Rattle.row.specs.Bits.{bit_at}
use Rattle.one_tree.specs.OneTree.{one_tree_answer}
use Rattle.mmt_layout.specs.Layout.{width, count}
use Rattle.mmt_build.specs.Build.{built_nodes, build_answer}
use Rattle.mmt_build.specs.Check.{as_built_answer}
use Rattle.list_struct.specs.Listing.{created}
use Rattle.list_struct.specs.Steps.{answer_at}
use Rattle.list_slice.specs.WholeListing.{count_of, left_of}
use Rattle.bp_spec.specs.declared.question.Question.{Question}
use Rattle.bp_spec.specs.Questions.{promised}
use Rattle.bp_spec.specs.Ranges.{kind}

-- Both rows have enough words for n bits, and their first n bits are the same.
pub record SameRow (ws vs : List ℕ) (n : ℕ) : Type 0 where
  pub words : (n ≤ 64 * length ws) × (n ≤ 64 * length vs)
  pub bits : (i : ℕ) → i < n → bit_at ws i ≡ bit_at vs i

-- Both buffers have room for m min-max nodes.
abbrev pub Roomy : List ℤ → List ℤ → ℕ → Type 0
Roomy s t m = (width * m ≤ length s) × (width * m ≤ length t)

-- Both buffers have room for m min-max nodes, and the entries of these nodes are the same.
pub record SameNodes (s t : List ℤ) (m : ℕ) : Type 0 where
  pub room : Roomy s t m
  pub numbers : (k : ℕ) → k < width * m → get_or s k (pos 0) ≡ get_or t k (pos 0)

-- The listing of the children of v gives the same answers over both rows and buffers: its constructor does, and each step.
pub record SameListing (rising : Bool) (ws vs : Bor (List ℕ)) (n : ℕ) (s t : Bor (List ℤ)) (B v : ℕ) : Type 0 where
  pub making : (created rising ws n s B v).answer ≡ (created rising vs n t B v).answer
  pub step : (k : ℕ) → answer_at k (created rising ws n s B v).listing ≡ answer_at k (created rising vs n t B v).listing

-- Surplus never matters.
pub record Surplus : Type 0 where
  -- Each call. For a call without a node buffer the two buffers may differ.
  pub answers : (ws vs : List ℕ) (n : ℕ) (s t : List ℤ) (B : ℕ) (q : Question) → SameRow ws vs n
      → ((kind n q).nodes ≡ true → SameNodes s t (count n B)) → promised ws n s B q ≡ promised vs n t B q
  -- The one-tree test and the as-built test.
  pub one_tree : (ws vs : List ℕ) (n : ℕ) → SameRow ws vs n → one_tree_answer ws n ≡ one_tree_answer vs n
  pub as_built : (ws vs : List ℕ) (n : ℕ) (s t : List ℤ) (B : ℕ) → SameRow ws vs n → SameNodes s t (count n B)
      → as_built_answer ws n s B ≡ as_built_answer vs n t B
  -- The build and the nodes that it writes. The old entries of the buffer do not matter at all.
  pub build : (ws vs : List ℕ) (n : ℕ) (s t : List ℤ) (B : ℕ) → SameRow ws vs n → Roomy s t (count n B)
      → build_answer ws n s B ≡ build_answer vs n t B
  pub build_left : (ws vs : List ℕ) (n : ℕ) (s t : List ℤ) (B : ℕ) → SameRow ws vs n → Roomy s t (count n B)
      → build_answer ws n s B ≡ at 0
      → take (width * count n B) (built_nodes ws n s B) ≡ take (width * count n B) (built_nodes vs n t B)
  -- A listing step by step; `list`, and what it leaves in its slice.
  pub listing : (rising : Bool) (ws vs : Bor (List ℕ)) (n : ℕ) (s t : Bor (List ℤ)) (B v : ℕ) → SameRow ws.now vs.now n
      → SameNodes s.now t.now (count n B) → SameListing rising ws vs n s t B v
  pub list : (rising : Bool) (ws vs : List ℕ) (n : ℕ) (s t : List ℤ) (B v c : ℕ) → SameRow ws vs n → SameNodes s t (count n B)
      → count_of rising ws n s B v c ≡ count_of rising vs n t B v c
  pub list_left : (rising : Bool) (ws vs : List ℕ) (n : ℕ) (s t : List ℤ) (B v : ℕ) (out : List ℤ) → SameRow ws vs n
      → SameNodes s t (count n B) → left_of rising ws n s B v out ≡ left_of rising vs n t B v out
  -- So added words and added entries change no answer.
  pub added : (ws vs : List ℕ) (n : ℕ) (s t : List ℤ) (B : ℕ) (q : Question) → n ≤ 64 * length ws → width * count n B ≤ length s
      → promised (ws ++ vs) n (s ++ t) B q ≡ promised ws n s B q
