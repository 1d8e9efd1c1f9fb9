-- SCOPE, The demands: at most one result satisfies each promise, for every input, refused ones too. The result is the answer together with
-- the later content of each slice that the call may write.
--
-- A promise fixes the specification answer. So there is one statement per answer type, over what every call of that type promises.
-- The C functions promise their i64 and the later slices themselves, so they need no statement here.
-- Assumes nothing.
use Rattle.std.specs.Prelude.{◌≡◌, Bool, List, ℕ, ℤ}
use Rattle.std.specs.Borrow.{Bor}
use Rattle.row.specs.declared.refusal.Refusal.{Refusal}
use Rattle.row.specs.Answer.{number_of, paper_found, paper_told, paper_built, paper_read}
use Rattle.text.specs.Text.{text_words, read_answer}
use Rattle.one_tree.specs.OneTree.{one_tree_answer}
use Rattle.mmt_build.specs.Build.{built_nodes, build_answer}
use Rattle.mmt_build.specs.Check.{as_built_answer}
use Rattle.list_struct.specs.Listing.{Listing, created, stepped}
use Rattle.list_struct.specs.Paper.{paper_made, paper_step}
use Rattle.list_slice.specs.WholeListing.{count_of, left_of}
use Rattle.bp_spec.specs.declared.question.Question.{Question}
use Rattle.bp_spec.specs.Questions.{promised}

-- At most one result of the code has the specification value d.
abbrev pub One : {A P : Type 0} → (A → P) → P → Type 0
One {A} paper d = (a b : A) → paper a ≡ d → paper b ≡ d → a ≡ b

-- At most one result equals d. This is for promises that name the result itself.
abbrev pub Itself : {A : Type 0} → A → Type 0
Itself {A} d = One (λ (a : A). a) d

-- At most one result satisfies each promise.
pub record Uniqueness : Type 0 where
  -- The calls that answer a position; the calls that answer yes or no.
  pub found : (ws : List ℕ) (n : ℕ) (s : List ℤ) (B : ℕ) (q : Question) → One paper_found (promised ws n s B q)
  pub told : (ws : List ℕ) (n : ℕ) (s : List ℤ) (B : ℕ) (q : Question) → One paper_told (promised ws n s B q)
  -- The one-tree test and the as-built test.
  pub one_tree : (ws : List ℕ) (n : ℕ) → One paper_told (one_tree_answer ws n)
  pub as_built : (ws : List ℕ) (n : ℕ) (s : List ℤ) (B : ℕ) → One paper_told (as_built_answer ws n s B)
  -- The build and the text reader, and what they leave in their slices.
  pub build : (ws : List ℕ) (n : ℕ) (s : List ℤ) (B : ℕ) → One paper_built (build_answer ws n s B)
  pub build_left : (ws : List ℕ) (n : ℕ) (s : List ℤ) (B : ℕ) → Itself (built_nodes ws n s B)
  pub read : (text ws : List ℕ) → One paper_read (read_answer text ws)
  pub read_left : (text ws : List ℕ) → Itself (text_words text ws)
  -- The constructor of a listing, in either direction, and its step.
  pub made_listing : (rising : Bool) (ws : Bor (List ℕ)) (n : ℕ) (s : Bor (List ℤ)) (B v : ℕ) → One paper_made (created rising ws n s B v)
  pub step : (l : Listing) → One paper_step (stepped l)
  -- `list`, and what it leaves in its slice.
  pub list : (rising : Bool) (ws : List ℕ) (n : ℕ) (s : List ℤ) (B v c : ℕ) → One paper_read (count_of rising ws n s B v c)
  pub list_left : (rising : Bool) (ws : List ℕ) (n : ℕ) (s : List ℤ) (B v : ℕ) (out : List ℤ) → Itself (left_of rising ws n s B v out)
  -- The number of a refusal.
  pub number : (k : Refusal) → Itself (number_of k)
