-- SCOPE, The demands, demand 2: answers are right.
--   builds: the build succeeds and leaves a buffer as built
--   one_tree, as_built: each test says yes exactly when its fact holds, and no exactly when it does not
--   over_built, over_alike: over the nodes of a build, and over any other buffer as built, every answer equals its definition
--
-- The demand covers rows of up to 2^32 bits and block sizes that are multiples of 8 from 8 to 65,536, with enough words and node numbers.
-- `Fine` states these conditions: what passes refusals 1 to 4 satisfies them.
-- Assumes nothing.
use Rattle.std.specs.Prelude.{◌≡◌, List, ℕ, suc, ◌*◌, ◌≤◌, ◌<◌, ℤ, ◌+ℤ◌, length, drop}
use Rattle.row.specs.Limits.{max_bits}
use Rattle.row.specs.Answer.{Answer, at, nothing, refused}
use Rattle.row.specs.Excess.{E}
use Rattle.row.specs.Tree.{OneTree}
use Rattle.row.specs.Way.{Way, forward, backward, Before}
use Rattle.one_tree.specs.OneTree.{one_tree_answer}
use Rattle.mmt_layout.specs.Layout.{width, count, Fine}
use Rattle.mmt_node.specs.Nodes.{AsBuilt}
use Rattle.mmt_build.specs.Build.{built_nodes, build_answer}
use Rattle.mmt_build.specs.Check.{as_built_answer}
use Rattle.bp_spec.specs.declared.question.Question.{Question}
use Rattle.bp_spec.specs.declared.question.Question.TheVariants.{FwdSearch, BwdSearch}
use Rattle.bp_spec.specs.Questions.{promised, definition}

-- The build succeeds. The buffer is then as built, has the same length, and its entries after the nodes are unchanged.
pub record Builds (ws : List ℕ) (n : ℕ) (s : List ℤ) (B : ℕ) : Type 0 where
  pub done : build_answer ws n s B ≡ at 0
  pub nodes : AsBuilt ws n (built_nodes ws n s B) B
  pub same : length (built_nodes ws n s B) ≡ length s
  pub past : drop (width * count n B) (built_nodes ws n s B) ≡ drop (width * count n B) s

-- The answer of a test is yes (the value 1) exactly when the fact holds, and no (the value 0) exactly when it does not.
pub record Tells (fact : Type 0) (a : Answer) : Type 0 where
  pub if_so : fact → a ≡ at 1
  pub so : a ≡ at 1 → fact
  pub if_not : (fact → ⊥) → a ≡ at 0
  pub not_so : a ≡ at 0 → fact → ⊥

-- Position j has the searched excess: forward i < j < n and E(j+1) = E(i+1) + r, backward j < i < n and E(j) = E(i) + r.
abbrev pub Named : Way → List ℕ → ℕ → ℕ → ℤ → ℕ → Type 0
Named forward ws n i r j = (i < j) × (j < n) × (E ws (suc j) ≡ E ws (suc i) +ℤ r)
Named backward ws n i r j = (i < n) × (j < i) × (E ws j ≡ E ws i +ℤ r)

-- The answer is the nearest position with the searched excess, or nothing exactly when no such position exists.
abbrev pub Nearest : Way → List ℕ → ℕ → ℕ → ℤ → Answer → Type 0
Nearest w ws n i r (at j) = Named w ws n i r j × ((k : ℕ) → Named w ws n i r k → Before w k j → ⊥)
Nearest w ws n i r nothing = (k : ℕ) → Named w ws n i r k → ⊥
Nearest w ws n i r (refused k) = ⊥

-- Every answer equals its definition, no call gives refusal 8, and each search answers the nearest position.
pub record Answers (ws : List ℕ) (n : ℕ) (ask : Question → Answer) : Type 0 where
  pub equal : (q : Question) → ask q ≡ definition ws n q
  pub fitting : (q : Question) → ask q ≡ refused 8 → ⊥
  pub ahead : (i : ℕ) (r : ℤ) → Nearest forward ws n i r (ask (FwdSearch i r))
  pub behind : (i : ℕ) (r : ℤ) → Nearest backward ws n i r (ask (BwdSearch i r))

-- Demand 2.
pub record Second : Type 0 where
  pub builds : (ws : List ℕ) (n : ℕ) (s : List ℤ) (B : ℕ) → Fine (length ws) n (length s) B → Builds ws n s B
  pub one_tree : (ws : List ℕ) (n : ℕ) → n ≤ max_bits → n ≤ 64 * length ws → Tells (OneTree ws n) (one_tree_answer ws n)
  pub as_built : (ws : List ℕ) (n : ℕ) (s : List ℤ) (B : ℕ) → Fine (length ws) n (length s) B → Tells (AsBuilt ws n s B) (as_built_answer ws n s B)
  pub over_built : (ws : List ℕ) (n : ℕ) (s : List ℤ) (B : ℕ) → Fine (length ws) n (length s) B → Answers ws n (promised ws n (built_nodes ws n s B) B)
  pub over_alike : (ws : List ℕ) (n : ℕ) (s : List ℤ) (B : ℕ) → Fine (length ws) n (length s) B → AsBuilt ws n s B → Answers ws n (promised ws n s B)
