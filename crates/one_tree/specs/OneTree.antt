-- The answer of the one-tree test after refusals 2 and 3, and the claim that it decides (SCOPE, The calls).
-- Assumes nothing.
use Rattle.std.specs.Prelude.{◌≡◌, Bool, true, false, cond, List, ℕ, length, Option, Some, Result, Ok}
use Rattle.row.specs.declared.refusal.Refusal.{Refusal}
use Rattle.row.specs.Answer.{Answer, at, paper_told}
use Rattle.row.specs.Tree.{OneTree, one_tree}
use Rattle.row.specs.Gates.{row_gate, through}

-- The answer is a refusal by 2 or 3, else 1 for yes if the row is one tree, and 0 for no otherwise.
unfoldable pub one_tree_answer : List ℕ → ℕ → Answer
one_tree_answer ws n = through (row_gate (length ws) n) (cond (one_tree ws n) (at 1) (at 0))

-- On a row that is not refused, the answer is yes if the row is one tree and no otherwise. The answer yes always means one tree.
pub record DecidesTree (ws : List ℕ) (n : ℕ) (a : Result (Option Bool) Refusal) : Type 0 where
  pub yes : row_gate (length ws) n ≡ (Ok tt) → OneTree ws n → a ≡ Ok (Some true)
  pub tree : a ≡ Ok (Some true) → OneTree ws n
  pub no : row_gate (length ws) n ≡ (Ok tt) → (OneTree ws n → ⊥) → a ≡ Ok (Some false)

-- The promise of the test: its answer, and the claim that it decides.
pub record OneTreePromise (ws : List ℕ) (n : ℕ) (a : Result (Option Bool) Refusal) : Type 0 where
  pub answer : paper_told a ≡ one_tree_answer ws n
  pub decides : DecidesTree ws n a
