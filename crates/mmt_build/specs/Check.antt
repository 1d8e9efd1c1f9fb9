-- The as-built test: its answer, and when it is yes (SCOPE, The node buffer: The build and the as-built test).
-- Assumes nothing.
use Rattle.std.specs.Prelude.{◌≡◌, Bool, true, false, cond, ◌&&◌, List, ℕ, ℤ, length, Option, Some, Result, Ok}
use Rattle.ints.specs.Order.{eq_z}
use Rattle.row.specs.declared.refusal.Refusal.{Refusal}
use Rattle.row.specs.Answer.{Answer, at, paper_told}
use Rattle.row.specs.Gates.{through}
use Rattle.row.specs.Tree.{all_below}
use Rattle.bits_stretch.specs.declared.summary.Summary.{Summary}
use Rattle.mmt_layout.specs.Layout.{count, nodes_gate}
use Rattle.mmt_node.specs.Nodes.{node_at, node_from, AsBuilt}

-- Two nodes are the same if all three entries are.
unfoldable pub same_summary : Summary → Summary → Bool
same_summary x y = eq_z x.total y.total && (eq_z x.least y.least && eq_z x.greatest y.greatest)

-- Every node has its required entries, computed from its bits or from its children in the same buffer.
unfoldable pub built_test : List ℕ → ℕ → List ℤ → ℕ → Bool
built_test ws n s B = all_below (λ k. same_summary (node_at s k) (node_from ws n B (node_at s) k)) (count n B)

-- The answer after tests 1 to 4: 1 for yes, 0 for no.
unfoldable pub as_built_answer : List ℕ → ℕ → List ℤ → ℕ → Answer
as_built_answer ws n s B = through (nodes_gate (length ws) n (length s) B) (cond (built_test ws n s B) (at 1) (at 0))

-- After tests 1 to 4 the answer is yes exactly if the buffer is as built, and no otherwise.
pub record DecidesBuilt (ws : List ℕ) (n : ℕ) (s : List ℤ) (B : ℕ) (a : Result (Option Bool) Refusal) : Type 0 where
  pub yes : nodes_gate (length ws) n (length s) B ≡ (Ok tt) → AsBuilt ws n s B → a ≡ Ok (Some true)
  pub built : a ≡ Ok (Some true) → AsBuilt ws n s B
  pub no : nodes_gate (length ws) n (length s) B ≡ (Ok tt) → (AsBuilt ws n s B → ⊥) → a ≡ Ok (Some false)

-- The promise of the as-built test: its answer, and that the answer is yes exactly if the buffer is as built.
pub record AsBuiltPromise (ws : List ℕ) (n : ℕ) (s : List ℤ) (B : ℕ) (a : Result (Option Bool) Refusal) : Type 0 where
  pub answer : paper_told a ≡ as_built_answer ws n s B
  pub decides : DecidesBuilt ws n s B a
