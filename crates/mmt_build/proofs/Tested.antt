-- Laws of the as-built test: the comparison of two nodes, and the loop over all nodes.
--   int_same: `==` of two entries
--   numbers_true, numbers_yes: the comparison says yes exactly if the nodes are the same
--   node_test: the test of node k
--   built_true, built_yes: the test of all nodes says yes exactly if the buffer is as built
--   Checked: the nodes from k on have passed the test, so the nodes below k decide
--   start: `Checked` before the loop
--   down, differs: the next node passes, so `Checked` goes on; or it fails, so the answer is no
--   done: all nodes have passed, so the answer is yes
-- Assumes nothing.
use mathlib.Core.Path.{◌≡◌, refl}
use mathlib.Core.Bool.{Bool, true, false}
use mathlib.Core.List.{List}
use Prim.Native.Nat.{ℕ, zero, suc, ◌-◌, ◌*◌, ◌≤◌, ◌<◌}
use native.Mathlib.Omega.{arith}
use lib.IntN.{ℤ}
use Rattle.std.proofs.Common.{int_eq}
use Rattle.std.proofs.lemmas.Int.{ints}
use lib.ListN.{length}
use Rattle.ints.specs.Order.{eq_z}
use Rattle.ints.proofs.Order.{eq_z_true, eq_z_yes}
use Rattle.row.specs.Tree.{all_below}
use Rattle.row.proofs.Tree.{all_each, each_all}
use Rattle.bits_stretch.specs.declared.summary.Summary.{Summary}
use Rattle.mmt_layout.specs.Layout.{width, count}
use Rattle.mmt_node.specs.Nodes.{node_at, node_from, Ruled, AsBuilt}
use Rattle.mmt_build.specs.Check.{same_summary, built_test}

-- ---- the comparison of two nodes
pub int_same : (a b : ℤ) → int_eq a b ≡ eq_z a b
unfolding eq_z
int_same a b = grind (arith, ints)

module _ (x y : Summary) where
  pub numbers_true : same_summary x y ≡ true → x ≡ y
  unfolding same_summary
  numbers_true h = grind (arith, eq_z_true x.total y.total, eq_z_true x.least y.least, eq_z_true x.greatest y.greatest)

  pub numbers_yes : x ≡ y → same_summary x y ≡ true
  unfolding same_summary
  numbers_yes e = grind (arith, eq_z_yes)

-- the test of node k
abbrev pub node_test : List ℕ → ℕ → List ℤ → ℕ → ℕ → Bool
node_test ws n s B k = same_summary (node_at s k) (node_from ws n B (node_at s) k)

-- ---- all nodes
module _ (ws : List ℕ) (n : ℕ) (s : List ℤ) (B : ℕ) where
  pub built_true : width * count n B ≤ length s → built_test ws n s B ≡ true → AsBuilt ws n s B
  unfolding built_test
  built_true l h = record { long = l; node = λ k o i. numbers_true _ _ (all_each (node_test ws n s B) (count n B) k i h) }

  pub built_yes : AsBuilt ws n s B → built_test ws n s B ≡ true
  unfolding built_test
  built_yes b = each_all (node_test ws n s B) (count n B) (λ k i. numbers_yes _ _ (b.node k (omega arith) i))

  -- the nodes from k on have their required entries, so the nodes below k decide
  pub record Checked (k : ℕ) : Type 0 where
    pub within : k ≤ count n B
    pub below : built_test ws n s B ≡ all_below (node_test ws n s B) k
    pub ruled : Ruled ws n s B k

  pub start : Checked (count n B)
  unfolding built_test
  start = record { within = omega arith; below = refl; ruled = λ j o i. absurd (omega arith) }

  pub down : (k : ℕ) → 0 < k → Checked k → node_test ws n s B (k - 1) ≡ true → Checked (k - 1)
  unfolding all_below
  down zero z c h = absurd (omega arith)
  down (suc k) z c h = record { within = grind arith; below = grind arith; ruled = λ j o i. grind (arith, numbers_true, c.ruled j) }

  pub differs : (k : ℕ) → 0 < k → Checked k → node_test ws n s B (k - 1) ≡ false → false ≡ built_test ws n s B
  unfolding all_below
  differs zero z c h = absurd (omega arith)
  differs (suc k) z c h = grind arith

  pub done : (k : ℕ) → k ≡ 0 → Checked k → true ≡ built_test ws n s B
  unfolding all_below
  done k z c = grind arith
