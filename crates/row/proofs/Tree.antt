-- One tree, as a test and as a claim.
--   all_each: if `all_below p c` is true, p holds of every number below c
--   each_all: if p holds of every number below c, `all_below p c` is true
--   one_tree_true: if the one-tree test says true, the row is one tree
--   one_tree_yes: if the row is one tree, the one-tree test says true
--   opens_low: a handle is below n
-- Assumes nothing.
use mathlib.Core.Path.{◌≡◌, refl}
use mathlib.Core.Bool.{Bool, true, ◌&&◌}
use mathlib.Core.List.{List}
use Prim.Native.Nat.{ℕ, zero, suc, ◌-◌, ◌<◌}
use native.Mathlib.Decide.{dec_lt}
use native.Mathlib.Omega.{arith}
use borrow.Author.Tests.{ltb-true, leb-true, le-leb}
use lib.Dec.{ltb, leb, eqb}
use lib.IntN.{pos}
use lib.Signed.{lt_z, ◌<ℤ◌}
use Rattle.ints.specs.Order.{eq_z}
use Rattle.ints.proofs.Order.{eq_z_true, eq_z_yes}
use Rattle.ints.proofs.Shapes.{zsum}
use Rattle.row.specs.Excess.{E}
use Rattle.row.specs.Bits.{bit_at}
use Rattle.row.specs.Tree.{opens, OneTree, all_below, one_tree}
use Rattle.row.proofs.Bools.{and_left, and_right, and_both, is_true}

module _ (p : ℕ → Bool) where
  pub all_each : (c k : ℕ) → k < c → all_below p c ≡ true → p k ≡ true
  unfolding all_below
  all_each zero k l h = absurd (omega arith)
  all_each (suc c) k l h = elim (dec_lt k c) [
    | yes m ↦ all_each c k m (and_right (p c) (all_below p c) h)
    | no m ↦ let e : k ≡ c = omega arith in rw e (and_left (p c) (all_below p c) h)
  ]

  pub each_all : (c : ℕ) → ((k : ℕ) → k < c → p k ≡ true) → all_below p c ≡ true
  unfolding all_below
  each_all zero h = refl
  each_all (suc c) h = and_both (p c) (all_below p c) (h c (omega arith)) (each_all c (λ k l. h k (omega arith)))

module _ (ws : List ℕ) (n : ℕ) where
  -- The tests of n >= 2 and of E(n) = 0.
  abbrev ends : Bool
  ends = leb 2 n && eq_z (E ws n) (pos 0)

  -- The test of E(k + 1) > 0.
  abbrev over : ℕ → Bool
  over k = lt_z (pos 0) (E ws (suc k))

  pub one_tree_true : one_tree ws n ≡ true → OneTree ws n
  unfolding one_tree
  one_tree_true h =
      let g = and_left ends (all_below over (n - 1)) h in
      record {
        two = leb-true 2 n (and_left (leb 2 n) (eq_z (E ws n) (pos 0)) g);
        closed = eq_z_true (E ws n) (pos 0) (and_right (leb 2 n) (eq_z (E ws n) (pos 0)) g);
        above = above;
      }
    where
      above : (k : ℕ) → 0 < k → k < n → pos 0 <ℤ E ws k
      above zero l m = absurd (omega arith)
      above (suc k) l m = let u = all_each over (n - 1) k (omega arith) (and_right ends (all_below over (n - 1)) h) in omega zsum

  pub one_tree_yes : OneTree ws n → one_tree ws n ≡ true
  unfolding one_tree
  one_tree_yes t =
      and_both ends (all_below over (n - 1))
      (and_both (leb 2 n) (eq_z (E ws n) (pos 0)) (le-leb 2 n t.two) (eq_z_yes (E ws n) (pos 0) t.closed))
      (each_all over (n - 1) (λ k l. is_true (over k) (t.above (suc k) (omega arith) (omega arith)).lt))

pub opens_low : (ws : List ℕ) (n i : ℕ) → opens ws n i ≡ true → i < n
unfolding opens
opens_low ws n i h = ltb-true i n (and_left (ltb i n) (eqb (bit_at ws i) 1) h)
