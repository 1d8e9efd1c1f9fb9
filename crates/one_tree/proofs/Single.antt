-- One tree, by the summary of all bits but the last and by the last bit.
--   few_no: a row of fewer than two bits is not one tree
--   opens_no: a row whose last bit is open is not one tree
--   body_is: if the last bit is a close bit, the row is one tree exactly if the other bits have least > 0 and total = 1
-- Assumes nothing.
use mathlib.Core.Path.{◌≡◌, refl, sym, ◌∙◌}
use mathlib.Core.Bool.{Bool, true, false, ◌&&◌}
use mathlib.Core.List.{List}
use Prim.Native.Nat.{ℕ, suc, ◌+◌, ◌-◌, ◌/◌, ◌%◌, ◌≤◌, ◌<◌}
use native.Mathlib.Omega.{arith}
use lib.Dec.{eqb, ltb}
use lib.IntN.{pos, ◌+ℤ◌}
use lib.ListN.{get_or}
use lib.Signed.{lt_z, ◌≤ℤ◌, ◌<ℤ◌}
use borrow.Author.Tests.{eqb-true, eqb-false, lt-ltb}
use Rattle.ints.specs.Order.{eq_z}
use Rattle.ints.proofs.Linear.{plus}
use Rattle.ints.proofs.Shapes.{zsum}
use Rattle.ints.proofs.Order.{eq_z_true, eq_z_yes}
use Rattle.row.specs.Bits.{bit_at}
use Rattle.row.specs.Excess.{sign, excess, E}
use Rattle.row.specs.Tree.{opens, OneTree, one_tree}
use Rattle.row.proofs.Digits.{digit_lt}
use Rattle.row.proofs.Excess.{sign_close, sign_open}
use Rattle.row.proofs.Bools.{and_left, and_right, and_both, not_yes, is_true, same_test}
use Rattle.row.proofs.Tree.{one_tree_true, one_tree_yes}
use Rattle.bits_stretch.specs.declared.summary.Summary.{Summary}
use Rattle.bits_stretch.specs.Summary.{summary_of}
use Rattle.bits_stretch.proofs.Full.{Full, wide, summary_full}

-- If the row is not one tree, the test says no.
tree_not : (ws : List ℕ) (n : ℕ) → (OneTree ws n → ⊥) → false ≡ one_tree ws n
tree_not ws n f = sym (not_yes (one_tree ws n) (λ e. f (one_tree_true ws n e)))

pub few_no : (ws : List ℕ) (n : ℕ) → n < 2 → false ≡ one_tree ws n
few_no ws n h = tree_not ws n (λ t. let p = t.two in omega arith)

module _ (ws : List ℕ) (n : ℕ) (two : 2 ≤ n) where
  abbrev x : Summary
  x = summary_of (bit_at ws) 0 (n - 1)

  -- E(0) is 0, and E(n) is E(n - 1) plus what the last bit adds.
  start : E ws 0 ≡ pos 0
  start = unfold excess in refl

  last : E ws n ≡ E ws (n - 1) +ℤ sign (bit_at ws (n - 1))
  last = let e : suc (n - 1) ≡ n = omega arith in rw e at (step (n - 1))
    where
      step : (k : ℕ) → E ws (suc k) ≡ E ws k +ℤ sign (bit_at ws k)
      step k = unfold excess in refl

  body : Full (E ws) 0 (n - 1) x
  body = let e : 0 + (n - 1) ≡ n - 1 = omega arith in rw e at (summary_full (bit_at ws) 0 (n - 1) (omega arith))

  pub opens_no : opens ws n (n - 1) ≡ true → false ≡ one_tree ws n
  unfolding opens
  opens_no h =
      let o = and_right (ltb (n - 1) n) (eqb (bit_at ws (n - 1)) 1) h in
      tree_not ws n (λ t. let b = sign_open (bit_at ws (n - 1)) (λ z. omega (arith, eqb-true (bit_at ws (n - 1)) 1 o)) in omega (zsum, last, t.closed, t.above (n - 1) (omega arith) (omega arith)))

  -- The last bit is a close bit, so E(n) is one less than the total of the other bits.
  module _ (h : opens ws n (n - 1) ≡ false) where
    ends : E ws n +ℤ pos 1 ≡ x.total
    unfolding opens
    ends =
        let c : eqb (bit_at ws (n - 1)) 1 ≡ false = rw (lt-ltb (n - 1) n (omega arith)) at h in
        let l = digit_lt (get_or ws ((n - 1) / 64) 0) ((n - 1) % 64) in
        let b = sign_close (bit_at ws (n - 1)) (omega (arith, eqb-false (bit_at ws (n - 1)) 1 c)) in
        omega (zsum, last, start, body.total, plus (E ws n) (pos 1), plus (E ws (n - 1)) (sign (bit_at ws (n - 1))))

    body_as : (lt_z (pos 0) x.least && eq_z x.total (pos 1)) ≡ one_tree ws n
    body_as = same_test (lt_z (pos 0) x.least && eq_z x.total (pos 1)) (one_tree ws n) there back
      where
        there : (lt_z (pos 0) x.least && eq_z x.total (pos 1)) ≡ true → one_tree ws n ≡ true
        there h =
            let p = and_left (lt_z (pos 0) x.least) (eq_z x.total (pos 1)) h in
            let q = eq_z_true x.total (pos 1) (and_right (lt_z (pos 0) x.least) (eq_z x.total (pos 1)) h) in
            one_tree_yes ws n (record {
              two = two;
              closed = omega (zsum, ends, plus (E ws n) (pos 1));
              above = λ k l u. let w : suc (k - 1) ≡ k = omega arith in let o : (E ws 0 +ℤ x.least) ≤ℤ E ws k = rw w at (body.over (k - 1) (omega arith) (omega arith)) in omega (zsum, start, plus (E ws 0) x.least);
            })

        back : one_tree ws n ≡ true → (lt_z (pos 0) x.least && eq_z x.total (pos 1)) ≡ true
        back h =
            let t = one_tree_true ws n h in
            let j = body.taken (E ws 0 +ℤ x.least) (omega zsum) (omega (zsum, wide (E ws) 0 (n - 1) x body)) in
            let p : pos 0 <ℤ x.least = omega (zsum, start, j.3, t.above (suc j.0) (omega arith) (omega (arith, j.2))) in
            and_both (lt_z (pos 0) x.least) (eq_z x.total (pos 1)) (is_true (lt_z (pos 0) x.least) p.lt) (eq_z_yes x.total (pos 1) (omega (zsum, ends, t.closed, plus (E ws n) (pos 1))))

    -- The test of the other bits says what the one-tree test says.
    pub body_is : {y : Summary} → y ≡ x → {t : Bool} → t ≡ (lt_z (pos 0) y.least && eq_z y.total (pos 1)) → t ≡ one_tree ws n
    body_is e f = rw e at f ∙ body_as
