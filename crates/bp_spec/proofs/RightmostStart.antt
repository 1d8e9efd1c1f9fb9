-- Where `level_rightmost` starts. The root of nodes as built is the summary of the whole row, so n + total - 1 equals 2*ones - 1.
--   start_root: the start over any nodes of a row with bits, if the root is in range
--   E_ones: the excess is twice the number of open bits minus the number of bits
--   root_there: a row with bits has a root
--   root_is: the root is the summary of the whole row
--   root_fits: the entries of the root are in range, so the root gives no refusal 8
--   root_total: n + total - 1 of the root equals 2*ones - 1
--   row_start: a start from n on gives the same answer as no start, because no search from there finds a position
--   rightmost_right: the theorem that both starts give the same answers
-- Assumes nothing.
use mathlib.Core.Path.{◌≡◌, refl, sym, ap, ◌∙◌}
use mathlib.Core.Bool.{Bool, true, false, cond}
use mathlib.Core.List.{List}
use Prim.Native.Nat.{ℕ, zero, suc, ◌+◌, ◌-◌, ◌*◌, ◌≤◌, ◌<◌}
use native.Mathlib.Omega.{arith}
use native.Mathlib.Decide.{dec_lt}
use borrow.Author.Tests.{ltb-false, ne_eqb}
use lib.Dec.{ltb, eqb}
use lib.IntN.{ℤ, pos, negsuc, ◌+ℤ◌, ◌-ℤ◌}
use Rattle.row.specs.Limits.{max_bits}
use Rattle.ints.proofs.Linear.{plus, diff}
use Rattle.ints.proofs.Shapes.{zsum}
use Rattle.row.specs.Answer.{Answer, at, nothing}
use Rattle.row.specs.Bits.{bit_at}
use Rattle.row.specs.Excess.{sign, excess, E}
use Rattle.row.specs.Search.{bwd}
use Rattle.row.proofs.Digits.{digit_lt}
use Rattle.row.proofs.Excess.{excess_ext}
use Rattle.row.proofs.Meaning.{bwd_past}
use Rattle.bits_stretch.specs.Summary.{summary_of}
use Rattle.bits_stretch.proofs.Covers.{summary_total}
use Rattle.mmt_layout.specs.Layout.{leaves, inner_for, count}
use Rattle.mmt_layout.proofs.Powers.{inner_top, inner_room, leaves_out}
use Rattle.mmt_layout.proofs.Places.{count_is, block_at, block_out, reach, reach_next, Place}
use Rattle.mmt_node.specs.Nodes.{node_at, AsBuilt}
use Rattle.mmt_node.proofs.Covered.{start_of, top, node_is}
use Rattle.walk_spec.specs.Walk.{fits}
use Rattle.walk_spec.proofs.Told.{summary_fit}
use Rattle.bp_spec.specs.SearchPair.{defined, onward, open_of}
use Rattle.bp_spec.specs.LevelEnds.{level_rightmost, ones, last_start, in_row, root_start}

-- ---- the start over any nodes
pub start_root : (n : ℕ) (s : List ℤ) → (n ≡ 0 → ⊥) → fits (node_at s 0) ≡ true → in_row n (pos n +ℤ (node_at s 0).total -ℤ pos 1) ≡ root_start n s
unfolding root_start
start_root n s z f = rw (ne_eqb n 0 z, f)

-- ---- the excess by the number of open bits
bit_sum : (x : ℕ) (z : ℤ) (o k : ℕ) → x < 2 → z +ℤ pos k ≡ pos (2 * o) → (z +ℤ sign x) +ℤ pos (suc k) ≡ pos (2 * (o + x))
unfolding sign
bit_sum zero z o k h q = omega (zsum, plus z (negsuc 0))
bit_sum (suc x) z o k h q = omega (zsum, plus z (pos 1))

pub E_ones : (ws : List ℕ) (k : ℕ) → E ws k +ℤ pos k ≡ pos (2 * ones ws k)
unfolding excess ones
E_ones ws zero = refl
E_ones ws (suc k) = bit_sum (bit_at ws k) (E ws k) (ones ws k) k (digit_lt _ _) (E_ones ws k)

-- ---- the root of nodes as built

-- A row with bits has a root.
pub root_there : (n B : ℕ) → 0 < B → 0 < n → 0 < count n B
root_there n B pB some = elim (dec_lt 0 (leaves n B)) [
  | yes y ↦ omega (arith, count_is n B some)
  | no z ↦ absurd (omega (arith, leaves_out n B pB 0 (omega arith)))
]

module _ (ws : List ℕ) (n : ℕ) (s : List ℤ) (B : ℕ) (pB : 0 < B) (short : n ≤ max_bits) (built : AsBuilt ws n s B) where
  module _ (some : 0 < n) where
    root_place : Place (top n B) (top n B) 0
    root_place = record { d = 0; sum = omega arith; lo = omega arith; hi = omega arith }

    root_reach : reach (top n B) 0 ≡ suc (inner_for (leaves n B))
    unfolding reach
    root_reach = omega (arith, inner_top (leaves n B))

    root_begin : start_of n B (top n B) 0 ≡ 0
    unfolding start_of block_at
    root_begin = let e : reach (top n B) 0 - suc (inner_for (leaves n B)) ≡ 0 = omega (arith, root_reach) in rw e (omega arith)

    root_end : start_of n B (top n B) 1 ≡ n
    unfolding start_of
    root_end =
        block_out n B pB (reach (top n B) 1 - suc (inner_for (leaves n B)))
        (omega (arith, reach_next (top n B) 0, root_reach, inner_top (leaves n B), inner_room (leaves n B)))

    pub root_is : node_at s 0 ≡ summary_of (bit_at ws) 0 n
    root_is =
        let e : n - 0 ≡ n = omega arith in
        rw (root_begin, root_end, e) at (node_is ws n s B pB some 0 built.node (top n B) 0 root_place (omega arith) (root_there n B pB some))

    pub root_fits : fits (node_at s 0) ≡ true
    root_fits = rw root_is (summary_fit (bit_at ws) 0 n short)

    root_excess : (node_at s 0).total ≡ E ws n
    root_excess = rw root_is (summary_total (bit_at ws) 0 n ∙ excess_ext _ _ n (λ j l. let e : 0 + j ≡ j = omega arith in rw e))

    pub root_total : pos n +ℤ (node_at s 0).total -ℤ pos 1 ≡ pos (2 * ones ws n) -ℤ pos 1
    root_total =
        let q : pos n +ℤ (node_at s 0).total ≡ pos (2 * ones ws n) = rw root_excess (omega (zsum, E_ones ws n)) in
        ap (λ (x : ℤ). x -ℤ pos 1) q

    start_is : root_start n s ≡ in_row n (pos (2 * ones ws n) -ℤ pos 1)
    unfolding root_start
    start_is = rw (ne_eqb n 0 (λ q. omega arith), root_fits, root_total)

-- ---- the two starts give the same answers, because no search from n on finds a position
row_start : (n o : ℕ) (g : ℕ → Answer) → ((x : ℕ) → n ≤ x → g x ≡ nothing)
    → onward (in_row n (pos (2 * o) -ℤ pos 1)) g ≡ onward (cond (eqb o 0) nothing (at (2 * o - 1))) g
row_start n zero g h = refl
row_start n (suc o) g h =
    let q : pos (2 * suc o) -ℤ pos 1 ≡ pos (2 * suc o - 1) = omega (zsum, diff (2 * suc o) 1) in
    rw (q, ne_eqb (suc o) 0 (λ p. omega arith)) (go (ltb (2 * suc o - 1) n) refl)
  where
    go : (b : Bool) → ltb (2 * suc o - 1) n ≡ b → onward (cond b (at (2 * suc o - 1)) nothing) g ≡ g (2 * suc o - 1)
    go true e = refl
    go false e = sym (h (2 * suc o - 1) (ltb-false (2 * suc o - 1) n e))

module _ (ws : List ℕ) (n : ℕ) (s : List ℤ) (B : ℕ) (pB : 0 < B) (short : n ≤ max_bits) (built : AsBuilt ws n s B) where
  -- The steps of `level_rightmost` after its start.
  abbrev on_from : ℕ → ℕ → Answer
  on_from k x = onward (bwd ws n x (pos k)) (open_of (defined ws n))

  same_start : (k : ℕ) → Dec (0 < n) → onward (root_start n s) (on_from k) ≡ onward (last_start ws n) (on_from k)
  unfolding last_start root_start ones
  same_start k (yes p) = rw (start_is ws n s B pB short built p) (row_start n (ones ws n) (on_from k) (λ x h. rw (bwd_past ws n x (pos k) h)))
  same_start k (no p) = let z : n ≡ 0 = omega arith in rw z

  pub rightmost_right : (k : ℕ) → level_rightmost ws n (defined ws n) (root_start n s) k ≡ level_rightmost ws n (defined ws n) (last_start ws n) k
  unfolding level_rightmost
  rightmost_right k = rw (same_start k (dec_lt 0 n))
