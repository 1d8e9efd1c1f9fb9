-- In a row that is one tree the level calls by definition go to the next handle of a depth, or to the last one before.
--   back_twice: a backward search for an excess of k + 1 and then `open` answer the last handle of depth k
--   leftmost: the first handle of depth k
--   level_next_lem: the next handle of that depth after v, because none lies between v and its close
--   level_prev_lem: the last handle of that depth before v
--   shallow: the excess at y is at most y, so no handle is deeper than its position
--   start_last, last_one: `level_rightmost` starts at the last position, and the excess there is 1
--   rightmost: the last handle of depth k, if the tree has at least two outline nodes
-- Assumes nothing.
use mathlib.Core.Path.{◌≡◌, refl, sym, ap, ◌∙◌}
use mathlib.Core.Logic.{◌⊎◌, inl, inr}
use mathlib.Core.Bool.{Bool, true, false}
use mathlib.Core.List.{List}
use Prim.Native.Nat.{ℕ, zero, suc, ◌-◌, ◌*◌, ◌≤◌, ◌<◌}
use native.Mathlib.Omega.{arith}
use native.Mathlib.Decide.{dec_lt}
use borrow.Author.Tests.{ltb-true, lt-ltb, ne_eqb}
use lib.Dec.{ltb}
use lib.IntN.{ℤ, pos, ◌+ℤ◌}
use lib.Signed.{◌≤ℤ◌}
use Rattle.ints.proofs.Shapes.{zsum}
use Rattle.ints.proofs.Order.{eq_z_true, eq_z_false}
use Rattle.row.specs.Answer.{Answer, at}
use Rattle.row.specs.Excess.{E}
use Rattle.row.specs.Search.{excess_before, fwd, bwd}
use Rattle.row.specs.Tree.{OneTree}
use Rattle.bp_spec.specs.SearchPair.{defined, onward, open_of}
use Rattle.bp_spec.specs.LevelCalls.{level_next, level_prev}
use Rattle.bp_spec.specs.LevelEnds.{ones, level_leftmost, level_rightmost, last_start}
use Rattle.bp_spec.proofs.RightmostStart.{E_ones}
use Rattle.demands.specs.Handles.{at_depth}
use Rattle.demands.proofs.Neighbours.{next, prev, next_yes, next_skip, prev_skip, prev_none, NearestBelow, nearest}
use Rattle.demands.proofs.Depths.{Stands, turn, stands, at_depth_lem, not_depth, first_deep}
use Rattle.demands.proofs.Closes.{bwd_prev, open_deep, E_zero, closing, root_up}

module _ (ws : List ℕ) (n : ℕ) where
  -- From a position x with E(x) + r = k + 1: a backward search for r, and then `open`.
  back_twice : (k r : ℤ) (x m : ℕ) → x < n → x ≤ m → E ws x +ℤ r ≡ k +ℤ pos 1 → ((y : ℕ) → x ≤ suc y → y < m → Stands ws n k y → ⊥)
      → onward (bwd ws n x r) (open_of (defined ws n)) ≡ prev (at_depth ws n k) m
  back_twice k r x m l u w f = ap (λ (a : Answer). onward a (open_of (defined ws n))) (bwd_prev ws n x r l) ∙ go (nearest p x)
    where
      p : ℕ → Bool
      p = excess_before (E ws) (E ws x +ℤ r)

      -- A handle of depth k has excess k + 1 after its bit.
      none : (y : ℕ) → y < m → (suc y < x → p (suc y) ≡ false) → Stands ws n k y → ⊥
      none y b g s = elim (dec_lt (suc y) x) [ yes a ↦ eq_z_false (E ws (suc y)) (E ws x +ℤ r) (g a) (s.over ∙ sym w) | no a ↦ f y (omega arith) b s ]

      go : ((j : ℕ) × NearestBelow p x j) ⊎ ((y : ℕ) → y < x → p y ≡ false) → onward (prev p x) (open_of (defined ws n)) ≡ prev (at_depth ws n k) m
      go (inl (j, h)) =
          let d : E ws j ≡ k +ℤ pos 1 = eq_z_true (E ws j) (E ws x +ℤ r) h.has ∙ w in
          let skip = prev_skip (at_depth ws n k) j m (omega arith) (λ y a b. not_depth ws n k y (none y b (λ c. h.rest (suc y) (omega arith) c))) in
          rw h.is (open_deep ws n k j (omega arith) d ∙ sym skip)
      go (inr g) = rw (prev_none p x g) (sym (prev_none (at_depth ws n k) m (λ y b. not_depth ws n k y (none y b (g (suc y))))))

  module _ (t : OneTree ws n) where
    -- ---- forward
    pub leftmost : (k : ℕ) → level_leftmost ws n (defined ws n) k ≡ next (at_depth ws n (pos k)) n 0
    unfolding level_leftmost fwd
    leftmost zero =
        let l : 0 < n = omega arith in
        rw (lt-ltb 0 n l, level_leftmost)
        (sym (next_yes (at_depth ws n (pos 0)) n 0 l (at_depth_lem ws n (pos 0) 0 (root_up ws n t).open_is (E_zero ws n))))
    leftmost (suc k) =
        let e = (root_up ws n t).step in
        rw (ne_eqb (suc k) 0 (λ q. omega arith), level_leftmost)
        (first_deep ws n (pos (suc k)) (E ws 1 +ℤ pos (suc k)) (n - 1) 1 (omega (zsum, E_zero ws n)) (omega arith) (omega (zsum, E_zero ws n))
        ∙ sym (next_skip (at_depth ws n (pos (suc k))) n 0 1 (omega arith) (omega arith)
        (λ y a b. not_depth ws n (pos (suc k)) y (λ s. zero_shallow y b s.deep))))
      where
        zero_shallow : (y : ℕ) → y < 1 → E ws y ≡ pos (suc k) → ⊥
        zero_shallow zero b q = omega (zsum, E_zero ws n)
        zero_shallow (suc y) b q = omega arith

    pub level_next_lem : (k : ℤ) (v : ℕ) → at_depth ws n k v ≡ true → level_next ws n (defined ws n) v ≡ next (at_depth ws n k) n (suc v)
    unfolding level_next fwd
    level_next_lem k v h =
        let s = stands ws n k v h in
        let (c, d) = closing ws n t v s.open_is in
        let l = d.low in
        ap (λ (a : Answer). onward a (λ c. fwd ws n c (pos 1))) d.is
        ∙ first_deep ws n k (E ws (suc c) +ℤ pos 1) (n - suc c) (suc c) (omega zsum) (omega arith) (omega zsum)
        ∙ sym (next_skip (at_depth ws n k) n (suc v) (suc c) (omega arith) l
        (λ y a m. not_depth ws n k y (λ z. let o = d.over y a (omega arith) in omega zsum)))

    -- ---- backward
    pub level_prev_lem : (k : ℤ) (v : ℕ) → at_depth ws n k v ≡ true → level_prev ws n (defined ws n) v ≡ prev (at_depth ws n k) v
    unfolding level_prev
    level_prev_lem k v h =
        let s = stands ws n k v h in
        back_twice k (pos 1) v v s.low (omega arith) (omega zsum)
        (λ y a b z. let w : suc y ≡ v = omega arith in let q = z.over in let r : E ws v ≡ k +ℤ pos 1 = rw w at q in omega zsum)

    shallow : (y : ℕ) → y ≤ n → E ws y ≤ℤ pos y
    shallow zero h = rw (E_zero ws n) (omega zsum)
    shallow (suc y) h =
        let r = shallow y (omega arith) in
        elim (turn ws n y h) [ inl u ↦ omega zsum | inr d ↦ omega zsum ]

    -- `level_rightmost` starts at the last position.
    start_last : last_start ws n ≡ at (n - 1)
    unfolding last_start
    start_last =
        let w : 2 * ones ws n ≡ n = omega (zsum, E_ones ws n) in
        rw (ne_eqb (ones ws n) 0 (λ q. omega arith), last_start, w)

    last_one : E ws (n - 1) ≡ pos 1
    last_one =
        let w : suc (n - 1) ≡ n = omega arith in
        let a = t.above (n - 1) (omega arith) (omega arith) in
        let e = t.closed in
        let f : E ws (suc (n - 1)) ≡ pos 0 = rw w e in
        elim (turn ws n (n - 1) (omega arith)) [ inl u ↦ absurd (omega zsum) | inr d ↦ omega zsum ]

    pub rightmost : (k : ℕ) → 2 < n → level_rightmost ws n (defined ws n) (last_start ws n) k ≡ prev (at_depth ws n (pos k)) n
    unfolding level_rightmost
    rightmost k three = go (ltb n k) refl
      where
        -- Neither n - 1 nor n - 2 is a handle of depth k. Position n - 1 is the close of the root. A handle n - 2 would have depth 0. So it
        -- would be the root, and n would be 2.
        past : (y : ℕ) → n - 1 ≤ suc y → y < n → Stands ws n (pos k) y → ⊥
        past y a b s = elim (dec_lt (suc y) n) [
          | yes c ↦ (let w : suc y ≡ n - 1 = omega arith in
              let q : E ws (suc y) ≡ pos 1 = rw w last_one in
              let z = t.above y (omega arith) b in
              omega zsum)
          | no c ↦ (let w : suc y ≡ n = omega arith in
              let q : E ws (suc y) ≡ pos 0 = rw w t.closed in
              omega zsum)
        ]

        go : (b : Bool) → ltb n k ≡ b → level_rightmost ws n (defined ws n) (last_start ws n) k ≡ prev (at_depth ws n (pos k)) n
        go true q =
            let l = ltb-true n k q in
            rw (q, level_rightmost)
            (sym (prev_none (at_depth ws n (pos k)) n (λ y b. not_depth ws n (pos k) y (λ s. let e = shallow y (omega arith) in omega zsum))))
        go false q =
            rw (q, level_rightmost, start_last)
            (back_twice (pos k) (pos k) (n - 1) n (omega arith) (omega arith) (let e = last_one in omega zsum) past)
