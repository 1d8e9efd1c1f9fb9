-- In a row that is one tree every handle but the root is a child of exactly one handle, its parent by definition.
--   above, over: E(y) is at least E(w), if no position from y to w - 1 has excess E(w) - 1
--   within, parent_opens, closes_later: so the last position u below w with excess E(w) - 1 is a handle whose close is after w
--   one_parent: a second handle with the child w would lie between u and w or enclose u, and its excess rules out both
--   Parent, parent_of: so u is the parent of w
--   root_no_child: the root is no child
-- Assumes nothing.
use mathlib.Core.Path.{◌≡◌, ◌∙◌}
use mathlib.Core.Logic.{◌⊎◌, inl, inr}
use mathlib.Core.Bool.{Bool, true, false}
use mathlib.Core.List.{List}
use Prim.Native.Nat.{ℕ, suc, ◌-◌, ◌≤◌, ◌<◌}
use native.Mathlib.Omega.{arith}
use native.Mathlib.Decide.{dec_lt}
use borrow.Author.Tests.{le-ltb}
use lib.IntN.{pos, negsuc, ◌+ℤ◌}
use lib.Signed.{◌≤ℤ◌}
use Rattle.ints.proofs.Linear.{plus}
use Rattle.ints.proofs.Shapes.{zsum}
use Rattle.ints.proofs.Order.{eq_z_true, eq_z_false}
use Rattle.row.specs.Answer.{at}
use Rattle.row.specs.Excess.{E}
use Rattle.row.specs.Search.{excess_before}
use Rattle.row.specs.Tree.{OneTree, Handle}
use Rattle.bp_spec.specs.SearchPair.{defined}
use Rattle.bp_spec.specs.SearchCalls.{outward}
use Rattle.bp_spec.specs.AncestorCalls.{parent}
use Rattle.demands.specs.Handles.{child_of}
use Rattle.demands.proofs.Neighbours.{NearestBelow, nearest}
use Rattle.demands.proofs.Depths.{turn, opens_up, stayed}
use Rattle.row.proofs.Tree.{opens_low}
use Rattle.demands.proofs.Closes.{Closed, closing, bwd_prev, E_zero}
use Rattle.demands.proofs.Children.{kid, is_kid}

-- u is the only handle that has w as a child, and the parent of w by definition.
pub record Parent (ws : List ℕ) (n w u : ℕ) : Type 0 where
  pub is : parent ws n (defined ws n) w ≡ at u
  pub open_is : Handle ws n u
  pub child : child_of ws n u w ≡ true
  pub only : (v : ℕ) → Handle ws n v → child_of ws n v w ≡ true → v ≡ u

module _ (ws : List ℕ) (n : ℕ) (t : OneTree ws n) where
  -- Tests whether a position has the excess of a parent of w, which is E(w) - 1.
  abbrev above : ℕ → ℕ → Bool
  above w = excess_before (E ws) (E ws w +ℤ negsuc 0)

  module _ (w : ℕ) (o : Handle ws n w) (l : w < n) where
    -- If no position from y to w - 1 has that excess, the excess at y is at least E(w).
    over : (y : ℕ) → y ≤ w → ((x : ℕ) → y ≤ x → x < w → above w x ≡ false) → E ws w ≤ℤ E ws y
    over y a f =
        let r = E ws w +ℤ negsuc 0 in
        let e = plus (E ws w) (negsuc 0) in
        let z = stayed ws n r (w - y) y w (omega arith) (omega arith) (omega zsum) (λ x b m. eq_z_false (E ws x) r (f x b m)) in
        omega zsum

    module _ (u : ℕ) (h : NearestBelow (above w) w u) (left : u < w) (q : E ws u +ℤ pos 1 ≡ E ws w) where
      within : (y : ℕ) → u < y → y ≤ w → E ws w ≤ℤ E ws y
      within y a b = over y b (λ x c m. h.rest x (omega arith) m)

      parent_opens : Handle ws n u
      parent_opens =
          let y = within (suc u) (omega arith) left in
          elim (turn ws n u (omega arith)) [ inl s ↦ s.open_is | inr s ↦ absurd (omega zsum) ]

      closes_later : (c : ℕ) → Closed ws n u c → w < c
      closes_later c g =
          let b = g.back in
          let up = (opens_up ws n w o).step in
          elim (dec_lt w c) [
            | yes y ↦ y
            | no y ↦ elim (dec_lt c w) [
              | yes a ↦ (let m = within (suc c) (omega arith) a in absurd (omega zsum))
              | no a ↦ (let s : c ≡ w = omega arith in let m : E ws (suc w) ≡ E ws u = rw s at b in absurd (omega zsum))
            ]
          ]

      one_parent : (v : ℕ) → Handle ws n v → child_of ws n v w ≡ true → v ≡ u
      one_parent v ov k =
          let (c, g) = closing ws n t v ov in
          let y = kid ws n t v c ov g w k in
          elim (dec_lt u v) [
            | yes a ↦ (let m = within v a (omega arith) in absurd (omega zsum))
            | no a ↦ elim (dec_lt v u) [
              | yes b ↦ (let m = g.over u b (omega arith) in absurd (omega zsum))
              | no b ↦ omega arith
            ]
          ]

  pub parent_of : (w : ℕ) → Handle ws n w → 0 < w → (u : ℕ) × Parent ws n w u
  unfolding parent outward
  parent_of w o z = go (nearest (above w) w)
    where
      l : w < n
      l = opens_low ws n w o

      go : ((j : ℕ) × NearestBelow (above w) w j) ⊎ ((y : ℕ) → y < w → above w y ≡ false) → (u : ℕ) × Parent ws n w u
      go (inr f) = let a = over w o l 0 (omega arith) (λ x b m. f x m) in let b = t.above w z l in absurd (omega (zsum, E_zero ws n))
      go (inl (u, h)) =
          let r = h.low in
          let e = eq_z_true (E ws u) (E ws w +ℤ negsuc 0) h.has in
          let q : E ws u +ℤ pos 1 ≡ E ws w = omega zsum in
          let p = parent_opens w o l u h r q in
          let (c, g) = closing ws n t u p in (
            u,
            record {
              is = rw (o, outward, parent) (bwd_prev ws n w (negsuc 0) l ∙ h.is);
              open_is = p;
              child = is_kid ws n t u c p g w r (closes_later w o l u h r q c g) o (omega zsum);
              only = one_parent w o l u h r q;
            },
          )

  pub root_no_child : (v : ℕ) → child_of ws n v 0 ≡ false
  unfolding child_of
  root_no_child v = rw (le-ltb v 0 (omega arith), child_of)
