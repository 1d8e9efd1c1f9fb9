-- Calls that are made of searches. If the searches answer positions below n and refuse by certain numbers, so do the calls.
--   may_wider: an answer that may refuse by some numbers may refuse by more numbers
--   may_onward, may_cond, may_told: a second step, a choice, and a yes or no stay within the bounds
--   may_handle_at: an open bit of the row, or nothing
--   may_root, may_first_child, may_leaf: the calls without a search
--   may_parent, may_last_child, may_next_sibling, may_previous_sibling: the calls that find a neighbour of an outline node
--   may_ancestor: `is_ancestor` answers 1, 0 or what the search gives
--   may_level_ancestor, may_next, may_prev, may_leftmost, may_rightmost: the calls on levels
-- Assumes nothing.
use mathlib.Core.Path.{◌≡◌, refl}
use mathlib.Core.Bool.{Bool, true, false, cond, ◌&&◌}
use mathlib.Core.List.{List}
use Prim.Native.Nat.{ℕ, ◌+◌, ◌-◌, ◌<◌}
use native.Mathlib.Omega.{arith}
use borrow.Author.Tests.{ltb-true}
use lib.Dec.{ltb, leb, eqb}
use lib.IntN.{ℤ, pos, negsuc, neg_ℤ}
use Rattle.row.specs.Answer.{Answer, at, nothing, refused}
use Rattle.row.specs.Tree.{opens, closes}
use Rattle.row.proofs.Bools.{and_right}
use Rattle.bp_spec.specs.RowCalls.{told, handle_at, root, first_child, is_leaf}
use Rattle.bp_spec.specs.SearchPair.{Searches, onward}
use Rattle.bp_spec.specs.SearchCalls.{outward}
use Rattle.bp_spec.specs.AncestorCalls.{parent, is_ancestor}
use Rattle.bp_spec.specs.SiblingCalls.{last_child, next_sibling, previous_sibling}
use Rattle.bp_spec.specs.LevelCalls.{level_next, level_prev, level_ancestor}
use Rattle.bp_spec.specs.LevelEnds.{level_leftmost, level_rightmost}
use Rattle.bp_spec.specs.Ranges.{May, Among}
use Rattle.row.proofs.Tree.{opens_low}

pub may_wider : (b : ℕ) (l m : List ℕ) → ((k : ℕ) → Among k l → Among k m) → (a : Answer) → May b l a → May b m a
may_wider b l m f (at x) h = h
may_wider b l m f nothing h = tt
may_wider b l m f (refused k) h = f k h

module _ (l : List ℕ) where
  may_onward : (b c : ℕ) (a : Answer) (f : ℕ → Answer) → May b l a → ((j : ℕ) → j < b → May c l (f j)) → May c l (onward a f)
  may_onward b c (at j) f h g = g j h
  may_onward b c nothing f h g = tt
  may_onward b c (refused k) f h g = h

  pub may_cond : (b : ℕ) (t : Bool) (x y : Answer) → (t ≡ true → May b l x) → May b l y → May b l (cond t x y)
  may_cond b true x y h g = h refl
  may_cond b false x y h g = g

  may_told : (t : Bool) → May 2 l (told t)
  may_told true = omega arith
  may_told false = omega arith

  module _ (ws : List ℕ) (n : ℕ) where
    may_handle_at : (i : ℕ) → May n l (handle_at ws n i)
    may_handle_at i = may_cond n (opens ws n i) (at i) nothing (λ o. opens_low ws n i o) tt

    -- ---- calls without a search
    pub may_root : May n l (root n)
    unfolding root
    may_root = may_cond n (ltb 0 n) (at 0) nothing (λ h. ltb-true 0 n h) tt

    pub may_first_child : (v : ℕ) → May n l (first_child ws n v)
    unfolding first_child
    may_first_child v = may_handle_at (v + 1)

    pub may_leaf : (v : ℕ) → May 2 l (is_leaf ws n v)
    unfolding is_leaf
    may_leaf v = may_told (closes ws n (v + 1))

    -- ---- calls by searches
    module _ (s : Searches) (fwd_may : (i : ℕ) (r : ℤ) → May n l (s.fwd i r)) (bwd_may : (i : ℕ) (r : ℤ) → May n l (s.bwd i r)) where
      pub may_parent : (v : ℕ) → May n l (parent ws n s v)
      unfolding parent
      may_parent v = bwd_may v (outward ws n v)

      pub may_last_child : (v : ℕ) → May n l (last_child ws n s v)
      unfolding last_child
      may_last_child v =
          may_cond n (opens ws n (v + 1)) _ nothing
          (λ o. may_onward n n (s.fwd v (negsuc 0)) _ (fwd_may v (negsuc 0)) (λ c h. bwd_may (c - 1) (negsuc 0))) tt

      pub may_next_sibling : (v : ℕ) → May n l (next_sibling ws n s v)
      unfolding next_sibling
      may_next_sibling v = may_onward n n (s.fwd v (negsuc 0)) _ (fwd_may v (negsuc 0)) (λ c h. may_handle_at (c + 1))

      pub may_previous_sibling : (v : ℕ) → May n l (previous_sibling ws n s v)
      unfolding previous_sibling
      may_previous_sibling v = may_cond n (ltb 0 v && closes ws n (v - 1)) _ nothing (λ o. bwd_may (v - 1) (negsuc 0)) tt

      pub may_ancestor : (a d : ℕ) → May 2 l (is_ancestor ws n s a d)
      unfolding is_ancestor
      may_ancestor a d = may_onward n 2 (s.fwd a (negsuc 0)) _ (fwd_may a (negsuc 0)) (λ c h. may_told (leb a d && ltb d c))

      pub may_level_ancestor : (k v : ℕ) → v < n → May n l (level_ancestor k ws n s v)
      unfolding level_ancestor
      may_level_ancestor k v h = may_cond n (eqb k 0) (at v) _ (λ e. h) (bwd_may v (neg_ℤ (pos k)))

      pub may_next : (v : ℕ) → May n l (level_next ws n s v)
      unfolding level_next
      may_next v = may_onward n n (s.fwd v (negsuc 0)) _ (fwd_may v (negsuc 0)) (λ c h. fwd_may c (pos 1))

      pub may_prev : (v : ℕ) → May n l (level_prev ws n s v)
      unfolding level_prev
      may_prev v = may_onward n n (s.bwd v (pos 1)) _ (bwd_may v (pos 1)) (λ c h. bwd_may c (negsuc 0))

      pub may_leftmost : (k : ℕ) → May n l (level_leftmost ws n s k)
      unfolding level_leftmost
      may_leftmost k = may_cond n (eqb k 0 && ltb 0 n) (at 0) _ (λ h. ltb-true 0 n (and_right (eqb k 0) (ltb 0 n) h)) (fwd_may 0 (pos k))

      pub may_rightmost : (b : ℕ) (start : Answer) → May b l start → (k : ℕ) → May n l (level_rightmost ws n s start k)
      unfolding level_rightmost
      may_rightmost b start h k =
          may_cond n (ltb n k) nothing _ (λ e. tt)
          (may_onward b n start _ h (λ i g. may_onward n n (s.bwd i (pos k)) _ (bwd_may i (pos k)) (λ c u. bwd_may c (negsuc 0))))
