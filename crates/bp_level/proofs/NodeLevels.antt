-- Levels as machine numbers, and levels above n. The attributes of the functions in src name these laws.
--   level_read: a level up to n is in the range of i64, and the cast keeps its value
--   less_fits, less_read: the same for the negated level
--   walk_beyond: a walk for a difference above n, or below -n, answers nothing
--   ancestor_up, ancestor_far: `level_ancestor` for any level but 0 is what the walk finds, and nothing for a level above n
-- Assumes nothing.
use mathlib.Core.Path.{◌≡◌, refl, ◌∙◌}
use mathlib.Core.Bool.{Bool, true, false, cond}
use mathlib.Core.List.{List}
use Prim.Native.Nat.{ℕ, zero, suc, ◌≤◌, ◌<◌}
use native.Mathlib.Omega.{arith}
use borrow.Author.Tests.{lt-ltb, ne_eqb}
use lib.IntN.{ℤ, pos, neg_ℤ, ◌-ℤ◌}
use mir.Syntax.{w64}
use mir.Val.{SFits, to_z, of_z}
use mir.Facts.{to_z_pos}
use mir.ValLaws.{to_z-of_z}
use Rattle.row.specs.Limits.{max_bits}
use Rattle.ints.specs.Sides.{size}
use Rattle.ints.proofs.Linear.{diff}
use Rattle.ints.proofs.Shapes.{zsum}
use Rattle.row.specs.Answer.{nothing}
use Rattle.row.specs.Way.{Way, backward}
use Rattle.walk_spec.specs.Walk.{ends_at_once, far, found, start_block, start_scan, in_start, walk}
use Rattle.bp_spec.specs.SearchPair.{walked}
use Rattle.bp_spec.specs.LevelCalls.{level_ancestor}

-- ---- the level as an i64
module _ (n k : ℕ) (short : n ≤ max_bits) (h : k ≤ n) where
  pub level_read : to_z w64 k ≡ pos k
  level_read = to_z_pos w64 (omega arith)

  pub less_fits : SFits w64 (pos 0 -ℤ to_z w64 k)
  less_fits = rw level_read (omega (zsum, diff 0 k))

  pub less_read : to_z w64 (of_z w64 (pos 0 -ℤ to_z w64 k)) ≡ neg_ℤ (pos k)
  less_read = to_z-of_z w64 (pos 0 -ℤ to_z w64 k) less_fits ∙ rw level_read (from_zero k)
    where
      from_zero : (k : ℕ) → pos 0 -ℤ pos k ≡ neg_ℤ (pos k)
      from_zero zero = refl
      from_zero (suc k) = omega (zsum, diff 0 (suc k))

-- ---- levels above n
module _ (ws : List ℕ) (n : ℕ) (s : List ℤ) (B : ℕ) where
  pub walk_beyond : (w : Way) (i : ℕ) (r : ℤ) → n < size r → nothing ≡ (walk w ws n s B i r).answer
  unfolding walk
  walk_beyond w i r h = go (ends_at_once w n i)
    where
      go : (b : Bool) → nothing ≡ (cond b (found nothing 0) (cond (far n r) (found nothing 0) (in_start w ws n s B (start_block w B i) (start_scan w ws n B i r)))).answer
      go true = refl
      go false = rw (lt-ltb n (size r) h)

  -- ---- `level_ancestor`
  module _ (v k : ℕ) where
    module _ (z : k ≡ 0 → ⊥) where
      pub ancestor_up : (walk backward ws n s B v (neg_ℤ (pos k))).answer ≡ level_ancestor k ws n (walked ws n s B) v
      unfolding level_ancestor
      ancestor_up = rw (ne_eqb k 0 z)

      pub ancestor_far : n < k → nothing ≡ level_ancestor k ws n (walked ws n s B) v
      ancestor_far h = walk_beyond backward v (neg_ℤ (pos k)) (rw (neg_size k) h) ∙ ancestor_up
        where
          neg_size : (k : ℕ) → size (neg_ℤ (pos k)) ≡ k
          neg_size zero = refl
          neg_size (suc k) = omega arith
