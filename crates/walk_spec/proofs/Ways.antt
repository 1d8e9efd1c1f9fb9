-- Children and siblings in both directions, and a law of a choice by a test.
--   kin: a node and the sibling beyond it are the two children of one parent
--   met: the order in which the children of a node are met
--   near_place, far_place, side_place: the heights of the child examined first, of the other child, and of the sibling
--   alike: two choices by one test agree if their alternatives agree
-- Assumes nothing.
use mathlib.Core.Path.{◌≡◌, refl}
use mathlib.Core.Bool.{Bool, true, false, cond}
use Prim.Native.Nat.{ℕ, suc, ◌+◌, ◌-◌, ◌*◌, ◌/◌, ◌%◌}
use native.Mathlib.Omega.{arith}
use borrow.Author.Tests.{eqb-false}
use Rattle.row.specs.Way.{Way, forward, backward}
use Rattle.bits_stretch.specs.Scan.{order}
use Rattle.mmt_layout.proofs.Places.{Place, place_left, place_right, place_up}
use Rattle.walk_spec.specs.Walk.{last_sibling, sibling_beyond, nearer, farther}

pub kin : (w : Way) (k : ℕ) → (k ≡ 0 → ⊥) → last_sibling w k ≡ false → (k ≡ nearer w ((k - 1) / 2)) × (sibling_beyond w k ≡ farther w ((k - 1) / 2))
kin forward k z e = let d = eqb-false (k % 2) 0 e in (omega arith, omega arith)
kin backward k z e = let d = eqb-false (k % 2) 1 e in (omega arith, omega arith)

-- the code puts two children of node k in the order in which they are met
pub met : (w : Way) (k : ℕ) → order w (2 * k + 1) (2 * k + 2) ≡ (nearer w k, farther w k)
met forward k = refl
met backward k = refl

module _ (t : ℕ) where
  pub near_place : (w : Way) (h k : ℕ) → Place t (suc h) k → Place t h (nearer w k)
  near_place forward = place_left t
  near_place backward = place_right t

  pub far_place : (w : Way) (h k : ℕ) → Place t (suc h) k → Place t h (farther w k)
  far_place forward = place_right t
  far_place backward = place_left t

  pub side_place : (w : Way) (h k : ℕ) → (k ≡ 0 → ⊥) → last_sibling w k ≡ false → Place t h k → Place t h (sibling_beyond w k)
  side_place w h k z e p = rw (kin w k z e).1 (far_place w h ((k - 1) / 2) (place_up t h k (omega arith) p))

-- two choices by one test have the same values under f and g if their alternatives do
pub alike : {A B C : Type 0} (f : A → C) (g : B → C) (t : Bool) {x y : A} {u v : B} → f x ≡ g u → f y ≡ g v → f (cond t x y) ≡ g (cond t u v)
alike f g true p q = p
alike f g false p q = q
