-- A scan in parts, in either direction, and a scan of the same bits at another position.
--   scan_onward: the hit of the first part, or the result of going on with its remainder
--   then_at: where the second part begins
--   then_rest: then_at for one bit and then c others is then_at for c + 1
--   scan_split: a scan of c + d bits is a scan of the c bits read first, then of the other d
--   scan_shift: a scan of the same bits a positions further on gives the same result, moved by a
--   scan_size: c bits add at most c to the size of the remainder
-- Assumes nothing.
use mathlib.Core.Path.{◌≡◌, refl, sym, ap, ◌∙◌}
use mathlib.Core.Bool.{Bool, true, false, cond}
use Prim.Native.Nat.{ℕ, zero, suc, ◌+◌, ◌≤◌, ◌<◌}
use native.Mathlib.Omega.{arith}
use native.Mathlib.Nat.{zero-add, add-zero, suc-add, add-suc, add_assoc}
use lib.IntN.{ℤ, pos}
use Rattle.ints.specs.Sides.{size}
use Rattle.ints.specs.Order.{eq_z}
use Rattle.bits_stretch.specs.Scan.{Scanned}
use Rattle.std.specs.declared.ops.ControlFlow.TheVariants.{Break, Continue}
use Rattle.row.specs.Way.{Way, forward, backward}
use Rattle.bits_stretch.specs.Scan.{place, rest, less, scan, moved}
use Rattle.bits_stretch.proofs.Steps.{place_from, rest_from, less_size}

-- ---- one part and then the next

-- The hit of the first part, or the result of going on with its remainder.
abbrev pub scan_onward : Scanned → (ℤ → Scanned) → Scanned
scan_onward (Break j) g = Break j
scan_onward (Continue q) g = g q

-- Of the bits from j on, where those begin that are read after the first c.
abbrev pub then_at : Way → ℕ → ℕ → ℕ
then_at forward c j = j + c
then_at backward c j = j

then_none : (w : Way) (j : ℕ) → then_at w 0 j ≡ j
then_none forward j = add-zero j
then_none backward j = refl

pub then_rest : (w : Way) (c j : ℕ) → then_at w c (rest w j) ≡ then_at w (suc c) j
then_rest forward c j = suc-add j c ∙ sym (add-suc j c)
then_rest backward c j = refl

rest_place : (w : Way) (d j : ℕ) → rest w (place w d j) ≡ place w d (rest w j)
rest_place forward d j = refl
rest_place backward d j = refl

place_place : (w : Way) (c d j : ℕ) → place w (c + d) j ≡ place w c (place w d j)
place_place forward c d j = refl
place_place backward c d j = omega arith

onward_cond : (t : Bool) (x : ℕ) (y : Scanned) (g : ℤ → Scanned) → scan_onward (cond t (Break x) y) g ≡ cond t (Break x) (scan_onward y g)
onward_cond true x y g = refl
onward_cond false x y g = refl

module _ (w : Way) (f : ℕ → ℕ) where
  -- Of the c + d bits from j on, c are read first, then the other d.
  pub scan_split : (c d j : ℕ) (r : ℤ) → scan w f (c + d) j r ≡ scan_onward (scan w f c (place w d j) r) (scan w f d (then_at w c j))
  unfolding scan
  scan_split zero d j r = rw (zero-add, then_none w j)
  scan_split (suc c) d j r =
      let x = place w c (place w d j) in
      let q = less w r (f x) in
      rw (suc-add, place_place w c d j, rest_place w d j, onward_cond, ← then_rest w c j)
      (ap (cond (eq_z q (pos 0)) (Break x)) (scan_split c d (rest w j) q))

-- ---- the same bits at another position

place_plus : (w : Way) (a c j : ℕ) → place w c (a + j) ≡ a + place w c j
place_plus forward a c j = refl
place_plus backward a c j = add_assoc a j c

rest_plus : (w : Way) (a j : ℕ) → rest w (a + j) ≡ a + rest w j
rest_plus forward a j = sym (add-suc a j)
rest_plus backward a j = refl

moved_cond : (a : ℕ) (t : Bool) (x : ℕ) (y : Scanned) → moved a (cond t (Break x) y) ≡ cond t (Break (a + x)) (moved a y)
moved_cond a true x y = refl
moved_cond a false x y = refl

module _ (w : Way) (f g : ℕ → ℕ) (a : ℕ) where
  pub scan_shift : (c j : ℕ) (r : ℤ) → ((k : ℕ) → j ≤ k → k < j + c → f (a + k) ≡ g k) → scan w f c (a + j) r ≡ moved a (scan w g c j r)
  unfolding scan
  scan_shift zero j r h = refl
  scan_shift (suc c) j r h =
      let x = place w c j in
      let q = less w r (g x) in
      rw (place_plus w a c j, rest_plus w a j, h x (place_from w c j).0 (place_from w c j).1, moved_cond)
      (ap (cond (eq_z q (pos 0)) (Break (a + x))) (scan_shift c (rest w j) q (λ k p l. h k (omega (arith, rest_from w j)) (omega (arith, rest_from w j)))))

-- ---- the remainder
module _ (w : Way) (f : ℕ → ℕ) where
  pub scan_size : (c j : ℕ) (r q : ℤ) → scan w f c j r ≡ Continue q → size q ≤ size r + c
  unfolding scan
  scan_size zero j r q e = let z : r ≡ q = cc in rw z (omega arith)
  scan_size (suc c) j r q e = go (eq_z p (pos 0)) (λ h. scan_size c (rest w j) p q h) e
    where
      p : ℤ
      p = less w r (f (place w c j))

      go : (t : Bool) → (scan w f c (rest w j) p ≡ Continue q → size q ≤ size p + c) → cond t (Break (place w c j)) (scan w f c (rest w j) p) ≡ Continue q
          → size q ≤ size r + suc c
      go true h e = let z : ◌≡◌ {A = ℕ} 0 1 = cc in absurd (omega arith)
      go false h e = omega (arith, less_size w r (f (place w c j)), h e)
