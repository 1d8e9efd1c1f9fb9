-- A scan one bit at a time, in either direction, and one turn of a loop that scans.
--   sign_back: what a bit adds to the excess is unchanged by being stored in an i64
--   stored: the remainder after a bit whose sign is stored in an i64
--   less_size: one bit adds at most 1 to the size of the remainder
--   place_from: the bit that is read first is one of the c + 1 bits from j on
--   rest_from: the other bits begin there or one position after
--   scan_end: a scan of no bits leaves its remainder
--   scan_hit: if the remainder after the next bit is 0, the scan hits that bit
--   scan_on: otherwise the scan goes on with the other bits
--   Reading: the loop invariant: what is left to scan gives the result of the whole scan, and the remainder is bounded
--   reading_start: at the start the whole scan is left
--   reading_done: with no bit left, the remainder is the result
--   turn_hit: if the remainder after the next bit is 0, this bit is the hit of the whole scan
--   turn_on: otherwise Reading holds for the other bits
-- Assumes nothing.
use mathlib.Core.Path.{◌≡◌, refl, sym, ap, ◌∙◌}
use Prim.Native.Nat.{ℕ, suc, ◌+◌, ◌≤◌, ◌<◌}
use native.Mathlib.Omega.{arith}
use lib.IntN.{ℤ, pos}
use mir.Syntax.{w64}
use mir.Val.{to_z, of_z}
use mir.ValLaws.{to_z-of_z}
use Rattle.ints.specs.Sides.{size}
use Rattle.ints.proofs.Linear.{plus_size, minus_size}
use Rattle.ints.proofs.Shapes.{zsum}
use Rattle.ints.proofs.Order.{eq_z_yes, eq_z_no}
use Rattle.row.specs.Excess.{sign}
use Rattle.row.specs.Way.{Way, forward, backward}
use Rattle.row.proofs.Excess.{sign_size}
use Rattle.std.specs.declared.ops.ControlFlow.TheVariants.{Break, Continue}
use Rattle.bits_stretch.specs.Scan.{place, rest, passed, less, scan}

-- ---- one bit
pub sign_back : {z : ℤ} (b : ℕ) → z ≡ sign b → to_z w64 (of_z w64 z) ≡ sign b
sign_back b e = ap (λ (z : ℤ). to_z w64 (of_z w64 z)) e ∙ to_z-of_z w64 (sign b) (omega (zsum, sign_size b))

-- The remainder after a bit, whose sign is stored in an i64.
pub stored : (w : Way) (q : ℤ) (b : ℕ) {s z : ℤ} → s ≡ sign b → z ≡ passed w q (to_z w64 (of_z w64 s)) → z ≡ less w q b
stored w q b e h = h ∙ ap (passed w q) (sign_back b e)

pub less_size : (w : Way) (r : ℤ) (b : ℕ) → size (less w r b) ≤ size r + 1
less_size forward r b = omega (arith, minus_size r (sign b), sign_size b)
less_size backward r b = omega (arith, plus_size r (sign b), sign_size b)

-- ---- where the bit is that is read first, and where the others begin
pub place_from : (w : Way) (c j : ℕ) → (j ≤ place w c j) × (place w c j < j + suc c)
place_from forward c j = (omega arith, omega arith)
place_from backward c j = (omega arith, omega arith)

pub rest_from : (w : Way) (j : ℕ) → (j ≤ rest w j) × (rest w j ≤ suc j)
rest_from forward j = (omega arith, omega arith)
rest_from backward j = (omega arith, omega arith)

-- ---- one step of a scan
module _ (w : Way) (f : ℕ → ℕ) (c j : ℕ) (r : ℤ) where
  pub scan_end : c ≡ 0 → Continue r ≡ scan w f c j r
  unfolding scan
  scan_end e = rw e

  pub scan_hit : less w r (f (place w c j)) ≡ pos 0 → Break (place w c j) ≡ scan w f (suc c) j r
  unfolding scan
  scan_hit e = rw (eq_z_yes _ _ e, scan)

  pub scan_on : (less w r (f (place w c j)) ≡ pos 0 → ⊥) → scan w f c (rest w j) (less w r (f (place w c j))) ≡ scan w f (suc c) j r
  unfolding scan
  scan_on e = rw (eq_z_no _ (pos 0) e, scan)

-- ---- one turn of a loop

-- A scan of c bits from a on with the remainder r has the same result as the scan of m of these bits from j on with the remainder q.
-- The size of q exceeds that of r by at most the number of bits that were read.
pub record Reading (w : Way) (f : ℕ → ℕ) (c a : ℕ) (r : ℤ) (m j : ℕ) (q : ℤ) : Type 0 where
  pub same : scan w f m j q ≡ scan w f c a r
  pub near : size q + m ≤ size r + c
  pub begin : a ≤ j
  pub inside : j + m ≤ a + c

module _ (w : Way) (f : ℕ → ℕ) where
  pub reading_start : (c a : ℕ) (r : ℤ) → Reading w f c a r c a r
  reading_start c a r = record { same = refl; near = omega arith; begin = omega arith; inside = omega arith }

module _ {w : Way} {f : ℕ → ℕ} {c a : ℕ} {r : ℤ} {m j : ℕ} {q : ℤ} (g : Reading w f c a r m j q) where
  pub reading_done : m ≡ 0 → Continue q ≡ scan w f c a r
  reading_done e = scan_end w f m j q e ∙ g.same

  -- A bit is read, and k bits are left.
  module _ {k : ℕ} (e : m ≡ suc k) where
    -- The bit is at x, and the remainder after it is z.
    module _ {x : ℕ} {z : ℤ} (h : x ≡ place w k j) (l : z ≡ less w q (f x)) where
      after : z ≡ less w q (f (place w k j))
      after = rw h at l

      pub turn_hit : z ≡ pos 0 → Break x ≡ scan w f c a r
      turn_hit o = rw h (scan_hit w f k j q (sym after ∙ o) ∙ rw e at g.same)

      pub turn_on : {i : ℕ} → i ≡ rest w j → (z ≡ pos 0 → ⊥) → Reading w f c a r k i z
      turn_on i n = rw (i, after) (record {
        same = scan_on w f k j q (λ o. n (after ∙ o)) ∙ rw e at g.same;
        near = omega (arith, g.near, less_size w q (f (place w k j)));
        begin = omega (arith, g.begin, rest_from w j);
        inside = omega (arith, g.inside, rest_from w j);
      })
