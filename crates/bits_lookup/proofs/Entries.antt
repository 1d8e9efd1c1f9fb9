-- A table entry gives back the least and the greatest that it encodes.
--   from_start: the total of the first c bits is their excess
--   entry_least: the upper part of an entry, minus 8, is the least
--   entry_greatest: the lower part of an entry, minus 8, is the greatest
-- Assumes nothing.
use mathlib.Core.Path.{◌≡◌, ap, ◌∙◌}
use Prim.Native.Nat.{ℕ, ◌+◌, ◌/◌, ◌%◌, ◌≤◌}
use native.Mathlib.Omega.{arith}
use native.Mathlib.Nat.{zero-add}
use lib.IntN.{ℤ, pos, negsuc, nat_abs, ◌+ℤ◌, ◌-ℤ◌}
use Rattle.ints.specs.Sides.{up, dn, size}
use Rattle.ints.proofs.Linear.{plus, diff}
use Rattle.ints.proofs.Shapes.{zsum}
use Rattle.row.specs.Excess.{excess}
use Rattle.row.proofs.Excess.{excess_ext}
use Rattle.bits_stretch.specs.declared.summary.Summary.{Summary}
use Rattle.bits_stretch.specs.Summary.{summary_of}
use Rattle.bits_stretch.proofs.Full.{Sized}
use Rattle.bits_stretch.proofs.Covers.{summary_total}
use Rattle.bits_lookup.specs.Table.{encoded}

pub from_start : (f : ℕ → ℕ) (c : ℕ) → (summary_of f 0 c).total ≡ excess f c
from_start f c = summary_total f 0 c ∙ excess_ext (λ k. f (0 + k)) f c (λ k l. ap f (zero-add k))

-- A value from -8 to 8, raised by 8, is a natural of at most 16, and lowering it by 8 gives the value back.
raised : (z : ℤ) → size z ≤ 8 → (nat_abs (z +ℤ pos 8) ≤ 16) × (pos (nat_abs (z +ℤ pos 8)) -ℤ pos 8 ≡ z)
raised z h = go (z +ℤ pos 8) (plus z (pos 8))
  where
    go : (y : ℤ) → up y + (dn z + 0) ≡ (up z + 8) + dn y → (nat_abs y ≤ 16) × (pos (nat_abs y) -ℤ pos 8 ≡ z)
    go (pos n) e = (omega arith, omega (zsum, diff n 8))
    go (negsuc n) e = absurd (omega arith)

module _ (x : Summary) (s : Sized 8 x) where
  pub entry_least : pos (encoded x / 32) -ℤ pos 8 ≡ x.least
  unfolding encoded
  entry_least =
      let q : encoded x / 32 ≡ nat_abs (x.least +ℤ pos 8) = omega (arith, (raised x.greatest s.greatest).0) in
      ap (λ (k : ℕ). pos k -ℤ pos 8) q ∙ (raised x.least s.least).1

  pub entry_greatest : pos (encoded x % 32) -ℤ pos 8 ≡ x.greatest
  unfolding encoded
  entry_greatest =
      let q : encoded x % 32 ≡ nat_abs (x.greatest +ℤ pos 8) = omega (arith, (raised x.greatest s.greatest).0) in
      ap (λ (k : ℕ). pos k -ℤ pos 8) q ∙ (raised x.greatest s.greatest).1
