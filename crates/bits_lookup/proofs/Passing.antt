-- The total of a byte as the code stores it.
--   total_back: the total of a byte is unchanged by being stored in an i64
-- Assumes nothing.
use mathlib.Core.Path.{◌≡◌, ap, ◌∙◌}
use Prim.Native.Nat.{ℕ}
use mir.Syntax.{w64}
use mir.Val.{to_z, of_z}
use mir.ValLaws.{to_z-of_z}
use Rattle.ints.proofs.Shapes.{zsum}
use Rattle.bits_stretch.specs.declared.summary.Summary.{Summary}
use Rattle.bits_stretch.specs.Summary.{summary_of}
use Rattle.bits_stretch.proofs.Full.{summary_size}

module _ (f : ℕ → ℕ) where
  abbrev x : Summary
  x = summary_of f 0 8

  pub total_back : (y : Summary) → y ≡ x → to_z w64 (of_z w64 y.total) ≡ x.total
  total_back y e = ap (λ (z : Summary). to_z w64 (of_z w64 z.total)) e ∙ to_z-of_z w64 x.total (omega (zsum, (summary_size f 0 8).total))
