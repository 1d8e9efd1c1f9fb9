-- Laws of the gate of a row.
--   row_many: too many bits give refusal 2
--   row_few: too few words give refusal 3
--   row_passed: otherwise the gate of the row passes
--   row_fits: if the gate of the row passes, n is at most 2^32 and the words have n bits
-- Assumes nothing.
use mathlib.Core.Path.{◌≡◌}
use Prim.Native.Nat.{ℕ, ◌*◌, ◌≤◌, ◌<◌}
use native.Mathlib.Omega.{arith}
use Rattle.row.specs.Limits.{max_bits}
use Rattle.row.specs.declared.refusal.Refusal.TheVariants.{TooManyBits, TooFewWords}
use Rattle.std.specs.Prelude.{Ok, Err}
use Rattle.row.specs.Gates.{words_for, row_gate}

module _ (w n : ℕ) where
  pub row_many : max_bits < n → Err TooManyBits ≡ row_gate w n
  unfolding row_gate
  row_many h = grind arith

  pub row_few : n ≤ max_bits → w < words_for n → Err TooFewWords ≡ row_gate w n
  unfolding row_gate
  row_few h k = grind arith

  pub row_passed : n ≤ max_bits → words_for n ≤ w → Ok tt ≡ row_gate w n
  unfolding row_gate
  row_passed h k = grind arith

  pub row_fits : row_gate w n ≡ Ok tt → (n ≤ max_bits) × (n ≤ 64 * w)
  unfolding row_gate
  row_fits g = grind arith
