-- Laws of `min_z`, `max_z` and `eq_z`: the lesser and the greater of two integers, and the test whether two integers are equal.
--   min_ud, max_ud: `min_z a b` (`max_z a b`) as an equation between naturals, to be passed to `omega`
--   min_same, max_same: `min` (`max`) of an i64 is `min_z` (`max_z`)
--   min_size, max_size: if |a| and |b| are at most m, so is the size of the lesser (the greater)
--   eq_z_true, eq_z_false: if the test says true, the integers are equal; if it says false, they are not
--   eq_z_yes, eq_z_no: the test says true of equal integers, false of different ones
--   bits_eq_z: a comparison of the 64 bits of two signed numbers gives what `eq_z` gives
--   le_test: if a <= b holds, the test `le_z a b` is true
-- Assumes nothing.
use mathlib.Core.Path.{◌≡◌, refl}
use mathlib.Core.Bool.{true, false}
use Prim.Native.Nat.{ℕ, ◌+◌, ◌≤◌, min, max}
use lib.Dec.{eqb}
use lib.IntN.{ℤ}
use lib.Signed.{le_z, ◌≤ℤ◌}
use mir.Syntax.{w64}
use mir.Val.{SFits, of_z}
use Rattle.std.specs.Int.{int_min, int_max}
use Rattle.ints.specs.Sides.{up, dn, size}
use Rattle.ints.specs.Order.{min_z, max_z, eq_z}
use native.Mathlib.Omega.{arith}
use Rattle.ints.proofs.Linear.{bits_≡}
use Rattle.ints.proofs.Shapes.{zsum}

pub min_ud : (a b : ℤ) → up (min_z a b) + (dn a + dn b) ≡ min (up a + dn b) (up b + dn a) + dn (min_z a b)
unfolding min_z
min_ud a b = grind zsum

pub max_ud : (a b : ℤ) → up (max_z a b) + (dn a + dn b) ≡ max (up a + dn b) (up b + dn a) + dn (max_z a b)
unfolding max_z
max_ud a b = grind zsum

pub min_same : (a b : ℤ) → int_min a b ≡ min_z a b
unfolding min_z
min_same a b = refl

pub max_same : (a b : ℤ) → int_max a b ≡ max_z a b
unfolding max_z
max_same a b = grind zsum

pub min_size : (a b : ℤ) (m : ℕ) → size a ≤ m → size b ≤ m → size (min_z a b) ≤ m
unfolding min_z
min_size a b m p q = grind arith

pub max_size : (a b : ℤ) (m : ℕ) → size a ≤ m → size b ≤ m → size (max_z a b) ≤ m
unfolding max_z
max_size a b m p q = grind arith

pub eq_z_true : (a b : ℤ) → eq_z a b ≡ true → a ≡ b
unfolding eq_z
eq_z_true a b e = grind zsum

pub eq_z_false : (a b : ℤ) → eq_z a b ≡ false → a ≡ b → ⊥
unfolding eq_z
eq_z_false a b e q = grind zsum

pub eq_z_yes : (a b : ℤ) → a ≡ b → eq_z a b ≡ true
eq_z_yes a b q = grind (arith, eq_z_false a b)

pub eq_z_no : (a b : ℤ) → (a ≡ b → ⊥) → eq_z a b ≡ false
eq_z_no a b f = grind (arith, eq_z_true a b)

-- The machine evaluates `==` on two signed numbers by comparing their bits.
pub bits_eq_z : {a b : ℤ} → SFits w64 a → SFits w64 b → eqb (of_z w64 a) (of_z w64 b) ≡ eq_z a b
bits_eq_z {a} {b} f g = grind (arith, eq_z_true a b, eq_z_yes a b, bits_≡ f g)

pub le_test : {a b : ℤ} → a ≤ℤ b → le_z a b ≡ true
le_test {a} {b} h = grind zsum
