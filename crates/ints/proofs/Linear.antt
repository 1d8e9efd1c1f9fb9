-- Laws of sums and differences of integers, and of their bits.
--   plus, minus: `a +ℤ b` (`a -ℤ b`) as an equation between naturals
--   diff: the same for `sub_ℕ a b`, to which sums and differences of known signs compute
--   plus_size, minus_size: |a + b| and |a - b| are at most |a| + |b|
--   bits_≡: two numbers that fit into an i64 and have the same 64 bits are equal
--   never_true: `false ≡ true` is a contradiction
-- Assumes nothing.
use mathlib.Core.Path.{◌≡◌}
use mathlib.Core.Bool.{true, false}
use Prim.Native.Nat.{ℕ, ◌+◌, ◌≤◌}
use native.Mathlib.Omega.{arith}
use lib.IntN.{ℤ, pos, negsuc, sub_ℕ, ◌+ℤ◌, ◌-ℤ◌}
use mir.Syntax.{w64}
use mir.Val.{SFits, of_z}
use Rattle.ints.specs.Sides.{up, dn, size}
use Rattle.ints.proofs.Shapes.{zsum}

pub plus : (a b : ℤ) → up (a +ℤ b) + (dn a + dn b) ≡ (up a + up b) + dn (a +ℤ b)
plus a b = omega zsum

pub minus : (a b : ℤ) → up (a -ℤ b) + (dn a + up b) ≡ (up a + dn b) + dn (a -ℤ b)
minus a b = omega zsum

pub diff : (a b : ℕ) → up (sub_ℕ a b) + b ≡ a + dn (sub_ℕ a b)
diff a b = grind zsum

sized : (z : ℤ) (p q : ℕ) → up z + q ≡ p + dn z → size z ≤ p + q
sized (pos n) p q e = omega arith
sized (negsuc n) p q e = omega arith

pub plus_size : (a b : ℤ) → size (a +ℤ b) ≤ size a + size b
plus_size a b = omega (arith, sized (a +ℤ b) (up a + up b) (dn a + dn b) (plus a b))

pub minus_size : (a b : ℤ) → size (a -ℤ b) ≤ size a + size b
minus_size a b = omega (arith, sized (a -ℤ b) (up a + dn b) (dn a + up b) (minus a b))

-- The machine evaluates `==` on two signed numbers by comparing their bits.
pub bits_≡ : {a b : ℤ} → SFits w64 a → SFits w64 b → of_z w64 a ≡ of_z w64 b → a ≡ b
bits_≡ {a} {b} f g e = omega zsum

pub never_true : false ≡ true → ⊥
never_true e = grind arith
