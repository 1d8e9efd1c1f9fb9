-- Minimum, maximum and equality of integers (SCOPE, The row and its excess).
-- Assumes nothing.
use Rattle.std.specs.Prelude.{Bool, false, cond, eqb, ℤ, pos, negsuc}
use Rattle.std.specs.Int.Signed.{lt_z}

-- The smaller of two integers.
unfoldable pub min_z : ℤ → ℤ → ℤ
min_z a b = cond (lt_z b a) b a

-- The greater of two integers.
unfoldable pub max_z : ℤ → ℤ → ℤ
max_z a b = cond (lt_z a b) b a

-- Tests whether two integers are equal.
unfoldable pub eq_z : ℤ → ℤ → Bool
eq_z (pos a) (pos b) = eqb a b
eq_z (pos a) (negsuc b) = false
eq_z (negsuc a) (pos b) = false
eq_z (negsuc a) (negsuc b) = eqb a b
