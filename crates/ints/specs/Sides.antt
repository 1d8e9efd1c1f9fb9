-- The positive and the negative part of an integer (SCOPE, The row and its excess). They are naturals, the only numbers that `omega` knows.
-- Assumes nothing.
use Rattle.std.specs.Prelude.{ℕ, suc, ◌+◌, ℤ, pos, negsuc}

-- The positive part of z: max(z, 0).
abbrev pub up : ℤ → ℕ
up (pos n) = n
up (negsuc n) = 0

-- The negative part of z: max(-z, 0).
abbrev pub dn : ℤ → ℕ
dn (pos n) = 0
dn (negsuc n) = suc n

-- The size |z|: the sum of the two parts.
abbrev pub size : ℤ → ℕ
size z = up z + dn z
