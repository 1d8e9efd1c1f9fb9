-- The range of an i64, for the bounds inside the code (SCOPE, Shapes of code that are required).
-- Assumes nothing.
use Rattle.std.specs.Prelude.{ℕ}

-- 2^63. Every i64 except the least one has a smaller size.
abbrev pub i64_bound : ℕ
i64_bound = 9223372036854775808
