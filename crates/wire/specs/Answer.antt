-- Answers as one i64 (SCOPE, The C functions).
-- Assumes nothing.
use Rattle.std.specs.Prelude.{◌≤◌, ℤ, pos, negsuc}
use Rattle.row.specs.Limits.{max_bits}
use Rattle.row.specs.Answer.{Answer, at, nothing, refused}

-- A value crosses as itself, nothing as -1, refusal k as -1 - k.
abbrev pub wire_of : Answer → ℤ
wire_of (at x) = pos x
wire_of nothing = negsuc 0
wire_of (refused k) = negsuc k

-- The value of the answer, if it has one, is at most 2^32.
abbrev pub Small : Answer → Type 0
Small (at x) = x ≤ max_bits
Small nothing = Unit
Small (refused k) = Unit
