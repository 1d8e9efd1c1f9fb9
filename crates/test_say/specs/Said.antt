-- An answer as `list` writes it, read back.
-- Assumes nothing.
use Rattle.std.specs.Prelude.{ℕ, zero, suc, ℤ, pos, negsuc, Option, Some, None, Result, Ok, Err}

-- A position is itself, -1 is nothing, and -1 - k is refusal k.
abbrev pub answer_of : ℤ → Result (Option ℕ) ℕ
answer_of (pos n) = Ok (Some n)
answer_of (negsuc zero) = Ok None
answer_of (negsuc (suc k)) = Err (suc k)
