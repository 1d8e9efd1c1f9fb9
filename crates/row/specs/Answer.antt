-- The specification answers, and which one each case of an answer type means (SCOPE, Refusals).
-- Assumes nothing.
use Rattle.std.specs.Prelude.{Bool, true, false, ℕ, Option, Some, None, Result, Ok, Err}
use Rattle.row.specs.declared.refusal.Refusal.{Refusal}
use Rattle.row.specs.declared.refusal.Refusal.TheVariants.{BlockSize, TooManyBits, TooFewWords, TooFewNodes, NotAHandle, NotAParenthesis, NotOneTree, NodesMisfit}

-- A specification answer is a value, nothing, or a refusal with its number. The value is a position or a count; yes is 1,
-- no is 0, and the success of a build is 0.
pub data Answer : Type 0 where
  at : ℕ → Answer
  nothing : Answer
  refused : ℕ → Answer

-- The number of each refusal.
abbrev pub number_of : Refusal → ℕ
number_of BlockSize = 1
number_of TooManyBits = 2
number_of TooFewWords = 3
number_of TooFewNodes = 4
number_of NotAHandle = 5
number_of NotAParenthesis = 6
number_of NotOneTree = 7
number_of NodesMisfit = 8

-- The specification answer of a search, and of every other call that returns a position.
abbrev pub paper_found : Result (Option ℕ) Refusal → Answer
paper_found (Ok (Some i)) = at i
paper_found (Ok None) = nothing
paper_found (Err k) = refused (number_of k)

-- The specification answer of a yes-or-no call: yes is the value 1, no is the value 0.
abbrev pub paper_told : Result (Option Bool) Refusal → Answer
paper_told (Ok (Some true)) = at 1
paper_told (Ok (Some false)) = at 0
paper_told (Ok None) = nothing
paper_told (Err k) = refused (number_of k)

-- The specification answer of a build: success is the value 0.
abbrev pub paper_built : Result (Unit {0}) Refusal → Answer
paper_built (Ok _) = at 0
paper_built (Err k) = refused (number_of k)

-- The specification answer of the text reader, which is the bit count, and of `list`, which is a count of answers.
abbrev pub paper_read : Result ℕ Refusal → Answer
paper_read (Ok n) = at n
paper_read (Err k) = refused (number_of k)
