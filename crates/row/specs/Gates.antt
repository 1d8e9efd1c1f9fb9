-- The gates of a row and of a handle: refusals 2, 3 and 5, in this order (SCOPE, Refusals).
-- Assumes nothing.
use Rattle.std.specs.Prelude.{cond, List, ℕ, ◌+◌, ◌/◌, leb, Result, Ok, Err}
use Rattle.row.specs.Limits.{max_bits}
use Rattle.row.specs.declared.refusal.Refusal.TheVariants.{TooManyBits, TooFewWords, NotAHandle}
use Rattle.row.specs.declared.refusal.Refusal.{Refusal}
use Rattle.row.specs.Answer.{Answer, refused, number_of}
use Rattle.row.specs.Tree.{opens}

-- The result of the tests before a call: all pass, or one of them refuses.
abbrev pub Gate : Type 0
Gate = Result (Unit {0}) Refusal

-- The number of words that n bits need: n div 64, rounded up.
abbrev pub words_for : ℕ → ℕ
words_for n = (n + 63) / 64

-- The gate of a row: refusal 2 if n is above 2^32, else refusal 3 if w is below the number of words that n bits need.
unfoldable pub row_gate : ℕ → ℕ → Gate
row_gate w n = cond (leb n max_bits) (cond (leb (words_for n) w) (Ok tt) (Err TooFewWords)) (Err TooManyBits)

-- The gate of a handle: refusal 5 if v is not a handle.
unfoldable pub handle_gate : List ℕ → ℕ → ℕ → Gate
handle_gate ws n v = cond (opens ws n v) (Ok tt) (Err NotAHandle)

-- The answer of a call behind a gate: a if the gate passes, else the refusal of the gate.
abbrev pub through : Gate → Answer → Answer
through (Ok _) a = a
through (Err k) a = refused (number_of k)

-- One gate after another: the first reason to refuse counts.
abbrev pub and_then : Gate → Gate → Gate
and_then (Ok _) h = h
and_then (Err k) h = Err k

-- The gate of a test that also gives a value if it passes.
abbrev pub gate_of : {A : Type 0} → Result A Refusal → Gate
gate_of (Ok _) = Ok tt
gate_of (Err k) = Err k

-- What a slice contains after a call: `new` if the gate passes, `old` if it refuses.
abbrev pub kept : {A : Type 0} → Gate → A → A → A
kept (Ok _) new old = new
kept (Err k) new old = old
