-- SCOPE, Listing children: `list`, which writes the answers of a whole listing to a slice.
-- Assumes nothing.
use Rattle.std.specs.Prelude.{◌≡◌, Bool, List, [], ◌∷◌, ◌++◌, map, ℕ, zero, suc, ◌≤◌, ℤ, length, drop}
use Rattle.row.specs.Limits.{max_bits}
use Rattle.row.specs.Answer.{Answer, at, nothing, refused}
use Rattle.wire.specs.Answer.{wire_of}
use Rattle.list_slice.specs.Seek.{sought, held_after, Below}

-- The answers l that follow an answer; none follow `nothing`.
abbrev pub unless_ended : Answer → List Answer → List Answer
unless_ended (at v) l = l
unless_ended nothing l = []
unless_ended (refused k) l = l

-- The answers of the steps, at most c, up to and with the first `nothing`: the listing holds a, and `next` gives what it holds after each.
unfoldable pub answers : (Answer → Answer) → ℕ → Answer → List Answer
answers next zero a = []
answers next (suc c) a = a ∷ unless_ended a (answers next c (next a))

-- The slice s with its front overwritten by l and the rest unchanged.
abbrev pub overlaid : List ℤ → List ℤ → List ℤ
overlaid l s = l ++ drop (length l) s

-- The answer a can be written: the row has at most 2^32 bits, and if a is a position, it is one of the row.
pub record Writable (n : ℕ) (a : Answer) : Type 0 where
  pub short : n ≤ max_bits
  pub below : Below n a

-- The answers from a on are written to the slice s, as numbers of the wire; the slice then is t, and i answers were written.
pub record Wrote (next : Answer → Answer) (a : Answer) (s t : List ℤ) (i : ℕ) : Type 0 where
  pub count : i ≡ length (answers next (length s) a)
  pub left : t ≡ overlaid (map wire_of (answers next (length s) a)) s

-- The value x if the answer is no refusal, otherwise f of the refusal number.
abbrev pub unless_refused : {A : Type 0} → Answer → A → (ℕ → A) → A
unless_refused (at v) x f = x
unless_refused nothing x f = x
unless_refused (refused k) x f = f k

-- The answers of the listing of v, at most c of them.
abbrev pub answers_of : Bool → List ℕ → ℕ → List ℤ → ℕ → ℕ → ℕ → List Answer
answers_of rising ws n s B v c = answers (held_after rising ws n s B) c (sought rising ws n s B v)

-- What `list` answers if the slice has room for c: the number of answers written, or the refusal of the constructor.
unfoldable pub count_of : Bool → List ℕ → ℕ → List ℤ → ℕ → ℕ → ℕ → Answer
count_of rising ws n s B v c = unless_refused (sought rising ws n s B v) (at (length (answers_of rising ws n s B v c))) refused

-- The slice after `list`: the answers in order, then the old entries; all old entries if the constructor is refused.
unfoldable pub left_of : Bool → List ℕ → ℕ → List ℤ → ℕ → ℕ → List ℤ → List ℤ
left_of rising ws n s B v out =
    unless_refused (sought rising ws n s B v) (overlaid (map wire_of (answers_of rising ws n s B v (length out))) out) (λ _. out)
