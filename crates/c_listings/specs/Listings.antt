-- SCOPE, The C functions: what a listing over bytes answers, and what it writes.
-- Assumes nothing.
use Rattle.std.specs.Prelude.{Bool, List, map, ℕ, ◌/◌, ℤ, length}
use Rattle.wire.specs.Answer.{wire_of}
use Rattle.wire.specs.Limit.{wire_bits}
use Rattle.wire.specs.Bytes.{numbers_over}
use Rattle.wire.specs.Decoded.{row_words, node_numbers}
use Rattle.list_slice.specs.Seek.{sought}
use Rattle.list_slice.specs.WholeListing.{unless_refused, answers_of, count_of}

-- The bytes out after a listing with room for c answers: the answers in order, the rest unchanged; all unchanged if the constructor is refused.
unfoldable pub listed_bytes : Bool → List ℕ → ℕ → List ℤ → ℕ → ℕ → ℕ → List ℕ → List ℕ
listed_bytes rising ws n s B v c out =
    unless_refused (sought rising ws n s B v) (numbers_over (map wire_of (answers_of rising ws n s B v c)) out) (λ _. out)

-- The number of answers written, with room for one answer per eight bytes of out; or the refusal of the constructor.
abbrev pub list_wire : Bool → List ℕ → ℕ → List ℕ → ℕ → ℕ → List ℕ → ℤ
list_wire rising row bits nodes B v out = wire_of (count_of rising (row_words row) (wire_bits bits) (node_numbers nodes) B v (length out / 8))

-- The bytes of out after the listing.
abbrev pub list_left : Bool → List ℕ → ℕ → List ℕ → ℕ → ℕ → List ℕ → List ℕ
list_left rising row bits nodes B v out = listed_bytes rising (row_words row) (wire_bits bits) (node_numbers nodes) B v (length out / 8) out
