-- SCOPE, Listing children: the fields of a listing, and what its constructor and its steps give.
-- Assumes nothing.
use Rattle.std.specs.Prelude.{Bool, List, ℕ, ℤ}
use Rattle.std.specs.Borrow.{Bor}
use Rattle.row.specs.Answer.{Answer}
use Rattle.list_slice.specs.Seek.{sought, making, begun, held_after}

-- A listing: references to the words and the node buffer, n, B, its direction, and what its next step answers.
pub record Listing : Type 0 where
  pub words : Bor (List ℕ)
  pub n : ℕ
  pub nodes : Bor (List ℤ)
  pub block : ℕ
  pub rising : Bool
  pub held : Answer

-- The result of a constructor or a step: its answer, and the listing to go on with.
pub record Outcome : Type 0 where
  pub answer : Answer
  pub listing : Listing

-- The listing l with a as its held answer.
abbrev pub holding : Listing → Answer → Listing
holding l a = record { words = l.words; n = l.n; nodes = l.nodes; block = l.block; rising = l.rising; held = a }

-- The result of a constructor that has found the answer a: it answers the refusal that it met, otherwise 0, and the listing holds the first
-- handle or nothing.
abbrev pub opened : Bool → Bor (List ℕ) → ℕ → Bor (List ℤ) → ℕ → Answer → Outcome
opened rising ws n s B a = record {
  answer = making a;
  listing = record { words = ws; n = n; nodes = s; block = B; rising = rising; held = begun a };
}

-- The constructor makes the listing from what it finds.
abbrev pub created : Bool → Bor (List ℕ) → ℕ → Bor (List ℤ) → ℕ → ℕ → Outcome
created rising ws n s B v = opened rising ws n s B (sought rising ws.now n s.now B v)

-- A step answers what the listing holds; the listing then holds the answer of the sibling call, or nothing.
abbrev pub stepped : Listing → Outcome
stepped l = record { answer = l.held; listing = holding l (held_after l.rising l.words.now l.n l.nodes.now l.block l.held) }
