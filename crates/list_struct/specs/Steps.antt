-- SCOPE, Listing children: the sequence of a listing's steps, and the children by definition.
-- Assumes nothing.
use Rattle.std.specs.Prelude.{◌≡◌, Bool, List, [], ◌∷◌, ℕ, zero, suc}
use Rattle.row.specs.Answer.{Answer, at, nothing}
use Rattle.bp_spec.specs.SearchPair.{defined, onward}
use Rattle.list_slice.specs.Seek.{start_call, next_call}
use Rattle.list_struct.specs.declared.view.Children.{Children}
use Rattle.list_struct.specs.declared.view.Step.{Step}
use Rattle.list_struct.specs.Listing.{Listing, stepped}
use Rattle.list_struct.specs.Paper.{paper_listing, paper_step}

-- The answer of step k, counted from 0.
unfoldable pub answer_at : ℕ → Listing → Answer
answer_at zero l = (stepped l).answer
answer_at (suc k) l = answer_at k (stepped l).listing

-- Child k of v by definition, counted from 0: the first handle, followed by k sibling calls; the answer `nothing` is propagated.
unfoldable pub child_at : Bool → List ℕ → ℕ → ℕ → ℕ → Answer
child_at rising ws n v zero = start_call rising ws n (defined ws n) v
child_at rising ws n v (suc k) = onward (child_at rising ws n v k) (next_call rising ws n (defined ws n))

-- Entry k of a list, counted from 0; nothing after its end.
abbrev pub nth : List ℕ → ℕ → Answer
nth [] k = nothing
nth (v ∷ l) zero = at v
nth (v ∷ l) (suc k) = nth l k

-- The steps q of the code from the listing c on: each meets the promise of `step` on the listing that the step before returned.
pub record Stepping (c : Children) (q : ℕ → Step) : Type 0 where
  pub first : paper_step (q 0) ≡ stepped (paper_listing c)
  pub next : (k : ℕ) → paper_step (q (suc k)) ≡ stepped (paper_listing (q k).rest)
