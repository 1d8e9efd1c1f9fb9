-- Two answers of the code with the same specification answer are equal, because each map to specification answers has an inverse.
--   refusal_of, found_of, told_of, built_of, read_of, listing_of, made_of, step_of: the inverses
--   refusal_of_lem, found_of_lem, told_of_lem, built_of_lem, read_of_lem, gate_of_lem, listing_of_lem: each of them undoes its map
--   determined: a map with an inverse has at most one value with the image d
--   one_found, one_told, one_built, one_read, one_made, one_step: so at most one answer of each type satisfies a promise
-- Assumes nothing.
use mathlib.Core.Path.{◌≡◌, refl, sym, ap, ◌∙◌}
use mathlib.Core.Bool.{Bool, true, false, cond}
use Prim.Native.Nat.{ℕ}
use lib.Dec.{eqb}
use Rattle.std.specs.Prelude.{Option, Some, None, Result, Ok, Err}
use Rattle.row.specs.declared.refusal.Refusal.{Refusal}
use Rattle.row.specs.declared.refusal.Refusal.TheVariants.{BlockSize, TooManyBits, TooFewWords, TooFewNodes}
use Rattle.row.specs.declared.refusal.Refusal.TheVariants.{NotAHandle, NotAParenthesis, NotOneTree, NodesMisfit}
use Rattle.row.specs.Answer.{Answer, at, nothing, refused, number_of, paper_found, paper_told, paper_built, paper_read}
use Rattle.row.specs.Gates.{Gate, through}
use Rattle.list_struct.specs.declared.view.Children.{Children}
use Rattle.list_struct.specs.declared.view.Made.{Made}
use Rattle.list_struct.specs.declared.view.Step.{Step}
use Rattle.list_struct.specs.Listing.{Listing, Outcome}
use Rattle.list_struct.specs.Paper.{paper_listing, paper_made, paper_step}
use Rattle.demands.specs.Uniqueness.{One}

-- ---- the inverses
-- The refusal with number m.
refusal_of : ℕ → Refusal
refusal_of m =
    cond (eqb m 1) BlockSize (cond (eqb m 2) TooManyBits (cond (eqb m 3) TooFewWords (cond (eqb m 4) TooFewNodes
    (cond (eqb m 5) NotAHandle (cond (eqb m 6) NotAParenthesis (cond (eqb m 7) NotOneTree NodesMisfit))))))

refusal_of_lem : (k : Refusal) → refusal_of (number_of k) ≡ k
unfolding refusal_of
refusal_of_lem BlockSize = refl
refusal_of_lem TooManyBits = refl
refusal_of_lem TooFewWords = refl
refusal_of_lem TooFewNodes = refl
refusal_of_lem NotAHandle = refl
refusal_of_lem NotAParenthesis = refl
refusal_of_lem NotOneTree = refl
refusal_of_lem NodesMisfit = refl

abbrev found_of : Answer → Result (Option ℕ) Refusal
found_of (at v) = Ok (Some v)
found_of nothing = Ok None
found_of (refused m) = Err (refusal_of m)

abbrev told_of : Answer → Result (Option Bool) Refusal
told_of (at v) = Ok (Some (eqb v 1))
told_of nothing = Ok None
told_of (refused m) = Err (refusal_of m)

abbrev built_of : Answer → Gate
built_of (at v) = Ok tt
built_of nothing = Ok tt
built_of (refused m) = Err (refusal_of m)

abbrev read_of : Answer → Result ℕ Refusal
read_of (at n) = Ok n
read_of nothing = Ok 0
read_of (refused m) = Err (refusal_of m)

found_of_lem : (a : Result (Option ℕ) Refusal) → found_of (paper_found a) ≡ a
found_of_lem (Ok (Some v)) = refl
found_of_lem (Ok None) = refl
found_of_lem (Err k) = ap Err (refusal_of_lem k)

told_of_lem : (a : Result (Option Bool) Refusal) → told_of (paper_told a) ≡ a
told_of_lem (Ok (Some true)) = refl
told_of_lem (Ok (Some false)) = refl
told_of_lem (Ok None) = refl
told_of_lem (Err k) = ap Err (refusal_of_lem k)

built_of_lem : (a : Gate) → built_of (paper_built a) ≡ a
built_of_lem (Ok tt) = refl
built_of_lem (Err k) = ap Err (refusal_of_lem k)

read_of_lem : (a : Result ℕ Refusal) → read_of (paper_read a) ≡ a
read_of_lem (Ok n) = refl
read_of_lem (Err k) = ap Err (refusal_of_lem k)

gate_of_lem : (g : Gate) → built_of (through g (at 0)) ≡ g
gate_of_lem (Ok tt) = refl
gate_of_lem (Err k) = ap Err (refusal_of_lem k)

abbrev listing_of : Listing → Children
listing_of l = record { words = l.words; n = l.n; nodes = l.nodes; block = l.block; rising = l.rising; held = found_of l.held }

listing_of_lem : (c : Children) → listing_of (paper_listing c) ≡ c
listing_of_lem c = λ i. record { words = c.words; n = c.n; nodes = c.nodes; block = c.block; rising = c.rising; held = found_of_lem c.held i }

-- ---- at most one answer
determined : {A P : Type 0} (paper : A → P) (back : P → A) → ((a : A) → back (paper a) ≡ a) → (d : P) → One paper d
determined paper back h d a b e f = sym (h a) ∙ ap back (e ∙ sym f) ∙ h b

pub one_found : (d : Answer) → One paper_found d
one_found = determined paper_found found_of found_of_lem

pub one_told : (d : Answer) → One paper_told d
one_told = determined paper_told told_of told_of_lem

pub one_built : (d : Answer) → One paper_built d
one_built = determined paper_built built_of built_of_lem

pub one_read : (d : Answer) → One paper_read d
one_read = determined paper_read read_of read_of_lem

abbrev made_of : Outcome → Made
made_of x = record { gate = built_of x.answer; listing = listing_of x.listing }

abbrev step_of : Outcome → Step
step_of x = record { found = found_of x.answer; rest = listing_of x.listing }

pub one_made : (d : Outcome) → One paper_made d
one_made = determined paper_made made_of (λ m. λ i. record { gate = gate_of_lem m.gate i; listing = listing_of_lem m.listing i })

pub one_step : (d : Outcome) → One paper_step d
one_step = determined paper_step step_of (λ q. λ i. record { found = found_of_lem q.found i; rest = listing_of_lem q.rest i })
