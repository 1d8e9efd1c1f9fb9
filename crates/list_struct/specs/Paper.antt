-- SCOPE, Listing children: the specification of the listings, constructor results and steps of the code.
-- Assumes nothing.
use Rattle.row.specs.Answer.{at, paper_found}
use Rattle.row.specs.Gates.{through}
use Rattle.list_struct.specs.declared.view.Children.{Children}
use Rattle.list_struct.specs.declared.view.Made.{Made}
use Rattle.list_struct.specs.declared.view.Step.{Step}
use Rattle.list_struct.specs.Listing.{Listing, Outcome}

-- The specification of a listing.
abbrev pub paper_listing : Children → Listing
paper_listing c = record { words = c.words; n = c.n; nodes = c.nodes; block = c.block; rising = c.rising; held = paper_found c.held }

-- The specification of a constructor's result: a gate that has passed is the value 0, and `Err(k)` is the refusal with the number of k.
abbrev pub paper_made : Made → Outcome
paper_made m = record { answer = through m.gate (at 0); listing = paper_listing m.listing }

-- The specification of a step's result.
abbrev pub paper_step : Step → Outcome
paper_step q = record { answer = paper_found q.found; listing = paper_listing q.rest }
