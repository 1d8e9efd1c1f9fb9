-- `bp_search::fwd_search` tests refusals 1 to 4 and then answers what the forward walk finds. Assumes nothing.
use mir.Syntax.{w64}
use mir.ValLaws.{to_z-of_z}
use Rattle.bp_spec.proofs.SearchAnswers.{fwd_ok}
use Rattle.bp_search.proofs.fwd_search.Goals as goal

pub returns : goal.returns
returns c =
    let g = c.new.ensures in
    fwd_ok _ _ _ _ _ _ g.gate g.parts c.in_ok-new.was (rw (to_z-of_z w64 _ c.ranges.r) at c.walk.ensures)
