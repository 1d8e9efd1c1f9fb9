-- `bp_family::is_ancestor` tests both handles and then answers what `spans` answers. Assumes nothing.
use Rattle.std.proofs.Common.{rules}
use Rattle.bp_spec.specs.AncestorCalls.{ancestor_answer, ancestor_defined}
use Rattle.bp_family.proofs.Ancestors.{two_err, two_ok}
use Rattle.bp_family.proofs.ancestor.is_ancestor.Goals as goal

pub returns-in_err-admit_both : goal.returns-in_err-admit_both
unfolding ancestor_answer ancestor_defined
returns-in_err-admit_both c = search (rules, two_err)

pub returns : goal.returns
returns c = let g = c.admit_both.ensures in two_ok _ _ _ _ _ _ g.gate g.parts c.in_ok-admit_both.was c.spans.ensures
