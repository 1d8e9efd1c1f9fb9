-- `list_slice::list` constructs a listing and writes the answers of its steps. A refused constructor leaves the slice unchanged.
use Rattle.std.proofs.Common.{rules}
use Rattle.bp_spec.proofs.HandleAnswers.{passed_fine}
use Rattle.list_slice.proofs.FirstSought.{unrefused, sought_passed}
use Rattle.list_slice.proofs.HeldRange.{sought_below}
use Rattle.list_slice.proofs.SliceWrites.{list_err, sought_ok, list_ok}
use Rattle.list_slice.proofs.write.list.Goals as goal

pub returns-in_err-held : goal.returns-in_err-held
returns-in_err-held c = list_err _ _ _ _ _ _ _ c.start.ensures c.in_err-held.was _ (search rules)

pub write_steps-requires : goal.write_steps-requires
write_steps-requires c =
    let a = c.args in
    let e = sought_ok a.rising a.words.now a.n a.nodes.now a.block a.v a.out.now c.start.ensures c.in_ok-held.was in
    record {
      short = (passed_fine _ _ _ _ _ (sought_passed a.words.now a.n a.nodes.now a.block a.v a.rising (rw (← e) (unrefused c.in_ok-held.held)))).short;
      below = rw e (sought_below a.rising a.words.now a.n a.nodes.now a.block a.v);
    }

pub returns : goal.returns
returns c = list_ok _ _ _ _ _ _ _ c.start.ensures c.in_ok-held.was c.write_steps.ensures
