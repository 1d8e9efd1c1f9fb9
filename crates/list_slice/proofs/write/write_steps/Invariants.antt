-- The first i answers are written, `held` is the next one, and the entries after them are unchanged.
use Rattle.row.specs.Answer.{paper_found}
use Rattle.list_slice.specs.Seek.{held_after, Below}
use Rattle.list_slice.proofs.SliceWrites.{Writing}
use Rattle.list_slice.proofs.write.write_steps.Given as goal

abbrev pub invariant-loop-i : goal.invariant-loop-i
invariant-loop-i l = record {
  below : Below l.n (paper_found l.held);
  writing : Writing (held_after l.rising l.words l.n l.nodes l.block) (paper_found l.initial.held) l.initial.out l.out (paper_found l.held) l.i;
}
