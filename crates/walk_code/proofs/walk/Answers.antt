-- `walk_code::walk` walks from position i for the difference r. The answer here is that of the call after the first bits. Assumes nothing.
use native.Mathlib.Omega.{arith}
use Rattle.walk_code.proofs.Answers.{abs_size}
use Rattle.walk_code.proofs.Starts.{first_left}
use Rattle.walk_code.proofs.walk.Goals as goal

pub past_first_bits-requires : goal.past_first_bits-requires
past_first_bits-requires g c =
    let a = c.args in
    let z = abs_size c.ranges.r c.unsigned_abs.ensures.value in
    first_left _ a.row.words.now _ a.row.nodes.now _ _ a.r a.row.fine c.ranges.r (omega (arith, z)) c.in-Some.s c.in-Some.ensures c.scan_edge.ensures
    c.in-Continue.q c.in-Continue.is
