-- `walk_code::past_first_bits` scans the rest of the start block. A hit is the answer; without one the walk goes on with the remainder that is
-- left. Assumes nothing.
use native.Mathlib.Omega.{arith}
use Rattle.walk_code.proofs.Starts.{rest_passed}
use Rattle.walk_code.proofs.past_first_bits.Goals as goal

pub beyond-requires : goal.beyond-requires
beyond-requires g c =
    let a = c.args in
    rest_passed _ a.row.words.now _ _ (omega (arith, a.row.fine.eight)) a.r c.ranges.r a.s c.requires
    c.min-end.ensures c.order.ensures c.scan_block.ensures c.in-Continue.q c.in-Continue.is
