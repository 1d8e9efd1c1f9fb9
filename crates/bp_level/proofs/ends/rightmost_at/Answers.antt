-- `bp_level::rightmost_at` answers nothing for a level above n; otherwise it searches from the start that the root gives. Assumes nothing.
use native.Mathlib.Omega.{arith}
use Rattle.bp_spec.proofs.RightmostStart.{root_there}
use Rattle.bp_level.proofs.ends.rightmost_at.Goals as goal

pub root_start-requires : goal.root_start-requires
root_start-requires c =
    let t = c.args.row in
    record { short = t.fine.short; root = λ h. omega (arith, t.fine.nodes, root_there t.n t.block (omega (arith, t.fine.eight)) h) }
