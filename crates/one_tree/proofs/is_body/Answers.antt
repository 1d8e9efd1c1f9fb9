-- `one_tree::is_body` tests whether least > 0 and total = 1. If the first comparison holds, the second one decides. Assumes nothing.
use native.Mathlib.Omega.{arith}
use lib.IntN.{pos}
use mir.Syntax.{w64}
use mir.ValLaws.{to_z-of_z}
use Rattle.ints.proofs.Order.{bits_eq_z}
use Rattle.one_tree.proofs.is_body.Goals as goal

pub returns-then-x-gt0 : goal.returns-then-x-gt0
returns-then-x-gt0 c =
    let x = c.args.x in
    rw (rw (to_z-of_z w64 x.least (omega arith)) at c.if-x-gt0.true) (bits_eq_z {a = x.total} {b = pos 1} (omega arith) (omega arith))
