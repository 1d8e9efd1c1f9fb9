-- `walk_climb::sibling_above` goes up past nodes without a sibling beyond them. Loop invariant: a climb from node j has the result of a climb
-- from node k, and needs no more room. Assumes nothing.
use native.Mathlib.Omega.{arith}
use Rattle.walk_climb.proofs.Climbs.{rises_out, rises_on, beside}
use Rattle.walk_climb.proofs.sibling_above.Goals as goal

pub returns-then-j-node : goal.returns-then-j-node
returns-then-j-node g c = beside _ _ _ _ _ c.loop-j.invariant (λ z. omega arith) c.order-node.ensures c.if-j-node.true

pub loop-j-preserved : goal.loop-j-preserved
loop-j-preserved g c = rises_on _ _ _ _ _ c.loop-j.invariant (λ z. omega arith) c.order-node.ensures c.if-j-node.false

pub returns : goal.returns
returns g c = rises_out _ _ _ _ _ c.loop-j.invariant (omega arith)
