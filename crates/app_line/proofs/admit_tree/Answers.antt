-- Each way out follows from the answer of the one-tree test.
use Rattle.std.proofs.Common.{true, false, arith}
use Rattle.app_line.proofs.Line.{tree_told}
use Rattle.app_line.proofs.admit_tree.Goals as goal

pub returns-then-eq : goal.returns-then-eq
returns-then-eq c = record { answer = tree_told _ _ _ true c.if-eq.ensures c.in_ok-one_tree.ensures.answer; words = omega arith }

pub returns : goal.returns
returns c = record { answer = tree_told _ _ _ false c.if-eq.ensures c.in_ok-one_tree.ensures.answer; words = omega arith }
