-- The position found is that of the first newline.
use Rattle.std.proofs.Common.{arith}
use Rattle.std.proofs.lemmas.Grind.{common_steps}
use Rattle.app_line.proofs.Line.{end_first}
use Rattle.app_line.proofs.line_end.Goals as goal

pub returns-clause-value : goal.returns-clause-value
returns-clause-value c = end_first _ _ (grind (arith, common_steps)) (grind (arith, common_steps)) (grind (arith, common_steps))
