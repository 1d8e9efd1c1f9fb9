-- `bits_lookup::table` returns the table. The prover computes the list that the rule gives for all 256 bytes at once and compares
-- it with the table. Assumes nothing.
use Rattle.ints.specs.Order.{min_z, max_z}
use Rattle.row.specs.Bits.{digit}
use Rattle.row.specs.Excess.{sign, excess}
use Rattle.bits_stretch.specs.Summary.{run, lowest, highest, summary_of}
use Rattle.bits_lookup.specs.Table.{encoded}
use Rattle.bits_lookup.proofs.Tabulate.{tabulated, made_at}
use Rattle.bits_lookup.proofs.encoding.table.Goals as goal

pub returns : goal.returns
unfolding encoded summary_of run lowest highest min_z max_z excess sign tabulated
returns c = made_at (λ b. encoded (summary_of (digit b) 0 8)) 256
