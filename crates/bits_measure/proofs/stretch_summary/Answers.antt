-- `bits_measure::stretch_summary` joins the summary of the whole bytes with that of the bits after them. Assumes nothing.
use native.Mathlib.Omega.{arith}
use Rattle.bits_stretch.proofs.Full.{summary_pair}
use Rattle.bits_measure.proofs.stretch_summary.Goals as goal

pub join-requires : goal.join-requires
join-requires c = summary_pair _ _ _ _ _ _ c.bytes_summary-x.ensures c.edge_summary-2.ensures (omega arith) (omega arith)
