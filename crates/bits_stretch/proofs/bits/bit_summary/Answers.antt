-- `bits_stretch::bit_summary` returns the summary of one bit. All three values are what the bit adds to the excess. Assumes nothing.
use mathlib.Core.Path.{sym}
use Rattle.bits_stretch.proofs.Steps.{sign_back}
use Rattle.bits_stretch.proofs.Full.{summary_first}
use Rattle.bits_stretch.proofs.bits.bit_summary.Goals as goal

pub returns : goal.returns
returns c = rw (sign_back _ c.sign_of-s.ensures) (sym (summary_first _ _))
