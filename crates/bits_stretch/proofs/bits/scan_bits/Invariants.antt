-- `bits_stretch::scan_bits` scans bits of a word. Loop invariant: the scan of the c bits from j on with the remainder q gives the result
-- of the whole scan. Assumes nothing.
use Prim.Native.Nat.{◌-◌}
use Rattle.row.specs.Bits.{digit}
use Rattle.bits_stretch.proofs.Steps.{Reading}
use Rattle.bits_stretch.proofs.bits.scan_bits.Given as goal

abbrev pub invariant-loop-c : goal.invariant-loop-c
invariant-loop-c g l = Reading g.D.Direction.way (digit l.word) (l.to - l.from) l.from l.r l.c l.j l.q
