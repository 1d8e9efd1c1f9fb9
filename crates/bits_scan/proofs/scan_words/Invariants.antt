-- `bits_scan::scan_words` scans words of a row. Loop invariant: the scan of the c words from k on with the remainder q gives the result of
-- the whole scan. Assumes nothing.
use Prim.Native.Nat.{◌+◌, ◌-◌, ◌*◌}
use Rattle.row.specs.Bits.{bit_at}
use Rattle.bits_scan.proofs.Pieces.{Reading}
use Rattle.bits_scan.proofs.scan_words.Given as goal

abbrev pub invariant-loop-c : goal.invariant-loop-c
invariant-loop-c g l = Reading g.D.Direction.way (bit_at l.words) (64 * (l.to - l.from)) (64 * l.from) l.r (64 * (l.k + l.c) - 64 * l.k) (64 * l.k) l.q
