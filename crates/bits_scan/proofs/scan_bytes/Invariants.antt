-- `bits_scan::scan_bytes` scans bytes of a word. Loop invariant: the scan of the c bytes from k on with the remainder q gives the result of
-- the whole scan. Assumes nothing.
use Prim.Native.Nat.{◌+◌, ◌-◌, ◌*◌}
use Rattle.row.specs.Bits.{digit}
use Rattle.bits_scan.proofs.Pieces.{Reading}
use Rattle.bits_scan.proofs.scan_bytes.Given as goal

abbrev pub invariant-loop-c : goal.invariant-loop-c
invariant-loop-c g l = Reading g.D.Direction.way (digit l.word) (8 * (l.to - l.from)) (8 * l.from) l.r (8 * (l.k + l.c) - 8 * l.k) (8 * l.k) l.q
