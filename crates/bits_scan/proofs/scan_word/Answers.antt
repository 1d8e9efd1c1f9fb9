-- `bits_scan::scan_word` scans a word. It is passed by its total if |r| is above 64. Assumes nothing.
use Rattle.std.proofs.Common.{sym, ◌<◌, arith, w64}
use mir.ValLaws.{to_z-of_z}
use Rattle.ints.specs.Sides.{size}
use Rattle.ints.proofs.Shapes.{zsum}
use Rattle.row.specs.Bits.{digit}
use Rattle.row.proofs.Excess.{excess_size}
use Rattle.bits_scan.proofs.Pieces.{total_back, far_left}
use Rattle.bits_scan.proofs.scan_word.Goals as goal
use Rattle.bits_scan.proofs.scan_word.Goals.{then-r-gt64-via-then-r-gt64, then-r-gt64-via-else-r-gt64+then-r-ltminus64}

pub passed-requires : goal.passed-requires
passed-requires g c = rw (to_z-of_z w64 _ c.ranges.r, total_back c.args.word c.word_total.ensures) (omega (arith, c.requires.room, excess_size (digit c.args.word) 64))

pub returns-then-r-gt64 : goal.returns-then-r-gt64
returns-then-r-gt64 g c =
    let q = rw (to_z-of_z w64 _ c.ranges.r, total_back c.args.word c.word_total.ensures) at c.passed.ensures in
    let h : 64 < size c.args.r = elim c.then-r-gt64.branch [ then-r-gt64-via-then-r-gt64 w ↦ omega (zsum, w.if-r-gt64.true) | then-r-gt64-via-else-r-gt64+then-r-ltminus64 w ↦ omega (zsum, w.if-r-ltminus64.true) ] in
    rw (to_z-of_z w64 _ (record { sfits = c.passed.type_inv }), q) (sym (far_left c.args.word g.D.Direction.way c.args.r (omega arith) (omega arith) h))
