-- `bits_lookup::scan_byte` scans a byte. A byte that does not qualify is passed by its total; otherwise its bits are read. Assumes nothing.
use mathlib.Core.Path.{◌≡◌, sym, ◌∙◌}
use native.Mathlib.Omega.{arith}
use mathlib.Core.Bool.{false}
use mir.Syntax.{w64}
use mir.ValLaws.{to_z-of_z}
use Rattle.row.specs.Bits.{digit}
use Rattle.bits_stretch.specs.Summary.{summary_of, holds_on}
use Rattle.bits_stretch.proofs.Full.{summary_size}
use Rattle.bits_stretch.proofs.Covers.{skip_on}
use Rattle.bits_lookup.proofs.Passing.{total_back}
use Rattle.bits_lookup.proofs.block.scan_byte.Goals as goal

pub holds-requires : goal.holds-requires
holds-requires g c = rw (to_z-of_z w64 _ c.ranges.r, c.byte_summary-x.ensures) (omega (arith, c.requires, (summary_size (digit c.args.b) 0 8).total))

pub passed-requires : goal.passed-requires
passed-requires g c =
    rw (to_z-of_z w64 _ c.ranges.r, total_back (digit c.args.b) _ c.byte_summary-x.ensures) (omega (arith, c.requires, (summary_size (digit c.args.b) 0 8).total))

pub returns : goal.returns
returns g c =
    let w = g.D.Direction.way in
    let f = digit c.args.b in
    let q = rw (to_z-of_z w64 _ c.ranges.r, total_back f _ c.byte_summary-x.ensures) at c.passed.ensures in
    let h : holds_on w (summary_of f 0 8) c.args.r ≡ false = rw (to_z-of_z w64 _ c.ranges.r, c.byte_summary-x.ensures) at (sym c.holds.ensures ∙ c.if-holds.false) in
    rw (to_z-of_z w64 _ (record { sfits = c.passed.type_inv }), q) (sym (skip_on f 8 0 (omega arith) w c.args.r h))
