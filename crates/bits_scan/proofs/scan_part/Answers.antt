-- `bits_scan::scan_part` scans bits of a word in three parts: the bits that are met before the whole bytes, the whole bytes, the bits that
-- are met after them. Each part starts with the remainder that the part before it leaves. Assumes nothing.
use Rattle.std.proofs.Common.{◌∙◌, arith, w64}
use mir.ValLaws.{to_z-of_z}
use Rattle.bits_scan.proofs.Ends.{whole_bytes, first_hit, first_on, whole_hit, whole_on}
use Rattle.bits_scan.proofs.scan_part.Goals as goal

pub returns-in_err-p : goal.returns-in_err-p
returns-in_err-p g c =
    let t = whole_bytes g.D.Direction.way c.requires.order c.cut-x.ensures in
    c.from_residual.ensures ∙ first_hit t _ _ (rw (to_z-of_z w64 _ c.ranges.r) at c.scan_bits.ensures) c.in_err-p.was

pub scan_bytes-requires : goal.scan_bytes-requires
scan_bytes-requires g c =
    let t = whole_bytes g.D.Direction.way c.requires.order c.cut-x.ensures in
    let s = first_on t _ _ (rw (to_z-of_z w64 _ c.ranges.r) at c.scan_bits.ensures) c.in_ok-p.was (grind arith) in
    record { order = rw c.cut-x.ensures (omega arith); inside = rw c.cut-x.ensures (omega arith); room = omega (arith, s.near, t.few) }

pub returns-in_err-q : goal.returns-in_err-q
returns-in_err-q g c =
    let t = whole_bytes g.D.Direction.way c.requires.order c.cut-x.ensures in
    let s = first_on t _ _ (rw (to_z-of_z w64 _ c.ranges.r) at c.scan_bits.ensures) c.in_ok-p.was (grind arith) in
    c.from_residual-in_err-q.ensures ∙ whole_hit t s c.scan_bytes.ensures c.in_err-q.was

pub scan_bits-requires-2-clause-r_bound : goal.scan_bits-requires-2-clause-r_bound
scan_bits-requires-2-clause-r_bound g c =
    let t = whole_bytes g.D.Direction.way c.requires.order c.cut-x.ensures in
    let s = first_on t _ _ (rw (to_z-of_z w64 _ c.ranges.r) at c.scan_bits.ensures) c.in_ok-p.was (grind arith) in
    let u = whole_on t s c.scan_bytes.ensures c.in_ok-q.was (grind arith) in
    omega (arith, u.near)

pub returns : goal.returns
returns g c =
    let t = whole_bytes g.D.Direction.way c.requires.order c.cut-x.ensures in
    let s = first_on t _ _ (rw (to_z-of_z w64 _ c.ranges.r) at c.scan_bits.ensures) c.in_ok-p.was (grind arith) in
    let u = whole_on t s c.scan_bytes.ensures c.in_ok-q.was (grind arith) in
    c.scan_bits-2.ensures ∙ u.same
