-- `bits_scan::scan_block` scans bits of a row in three parts: the bits that are met before the whole words, the whole words, the bits that
-- are met after them. Each part starts with the remainder that the part before it leaves. Assumes nothing.
use Rattle.std.proofs.Common.{◌∙◌, arith, w64}
use mir.ValLaws.{to_z-of_z}
use Rattle.bits_scan.proofs.Ends.{whole_words, first_hit, first_on, whole_hit, whole_on, last_in_word}
use Rattle.bits_scan.proofs.scan_block.Goals as goal

pub returns-in_err-p : goal.returns-in_err-p
returns-in_err-p g c =
    let t = whole_words g.D.Direction.way c.requires.bits.order c.cut-x.ensures in
    c.from_residual.ensures ∙ first_hit t _ _ (rw (to_z-of_z w64 _ c.ranges.r) at c.scan_in_word.ensures) c.in_err-p.was

pub scan_words-requires : goal.scan_words-requires
scan_words-requires g c =
    let t = whole_words g.D.Direction.way c.requires.bits.order c.cut-x.ensures in
    let s = first_on t _ _ (rw (to_z-of_z w64 _ c.ranges.r) at c.scan_in_word.ensures) c.in_ok-p.was (grind arith) in
    record { words = rw c.cut-x.ensures (record { order = omega arith; inside = omega (arith, c.requires.bits.inside); short = omega (arith, c.requires.bits.short) }); room = omega (arith, s.near, t.few) }

pub returns-in_err-q : goal.returns-in_err-q
returns-in_err-q g c =
    let t = whole_words g.D.Direction.way c.requires.bits.order c.cut-x.ensures in
    let s = first_on t _ _ (rw (to_z-of_z w64 _ c.ranges.r) at c.scan_in_word.ensures) c.in_ok-p.was (grind arith) in
    c.from_residual-in_err-q.ensures ∙ whole_hit t s c.scan_words.ensures c.in_err-q.was

pub scan_in_word-requires-2 : goal.scan_in_word-requires-2
scan_in_word-requires-2 g c =
    let t = whole_words g.D.Direction.way c.requires.bits.order c.cut-x.ensures in
    let s = first_on t _ _ (rw (to_z-of_z w64 _ c.ranges.r) at c.scan_in_word.ensures) c.in_ok-p.was (grind arith) in
    let u = whole_on t s c.scan_words.ensures c.in_ok-q.was (grind arith) in
    record { bits = last_in_word c.requires.bits g.D.Direction.way c.cut-x.ensures; room = omega (arith, u.near) }

pub returns : goal.returns
returns g c =
    let t = whole_words g.D.Direction.way c.requires.bits.order c.cut-x.ensures in
    let s = first_on t _ _ (rw (to_z-of_z w64 _ c.ranges.r) at c.scan_in_word.ensures) c.in_ok-p.was (grind arith) in
    let u = whole_on t s c.scan_words.ensures c.in_ok-q.was (grind arith) in
    c.scan_in_word-2.ensures ∙ u.same
