-- `bits_scan::scan_words` scans words of a row. Loop invariant: the scan of the c words from k on with the remainder q gives the result of
-- the whole scan. Assumes nothing.
use Rattle.std.proofs.Common.{◌≡◌, refl, sym, ap, ◌∙◌, ◌-◌, ◌*◌, suc, arith, w64}
use mir.ValLaws.{to_z-of_z}
use Rattle.bits_stretch.specs.Scan.{moved}
use Rattle.bits_stretch.proofs.Steps.{place_from}
use Rattle.bits_stretch.proofs.Meets.{hit_within}
use Rattle.bits_scan.proofs.Pieces.{reading_done, whole_scan, piece_hit, piece_on}
use Rattle.bits_scan.proofs.scan_words.Goals as goal

pub overflow_add-result : goal.overflow_add-result
overflow_add-result g c =
    let w = g.D.Direction.way in
    omega (arith, hit_within w _ _ _ _ (sym c.in-Break.is ∙ c.scan_word.ensures), place_from w (c.loop-c.c - 1) c.loop-c.k)

pub returns-in-Break : goal.returns-in-Break
returns-in-Break g c =
    let l = c.loop-c in
    let n : l.c ≡ suc (l.c - 1) = omega arith in
    let x = whole_scan g.D.Direction.way c.args.words.now c.place-i.result _ c.scan_word.ensures refl in
    rw (to_z-of_z w64 _ c.ranges.r) at (piece_hit (λ k. 64 * k) (λ k. omega arith) l.invariant n c.place-i.ensures x (ap (moved (64 * c.place-i.result)) c.in-Break.is))

pub loop-c-preserved : goal.loop-c-preserved
loop-c-preserved g c =
    let l = c.loop-c in
    let n : l.c ≡ suc (l.c - 1) = omega arith in
    let x = whole_scan g.D.Direction.way c.args.words.now c.place-i.result _ c.scan_word.ensures refl in
    piece_on (λ k. 64 * k) (λ k. omega arith) l.invariant n c.place-i.ensures x c.rest-k.ensures (ap (moved (64 * c.place-i.result)) c.in-Continue.is) (grind arith)

pub returns : goal.returns
returns g c = rw (to_z-of_z w64 _ c.ranges.r) at (reading_done c.loop-c.invariant (omega arith))
