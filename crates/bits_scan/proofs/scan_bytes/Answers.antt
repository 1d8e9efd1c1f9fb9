-- `bits_scan::scan_bytes` scans bytes of a word. Loop invariant: the scan of the c bytes from k on with the remainder q gives the result of
-- the whole scan. Assumes nothing.
use Rattle.std.proofs.Common.{◌≡◌, refl, sym, ap, ◌∙◌, ◌-◌, ◌*◌, suc, arith, w64}
use mir.ValLaws.{to_z-of_z}
use Rattle.bits_stretch.specs.Scan.{moved}
use Rattle.bits_stretch.proofs.Steps.{place_from}
use Rattle.bits_stretch.proofs.Meets.{hit_within}
use Rattle.bits_scan.proofs.Pieces.{reading_done, byte_read, byte_scan, piece_hit, piece_on}
use Rattle.bits_scan.proofs.scan_bytes.Goals as goal

pub overflow_add-result : goal.overflow_add-result
overflow_add-result g c =
    let w = g.D.Direction.way in
    omega (arith, hit_within w _ _ _ _ (sym c.in-Break.is ∙ c.scan_byte.ensures), place_from w (c.loop-c.c - 1) c.loop-c.k)

pub returns-in-Break : goal.returns-in-Break
returns-in-Break g c =
    let l = c.loop-c in
    let w = g.D.Direction.way in
    let n : l.c ≡ suc (l.c - 1) = omega arith in
    let x = byte_scan w c.args.word c.place-i.result _ (rw c.to_le_bytes-bytes.ensures (byte_read c.args.word c.place-i.result (omega (arith, place_from w (l.c - 1) l.k)))) c.scan_byte.ensures refl in
    rw (to_z-of_z w64 _ c.ranges.r) at (piece_hit (λ k. 8 * k) (λ k. omega arith) l.invariant n c.place-i.ensures x (ap (moved (8 * c.place-i.result)) c.in-Break.is))

pub loop-c-preserved : goal.loop-c-preserved
loop-c-preserved g c =
    let l = c.loop-c in
    let w = g.D.Direction.way in
    let n : l.c ≡ suc (l.c - 1) = omega arith in
    let x = byte_scan w c.args.word c.place-i.result _ (rw c.to_le_bytes-bytes.ensures (byte_read c.args.word c.place-i.result (omega (arith, place_from w (l.c - 1) l.k)))) c.scan_byte.ensures refl in
    piece_on (λ k. 8 * k) (λ k. omega arith) l.invariant n c.place-i.ensures x c.rest-k.ensures (ap (moved (8 * c.place-i.result)) c.in-Continue.is) (grind arith)

pub returns : goal.returns
returns g c = rw (to_z-of_z w64 _ c.ranges.r) at (reading_done c.loop-c.invariant (omega arith))
