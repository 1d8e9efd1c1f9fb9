-- `bits_stretch::scan_bits` scans bits of a word. Loop invariant: the scan of the c bits from j on with the remainder q gives the result
-- of the whole scan. Assumes nothing.
use Rattle.std.proofs.Common.{◌≡◌, ap, ◌-◌, suc, arith, w64, of_z}
use mir.Val.{SFits}
use mir.ValLaws.{to_z-of_z}
use Rattle.ints.proofs.Linear.{bits_≡}
use Rattle.row.specs.Bits.{digit}
use Rattle.row.proofs.Excess.{sign_size}
use Rattle.bits_stretch.proofs.Steps.{sign_back, stored, reading_done, turn_hit, turn_on}
use Rattle.bits_stretch.proofs.bits.scan_bits.Goals as goal

pub passed-q-requires : goal.passed-q-requires
passed-q-requires g c =
    let n = rw (to_z-of_z w64 _ c.ranges.r) at c.loop-c.invariant.near in
    rw (sign_back _ c.sign_of.ensures) (omega (arith, n, sign_size (digit c.args.word c.place-x.result)))

pub returns-then-q-eq0 : goal.returns-then-q-eq0
returns-then-q-eq0 g c =
    let l = c.loop-c in
    let k : l.c ≡ suc (l.c - 1) = omega arith in
    let f : SFits w64 c.passed-q.result = record { sfits = c.passed-q.type_inv } in
    rw (to_z-of_z w64 _ c.ranges.r) at (turn_hit l.invariant k c.place-x.ensures (stored _ _ _ c.sign_of.ensures c.passed-q.ensures) (bits_≡ f (omega arith) c.if-q-eq0.true))

pub loop-c-preserved : goal.loop-c-preserved
loop-c-preserved g c =
    let l = c.loop-c in
    let k : l.c ≡ suc (l.c - 1) = omega arith in
    let f : SFits w64 c.passed-q.result = record { sfits = c.passed-q.type_inv } in
    rw (to_z-of_z w64 _ f) (turn_on l.invariant k c.place-x.ensures (stored _ _ _ c.sign_of.ensures c.passed-q.ensures) c.rest-j.ensures (λ z. c.if-q-eq0.false (ap (of_z w64) z)))

pub returns : goal.returns
returns g c = rw (to_z-of_z w64 _ c.ranges.r) at (reading_done c.loop-c.invariant (omega arith))
