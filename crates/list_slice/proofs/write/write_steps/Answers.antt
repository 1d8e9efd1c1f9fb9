-- `list_slice::write_steps` writes the answers of the steps up to and with the first `nothing`, or until the slice is full.
use Rattle.std.proofs.Common.{◌≡◌, length, rules, sym, ◌∙◌, to_z, of_z, w64, arith}
use Rattle.row.specs.Answer.{paper_found}
use Rattle.wire.specs.Answer.{wire_of}
use Rattle.list_slice.proofs.HeldRange.{after_below}
use Rattle.list_slice.proofs.SliceWrites.{ended, goes_on, writing_step, written_full, written_ended}
use Rattle.list_slice.proofs.write.write_steps.Goals as goal

pub returns-then-eq : goal.returns-then-eq
returns-then-eq c =
    let l = c.loop-i in
    let number : to_z w64 (of_z w64 c.found.result) ≡ wire_of (paper_found l.held) = search rules in
    let w = written_ended _ _ _ _ _ _ l.invariant.writing c.loop-i-test.true (ended _ _ l.held (sym c.eq.ensures ∙ c.if-eq.true)) in
    record { count = w.count; left = rw number w.left }

pub loop-i-preserved : goal.loop-i-preserved
loop-i-preserved c =
    let l = c.loop-i in
    let a = c.args in
    let number : to_z w64 (of_z w64 c.found.result) ≡ wire_of (paper_found l.held) = search rules in
    let w = writing_step _ _ _ _ _ _ l.invariant.writing c.loop-i-test.true (goes_on _ _ l.held (sym c.eq.ensures ∙ c.if-eq.false)) in
    let b = after_below a.rising a.words.now a.n a.nodes.now a.block (paper_found l.held) in
    record { below = rw c.after-held.ensures b; writing = rw (number, c.after-held.ensures) w }

pub returns : goal.returns
returns c =
    let l = c.loop-i in
    let e : length l.out ≡ l.i = let s = l.invariant.writing.same in let r = l.invariant.writing.room in let t = c.loop-i-test.false in omega arith in
    rw e (written_full _ _ _ _ _ _ l.invariant.writing c.loop-i-test.false)
