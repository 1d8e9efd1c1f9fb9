-- Each level is put, or the levels end, or a call refuses.
use Rattle.std.proofs.Common.{◌≡◌, ◌-◌, arith, sym, refl}
use Rattle.app_levels.proofs.Lines.{levels_next_put, levels_end, levels_refused, levels_spent}
use Rattle.app_levels.proofs.print.put_levels.Goals as goal

pub loop-level-init : goal.loop-level-init
loop-level-init c = let e : c.args.n - 0 ≡ c.args.n = omega arith in rw e refl

pub returns-in-Ok-None : goal.returns-in-Ok-None
returns-in-Ok-None c =
    let a = c.args in
    let l = c.loop-level in
    let q = sym (rw c.in-Ok-None.field-0-is at c.in-Ok-None.ensures.answer) in
    let e = levels_end a.words.now a.n a.nodes.now l.page l.level c.loop-level-test.true q in
    cc

pub returns-in-Err : goal.returns-in-Err
returns-in-Err c =
    let a = c.args in
    let l = c.loop-level in
    let e = levels_refused a.words.now a.n a.nodes.now l.page l.level c.loop-level-test.true _ (sym c.in-Err.ensures.answer) in
    cc

pub loop-level-preserved : goal.loop-level-preserved
loop-level-preserved c =
    let a = c.args in
    let l = c.loop-level in
    let q = sym (rw c.in-Ok-Some.field-0-is at c.in-Ok-Some.ensures.answer) in
    let e = levels_next_put a.words.now a.n a.nodes.now l.page l.level c.loop-level-test.true _ q in
    cc

pub returns : goal.returns
returns c =
    let a = c.args in
    let l = c.loop-level in
    let e = levels_spent a.words.now a.n a.nodes.now l.page l.level c.loop-level-test.false in
    cc
