-- A line is put, or the level ends, or a call refuses.
use Rattle.std.proofs.Common.{sym}
use Rattle.app_levels.proofs.Lines.{level_start, level_next_put, level_ends, level_refused, level_spent}
use Rattle.app_levels.proofs.print.put_level.Goals as goal

pub loop-step-init : goal.loop-step-init
loop-step-init c =
    let a = c.args in
    let e = level_start a.words.now a.n a.nodes.now a.page.now a.level a.first in
    cc

pub loop-step-preserved : goal.loop-step-preserved
loop-step-preserved c =
    let a = c.args in
    let l = c.loop-step in
    let q = sym (rw c.in-Ok-Some.field-0-is at c.in-Ok-Some.ensures.answer) in
    let e = level_next_put a.words.now a.n a.nodes.now l.page a.level l._step l.v c.loop-step-test.true _ q in
    cc

pub returns-in-Ok-None : goal.returns-in-Ok-None
returns-in-Ok-None c =
    let a = c.args in
    let l = c.loop-step in
    let q = sym (rw c.in-Ok-None.field-0-is at c.in-Ok-None.ensures.answer) in
    let e = level_ends a.words.now a.n a.nodes.now l.page a.level l._step l.v c.loop-step-test.true q in
    cc

pub returns-in-Err : goal.returns-in-Err
returns-in-Err c =
    let a = c.args in
    let l = c.loop-step in
    let e = level_refused a.words.now a.n a.nodes.now l.page a.level l._step l.v c.loop-step-test.true _ (sym c.in-Err.ensures.answer) in
    cc

pub returns : goal.returns
returns c =
    let a = c.args in
    let l = c.loop-step in
    let e = level_spent a.words.now a.n a.nodes.now l.page a.level l._step l.v c.loop-step-test.false in
    cc
