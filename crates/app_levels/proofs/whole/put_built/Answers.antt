-- The build is not refused, and over the built nodes every answer equals its definition.
use Rattle.std.proofs.Common.{◌≡◌, length, arith}
use Rattle.app_levels.proofs.Printed.{not_refused, built_lines}
use Rattle.app_levels.proofs.whole.put_built.Goals as goal

pub returns-in-Ok : goal.returns-in-Ok
returns-in-Ok c =
    let ws = c.args.words.now in
    let w : length ws ≡ 64 = omega arith in
    let q = built_lines ws c.args.n w c.requires.short c.requires.tree in
    let h = rw c.build.ensures.slice at c.put_tree.ensures in
    rw q at h

pub returns-in-Err : goal.returns-in-Err
returns-in-Err c =
    let ws = c.args.words.now in
    let w : length ws ≡ 64 = omega arith in
    absurd (not_refused ws c.args.n _ w c.requires.short c.in-Err.ensures.answer)
