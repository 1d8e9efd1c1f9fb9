-- Each case follows from the promise of the function that puts it, because an empty page has room.
use Rattle.app_page.proofs.Pages.{added_front}
use Rattle.app_levels.specs.Printed.{blank_words, printed}
use Rattle.app_levels.proofs.Printed.{input_taken, printed_tree, printed_refused, printed_fits}
use Rattle.app_levels.proofs.whole.put_answer.Goals as goal

pub put_built-requires : goal.put_built-requires
put_built-requires c =
    let i = input_taken c.args.bytes.now blank_words _ c.in-Ok.ensures.answer in
    rw c.read_tree.ensures.slice i

pub returns-in-Ok : goal.returns-in-Ok
returns-in-Ok c =
    let s = c.args.bytes.now in
    let q = printed_tree s _ c.in-Ok.ensures.answer in
    let h = rw c.read_tree.ensures.slice at c.put_built.ensures in
    let e = added_front (printed s) (printed_fits s) in
    cc

pub returns-in-Err : goal.returns-in-Err
returns-in-Err c =
    let s = c.args.bytes.now in
    let q = printed_refused s _ c.in-Err.ensures.answer in
    let e = added_front (printed s) (printed_fits s) in
    cc
