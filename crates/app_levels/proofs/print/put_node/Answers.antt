-- Four values, each with the byte after it, one after another.
use Rattle.std.proofs.Common.{[], ◌∷◌, ◌++◌, negsuc}
use Rattle.bp_spec.specs.HandleCalls.{node_answer}
use Rattle.bp_spec.specs.SearchCalls.{fwd_answer}
use Rattle.bp_spec.specs.AncestorCalls.{parent}
use Rattle.app_page.specs.Page.{added, decimal_of}
use Rattle.app_page.proofs.Pages.{added_then}
use Rattle.app_levels.specs.Shown.{answer_text, node_line}
use Rattle.app_levels.proofs.print.put_node.Goals as goal

pub returns : goal.returns
unfolding node_line
returns c =
    let a = c.args in
    let page = a.page.now in
    let level = decimal_of a.level ++ (32 ∷ []) in
    let opens = decimal_of a.v ++ (32 ∷ []) in
    let closes = answer_text (fwd_answer a.words.now a.n a.nodes.now 64 a.v (negsuc 0)) ++ (32 ∷ []) in
    let above = answer_text (node_answer parent a.words.now a.n a.nodes.now 64 a.v) ++ (10 ∷ []) in
    let cd = rw c.close.ensures.answer at c.put_end.ensures in
    let pd = rw c.parent.ensures.answer at c.put_end-2.ensures in
    let one = added_then page level (opens ++ (closes ++ above)) in
    let two = added_then (added page level) opens (closes ++ above) in
    let three = added_then (added (added page level) opens) closes above in
    cc
