-- The digits that `io::decimal` writes are those of `decimal_of`.
use Rattle.std.proofs.Common.{◌∙◌, arith}
use Rattle.app_page.proofs.Pages.{decimal_is}
use Rattle.app_page.proofs.put_number.Goals as goal

pub returns : goal.returns
returns c =
    let d = c.decimal-k.ensures in
    let e = d.digits ∙ decimal_is _ _ (omega arith) d.len in
    rw e at c.put_text.ensures
