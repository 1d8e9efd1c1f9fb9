-- `text::admit_text` makes the tests of refusals 2, 6 and 3, in this order. Each return follows from the tests before it. Assumes nothing.
use mathlib.Core.Path.{sym, ◌∙◌}
use Rattle.text.proofs.Text.{text_many, text_other, text_row}
use Rattle.text.proofs.admit_text.Goals as goal

pub returns-then-n-gt-MAX_BITS : goal.returns-then-n-gt-MAX_BITS
returns-then-n-gt-MAX_BITS c = text_many c.args.text.now _ c.if-n-gt-MAX_BITS.true

pub returns-then-not-all_parentheses : goal.returns-then-not-all_parentheses
returns-then-not-all_parentheses c =
    let b = c in
    text_other b.args.text.now _ b.if-n-gt-MAX_BITS.false (sym c.all_parentheses.ensures ∙ c.if-not-all_parentheses.true)

pub returns : goal.returns
returns c =
    let b = c in
    c.admit_row.ensures
    ∙ text_row b.args.text.now _ b.if-n-gt-MAX_BITS.false (sym c.all_parentheses.ensures ∙ c.if-not-all_parentheses.false)
