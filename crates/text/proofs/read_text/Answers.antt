-- `text::read_text` reads a text into words. If the gate refuses, the refusal is the answer and the words are unchanged.
-- If it passes, `write_words` writes them. Assumes nothing.
use Rattle.std.proofs.Common.{sym, ap, ◌∙◌, length, arith, rules}
use lib.Seq.{length-take-le}
use Rattle.text.specs.Text.{words_of}
use Rattle.text.proofs.Text.{text_fits, words_passed, words_refused}
use Rattle.text.proofs.read_text.Goals as goal

pub returns-in_err-admit_text : goal.returns-in_err-admit_text
returns-in_err-admit_text c = search (rules, words_refused)

pub slice_bounds-write_words-end : goal.slice_bounds-write_words-end
slice_bounds-write_words-end c = omega (arith, text_fits _ _ (sym c.admit_text.ensures ∙ c.in_ok-admit_text.was))

pub slice_bounds-write_words-end-2 : goal.slice_bounds-write_words-end-2
slice_bounds-write_words-end-2 c =
    sym (length-take-le _ _ (omega (arith, text_fits _ _ (sym c.admit_text.ensures ∙ c.in_ok-admit_text.was))))

pub write_words-requires : goal.write_words-requires
write_words-requires c =
    let f = text_fits _ _ (sym c.admit_text.ensures ∙ c.in_ok-admit_text.was) in
    rw (length-take-le c.words_for.result c.args.words.now (omega arith)) (omega arith)

pub returns : goal.returns
returns c =
    let s = c.args.text.now in
    let ws = c.args.words.now in
    let g = sym c.admit_text.ensures ∙ c.in_ok-admit_text.was in
    let f = text_fits s (length ws) g in
    let e = c.write_words.ensures ∙ ap (words_of s) (length-take-le c.words_for.result ws (omega arith)) in
    record {
      answer = simp g;
      slice = rw (e, c.words_for.ensures) (words_passed _ _ g);
    }
