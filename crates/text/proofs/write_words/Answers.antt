-- `text::write_words` writes words of a text into a slice, each into its own entry. Assumes nothing.
use Rattle.std.proofs.Common.{refl, arith}
use Rattle.text.specs.Text.{words_of}
use Rattle.text.proofs.Text.{words_step}
use Rattle.text.proofs.write_words.Goals as goal

pub loop-k-init : goal.loop-k-init
unfolding words_of
loop-k-init c = refl

pub loop-k-preserved : goal.loop-k-preserved
loop-k-preserved c =
    let a = c.args in rw (c.loop-k.invariant, c.word_of.ensures) (words_step a.text.now a.words.now c.loop-k.k (omega arith))
