-- `text::write_words` writes words of a text into a slice. Loop invariant: words 0 to k - 1 are written. Assumes nothing.
use Rattle.std.proofs.Common.{◌≡◌, ◌++◌, drop}
use Rattle.text.specs.Text.{words_of}
use Rattle.text.proofs.write_words.Given as goal

abbrev pub invariant-loop-k : goal.invariant-loop-k
invariant-loop-k l = l.words ≡ words_of l.text l.k ++ drop l.k l.initial.words
