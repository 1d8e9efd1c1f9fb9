-- `text::word_of` packs 64 bits of the text into one word. Loop invariant: `w` is packed from the bits of the word from `j` on.
-- Assumes nothing.
use Rattle.std.proofs.Common.{◌≡◌, ◌+◌, ◌-◌, ◌*◌}
use Rattle.text.specs.Text.{text_bit, packed}
use Rattle.text.proofs.word_of.Given as goal

abbrev pub invariant-loop-j : goal.invariant-loop-j
invariant-loop-j l = l.w ≡ packed (text_bit l.text) (64 * l.k + l.j) (64 - l.j)
