-- `bits_edge::edge_summary` returns the summary of bits of a row that lie in one word: it is that of the same bits of the word.
-- Assumes nothing.
use mathlib.Core.Path.{◌∙◌}
use native.Mathlib.Omega.{arith}
use Rattle.bits_edge.proofs.Words.{word_summary}
use Rattle.bits_edge.proofs.edge_summary.Goals as goal

pub returns : goal.returns
returns c =
    let s = c.args in
    c.bits_summary.ensures ∙ word_summary s.words.now s.from s.to (omega arith) (omega arith)
