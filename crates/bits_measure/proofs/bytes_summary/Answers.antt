-- `bits_measure::bytes_summary` folds over the bytes after the first. At byte k the fold has the summary of bytes `from` to k - 1.
-- Assumes nothing.
use mathlib.Core.Path.{refl, ◌∙◌}
use Prim.Native.Nat.{◌-◌, ◌*◌}
use native.Mathlib.Omega.{arith}
use Rattle.std.proofs.Common.{rules}
use Rattle.row.specs.Bits.{bit_at}
use Rattle.bits_stretch.specs.Summary.{summary_of}
use Rattle.bits_stretch.proofs.RangeFolds.{range_callable, range_fold}
use Rattle.bits_stretch.proofs.Full.{summary_pair}
use Rattle.bits_measure.proofs.Totals.{bytes_first, bytes_next}
use Rattle.bits_measure.proofs.bytes_summary.Goals as goal

pub fold-requires-clause-callable : goal.fold-requires-clause-callable
fold-requires-clause-callable c =
    let s = c.args in
    let f = bit_at s.words.now in
    range_callable _ _ (λ k. summary_of f (8 * s.from) (8 * (k - s.from))) _ _ (c.byte_summary.ensures ∙ bytes_first s.words.now s.from) (omega arith)
    (λ k l m y h q. let n = bytes_next s.words.now s.from k (omega arith) in search rules)
    (λ k l m. let p = summary_pair f f (8 * s.from) (8 * k) (8 * (k - s.from)) 8 refl refl (omega arith) (omega arith) in search rules)

pub returns : goal.returns
returns c =
    let s = c.args in
    range_fold _ _ (λ k. summary_of (bit_at s.words.now) (8 * s.from) (8 * (k - s.from))) _ _ (c.byte_summary.ensures ∙ bytes_first s.words.now s.from) (omega arith)
    (λ k l m y h q. let n = bytes_next s.words.now s.from k (omega arith) in search rules) c.fold.ensures.ran
