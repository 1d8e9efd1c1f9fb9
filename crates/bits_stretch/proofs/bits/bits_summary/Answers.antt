-- `bits_stretch::bits_summary` folds over the bits after the first. At bit k the fold has the summary of bits `from` to k - 1.
-- Assumes nothing.
use mathlib.Core.Path.{◌≡◌, refl, ap, ◌∙◌}
use Prim.Native.Nat.{ℕ, ◌+◌, ◌-◌, ◌≤◌}
use native.Mathlib.Omega.{arith}
use Rattle.std.proofs.Common.{rules}
use Rattle.row.specs.Bits.{digit}
use Rattle.bits_stretch.specs.declared.summary.Summary.{Summary}
use Rattle.bits_stretch.specs.Summary.{summary_of, join_of}
use Rattle.bits_stretch.proofs.RangeFolds.{range_callable, range_fold}
use Rattle.bits_stretch.proofs.Full.{summary_join, summary_pair}
use Rattle.bits_stretch.proofs.bits.bits_summary.Goals as goal

module _ (word from : ℕ) where
  abbrev part : ℕ → Summary
  part k = summary_of (digit word) from (k - from)

  first : summary_of (digit word) from 1 ≡ part (from + 1)
  first = let n : 1 ≡ (from + 1) - from = omega arith in ap (summary_of (digit word) from) n

  next : (k : ℕ) → from + 1 ≤ k → join_of (part k) (summary_of (digit word) k 1) ≡ part (k + 1)
  next k h =
      let p : from + (k - from) ≡ k = omega arith in
      let n : (k - from) + 1 ≡ (k + 1) - from = omega arith in
      cc (summary_join (digit word) from (k - from) 1 (omega arith) (omega arith))

pub fold-requires-clause-callable : goal.fold-requires-clause-callable
fold-requires-clause-callable c =
    let s = c.args in
    range_callable _ _ (part s.word s.from) _ _ (c.bit_summary.ensures ∙ first s.word s.from) (omega arith) (λ k l m y h q. let n = next s.word s.from k l in search rules)
    (λ k l m. let p = summary_pair (digit s.word) (digit s.word) s.from k (k - s.from) 1 refl refl (omega arith) (omega arith) in search rules)

pub returns : goal.returns
returns c =
    let s = c.args in
    range_fold _ _ (part s.word s.from) _ _ (c.bit_summary.ensures ∙ first s.word s.from) (omega arith) (λ k l m y h q. let n = next s.word s.from k l in search rules) c.fold.ensures.ran
