-- `bits_lookup::word_total` returns the total of a word. By the law total_is, for 64 bits, ones minus zeros is the excess. Assumes nothing.
use native.Mathlib.Omega.{arith}
use Rattle.bits_lookup.proofs.Counts.{total_is}
use Rattle.bits_lookup.proofs.summary.word_total.Goals as goal

pub returns : goal.returns
returns c = total_is 64 c.args.w (omega arith) c.ranges.w.fits
