-- `bits_lookup::byte_total` returns the total of a byte. By the law total_is, for 8 bits, ones minus zeros is the excess. Assumes nothing.
use native.Mathlib.Omega.{arith}
use Rattle.bits_lookup.proofs.Counts.{total_is}
use Rattle.bits_lookup.proofs.summary.byte_total.Goals as goal

pub returns : goal.returns
returns c = total_is 8 c.args.b (omega arith) c.ranges.b.fits
