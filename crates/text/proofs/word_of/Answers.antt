-- `text::word_of` packs 64 bits of the text into one word. Inside the loop the word has at most 63 bits, so there is room for one more.
-- Assumes nothing.
use Rattle.std.proofs.Common.{refl, ◌≡◌, ◌∙◌, ◌+◌, ◌*◌, ◌-◌, ◌^◌, ◌<◌, arith}
use native.Mathlib.Nat.{add-zero}
use Rattle.text.specs.Text.{text_bit, packed, word_of}
use Rattle.text.proofs.Packed.{packed_front, packed_lt}
use Rattle.text.proofs.Text.{bit_lt}
use Rattle.text.proofs.word_of.Goals as goal

-- Inside the loop `w` has at most 63 bits, so there is room for one more.
small : (c : goal.After-text_bit) → c.loop-j.w < 2 ^ 63
small c =
    let s = c.args.text.now in
    rw c.loop-j.invariant (packed_lt (text_bit s) (bit_lt s) _ (64 - c.loop-j.j) 63 (omega arith))

pub loop-j-init : goal.loop-j-init
unfolding packed
loop-j-init c = refl

pub overflow_mul-w : goal.overflow_mul-w
overflow_mul-w c = omega (arith, small c)

pub overflow_add-w : goal.overflow_add-w
overflow_add-w c = omega (arith, small c, bit_lt c.args.text.now (64 * c.args.k + (c.loop-j.j - 1)))

pub loop-j-preserved : goal.loop-j-preserved
loop-j-preserved c =
    let a = c.args in
    rw (c.text_bit.ensures, c.loop-j.invariant) (packed_front (text_bit a.text.now) (64 * a.k) c.loop-j.j 64 (omega arith) (omega arith))

pub returns : goal.returns
unfolding word_of
returns c =
    let e : c.loop-j.j ≡ 0 = omega arith in
    c.loop-j.invariant ∙ rw (e, add-zero)
