-- `bits_stretch::sign_of` returns what a bit adds to the excess. In each branch the test says what the bit is. Assumes nothing.
use Rattle.row.proofs.Excess.{sign_close, sign_open}
use Rattle.bits_stretch.proofs.bits.sign_of.Goals as goal

pub returns-then-word-j-eq0 : goal.returns-then-word-j-eq0
returns-then-word-j-eq0 c = sign_close _ c.if-word-j-eq0.true

pub returns-else-word-j-eq0 : goal.returns-else-word-j-eq0
returns-else-word-j-eq0 c = sign_open _ c.if-word-j-eq0.false
