-- `wire::lists::write` writes values at the front of a byte slice. Loop invariant: the first i values are written, and the bytes after
-- them are unchanged. Assumes nothing.
use Rattle.std.proofs.Common.{◌≡◌, take}
use Rattle.wire.specs.Bytes.{values_over}
use Rattle.wire.proofs.lists.write.Given as goal

abbrev pub invariant-loop-i : goal.invariant-loop-i
invariant-loop-i g l = l.bytes ≡ values_over g.T.EightBytes.bytes (take l.i l.values) l.initial.bytes
