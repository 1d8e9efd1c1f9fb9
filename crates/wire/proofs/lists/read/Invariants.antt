-- `wire::lists::read` decodes one value into each entry of `out`. Loop invariant: the first i entries are decoded. Assumes nothing.
use Rattle.std.proofs.Common.{◌≡◌, ℕ, ◌*◌, ◌<◌, get_or}
use Rattle.wire.proofs.lists.read.Given as goal

abbrev pub invariant-loop-i : goal.invariant-loop-i
invariant-loop-i g l = (d : g.row.T.Denot) (j : ℕ) → j < l.i → get_or l.out j d ≡ g.T.EightBytes.value_at l.bytes (8 * j)
