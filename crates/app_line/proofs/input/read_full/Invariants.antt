-- The buffer keeps its length, and the bytes that the input has lost are the first ones of the buffer. The measure is the room that is left.
use Rattle.std.proofs.Common.{length, take, ◌-◌, ◌≡◌, ◌≤◌}
use Rattle.std.specs.Io.KnownBytes.{Consumes}
use Rattle.app_line.proofs.input.read_full.Given as goal

abbrev pub invariant-loop-done : goal.invariant-loop-done
invariant-loop-done g l = record {
  in_bytes : l.done ≤ length l.bytes;
  same_len : length l.bytes ≡ length l.fn.bytes;
  read_so_far : Consumes (g.R.Read.remaining l.fn.input) (g.R.Read.remaining l.input) (take l.done l.bytes);
}

abbrev pub decreases-loop-done : goal.decreases-loop-done
decreases-loop-done g l = length l.bytes - l.done
