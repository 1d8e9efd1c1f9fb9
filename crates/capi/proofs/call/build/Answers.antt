-- `capi::build` builds in an array of numbers and writes the node numbers as bytes; a refusal leaves the bytes unchanged. Assumes nothing.
use Rattle.std.proofs.Common.{arith, length-take}
use Rattle.std.proofs.lemmas.Int.{to_z-of_z}
use lib.Seq.{take_at}
use Rattle.mmt_layout.proofs.Gates.{gate_fine}
use Rattle.mmt_build.specs.Build.{built_nodes}
use Rattle.mmt_node.proofs.Written.{written_length}
use Rattle.capi.specs.Build.{left_bytes}
use Rattle.capi.proofs.call.build.Goals as goal

-- the array has at least as many numbers as are written
pub slice_bounds-write-end-in-Ok : goal.slice_bounds-write-end-in-Ok
slice_bounds-write-end-in-Ok c = grind (arith, gate_fine, length-take)

pub returns-in-Err : goal.returns-in-Err
unfolding left_bytes
returns-in-Err c = grind (arith, to_z-of_z)

-- the front of the built array has exactly the written entries
pub returns-in-Ok : goal.returns-in-Ok
unfolding left_bytes built_nodes
returns-in-Ok c = grind (arith, take_at, written_length)
