-- The laws for the proof of `bp_build`: it lends `build` arrays whose lengths are those of the bytes, whole words and numbers counted.
-- Assumes nothing.
use lib.Seq.{length-take-le}
use Rattle.std.proofs.lemmas.Grind.{common_steps}
use Rattle.wire.proofs.Runs.{length_made}

pub ruleset bytes_steps = (common_steps, length-take-le, length_made)
