-- The direction of a search (SCOPE, The two searches).
-- Assumes nothing.
use Rattle.std.specs.Prelude.{ℕ, ◌<◌}

pub data Way : Type 0 where
  forward : Way
  backward : Way

-- Position k is met before position j: k < j going forward, k > j going backward.
abbrev pub Before : Way → ℕ → ℕ → Type 0
Before forward k j = k < j
Before backward k j = j < k
