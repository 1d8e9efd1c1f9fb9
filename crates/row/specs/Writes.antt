-- The promise of a call that writes a slice (SCOPE, The demands).
-- Assumes nothing.
use Rattle.std.specs.Prelude.{◌≡◌}

-- The answer a is x, and the contents t of the slice after the call are y.
pub record Writes {A B : Type 0} (a x : A) (t y : B) : Type 0 where
  pub answer : a ≡ x
  pub slice : t ≡ y
