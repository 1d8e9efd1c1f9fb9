-- The parts of an admitted row (SCOPE, Refusals).
-- Assumes nothing.
use Rattle.std.specs.Prelude.{◌≡◌, List, ℕ, ℤ}
use Rattle.mmt_layout.specs.declared.admitted.Admitted.{Admitted}

-- The admitted row t has the words ws, n bits, the node buffer s and the block size B.
pub record HasParts (ws : List ℕ) (n : ℕ) (s : List ℤ) (B : ℕ) (t : Admitted) : Type 0 where
  pub words : t.words.now ≡ ws
  pub bits : t.n ≡ n
  pub nodes : t.nodes.now ≡ s
  pub block : t.block ≡ B
