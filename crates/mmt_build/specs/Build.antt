-- The answer of `build`, and the node buffer afterwards (SCOPE, The node buffer: The build and the as-built test).
-- Assumes nothing.
use Rattle.std.specs.Prelude.{List, ◌++◌, ℕ, ◌*◌, ℤ, length, drop}
use Rattle.row.specs.Answer.{Answer, at}
use Rattle.row.specs.Gates.{through, kept}
use Rattle.mmt_layout.specs.Layout.{width, count, nodes_gate}
use Rattle.mmt_node.specs.Nodes.{written}

-- A build that passes tests 1 to 4 succeeds. Its specification answer is 0.
abbrev pub build_answer : List ℕ → ℕ → List ℤ → ℕ → Answer
build_answer ws n s B = through (nodes_gate (length ws) n (length s) B) (at 0)

-- The buffer after the call: the written entries, then the old entries after the nodes. On refusal it is the old buffer.
unfoldable pub built_nodes : List ℕ → ℕ → List ℤ → ℕ → List ℤ
built_nodes ws n s B = kept (nodes_gate (length ws) n (length s) B) (written ws n B ++ drop (width * count n B) s) s
