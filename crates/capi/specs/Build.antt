-- SCOPE, The C functions: what a build over bytes answers, and what it writes.
-- Assumes nothing.
use Rattle.std.specs.Prelude.{List, ℕ, ℤ, length}
use Rattle.row.specs.Answer.{at}
use Rattle.row.specs.Gates.{through, kept}
use Rattle.mmt_layout.specs.Layout.{nodes_gate}
use Rattle.mmt_node.specs.Nodes.{written}
use Rattle.wire.specs.Answer.{wire_of}
use Rattle.wire.specs.Limit.{wire_bits}
use Rattle.wire.specs.Bytes.{numbers_over}
use Rattle.wire.specs.Decoded.{row_words, node_numbers}

-- The bytes s after a build with room for t numbers: the entries that a build writes at the front, the rest unchanged; after a refusal all
-- unchanged.
unfoldable pub left_bytes : List ℕ → ℕ → ℕ → ℕ → List ℕ → List ℕ
left_bytes ws n t B s = kept (nodes_gate (length ws) n t B) (numbers_over (written ws n B) s) s

-- The number that a build answers: 0 if refusals 1 to 4 pass, otherwise the refusal.
abbrev pub build_wire : List ℕ → ℕ → List ℕ → ℕ → ℤ
build_wire row bits nodes B = wire_of (through (nodes_gate (length (row_words row)) (wire_bits bits) (length (node_numbers nodes)) B) (at 0))

-- The bytes of the node buffer after the build.
abbrev pub built_bytes : List ℕ → ℕ → List ℕ → ℕ → List ℕ
built_bytes row bits nodes B = left_bytes (row_words row) (wire_bits bits) (length (node_numbers nodes)) B nodes
