-- The results of examining a node and of asking it for a remainder (SCOPE, How a search walks: Scan, examine, qualify; Recursion).
-- Assumes nothing.
use Rattle.std.specs.Prelude.{cond, List, ℕ, ◌+◌, ◌*◌, ◌<◌, leb, ℤ, Result, Ok, Err}
use Rattle.ints.specs.Limits.{i64_bound}
use Rattle.row.specs.Limits.{max_bits}
use Rattle.ints.specs.Sides.{size}
use Rattle.row.specs.Way.{Way}
use Rattle.bits_stretch.specs.declared.summary.Summary.{Summary}
use Rattle.mmt_node.specs.Nodes.{node_at}
use Rattle.walk_spec.specs.Walk.{fits, examine}
use Rattle.row.specs.declared.refusal.Refusal.{Refusal}
use Rattle.row.specs.declared.refusal.Refusal.TheVariants.{NodesMisfit}
use Rattle.walk_examine.specs.declared.node.Asked.{Asked}
use Rattle.walk_examine.specs.declared.node.Asked.TheVariants.{Here, Past, Absent}

-- The entries x of an examined node, or refusal 8 if one of them is out of range.
unfoldable pub examined_of : Summary → Result Summary Refusal
examined_of x = cond (fits x) (Ok x) (Err NodesMisfit)

-- Node k of m nodes, asked for the remainder r: it does not exist, is out of range, qualifies, or is passed with a new remainder.
unfoldable pub asked_of : Way → ℕ → List ℤ → ℕ → ℤ → Result Asked Refusal
asked_of w m s k r = cond (leb m k) (Ok Absent) (examine w (node_at s k) r (Err NodesMisfit) (Ok Here) (λ q. Ok (Past q)))

-- The remainder r has room in an i64 for c more totals, each of size at most 2^32, and for the bits of a block.
abbrev pub Room : ℕ → ℤ → Type 0
Room c r = size r + max_bits * (c + 2) < i64_bound
