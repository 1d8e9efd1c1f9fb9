-- Cases a to l of SCOPE, Small rows, hold by computation.
--   cases: the claim
-- Assumes nothing.
use mathlib.Core.Path.{refl}
use Rattle.ints.specs.Order.{eq_z, min_z, max_z}
use Rattle.row.specs.Excess.{sign, excess}
use Rattle.row.specs.Gates.{row_gate, handle_gate}
use Rattle.row.specs.Search.{least, greatest, fwd, bwd}
use Rattle.row.specs.Tree.{opens, closes}
use Rattle.bits_stretch.specs.Summary.{run, lowest, highest, none, summary_of, join_of, holds_for, holds_back}
use Rattle.bits_stretch.specs.Scan.{scan}
use Rattle.mmt_layout.specs.Layout.{leaves, exponent, power, inner_for, layout_of, block_gate, room_gate, nodes_gate}
use Rattle.mmt_node.specs.Nodes.{node_at, leaf_of, inner_of, node_from, node_of, listed, written}
use Rattle.walk_spec.specs.Walk.{in_range, fits, climb, descend, walk}
use Rattle.bp_spec.specs.HandleCalls.{node_answer, node_defined}
use Rattle.bp_spec.specs.SearchCalls.{search_answer, outward}
use Rattle.bp_spec.specs.LevelCalls.{level_ancestor, level_next, level_prev}
use Rattle.bp_spec.specs.LevelEnds.{level_rightmost, ones, last_start, root_start, rightmost_answer, rightmost_defined}
use Rattle.demands.specs.Cases.{table, Claim}

pub cases : Claim
unfolding table eq_z min_z max_z sign excess row_gate handle_gate least greatest fwd bwd opens closes run lowest highest none summary_of join_of holds_for holds_back scan leaves exponent power inner_for layout_of block_gate room_gate nodes_gate node_at leaf_of inner_of node_from node_of listed written in_range fits climb descend walk level_ancestor level_next level_prev ones level_rightmost last_start root_start node_answer node_defined rightmost_answer rightmost_defined search_answer outward
cases = refl
