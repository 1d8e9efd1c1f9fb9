-- Every call on small rows, by computation. The definitions give the answers that a reader finds by hand.
--   on_T: the calls on row T, `(()(()))`
--   on_empty: the first and the last outline node of level 0 on the empty row
--   foreign_root: over a root with an entry out of range, `level_rightmost` gives refusal 8
--   too_deep: for a level above n the same call answers nothing, because it does not examine the root
-- Assumes nothing.
use mathlib.Core.Path.{◌≡◌, refl}
use mathlib.Core.List.{List, [], ◌∷◌, map}
use Prim.Native.Nat.{◌+◌, ℕ}
use lib.IntN.{ℤ, pos}
use Rattle.row.specs.Limits.{max_bits}
use Rattle.ints.specs.Order.{eq_z}
use Rattle.row.specs.Answer.{Answer, at, nothing, refused}
use Rattle.row.specs.Excess.{sign, excess}
use Rattle.row.specs.Gates.{row_gate, handle_gate}
use Rattle.row.specs.Search.{least, greatest, fwd, bwd}
use Rattle.row.specs.Tree.{opens, closes}
use Rattle.mmt_layout.specs.Layout.{leaves, exponent, power, inner_for, layout_of, block_gate, room_gate, nodes_gate}
use Rattle.mmt_node.specs.Nodes.{node_at}
use Rattle.walk_spec.specs.Walk.{in_range, fits}
use Rattle.bp_spec.specs.declared.question.Question.{Question}
use Rattle.bp_spec.specs.declared.question.Question.TheVariants.{Root, Parent, FirstChild, LastChild, NextSibling, PreviousSibling, IsLeaf, IsAncestor, LevelAncestor, LevelNext, LevelPrev, LevelLeftmost, LevelRightmost}
use Rattle.bp_spec.specs.SearchCalls.{outward}
use Rattle.bp_spec.specs.HandleCalls.{node_defined}
use Rattle.bp_spec.specs.RowCalls.{root, first_child, is_leaf}
use Rattle.bp_spec.specs.AncestorCalls.{parent, is_ancestor, ancestor_defined}
use Rattle.bp_spec.specs.SiblingCalls.{last_child, next_sibling, previous_sibling}
use Rattle.bp_spec.specs.LevelCalls.{level_next, level_prev, level_ancestor}
use Rattle.bp_spec.specs.LevelEnds.{level_leftmost, level_rightmost, ones, last_start, root_start, rightmost_answer, rightmost_defined}
use Rattle.bp_spec.specs.Questions.{promised, definition}

abbrev T : List ℕ
T = 27 ∷ []

-- A question and its answer.
abbrev Sample : Type 0
Sample = Question × Answer

abbrev table : List Sample
table =
    (Root, at 0)
    ∷ (Parent 4, at 3)
    ∷ (Parent 0, nothing)
    ∷ (FirstChild 0, at 1)
    ∷ (FirstChild 1, nothing)
    ∷ (FirstChild 2, refused 5)
    ∷ (LastChild 0, at 3)
    ∷ (LastChild 1, nothing)
    ∷ (NextSibling 1, at 3)
    ∷ (NextSibling 3, nothing)
    ∷ (PreviousSibling 3, at 1)
    ∷ (PreviousSibling 1, nothing)
    ∷ (IsLeaf 1, at 1)
    ∷ (IsLeaf 3, at 0)
    ∷ (IsAncestor 3 4, at 1)
    ∷ (IsAncestor 3 3, at 1)
    ∷ (IsAncestor 1 3, at 0)
    ∷ (LevelAncestor 4 0, at 4)
    ∷ (LevelAncestor 4 1, at 3)
    ∷ (LevelNext 1, at 3)
    ∷ (LevelNext 4, nothing)
    ∷ (LevelPrev 3, at 1)
    ∷ (LevelLeftmost 0, at 0)
    ∷ (LevelLeftmost 2, at 4)
    ∷ (LevelRightmost 1, at 3)
    ∷ []

pub on_T : map (λ (x : Sample). definition T 8 x.0) table ≡ map (λ (x : Sample). x.1) table
unfolding excess sign eq_z fwd bwd least greatest opens closes handle_gate outward node_defined root first_child is_leaf parent is_ancestor ancestor_defined last_child next_sibling previous_sibling level_next level_prev level_ancestor level_leftmost level_rightmost ones last_start rightmost_defined
on_T = refl

pub on_empty : (definition [] 0 (LevelLeftmost 0) ∷ definition [] 0 (LevelRightmost 0) ∷ []) ≡ (nothing ∷ nothing ∷ [])
unfolding fwd least level_leftmost level_rightmost ones last_start rightmost_defined
on_empty = refl

-- ---- over a root whose total is 2^32 + 1
abbrev foreign : List ℤ
foreign = pos (max_bits + 1) ∷ pos 0 ∷ pos 0 ∷ pos 0 ∷ pos 0 ∷ pos 0 ∷ []

pub foreign_root : promised T 8 foreign 8 (LevelRightmost 0) ≡ refused 8
unfolding rightmost_answer level_rightmost root_start fits in_range node_at row_gate block_gate room_gate nodes_gate leaves exponent power inner_for layout_of
foreign_root = refl

pub too_deep : promised T 8 foreign 8 (LevelRightmost 9) ≡ nothing
unfolding rightmost_answer level_rightmost row_gate block_gate room_gate nodes_gate leaves exponent power inner_for layout_of
too_deep = refl
