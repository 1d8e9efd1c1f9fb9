-- The levels and children of row T, `(()(()))`, by computation. The row `()` shows why demand 3 names a level from the right only if n > 2.
--   T, O: the words of row T and of the row `()`
--   T_excess, T_tree, T_levels, T_children: the excess of T, that T is one tree, its levels, the children of its handles
--   O_tree, O_level, O_falls: `()` is one tree, its level 0 has only the root, and `level_rightmost(0)` is nothing
-- Assumes nothing.
use mathlib.Core.Path.{◌≡◌, refl}
use mathlib.Core.List.{List, [], ◌∷◌}
use Prim.Native.Nat.{ℕ}
use lib.IntN.{pos}
use Rattle.ints.specs.Order.{eq_z}
use Rattle.row.specs.Excess.{sign, excess, E}
use Rattle.row.specs.Search.{least, greatest, fwd, bwd}
use Rattle.row.specs.Tree.{opens, OneTree, all_below, one_tree}
use Rattle.row.proofs.Tree.{one_tree_true}
use Rattle.bp_spec.specs.LevelEnds.{ones, level_rightmost, last_start, rightmost_defined}
use Rattle.bp_spec.specs.declared.question.Question.TheVariants.{LevelPrev, LevelRightmost as rightmost}
use Rattle.bp_spec.specs.Questions.{definition}
use Rattle.demands.specs.Lists.{those, Names}
use Rattle.demands.specs.Handles.{at_depth, child_of, level, children}

abbrev pub T : List ℕ
T = 27 ∷ []

abbrev pub O : List ℕ
O = 1 ∷ []

pub T_excess : (E T 0 ∷ E T 1 ∷ E T 2 ∷ E T 3 ∷ E T 4 ∷ E T 5 ∷ E T 6 ∷ E T 7 ∷ E T 8 ∷ [])
    ≡ (pos 0 ∷ pos 1 ∷ pos 2 ∷ pos 1 ∷ pos 2 ∷ pos 3 ∷ pos 2 ∷ pos 1 ∷ pos 0 ∷ [])
unfolding excess sign
T_excess = refl

pub T_tree : OneTree T 8
unfolding one_tree all_below excess sign eq_z
T_tree = one_tree_true T 8 refl

pub T_levels : (level T 8 0 ∷ level T 8 1 ∷ level T 8 2 ∷ level T 8 3 ∷ []) ≡ ((0 ∷ []) ∷ (1 ∷ 3 ∷ []) ∷ (4 ∷ []) ∷ [] ∷ [])
unfolding those at_depth opens excess sign eq_z
T_levels = refl

pub T_children : (children T 8 0 ∷ children T 8 1 ∷ children T 8 3 ∷ children T 8 4 ∷ []) ≡ ((1 ∷ 3 ∷ []) ∷ [] ∷ (4 ∷ []) ∷ [] ∷ [])
unfolding those child_of at_depth opens excess sign eq_z fwd least
T_children = refl

pub O_tree : OneTree O 2
unfolding one_tree all_below excess sign eq_z
O_tree = one_tree_true O 2 refl

pub O_level : level O 2 0 ≡ 0 ∷ []
unfolding those at_depth opens excess sign eq_z
O_level = refl

-- The first answer is nothing, although the root has depth 0.
pub O_falls : Names (definition O 2) LevelPrev (rightmost 0) []
unfolding rightmost_defined level_rightmost ones last_start excess sign eq_z bwd greatest
O_falls = refl
