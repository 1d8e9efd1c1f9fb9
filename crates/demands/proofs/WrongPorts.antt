-- Wrong programs that the demands rule out (SCOPE, The demands), each shown on a small row. T is `(()(()))`.
--   closes_at_7, next_is_1: two answers by definition on T
--   refusing, silent, fixed: a port that refuses everything, always answers nothing, or always answers one position (demand 2)
--   tree_no, built_no: each test says no on some input, so a test that never says no is ruled out (demand 2)
--   zeros, untested, unwritten: six zeros are not the nodes of T, so a build that writes no node is ruled out (demand 2)
--   two_children, root_opens, ended: a listing that stops after the first child (demand 3)
-- Assumes nothing.
use mathlib.Core.Path.{◌≡◌, refl, sym, ◌∙◌}
use mathlib.Core.Bool.{true, false}
use mathlib.Core.List.{List, [], ◌∷◌}
use Prim.Native.Nat.{ℕ}
use lib.IntN.{ℤ, pos, negsuc}
use Rattle.ints.specs.Order.{eq_z, min_z, max_z}
use Rattle.ints.proofs.Linear.{never_true}
use Rattle.row.specs.Answer.{Answer, at, nothing, refused}
use Rattle.row.specs.Excess.{sign, excess}
use Rattle.row.specs.Gates.{row_gate}
use Rattle.row.specs.Search.{least, fwd}
use Rattle.row.specs.Tree.{opens, all_below, one_tree}
use Rattle.bits_stretch.specs.Summary.{run, lowest, highest, none, summary_of, join_of}
use Rattle.one_tree.specs.OneTree.{one_tree_answer}
use Rattle.mmt_layout.specs.Layout.{leaves, exponent, power, inner_for, layout_of, block_gate, room_gate, nodes_gate}
use Rattle.mmt_node.specs.Nodes.{node_at, leaf_of, inner_of, node_from, AsBuilt}
use Rattle.mmt_build.specs.Check.{same_summary, built_test, as_built_answer}
use Rattle.mmt_build.proofs.Tested.{built_yes}
use Rattle.bp_spec.specs.declared.question.Question.{Question}
use Rattle.bp_spec.specs.declared.question.Question.TheVariants.{FwdSearch, NextSibling}
use Rattle.bp_spec.specs.Questions.{definition}
use Rattle.demands.specs.Lists.{those}
use Rattle.demands.specs.Handles.{at_depth, child_of, children}
use Rattle.demands.specs.Second.{Answers}
use Rattle.demands.specs.Third.{Tours}
use Rattle.demands.proofs.Samples.{T}

-- ---- demand 2
closes_at_7 : definition T 8 (FwdSearch 0 (negsuc 0)) ≡ at 7
unfolding excess sign eq_z fwd least
closes_at_7 = refl

next_is_1 : definition T 8 (FwdSearch 0 (pos 1)) ≡ at 1
unfolding excess sign eq_z fwd least
next_is_1 = refl

module _ (ask : Question → Answer) (right : Answers T 8 ask) where
  pub refusing : ((q : Question) → (k : ℕ) × (ask q ≡ refused k)) → ⊥
  refusing f =
      let r = f (FwdSearch 0 (negsuc 0)) in
      let e : refused r.0 ≡ at 7 = sym r.1 ∙ right.equal (FwdSearch 0 (negsuc 0)) ∙ closes_at_7 in
      cc

  pub silent : ((q : Question) → ask q ≡ nothing) → ⊥
  silent f =
      let e : nothing ≡ at 7 = sym (f (FwdSearch 0 (negsuc 0))) ∙ right.equal (FwdSearch 0 (negsuc 0)) ∙ closes_at_7 in
      cc

  pub fixed : (j : ℕ) → ((q : Question) → ask q ≡ at j) → ⊥
  fixed j f =
      let a : at j ≡ at 7 = sym (f (FwdSearch 0 (negsuc 0))) ∙ right.equal (FwdSearch 0 (negsuc 0)) ∙ closes_at_7 in
      let b : at j ≡ at 1 = sym (f (FwdSearch 0 (pos 1))) ∙ right.equal (FwdSearch 0 (pos 1)) ∙ next_is_1 in
      cc

-- The row `))` is not one tree, and six zeros are not the nodes of T.
pub tree_no : one_tree_answer (0 ∷ []) 2 ≡ at 0
unfolding one_tree_answer row_gate one_tree all_below excess sign eq_z
tree_no = refl

abbrev zeros : List ℤ
zeros = pos 0 ∷ pos 0 ∷ pos 0 ∷ pos 0 ∷ pos 0 ∷ pos 0 ∷ []

untested : built_test T 8 zeros 8 ≡ false
unfolding built_test same_summary all_below node_from node_at inner_of leaf_of summary_of run lowest highest none join_of leaves exponent power inner_for layout_of excess sign eq_z min_z max_z
untested = refl

pub built_no : as_built_answer T 8 zeros 8 ≡ at 0
unfolding as_built_answer row_gate block_gate room_gate nodes_gate leaves exponent power inner_for layout_of
built_no = rw untested

pub unwritten : AsBuilt T 8 zeros 8 → ⊥
unwritten b = never_true (sym untested ∙ built_yes T 8 zeros 8 b)

-- ---- demand 3
two_children : children T 8 0 ≡ 1 ∷ 3 ∷ []
unfolding those child_of at_depth opens excess sign eq_z fwd least
two_children = refl

root_opens : opens T 8 0 ≡ true
unfolding opens
root_opens = refl

pub ended : (ask : Question → Answer) → Tours T 8 ask → ((v : ℕ) → ask (NextSibling v) ≡ nothing) → ⊥
ended ask t f =
    let l = rw two_children at (t.children_rise 0 root_opens) in
    let e : nothing ≡ at 3 = sym (f 1) ∙ l.1.0 in
    cc
