-- Proof of demand 2.
--   tells: a Bool that is true exactly when a fact holds gives a right test; tells_tree, tells_built: the two tests
--   gate: an input that is `Fine` passes refusals 1 to 4
--   left, same, builds: what a build leaves in the buffer; fine_left: the buffer is `Fine` after the build too
--   ahead_of, behind_of, near_forward, near_backward: the searches by definition answer the nearest position
--   answers: over nodes as built, every answer equals its definition
--   second: the demand
-- Assumes nothing.
use mathlib.Core.Path.{◌≡◌, refl, sym, ◌∙◌}
use mathlib.Core.Bool.{Bool, true, false, cond}
use mathlib.Core.List.{List, ◌++◌}
use Prim.Native.Nat.{ℕ, ◌*◌, ◌≤◌}
use native.Mathlib.Omega.{arith}
use lib.IntN.{ℤ}
use lib.ListN.{length, drop, length-append, length-drop}
use lib.Seq.{drop_at}
use Rattle.row.specs.Limits.{max_bits}
use Rattle.ints.proofs.Linear.{never_true}
use Rattle.std.specs.Prelude.{Ok}
use Rattle.row.specs.Answer.{Answer, at, nothing, refused}
use Rattle.row.specs.Gates.{row_gate}
use Rattle.row.specs.Search.{fwd, bwd}
use Rattle.row.specs.Tree.{OneTree, one_tree}
use Rattle.row.specs.Way.{forward, backward}
use Rattle.row.proofs.Gates.{row_passed}
use Rattle.row.proofs.Meaning.{IsFwd, IsBwd, fwd_is, bwd_is}
use Rattle.row.proofs.Tree.{one_tree_true, one_tree_yes}
use Rattle.one_tree.specs.OneTree.{one_tree_answer}
use Rattle.mmt_layout.specs.Layout.{width, count, nodes_gate, Fine}
use Rattle.mmt_node.specs.Nodes.{AsBuilt, written}
use Rattle.mmt_build.specs.Build.{built_nodes}
use Rattle.mmt_build.specs.Check.{built_test, as_built_answer}
use Rattle.mmt_layout.proofs.Gates.{fine_gate}
use Rattle.mmt_node.proofs.Written.{written_length, written_built}
use Rattle.mmt_build.proofs.Tested.{built_true, built_yes}
use Rattle.bp_spec.specs.declared.question.Question.TheVariants.{FwdSearch, BwdSearch}
use Rattle.bp_spec.specs.Questions.{promised}
use Rattle.demands.specs.Second.{Builds, Tells, Nearest, Answers, Second}
use Rattle.bp_spec.proofs.CallsAgree.{equal}
use Rattle.bp_spec.proofs.DefinitionRange.{only_five}

-- ---- the two tests
tells : (fact : Type 0) (t : Bool) → (t ≡ true → fact) → (fact → t ≡ true) → Tells fact (cond t (at 1) (at 0))
tells fact true f g = record {
  if_so = λ x. refl;
  so = λ e. f refl;
  if_not = λ x. absurd (x (f refl));
  not_so = λ e x. (cc);
}
tells fact false f g = record {
  if_so = λ x. absurd (never_true (g x));
  so = λ e. cc;
  if_not = λ x. refl;
  not_so = λ e x. never_true (g x);
}

tells_tree : (ws : List ℕ) (n : ℕ) → n ≤ max_bits → n ≤ 64 * length ws → Tells (OneTree ws n) (one_tree_answer ws n)
unfolding one_tree_answer
tells_tree ws n h k =
    let o : row_gate (length ws) n ≡ (Ok tt) = sym (row_passed (length ws) n h (omega arith)) in
    rw o (tells (OneTree ws n) (one_tree ws n) (one_tree_true ws n) (one_tree_yes ws n))

module _ (ws : List ℕ) (n : ℕ) (s : List ℤ) (B : ℕ) (fine : Fine (length ws) n (length s) B) where
  gate : nodes_gate (length ws) n (length s) B ≡ (Ok tt)
  gate = fine_gate (length ws) n (length s) B fine

  tells_built : Tells (AsBuilt ws n s B) (as_built_answer ws n s B)
  unfolding as_built_answer
  tells_built = rw gate (tells (AsBuilt ws n s B) (built_test ws n s B) (built_true ws n s B fine.nodes) (built_yes ws n s B))

  -- ---- the build
  left : built_nodes ws n s B ≡ written ws n B ++ drop (width * count n B) s
  unfolding built_nodes
  left = rw gate

  same : length (built_nodes ws n s B) ≡ length s
  same = let l = written_length ws n B in let r = fine.nodes in rw left (simp (length-append, length-drop) (omega arith))

  builds : Builds ws n s B
  builds = record {
    done = rw gate;
    nodes = rw left (written_built ws n B (drop (width * count n B) s));
    same = same;
    past = rw left (drop_at (written ws n B) (drop (width * count n B) s) (width * count n B) (written_length ws n B));
  }

  fine_left : Fine (length ws) n (length (built_nodes ws n s B)) B
  fine_left = rw same fine

-- ---- the answers
module _ (ws : List ℕ) (n i : ℕ) (r : ℤ) where
  ahead_of : (a : Answer) → IsFwd ws n i r a → Nearest forward ws n i r a
  ahead_of (at j) h = h
  ahead_of nothing h = h
  ahead_of (refused k) h = h

  behind_of : (a : Answer) → IsBwd ws n i r a → Nearest backward ws n i r a
  behind_of (at j) h = h
  behind_of nothing h = h
  behind_of (refused k) h = h

  near_forward : Nearest forward ws n i r (fwd ws n i r)
  near_forward = ahead_of (fwd ws n i r) (fwd_is ws n i r)

  near_backward : Nearest backward ws n i r (bwd ws n i r)
  near_backward = behind_of (bwd ws n i r) (bwd_is ws n i r)

answers : (ws : List ℕ) (n : ℕ) (s : List ℤ) (B : ℕ) → Fine (length ws) n (length s) B → AsBuilt ws n s B → Answers ws n (promised ws n s B)
answers ws n s B fine built = record {
  equal = equal ws n s B fine built;
  fitting = λ q e. let z = only_five ws n q 8 (sym (equal ws n s B fine built q) ∙ e) in omega arith;
  ahead = λ i r. rw (equal ws n s B fine built (FwdSearch i r)) (near_forward ws n i r);
  behind = λ i r. rw (equal ws n s B fine built (BwdSearch i r)) (near_backward ws n i r);
}

pub second : Second
second = record {
  builds = builds;
  one_tree = tells_tree;
  as_built = tells_built;
  over_built = λ ws n s B f. answers ws n (built_nodes ws n s B) B (fine_left ws n s B f) (builds ws n s B f).nodes;
  over_alike = answers;
}
