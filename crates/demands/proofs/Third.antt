-- Proof of demand 3. Calls name a whole list if each goes to the next entry, or each to the last entry before (CallChains). The level calls do
-- so for the handles of a depth (Levels), and the child calls for the children (Children). Over nodes as built the calls answer their
-- definitions (Second).
--   passed, on_handle: the gate of a handle passes, so a call by definition on a handle is not refused
--   shallow: if every handle is less deep than k, no handle has depth k
--   by: what a call on a handle answers
--   tours_defined: answers that equal the definitions satisfy `Tours`; alike: so do the answers over nodes as built
--   third: the demand
-- Assumes nothing.
use mathlib.Core.Path.{◌≡◌, refl, sym, ◌∙◌}
use mathlib.Core.Bool.{true, false}
use mathlib.Core.List.{List, reverse}
use Prim.Native.Nat.{ℕ}
use native.Mathlib.Omega.{arith}
use lib.IntN.{ℤ, pos}
use lib.ListN.{length}
use lib.Signed.{◌<ℤ◌}
use Rattle.ints.proofs.Linear.{never_true}
use Rattle.ints.proofs.Shapes.{zsum}
use Rattle.row.specs.Answer.{Answer}
use Rattle.row.specs.Excess.{E}
use Rattle.row.specs.Gates.{handle_gate, through}
use Rattle.row.specs.Tree.{OneTree, Handle}
use Rattle.mmt_layout.specs.Layout.{Fine}
use Rattle.mmt_node.specs.Nodes.{AsBuilt}
use Rattle.mmt_build.specs.Build.{built_nodes}
use Rattle.bp_spec.specs.SearchPair.{Searches, defined}
use Rattle.bp_spec.specs.HandleCalls.{node_defined}
use Rattle.bp_spec.specs.RowCalls as handle
use Rattle.bp_spec.specs.AncestorCalls as family
use Rattle.bp_spec.specs.SiblingCalls as sibling
use Rattle.bp_spec.specs.LevelCalls as level
use Rattle.bp_spec.specs.LevelEnds.{rightmost_defined}
use Rattle.bp_spec.specs.declared.question.Question.{Question}
use Rattle.bp_spec.specs.declared.question.Question.TheVariants.{Parent, FirstChild, LastChild, NextSibling, PreviousSibling, LevelNext, LevelPrev, LevelLeftmost, LevelRightmost}
use Rattle.bp_spec.specs.Questions.{promised, definition}
use Rattle.demands.specs.Handles.{at_depth, child_of, children}
use Rattle.demands.specs.Third.{Tours, Third}
use Rattle.demands.proofs.Neighbours.{next_none}
use Rattle.demands.proofs.CallChains.{rises, falls}
use Rattle.demands.proofs.ExactLists.{among, among_has, exact, none_those}
use Rattle.demands.proofs.Depths.{stands, not_depth}
use Rattle.row.proofs.Tree.{opens_low}
use Rattle.demands.proofs.Closes.{closing}
use Rattle.demands.proofs.Levels.{leftmost, rightmost, level_next_lem, level_prev_lem}
use Rattle.demands.proofs.Children.{kid, first_child_lem, next_sibling_lem, last_child_lem, previous_sibling_lem}
use Rattle.demands.proofs.Parents.{parent_of, root_no_child}
use Rattle.demands.proofs.Second.{second}
use Rattle.demands.proofs.Listings.{made_named, steps_named}

module _ (ws : List ℕ) (n : ℕ) where
  -- The gate of a handle passes.
  passed : (v : ℕ) (a : Answer) → Handle ws n v → through (handle_gate ws n v) a ≡ a
  unfolding handle_gate
  passed v a o = rw o

  on_handle : (c : List ℕ → ℕ → Searches → ℕ → Answer) (v : ℕ) → Handle ws n v → node_defined c ws n v ≡ c ws n (defined ws n) v
  unfolding node_defined
  on_handle c v o = passed v (c ws n (defined ws n) v) o

  -- No handle has depth k.
  shallow : (k : ℕ) → ((v : ℕ) → Handle ws n v → E ws v <ℤ pos k) → (v : ℕ) → at_depth ws n (pos k) v ≡ false
  shallow k f v = not_depth ws n (pos k) v (λ s. let l = f v s.open_is in omega zsum)

  module _ (t : OneTree ws n) (ask : Question → Answer) (is : (q : Question) → ask q ≡ definition ws n q) where
    by : (q : Question) (c : List ℕ → ℕ → Searches → ℕ → Answer) (v : ℕ) → definition ws n q ≡ node_defined c ws n v → Handle ws n v
        → ask q ≡ c ws n (defined ws n) v
    by q c v e o = is q ∙ e ∙ on_handle c v o

    pub tours_defined : Tours ws n ask
    unfolding rightmost_defined
    tours_defined = record {
      level_rises = λ k. rises (at_depth ws n (pos k)) ask LevelNext n (LevelLeftmost k) (is (LevelLeftmost k) ∙ leftmost ws n t k)
          (λ v h. by (LevelNext v) level.level_next v refl (stands ws n (pos k) v h).open_is ∙ level_next_lem ws n t (pos k) v h);
      level_falls = λ l k. falls (at_depth ws n (pos k)) ask LevelPrev n (LevelRightmost k) (is (LevelRightmost k) ∙ rightmost ws n t k l)
          (λ v h. by (LevelPrev v) level.level_prev v refl (stands ws n (pos k) v h).open_is ∙ level_prev_lem ws n t (pos k) v h);
      too_deep = λ k f. (
        none_those (at_depth ws n (pos k)) n 0 (λ v a b. shallow k f v),
        is (LevelLeftmost k) ∙ leftmost ws n t k ∙ next_none (at_depth ws n (pos k)) n 0 (λ v a b. shallow k f v),
      );
      children_rise = λ v o.
          let (e, d) = closing ws n t v o in
          rises (child_of ws n v) ask NextSibling n (FirstChild v)
          (is (FirstChild v) ∙ passed v (handle.first_child ws n v) o ∙ first_child_lem ws n t v e o d)
          (λ w h. by (NextSibling w) sibling.next_sibling w refl (kid ws n t v e o d w h).open_is ∙ next_sibling_lem ws n t v e o d w h);
      children_fall = λ v o.
          let (e, d) = closing ws n t v o in
          falls (child_of ws n v) ask PreviousSibling n (LastChild v) (by (LastChild v) sibling.last_child v refl o ∙ last_child_lem ws n t v e o d)
          (λ w h. by (PreviousSibling w) sibling.previous_sibling w refl (kid ws n t v e o d w h).open_is ∙ previous_sibling_lem ws n t v e o d w h);
      one_parent = λ w o h.
          let (u, p) = parent_of ws n t w o h in
          let l = opens_low ws n w o in (
            u,
            record {
              handle = p.open_is;
              child = among (child_of ws n u) w n 0 (omega arith) (omega arith) p.child;
              only = λ v q m. p.only v q (among_has (child_of ws n v) w n 0 m).passes;
              named = by (Parent w) family.parent w refl o ∙ p.is;
            },
          );
      root_none = λ v m. never_true (sym (root_no_child ws n t v) ∙ (among_has (child_of ws n v) 0 n 0 m).passes);
    }

alike : (ws : List ℕ) (n : ℕ) (s : List ℤ) (B : ℕ) → Fine (length ws) n (length s) B → OneTree ws n → AsBuilt ws n s B
    → Tours ws n (promised ws n s B)
alike ws n s B fine t built = tours_defined ws n t (promised ws n s B) (second.over_alike ws n s B fine built).equal

pub third : Third
third = record {
  lists = λ ws n. record { of_level = λ k. exact (at_depth ws n (pos k)) n; of_children = λ v. exact (child_of ws n v) n };
  over_built = λ ws n s B fine t. tours_defined ws n t (promised ws n (built_nodes ws n s B) B) (second.over_built ws n s B fine).equal;
  over_alike = alike;
  listings = λ ws n s B fine t built.
      let tour = alike ws.now n s.now B fine t built in
      record {
        made_rising = λ v o. made_named true ws n s B fine v (children ws.now n v) (tour.children_rise v o);
        rising = λ v o. steps_named true ws n s B fine v (children ws.now n v) (tour.children_rise v o);
        made_falling = λ v o. made_named false ws n s B fine v (reverse (children ws.now n v)) (tour.children_fall v o);
        falling = λ v o. steps_named false ws n s B fine v (reverse (children ws.now n v)) (tour.children_fall v o);
      };
}
