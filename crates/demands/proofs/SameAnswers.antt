-- Two rows with their nodes get the same answers under two conditions. The tests before an answer give the same result. And if they pass, the
-- first n bits and the min-max nodes are the same. Neither the walk nor a call reads anything else.
--   passed_same, tested_same: an answer after one gate, and after two gates
--   RowAlike, NodesAlike: the conditions on two rows, and on two rows with their node buffers
--   handle_same, tree_same: calls over the row alone
--   root_same: the start of `level_rightmost`
--   passed, tested, over: an answer after tests 1 to 4, with a gate of handles after them, and by searches
--   search_same, node_same, both_same, leftmost_same, rightmost_same, test_same: calls over nodes
--   starts, nexts, sought_same, after_same, listed_same, count_same, left_same: listings
--   answers_same: every call
-- Assumes nothing.
use mathlib.Core.Path.{◌≡◌, refl, ap, ◌∙◌, fun_ext}
use mathlib.Core.Bool.{Bool, true, false, cond}
use mathlib.Core.List.{List}
use Prim.Native.Nat.{ℕ, ◌<◌}
use native.Mathlib.Omega.{arith}
use borrow.Author.Tests.{eqb-false}
use lib.Dec.{eqb}
use lib.IntN.{ℤ, pos, negsuc, ◌+ℤ◌, ◌-ℤ◌}
use lib.ListN.{length}
use Rattle.row.specs.Gates.{Gate}
use Rattle.std.specs.Prelude.{Ok, Err}
use Rattle.row.specs.Answer.{Answer, at, nothing, refused}
use Rattle.row.specs.Gates.{row_gate, handle_gate, and_then, through}
use Rattle.row.specs.Tree.{one_tree}
use Rattle.row.specs.Way.{Way, forward, backward}
use Rattle.row.proofs.Surplus.{Same, one_tree_same}
use Rattle.bits_stretch.specs.declared.summary.Summary.{Summary}
use Rattle.one_tree.specs.OneTree.{one_tree_answer}
use Rattle.mmt_layout.specs.Layout.{count, nodes_gate}
use Rattle.mmt_layout.proofs.Gates.{gate_fine}
use Rattle.bp_spec.specs.RowCalls.{handle_answer}
use Rattle.mmt_node.specs.Nodes.{node_at}
use Rattle.mmt_build.specs.Check.{built_test, as_built_answer}
use Rattle.walk_spec.specs.Walk.{Walk, fits, walk}
use Rattle.bp_spec.specs.SearchPair.{Searches, walked}
use Rattle.bp_spec.specs.SearchCalls.{search_answer, outward}
use Rattle.bp_spec.specs.HandleCalls.{node_answer}
use Rattle.bp_spec.specs.RowCalls as handle
use Rattle.bp_spec.specs.AncestorCalls as family
use Rattle.bp_spec.specs.AncestorCalls.{both_gate, ancestor_answer}
use Rattle.bp_spec.specs.SiblingCalls as sibling
use Rattle.bp_spec.specs.LevelCalls as level
use Rattle.bp_spec.specs.LevelEnds as ends
use Rattle.bp_spec.specs.LevelEnds.{in_row, root_start, level_answer, rightmost_answer}
use Rattle.bp_spec.proofs.RightmostStart.{root_there}
use Rattle.list_slice.specs.Seek.{start_call, next_call, sought, held_after}
use Rattle.list_slice.specs.WholeListing.{answers, count_of, left_of}
use Rattle.bp_spec.specs.declared.question.Question.{Question}
use Rattle.bp_spec.specs.declared.question.Question.TheVariants.{FwdSearch, BwdSearch, Close, Open, Enclose, Root, Parent, FirstChild, LastChild, NextSibling, PreviousSibling, IsLeaf, IsAncestor, LevelAncestor, LevelNext, LevelPrev, LevelLeftmost, LevelRightmost}
use Rattle.bp_spec.specs.Questions.{promised}
use Rattle.bp_spec.specs.Ranges.{kind}
use Rattle.demands.proofs.SameWalk.{Alike, walk_same, searches_same}
use Rattle.demands.proofs.SameCalls.{gate_same, outward_same, first_child_same, is_leaf_same, parent_same, last_child_same, next_sibling_same, previous_sibling_same, built_same}

-- ---- an answer after tests
passed_same : (g h : Gate) (a b : Answer) → g ≡ h → (g ≡ (Ok tt) → a ≡ b) → through g a ≡ through h b
passed_same (Ok tt) h a b e f = let p = f refl in λ i. through (e i) (p i)
passed_same (Err k) h a b e f = ap (λ (x : Gate). through x b) e

tested_same : (g h g' h' : Gate) (a b : Answer) → g ≡ h → (g ≡ (Ok tt) → (g' ≡ h') × (a ≡ b)) → through (and_then g g') a ≡ through (and_then h h') b
tested_same (Ok tt) h g' h' a b e f = let p = f refl in λ i. through (and_then (e i) (p.0 i)) (p.1 i)
tested_same (Err k) h g' h' a b e f = ap (λ (x : Gate). through (and_then x h') b) e

-- Tests 2 and 3 give the same result for both rows, and if they pass, the first n bits are the same.
pub record RowAlike (ws vs : List ℕ) (n : ℕ) : Type 0 where
  pub gate : row_gate (length ws) n ≡ row_gate (length vs) n
  pub bits : row_gate (length ws) n ≡ (Ok tt) → Same ws vs n

-- Tests 1 to 4 give the same result for both rows and buffers, and if they pass, the first n bits and the min-max nodes are the same.
pub record NodesAlike (ws vs : List ℕ) (n : ℕ) (s t : List ℤ) (B : ℕ) : Type 0 where
  pub gate : nodes_gate (length ws) n (length s) B ≡ nodes_gate (length vs) n (length t) B
  pub bits : nodes_gate (length ws) n (length s) B ≡ (Ok tt) → Same ws vs n
  pub nodes : nodes_gate (length ws) n (length s) B ≡ (Ok tt) → Alike s t (count n B)

-- ---- over the row alone
module _ (ws vs : List ℕ) (n : ℕ) (same : RowAlike ws vs n) where
  handle_same : (c : List ℕ → ℕ → ℕ → Answer) → (Same ws vs n → (v : ℕ) → c ws n v ≡ c vs n v) → (v : ℕ)
      → handle_answer c ws n v ≡ handle_answer c vs n v
  unfolding handle_answer
  handle_same c f v =
      tested_same (row_gate (length ws) n) (row_gate (length vs) n) (handle_gate ws n v) (handle_gate vs n v) (c ws n v) (c vs n v) same.gate
      (λ o. let b = same.bits o in (gate_same ws vs n b v, f b v))

  pub tree_same : one_tree_answer ws n ≡ one_tree_answer vs n
  unfolding one_tree_answer
  tree_same =
      passed_same (row_gate (length ws) n) (row_gate (length vs) n) (cond (one_tree ws n) (at 1) (at 0)) (cond (one_tree vs n) (at 1) (at 0)) same.gate
      (λ o. ap (λ (y : Bool). cond y (at 1) (at 0)) (one_tree_same ws vs n (same.bits o)))

-- ---- over nodes
root_same : (n : ℕ) (s t : List ℤ) (B : ℕ) → 0 < B → Alike s t (count n B) → root_start n s ≡ root_start n t
unfolding root_start
root_same n s t B some e = go (eqb n 0) refl
  where
    start : Summary → Answer
    start x = cond (fits x) (in_row n (pos n +ℤ x.total -ℤ pos 1)) (refused 8)

    go : (b : Bool) → eqb n 0 ≡ b → cond b nothing (start (node_at s 0)) ≡ cond b nothing (start (node_at t 0))
    go true q = refl
    go false q = let z = eqb-false n 0 q in ap start (e 0 (root_there n B some (omega arith)))

module _ (ws vs : List ℕ) (n : ℕ) (s t : List ℤ) (B : ℕ) (same : NodesAlike ws vs n s t B) where
  abbrev Passed : Type 0
  Passed = nodes_gate (length ws) n (length s) B ≡ (Ok tt)

  -- An answer after tests 1 to 4; and the same with a gate of handles after these tests.
  passed : (a b : Answer) → (Passed → a ≡ b)
      → through (nodes_gate (length ws) n (length s) B) a ≡ through (nodes_gate (length vs) n (length t) B) b
  passed a b f = passed_same (nodes_gate (length ws) n (length s) B) (nodes_gate (length vs) n (length t) B) a b same.gate f

  tested : (g h : Gate) (a b : Answer) → (Passed → (g ≡ h) × (a ≡ b))
      → through (and_then (nodes_gate (length ws) n (length s) B) g) a ≡ through (and_then (nodes_gate (length vs) n (length t) B) h) b
  tested g h a b f = tested_same (nodes_gate (length ws) n (length s) B) (nodes_gate (length vs) n (length t) B) g h a b same.gate f

  -- A call that depends on the row and on its two searches.
  over : Passed → (c : List ℕ → Searches → Answer) → ((S : Searches) → c ws S ≡ c vs S) → c ws (walked ws n s B) ≡ c vs (walked vs n t B)
  over o c f = f (walked ws n s B) ∙ ap (c vs) (searches_same ws vs n s t B (same.bits o) (same.nodes o))

  search_same : (w : Way) (i : ℕ) (r q : ℤ) → (Same ws vs n → r ≡ q) → search_answer w ws n s B i r ≡ search_answer w vs n t B i q
  unfolding search_answer
  search_same w i r q e =
      passed (walk w ws n s B i r).answer (walk w vs n t B i q).answer
      (λ o. ap (λ (x : Walk). x.answer) (walk_same ws vs n s t B (same.bits o) (same.nodes o) w i r)
      ∙ ap (λ (z : ℤ). (walk w vs n t B i z).answer) (e (same.bits o)))

  node_same : (c : List ℕ → ℕ → Searches → ℕ → Answer) → (Same ws vs n → (S : Searches) (v : ℕ) → c ws n S v ≡ c vs n S v) → (v : ℕ)
      → node_answer c ws n s B v ≡ node_answer c vs n t B v
  unfolding node_answer
  node_same c f v =
      tested (handle_gate ws n v) (handle_gate vs n v) (c ws n (walked ws n s B) v) (c vs n (walked vs n t B) v)
      (λ o. let b = same.bits o in (gate_same ws vs n b v, over o (λ us S. c us n S v) (λ S. f b S v)))

  both_same : (a d : ℕ) → ancestor_answer ws n s B a d ≡ ancestor_answer vs n t B a d
  unfolding ancestor_answer family.is_ancestor
  both_same a d =
      tested (both_gate ws n a d) (both_gate vs n a d)
      (family.is_ancestor ws n (walked ws n s B) a d) (family.is_ancestor vs n (walked vs n t B) a d)
      (λ o. (
        λ i. and_then (gate_same ws vs n (same.bits o) a i) (gate_same ws vs n (same.bits o) d i),
        over o (λ us S. family.is_ancestor us n S a d) (λ S. refl),
      ))

  leftmost_same : (k : ℕ) → level_answer ends.level_leftmost ws n s B k ≡ level_answer ends.level_leftmost vs n t B k
  unfolding level_answer ends.level_leftmost
  leftmost_same k =
      passed (ends.level_leftmost ws n (walked ws n s B) k) (ends.level_leftmost vs n (walked vs n t B) k)
      (λ o. over o (λ us S. ends.level_leftmost us n S k) (λ S. refl))

  rightmost_same : (k : ℕ) → rightmost_answer ws n s B k ≡ rightmost_answer vs n t B k
  unfolding rightmost_answer ends.level_rightmost
  rightmost_same k =
      passed (ends.level_rightmost ws n (walked ws n s B) (root_start n s) k) (ends.level_rightmost vs n (walked vs n t B) (root_start n t) k)
      (λ o. let l = (gate_fine (length ws) n (length s) B o).eight in
      over o (λ us S. ends.level_rightmost us n S (root_start n s) k) (λ S. refl)
      ∙ ap (λ (a : Answer). ends.level_rightmost vs n (walked vs n t B) a k) (root_same n s t B (omega arith) (same.nodes o)))

  pub test_same : as_built_answer ws n s B ≡ as_built_answer vs n t B
  unfolding as_built_answer
  test_same =
      passed (cond (built_test ws n s B) (at 1) (at 0)) (cond (built_test vs n t B) (at 1) (at 0))
      (λ o. ap (λ (y : Bool). cond y (at 1) (at 0)) (built_same ws vs n (same.bits o) B s t (same.nodes o)))

  -- ---- a listing
  starts : Same ws vs n → (rising : Bool) (S : Searches) (v : ℕ) → start_call rising ws n S v ≡ start_call rising vs n S v
  starts b true S v = first_child_same ws vs n b v
  starts b false S v = last_child_same ws vs n b S v

  nexts : Same ws vs n → (rising : Bool) (S : Searches) (v : ℕ) → next_call rising ws n S v ≡ next_call rising vs n S v
  nexts b true S v = next_sibling_same ws vs n b S v
  nexts b false S v = previous_sibling_same ws vs n b S v

  pub sought_same : (rising : Bool) (v : ℕ) → sought rising ws n s B v ≡ sought rising vs n t B v
  unfolding sought
  sought_same rising v = node_same (start_call rising) (λ b. starts b rising) v

  pub after_same : (rising : Bool) (a : Answer) → held_after rising ws n s B a ≡ held_after rising vs n t B a
  after_same rising (at v) = node_same (next_call rising) (λ b. nexts b rising) v
  after_same rising nothing = refl
  after_same rising (refused k) = refl

  listed_same : (rising : Bool) (v c : ℕ)
      → answers (held_after rising ws n s B) c (sought rising ws n s B v) ≡ answers (held_after rising vs n t B) c (sought rising vs n t B v)
  listed_same rising v c =
      let f = fun_ext (after_same rising) in
      let a = sought_same rising v in
      λ i. answers (f i) c (a i)

  pub count_same : (rising : Bool) (v c : ℕ) → count_of rising ws n s B v c ≡ count_of rising vs n t B v c
  unfolding count_of
  count_same rising v c = rw (listed_same rising v c, sought_same rising v)

  pub left_same : (rising : Bool) (v : ℕ) (out : List ℤ) → left_of rising ws n s B v out ≡ left_of rising vs n t B v out
  unfolding left_of
  left_same rising v out = rw (listed_same rising v (length out), sought_same rising v)

-- ---- each call
module _ (ws vs : List ℕ) (n : ℕ) (s t : List ℤ) (B : ℕ) (row : RowAlike ws vs n) where
  pub answers_same : (q : Question) → ((kind n q).nodes ≡ true → NodesAlike ws vs n s t B) → promised ws n s B q ≡ promised vs n t B q
  unfolding level.level_ancestor level.level_next level.level_prev
  answers_same (FwdSearch i r) h = search_same ws vs n s t B (h refl) forward i r r (λ b. refl)
  answers_same (BwdSearch i r) h = search_same ws vs n s t B (h refl) backward i r r (λ b. refl)
  answers_same (Close i) h = search_same ws vs n s t B (h refl) forward i (negsuc 0) (negsuc 0) (λ b. refl)
  answers_same (Open i) h = search_same ws vs n s t B (h refl) backward i (negsuc 0) (negsuc 0) (λ b. refl)
  answers_same (Enclose i) h =
      search_same ws vs n s t B (h refl) backward i (outward ws n i) (outward vs n i) (λ b. outward_same ws vs n b i)
  answers_same Root h = ap (λ (g : Gate). through g (handle.root n)) row.gate
  answers_same (Parent v) h = node_same ws vs n s t B (h refl) family.parent (parent_same ws vs n) v
  answers_same (FirstChild v) h = handle_same ws vs n row handle.first_child (first_child_same ws vs n) v
  answers_same (LastChild v) h = node_same ws vs n s t B (h refl) sibling.last_child (last_child_same ws vs n) v
  answers_same (NextSibling v) h = node_same ws vs n s t B (h refl) sibling.next_sibling (next_sibling_same ws vs n) v
  answers_same (PreviousSibling v) h = node_same ws vs n s t B (h refl) sibling.previous_sibling (previous_sibling_same ws vs n) v
  answers_same (IsLeaf v) h = handle_same ws vs n row handle.is_leaf (is_leaf_same ws vs n) v
  answers_same (IsAncestor a d) h = both_same ws vs n s t B (h refl) a d
  answers_same (LevelAncestor v k) h = node_same ws vs n s t B (h refl) (level.level_ancestor k) (λ b S u. refl) v
  answers_same (LevelNext v) h = node_same ws vs n s t B (h refl) level.level_next (λ b S u. refl) v
  answers_same (LevelPrev v) h = node_same ws vs n s t B (h refl) level.level_prev (λ b S u. refl) v
  answers_same (LevelLeftmost k) h = leftmost_same ws vs n s t B (h refl) k
  answers_same (LevelRightmost k) h = rightmost_same ws vs n s t B (h refl) k
