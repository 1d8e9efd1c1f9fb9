-- Theorem: on a buffer that passes refusals 1 to 4 and is as built, every call promises exactly its definition.
--   fwd_equal, bwd_equal: the two searches
--   node_equal: a call on one handle, over nodes
--   handle_equal: a call on one handle, without nodes
--   ancestor_equal: `is_ancestor`, which takes two handles
--   equal: every call
-- Assumes nothing.
use mathlib.Core.Path.{◌≡◌, sym, ap}
use mathlib.Core.List.{List}
use Prim.Native.Nat.{ℕ, ◌<◌}
use native.Mathlib.Omega.{arith}
use lib.IntN.{ℤ, negsuc}
use lib.ListN.{length}
use Rattle.std.specs.Prelude.{Ok}
use Rattle.row.specs.Answer.{Answer}
use Rattle.row.specs.Gates.{row_gate, handle_gate, through}
use Rattle.row.specs.Search.{fwd, bwd}
use Rattle.row.specs.Way.{forward, backward}
use Rattle.row.proofs.Gates.{row_passed}
use Rattle.mmt_layout.specs.Layout.{nodes_gate, Fine}
use Rattle.mmt_layout.proofs.Gates.{fine_gate}
use Rattle.bp_spec.specs.RowCalls.{handle_answer}
use Rattle.mmt_node.specs.Nodes.{AsBuilt}
use Rattle.bp_spec.specs.SearchPair.{Searches, walked, defined}
use Rattle.bp_spec.specs.SearchCalls.{search_answer, outward}
use Rattle.bp_spec.specs.HandleCalls.{node_answer, node_defined}
use Rattle.bp_spec.proofs.SearchesAgree.{searches_defined}
use Rattle.bp_spec.specs.RowCalls as handle
use Rattle.bp_spec.specs.AncestorCalls as family
use Rattle.bp_spec.specs.AncestorCalls.{ancestor_answer, ancestor_defined}
use Rattle.bp_spec.specs.SiblingCalls as sibling
use Rattle.bp_spec.specs.LevelCalls as level
use Rattle.bp_spec.specs.LevelEnds.{level_answer, rightmost_answer, rightmost_defined}
use Rattle.bp_spec.proofs.RightmostStart.{rightmost_right}
use Rattle.bp_spec.specs.declared.question.Question.{Question}
use Rattle.bp_spec.specs.declared.question.Question.TheVariants.{FwdSearch, BwdSearch, Close, Open, Enclose, Root, Parent, FirstChild, LastChild, NextSibling, PreviousSibling, IsLeaf, IsAncestor, LevelAncestor, LevelNext, LevelPrev, LevelLeftmost, LevelRightmost}
use Rattle.bp_spec.specs.Questions.{promised, definition}

module _ (ws : List ℕ) (n : ℕ) (s : List ℤ) (B : ℕ) (fine : Fine (length ws) n (length s) B) (built : AsBuilt ws n s B) where
  gate : nodes_gate (length ws) n (length s) B ≡ (Ok tt)
  gate = fine_gate (length ws) n (length s) B fine

  row : row_gate (length ws) n ≡ (Ok tt)
  row = let w = fine.words in sym (row_passed (length ws) n fine.short (omega arith))

  blocks : 0 < B
  blocks = let e = fine.eight in omega arith

  searches : walked ws n s B ≡ defined ws n
  searches = searches_defined ws n s B gate built

  fwd_equal : (i : ℕ) (r : ℤ) → search_answer forward ws n s B i r ≡ fwd ws n i r
  unfolding search_answer
  fwd_equal i r = rw gate (ap (λ y. y.fwd i r) searches)

  bwd_equal : (i : ℕ) (r : ℤ) → search_answer backward ws n s B i r ≡ bwd ws n i r
  unfolding search_answer
  bwd_equal i r = rw gate (ap (λ y. y.bwd i r) searches)

  node_equal : (c : List ℕ → ℕ → Searches → ℕ → Answer) (v : ℕ) → node_answer c ws n s B v ≡ node_defined c ws n v
  unfolding node_answer node_defined
  node_equal c v = rw (gate, searches)

  handle_equal : (c : List ℕ → ℕ → ℕ → Answer) (v : ℕ) → handle_answer c ws n v ≡ through (handle_gate ws n v) (c ws n v)
  unfolding handle_answer
  handle_equal c v = rw row

  ancestor_equal : (a d : ℕ) → ancestor_answer ws n s B a d ≡ ancestor_defined ws n a d
  unfolding ancestor_answer ancestor_defined
  ancestor_equal a d = rw (gate, searches)

  pub equal : (q : Question) → promised ws n s B q ≡ definition ws n q
  unfolding level_answer rightmost_answer rightmost_defined
  equal (FwdSearch i r) = fwd_equal i r
  equal (BwdSearch i r) = bwd_equal i r
  equal (Close i) = fwd_equal i (negsuc 0)
  equal (Open i) = bwd_equal i (negsuc 0)
  equal (Enclose i) = bwd_equal i (outward ws n i)
  equal Root = rw row
  equal (Parent v) = node_equal family.parent v
  equal (FirstChild v) = handle_equal handle.first_child v
  equal (LastChild v) = node_equal sibling.last_child v
  equal (NextSibling v) = node_equal sibling.next_sibling v
  equal (PreviousSibling v) = node_equal sibling.previous_sibling v
  equal (IsLeaf v) = handle_equal handle.is_leaf v
  equal (IsAncestor a d) = ancestor_equal a d
  equal (LevelAncestor v k) = node_equal (level.level_ancestor k) v
  equal (LevelNext v) = node_equal level.level_next v
  equal (LevelPrev v) = node_equal level.level_prev v
  equal (LevelLeftmost k) = rw (gate, searches)
  equal (LevelRightmost k) = rw (gate, searches) (rightmost_right ws n s B blocks fine.short built k)
