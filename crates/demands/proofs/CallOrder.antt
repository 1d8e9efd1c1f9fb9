-- The order in which each call makes its tests.
--   free_order, search_order: calls over nodes without a handle, and the two searches
--   node_order: calls over nodes with a handle; bare_order: calls with a handle and without nodes
--   order_of: every call
-- Assumes nothing.
use mathlib.Core.List.Memᴰ
use mathlib.Core.List.{List, [], ◌∷◌}
use Prim.Native.Nat.{ℕ}
use lib.IntN.{ℤ, negsuc}
use lib.ListN.{length}
use Rattle.row.specs.Gates.{Gate}
use Rattle.std.specs.Prelude.{Ok}
use Rattle.row.specs.Answer.{Answer}
use Rattle.row.specs.Gates.{handle_gate, through}
use Rattle.row.specs.Way.{Way, forward, backward}
use Rattle.mmt_layout.specs.Layout.{nodes_gate}
use Rattle.bp_spec.specs.RowCalls.{handle_answer}
use Rattle.walk_spec.specs.Walk.{walk}
use Rattle.bp_spec.specs.SearchPair.{Searches, walked}
use Rattle.bp_spec.specs.SearchCalls.{search_answer, outward}
use Rattle.bp_spec.specs.HandleCalls.{node_answer}
use Rattle.bp_spec.specs.RowCalls as handle
use Rattle.bp_spec.specs.AncestorCalls as family
use Rattle.bp_spec.specs.AncestorCalls.{both_gate, ancestor_answer}
use Rattle.bp_spec.specs.SiblingCalls as sibling
use Rattle.bp_spec.specs.LevelCalls as level
use Rattle.bp_spec.specs.LevelEnds as ends
use Rattle.bp_spec.specs.LevelEnds.{level_answer, rightmost_answer}
use Rattle.bp_spec.specs.declared.question.Question.{Question}
use Rattle.bp_spec.specs.declared.question.Question.TheVariants.{FwdSearch, BwdSearch, Close, Open, Enclose, Root, Parent, FirstChild, LastChild, NextSibling, PreviousSibling, IsLeaf, IsAncestor, LevelAncestor, LevelNext, LevelPrev, LevelLeftmost, LevelRightmost}
use Rattle.bp_spec.specs.Questions.{promised}
use Rattle.demands.specs.First.{InOrder}
use Rattle.bp_spec.specs.Ranges.{over_nodes, over_row, kind}
use Rattle.demands.proofs.GateOrder.{refuses_one, refuses_both, nodes_order, row_order, then_passed}

module _ (ws : List ℕ) (n : ℕ) (s : List ℤ) (B : ℕ) where
  abbrev nodes : Gate
  nodes = nodes_gate (length ws) n (length s) B

  abbrev walks : Searches
  walks = walked ws n s B

  free_order : (a : Answer) → InOrder ws n s B (over_nodes [] n) (through nodes a)
  free_order a = rw then_passed at (nodes_order ws n s B n [] (Ok tt) a (λ v i f. absurd (Memᴰ.not-nil i)))

  search_order : (w : Way) (i : ℕ) (r : ℤ) → InOrder ws n s B (over_nodes [] n) (search_answer w ws n s B i r)
  unfolding search_answer
  search_order w i r = free_order (walk w ws n s B i r).answer

  node_order : (c : List ℕ → ℕ → Searches → ℕ → Answer) (v : ℕ) → InOrder ws n s B (over_nodes (v ∷ []) n) (node_answer c ws n s B v)
  unfolding node_answer
  node_order c v = nodes_order ws n s B n (v ∷ []) (handle_gate ws n v) (c ws n walks v) (refuses_one ws n v)

  bare_order : (b : ℕ) (c : List ℕ → ℕ → ℕ → Answer) (v : ℕ) → InOrder ws n s B (over_row (v ∷ []) b) (handle_answer c ws n v)
  unfolding handle_answer
  bare_order b c v = row_order ws n s B b (v ∷ []) (handle_gate ws n v) (c ws n v) (refuses_one ws n v)

  pub order_of : (q : Question) → InOrder ws n s B (kind n q) (promised ws n s B q)
  unfolding level_answer rightmost_answer ancestor_answer
  order_of (FwdSearch i r) = search_order forward i r
  order_of (BwdSearch i r) = search_order backward i r
  order_of (Close i) = search_order forward i (negsuc 0)
  order_of (Open i) = search_order backward i (negsuc 0)
  order_of (Enclose i) = search_order backward i (outward ws n i)
  order_of Root = rw then_passed at (row_order ws n s B n [] (Ok tt) (handle.root n) (λ v i f. absurd (Memᴰ.not-nil i)))
  order_of (Parent v) = node_order family.parent v
  order_of (FirstChild v) = bare_order n handle.first_child v
  order_of (LastChild v) = node_order sibling.last_child v
  order_of (NextSibling v) = node_order sibling.next_sibling v
  order_of (PreviousSibling v) = node_order sibling.previous_sibling v
  order_of (IsLeaf v) = bare_order 2 handle.is_leaf v
  order_of (IsAncestor a d) = nodes_order ws n s B 2 (a ∷ d ∷ []) (both_gate ws n a d) (family.is_ancestor ws n walks a d) (refuses_both ws n a d)
  order_of (LevelAncestor v k) = node_order (level.level_ancestor k) v
  order_of (LevelNext v) = node_order level.level_next v
  order_of (LevelPrev v) = node_order level.level_prev v
  order_of (LevelLeftmost k) = free_order (ends.level_leftmost ws n walks k)
  order_of (LevelRightmost k) = free_order (ends.level_rightmost ws n walks (ends.root_start n s) k)
