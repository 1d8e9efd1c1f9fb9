-- SCOPE, The calls: what each public call promises over any words, nodes and block size, and what its definition says.
-- A question is a call with its own arguments. The two tests, the build and the text reader are no questions; the crate demands names them.
-- Assumes nothing.
use Rattle.std.specs.Prelude.{List, ℕ, ℤ, negsuc, length}
use Rattle.bp_spec.specs.declared.question.Question.{Question}
use Rattle.bp_spec.specs.declared.question.Question.TheVariants.{FwdSearch, BwdSearch, Close, Open, Enclose, Root, Parent, FirstChild, LastChild, NextSibling, PreviousSibling, IsLeaf, IsAncestor, LevelAncestor, LevelNext, LevelPrev, LevelLeftmost, LevelRightmost}
use Rattle.row.specs.Answer.{Answer}
use Rattle.row.specs.Gates.{row_gate, handle_gate, through}
use Rattle.row.specs.Search as search
use Rattle.bp_spec.specs.RowCalls.{handle_answer}
use Rattle.bp_spec.specs.SearchCalls.{fwd_answer, bwd_answer, outward}
use Rattle.bp_spec.specs.SearchPair.{defined}
use Rattle.bp_spec.specs.HandleCalls.{node_answer, node_defined}
use Rattle.bp_spec.specs.RowCalls as handle
use Rattle.bp_spec.specs.AncestorCalls as family
use Rattle.bp_spec.specs.AncestorCalls.{ancestor_answer, ancestor_defined}
use Rattle.bp_spec.specs.SiblingCalls as sibling
use Rattle.bp_spec.specs.LevelCalls as level
use Rattle.bp_spec.specs.LevelEnds as ends
use Rattle.bp_spec.specs.LevelEnds.{level_answer, rightmost_answer, rightmost_defined}

-- The answer that the call promises for the words ws with n bits, the node buffer s and the block size B.
abbrev pub promised : List ℕ → ℕ → List ℤ → ℕ → Question → Answer
promised ws n s B (FwdSearch i r) = fwd_answer ws n s B i r
promised ws n s B (BwdSearch i r) = bwd_answer ws n s B i r
promised ws n s B (Close i) = fwd_answer ws n s B i (negsuc 0)
promised ws n s B (Open i) = bwd_answer ws n s B i (negsuc 0)
promised ws n s B (Enclose i) = bwd_answer ws n s B i (outward ws n i)
promised ws n s B Root = through (row_gate (length ws) n) (handle.root n)
promised ws n s B (Parent v) = node_answer family.parent ws n s B v
promised ws n s B (FirstChild v) = handle_answer handle.first_child ws n v
promised ws n s B (LastChild v) = node_answer sibling.last_child ws n s B v
promised ws n s B (NextSibling v) = node_answer sibling.next_sibling ws n s B v
promised ws n s B (PreviousSibling v) = node_answer sibling.previous_sibling ws n s B v
promised ws n s B (IsLeaf v) = handle_answer handle.is_leaf ws n v
promised ws n s B (IsAncestor a d) = ancestor_answer ws n s B a d
promised ws n s B (LevelAncestor v k) = node_answer (level.level_ancestor k) ws n s B v
promised ws n s B (LevelNext v) = node_answer level.level_next ws n s B v
promised ws n s B (LevelPrev v) = node_answer level.level_prev ws n s B v
promised ws n s B (LevelLeftmost k) = level_answer ends.level_leftmost ws n s B k
promised ws n s B (LevelRightmost k) = rightmost_answer ws n s B k

-- The call by definition on a row of n bits; a call on something that is not a handle is refusal 5.
abbrev pub definition : List ℕ → ℕ → Question → Answer
definition ws n (FwdSearch i r) = search.fwd ws n i r
definition ws n (BwdSearch i r) = search.bwd ws n i r
definition ws n (Close i) = search.fwd ws n i (negsuc 0)
definition ws n (Open i) = search.bwd ws n i (negsuc 0)
definition ws n (Enclose i) = search.bwd ws n i (outward ws n i)
definition ws n Root = handle.root n
definition ws n (Parent v) = node_defined family.parent ws n v
definition ws n (FirstChild v) = through (handle_gate ws n v) (handle.first_child ws n v)
definition ws n (LastChild v) = node_defined sibling.last_child ws n v
definition ws n (NextSibling v) = node_defined sibling.next_sibling ws n v
definition ws n (PreviousSibling v) = node_defined sibling.previous_sibling ws n v
definition ws n (IsLeaf v) = through (handle_gate ws n v) (handle.is_leaf ws n v)
definition ws n (IsAncestor a d) = ancestor_defined ws n a d
definition ws n (LevelAncestor v k) = node_defined (level.level_ancestor k) ws n v
definition ws n (LevelNext v) = node_defined level.level_next ws n v
definition ws n (LevelPrev v) = node_defined level.level_prev ws n v
definition ws n (LevelLeftmost k) = ends.level_leftmost ws n (defined ws n) k
definition ws n (LevelRightmost k) = rightmost_defined ws n k
