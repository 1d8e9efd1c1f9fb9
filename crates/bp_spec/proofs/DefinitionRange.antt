-- A call by definition answers a value in its bound, nothing, or refusal 5.
--   defined_may: the values and the refusal of every call
--   only_five: a call by definition that refuses, refuses by 5
-- Assumes nothing.
use mathlib.Core.Path.{◌≡◌, refl}
use mathlib.Core.List.Memᴰ
use mathlib.Core.List.{List, [], ◌∷◌}
use Prim.Native.Nat.{ℕ}
use lib.IntN.{ℤ, negsuc}
use Rattle.std.specs.Prelude.{Ok}
use Rattle.row.specs.Answer.{Answer, refused}
use Rattle.row.specs.Gates.{handle_gate, through}
use Rattle.bp_spec.specs.SearchPair.{Searches, defined}
use Rattle.bp_spec.specs.SearchCalls.{outward}
use Rattle.bp_spec.specs.HandleCalls.{node_defined}
use Rattle.bp_spec.specs.RowCalls as handle
use Rattle.bp_spec.specs.AncestorCalls as family
use Rattle.bp_spec.specs.AncestorCalls.{both_gate, ancestor_defined}
use Rattle.bp_spec.specs.SiblingCalls as sibling
use Rattle.bp_spec.specs.LevelCalls as level
use Rattle.bp_spec.specs.LevelEnds as ends
use Rattle.bp_spec.specs.LevelEnds.{rightmost_defined}
use Rattle.bp_spec.specs.declared.question.Question.{Question}
use Rattle.bp_spec.specs.declared.question.Question.TheVariants.{FwdSearch, BwdSearch, Close, Open, Enclose, Root, Parent, FirstChild, LastChild, NextSibling, PreviousSibling, IsLeaf, IsAncestor, LevelAncestor, LevelNext, LevelPrev, LevelLeftmost, LevelRightmost}
use Rattle.bp_spec.specs.Questions.{definition}
use Rattle.row.specs.Tree.{Handle}
use Rattle.bp_spec.specs.Ranges.{kind, May}
use Rattle.row.proofs.Tree.{opens_low}
use Rattle.bp_spec.proofs.CallRange.{may_root, may_first_child, may_leaf, may_parent, may_last_child, may_next_sibling, may_previous_sibling, may_ancestor, may_level_ancestor, may_next, may_prev, may_leftmost, may_rightmost}
use Rattle.bp_spec.proofs.WalkRange.{fwd_may, bwd_may, last_may}
use Rattle.bp_spec.proofs.GateRange.{refused_then, refused_handle, may_through, handle_of}

abbrev bad : List ℕ
bad = 5 ∷ []

module _ (ws : List ℕ) (n : ℕ) where
  ahead_may : (i : ℕ) (r : ℤ) → May n bad ((defined ws n).fwd i r)
  ahead_may i r = fwd_may ws n i r bad

  behind_may : (i : ℕ) (r : ℤ) → May n bad ((defined ws n).bwd i r)
  behind_may i r = bwd_may ws n i r bad

  held_may : (b v : ℕ) (a : Answer) → (Handle ws n v → May b bad a) → May b bad (through (handle_gate ws n v) a)
  held_may b v a f = may_through bad b (handle_gate ws n v) a (refused_handle bad ws n v (Memᴰ.head refl)) (λ g. f (handle_of ws n v (Ok tt) g))

  node_may : (c : List ℕ → ℕ → Searches → ℕ → Answer) (v : ℕ) → (Handle ws n v → May n bad (c ws n (defined ws n) v))
      → May n bad (node_defined c ws n v)
  unfolding node_defined
  node_may c v f = held_may n v (c ws n (defined ws n) v) f

  both_may : (a d : ℕ) → May 2 bad (ancestor_defined ws n a d)
  unfolding ancestor_defined
  both_may a d =
      may_through bad 2 (both_gate ws n a d) (family.is_ancestor ws n (defined ws n) a d)
      (refused_then bad (handle_gate ws n a) (handle_gate ws n d)
      (refused_handle bad ws n a (Memᴰ.head refl)) (refused_handle bad ws n d (Memᴰ.head refl)))
      (λ g. may_ancestor bad ws n (defined ws n) ahead_may behind_may a d)

  pub defined_may : (q : Question) → May (kind n q).below bad (definition ws n q)
  unfolding rightmost_defined
  defined_may (FwdSearch i r) = ahead_may i r
  defined_may (BwdSearch i r) = behind_may i r
  defined_may (Close i) = ahead_may i (negsuc 0)
  defined_may (Open i) = behind_may i (negsuc 0)
  defined_may (Enclose i) = behind_may i (outward ws n i)
  defined_may Root = may_root bad ws n
  defined_may (Parent v) = node_may family.parent v (λ h. may_parent bad ws n (defined ws n) ahead_may behind_may v)
  defined_may (FirstChild v) = held_may n v (handle.first_child ws n v) (λ h. may_first_child bad ws n v)
  defined_may (LastChild v) = node_may sibling.last_child v (λ h. may_last_child bad ws n (defined ws n) ahead_may behind_may v)
  defined_may (NextSibling v) = node_may sibling.next_sibling v (λ h. may_next_sibling bad ws n (defined ws n) ahead_may behind_may v)
  defined_may (PreviousSibling v) = node_may sibling.previous_sibling v (λ h. may_previous_sibling bad ws n (defined ws n) ahead_may behind_may v)
  defined_may (IsLeaf v) = held_may 2 v (handle.is_leaf ws n v) (λ h. may_leaf bad ws n v)
  defined_may (IsAncestor a d) = both_may a d
  defined_may (LevelAncestor v k) =
      node_may (level.level_ancestor k) v (λ h. may_level_ancestor bad ws n (defined ws n) ahead_may behind_may k v (opens_low ws n v h))
  defined_may (LevelNext v) = node_may level.level_next v (λ h. may_next bad ws n (defined ws n) ahead_may behind_may v)
  defined_may (LevelPrev v) = node_may level.level_prev v (λ h. may_prev bad ws n (defined ws n) ahead_may behind_may v)
  defined_may (LevelLeftmost k) = may_leftmost bad ws n (defined ws n) ahead_may behind_may k
  defined_may (LevelRightmost k) = may_rightmost bad ws n (defined ws n) ahead_may behind_may _ (ends.last_start ws n) (last_may ws n bad) k

  pub only_five : (q : Question) (k : ℕ) → definition ws n q ≡ refused k → k ≡ 5
  only_five q k e = Memᴰ.eq_of_singleton (rw e at (defined_may q))
