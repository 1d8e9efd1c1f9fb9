-- The values and refusal numbers that each call may answer, over any words, any node buffer and any block size.
--   one, two, three, four: the first to fourth number of a list is a member of it
--   behind: a walk's answer behind a gate gives only the gate's refusals and 8
--   free_may: a call over nodes that takes no handle
--   held_may: a call over nodes that takes a handle
--   bare_may: a call that takes a handle and no nodes
--   answers_may: each call stays within its kind (specs/Ranges)
-- Assumes nothing.
use mathlib.Core.Path.{◌≡◌, refl}
use mathlib.Core.List.Memᴰ
use mathlib.Core.List.{List, [], ◌∷◌}
use Prim.Native.Nat.{ℕ}
use lib.IntN.{ℤ, negsuc}
use lib.ListN.{length}
use Rattle.row.specs.Gates.{Gate}
use Rattle.std.specs.Prelude.{Ok}
use Rattle.row.specs.Answer.{Answer}
use Rattle.row.specs.Gates.{row_gate, handle_gate, through, and_then}
use Rattle.row.specs.Way.{Way, forward, backward}
use Rattle.mmt_layout.specs.Layout.{nodes_gate}
use Rattle.bp_spec.specs.RowCalls.{handle_answer}
use Rattle.walk_spec.specs.Walk.{walk}
use Rattle.bp_spec.specs.SearchPair.{Searches, walked}
use Rattle.bp_spec.specs.SearchCalls.{search_answer, outward}
use Rattle.bp_spec.specs.HandleCalls.{node_answer}
use Rattle.bp_spec.specs.RowCalls as handle
use Rattle.bp_spec.specs.AncestorCalls as family
use Rattle.bp_spec.specs.AncestorCalls.{both_gate, ancestor_answer}
use Rattle.bp_spec.specs.SiblingCalls as sibling
use Rattle.bp_spec.specs.LevelCalls as level
use Rattle.bp_spec.specs.LevelEnds as ends
use Rattle.bp_spec.specs.LevelEnds.{level_answer, rightmost_answer}
use Rattle.bp_spec.specs.declared.question.Question.{Question}
use Rattle.bp_spec.specs.declared.question.Question.TheVariants.{FwdSearch, BwdSearch, Close, Open, Enclose, Root, Parent, FirstChild, LastChild, NextSibling, PreviousSibling, IsLeaf, IsAncestor, LevelAncestor, LevelNext, LevelPrev, LevelLeftmost, LevelRightmost}
use Rattle.bp_spec.specs.Questions.{promised}
use Rattle.row.specs.Tree.{Handle}
use Rattle.bp_spec.specs.Ranges.{kind, refusals, May, Among}
use Rattle.row.proofs.Tree.{opens_low}
use Rattle.bp_spec.proofs.CallRange.{may_wider, may_root, may_first_child, may_leaf, may_parent, may_last_child, may_next_sibling, may_previous_sibling, may_ancestor, may_level_ancestor, may_next, may_prev, may_leftmost, may_rightmost}
use Rattle.bp_spec.proofs.WalkRange.{walk_may, root_may}
use Rattle.bp_spec.proofs.GateRange.{RefusedBy, refused_then, refused_row, refused_nodes, refused_handle, may_through, handle_of}

-- ---- membership in a list of numbers
pub one : {k : ℕ} {l : List ℕ} → Among k (k ∷ l)
one = Memᴰ.head refl

pub two : {j k : ℕ} {l : List ℕ} → Among k (j ∷ k ∷ l)
two = Memᴰ.tail one

pub three : {i j k : ℕ} {l : List ℕ} → Among k (i ∷ j ∷ k ∷ l)
three = Memᴰ.tail two

pub four : {h i j k : ℕ} {l : List ℕ} → Among k (h ∷ i ∷ j ∷ k ∷ l)
four = Memᴰ.tail three

-- The refusals of a call over nodes without a handle, of one with a handle, and of a call on a handle without nodes.
abbrev free : List ℕ
free = 1 ∷ 2 ∷ 3 ∷ 4 ∷ 8 ∷ []

abbrev held : List ℕ
held = 1 ∷ 2 ∷ 3 ∷ 4 ∷ 5 ∷ 8 ∷ []

abbrev bare : List ℕ
bare = 2 ∷ 3 ∷ 5 ∷ []

-- A walk's answer behind a gate is a value below b, nothing, a refusal of the gate, or refusal 8.
behind : (b : ℕ) (l : List ℕ) → Among 8 l → (g : Gate) (a : Answer) → RefusedBy l g → (g ≡ (Ok tt) → May b (8 ∷ []) a) → May b l (through g a)
behind b l e g a h f = may_through l b g a h (λ o. may_wider b (8 ∷ []) l (λ k i. Memᴰ.cast (Memᴰ.eq_of_singleton i) e) a (f o))

-- ---- what each kind of call may answer
module _ (ws : List ℕ) (n : ℕ) (s : List ℤ) (B : ℕ) where
  abbrev nodes : Gate
  nodes = nodes_gate (length ws) n (length s) B

  abbrev row : Gate
  row = row_gate (length ws) n

  abbrev walks : Searches
  walks = walked ws n s B

  fwd_may : (i : ℕ) (r : ℤ) → May n (8 ∷ []) (walks.fwd i r)
  fwd_may i r = walk_may forward ws n s B i r

  bwd_may : (i : ℕ) (r : ℤ) → May n (8 ∷ []) (walks.bwd i r)
  bwd_may i r = walk_may backward ws n s B i r

  free_may : (a : Answer) → May n (8 ∷ []) a → May n free (through nodes a)
  free_may a h = behind n free (Memᴰ.tail four) nodes a (refused_nodes free (length ws) n (length s) B one two three four) (λ g. h)

  search_may : (w : Way) (i : ℕ) (r : ℤ) → May n free (search_answer w ws n s B i r)
  unfolding search_answer
  search_may w i r = free_may (walk w ws n s B i r).answer (walk_may w ws n s B i r)

  handle_refused : (v : ℕ) → RefusedBy held (handle_gate ws n v)
  handle_refused v = refused_handle held ws n v (Memᴰ.tail four)

  held_may : (b : ℕ) (h : Gate) (a : Answer) → RefusedBy held h → (and_then nodes h ≡ (Ok tt) → May b (8 ∷ []) a) → May b held (through (and_then nodes h) a)
  held_may b h a q f =
      behind b held (Memᴰ.tail (Memᴰ.tail four)) (and_then nodes h) a
      (refused_then held nodes h (refused_nodes held (length ws) n (length s) B one two three four) q) f

  node_may : (c : List ℕ → ℕ → Searches → ℕ → Answer) (v : ℕ) → (Handle ws n v → May n (8 ∷ []) (c ws n walks v))
      → May n held (node_answer c ws n s B v)
  unfolding node_answer
  node_may c v f = held_may n (handle_gate ws n v) (c ws n walks v) (handle_refused v) (λ g. f (handle_of ws n v nodes g))

  ancestor_may : (a d : ℕ) → May 2 held (ancestor_answer ws n s B a d)
  unfolding ancestor_answer
  ancestor_may a d =
      held_may 2 (both_gate ws n a d) (family.is_ancestor ws n walks a d)
      (refused_then held (handle_gate ws n a) (handle_gate ws n d) (handle_refused a) (handle_refused d))
      (λ g. may_ancestor (8 ∷ []) ws n walks fwd_may bwd_may a d)

  bare_may : (b : ℕ) (c : List ℕ → ℕ → ℕ → Answer) (v : ℕ) → May b bare (c ws n v) → May b bare (handle_answer c ws n v)
  unfolding handle_answer
  bare_may b c v h =
      may_through bare b (and_then row (handle_gate ws n v)) (c ws n v)
      (refused_then bare row (handle_gate ws n v) (refused_row bare (length ws) n one two) (refused_handle bare ws n v three)) (λ g. h)

  pub answers_may : (q : Question) → May (kind n q).below (refusals (kind n q).nodes (kind n q).handles) (promised ws n s B q)
  unfolding level_answer rightmost_answer
  answers_may (FwdSearch i r) = search_may forward i r
  answers_may (BwdSearch i r) = search_may backward i r
  answers_may (Close i) = search_may forward i (negsuc 0)
  answers_may (Open i) = search_may backward i (negsuc 0)
  answers_may (Enclose i) = search_may backward i (outward ws n i)
  answers_may Root = may_through (2 ∷ 3 ∷ []) n row (handle.root n) (refused_row (2 ∷ 3 ∷ []) (length ws) n one two) (λ g. may_root (2 ∷ 3 ∷ []) ws n)
  answers_may (Parent v) = node_may family.parent v (λ h. may_parent (8 ∷ []) ws n walks fwd_may bwd_may v)
  answers_may (FirstChild v) = bare_may n handle.first_child v (may_first_child bare ws n v)
  answers_may (LastChild v) = node_may sibling.last_child v (λ h. may_last_child (8 ∷ []) ws n walks fwd_may bwd_may v)
  answers_may (NextSibling v) = node_may sibling.next_sibling v (λ h. may_next_sibling (8 ∷ []) ws n walks fwd_may bwd_may v)
  answers_may (PreviousSibling v) = node_may sibling.previous_sibling v (λ h. may_previous_sibling (8 ∷ []) ws n walks fwd_may bwd_may v)
  answers_may (IsLeaf v) = bare_may 2 handle.is_leaf v (may_leaf bare ws n v)
  answers_may (IsAncestor a d) = ancestor_may a d
  answers_may (LevelAncestor v k) =
      node_may (level.level_ancestor k) v (λ h. may_level_ancestor (8 ∷ []) ws n walks fwd_may bwd_may k v (opens_low ws n v h))
  answers_may (LevelNext v) = node_may level.level_next v (λ h. may_next (8 ∷ []) ws n walks fwd_may bwd_may v)
  answers_may (LevelPrev v) = node_may level.level_prev v (λ h. may_prev (8 ∷ []) ws n walks fwd_may bwd_may v)
  answers_may (LevelLeftmost k) = free_may (ends.level_leftmost ws n walks k) (may_leftmost (8 ∷ []) ws n walks fwd_may bwd_may k)
  answers_may (LevelRightmost k) =
      free_may (ends.level_rightmost ws n walks (ends.root_start n s) k)
      (may_rightmost (8 ∷ []) ws n walks fwd_may bwd_may n (ends.root_start n s) (root_may n s) k)
