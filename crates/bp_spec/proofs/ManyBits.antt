-- Every call with n above 2^32 answers a refusal.
--   IsRefusal: the answer is a refusal
--   through_refuses: an answer behind a gate that does not pass is a refusal
--   many_refused: every call
-- Assumes nothing.
use mathlib.Core.Path.{◌≡◌, refl}
use mathlib.Core.List.{List}
use Prim.Native.Nat.{ℕ, ◌<◌}
use native.Mathlib.Omega.{arith}
use lib.IntN.{ℤ}
use lib.ListN.{length}
use Rattle.row.specs.Limits.{max_bits}
use Rattle.row.specs.Gates.{Gate}
use Rattle.std.specs.Prelude.{Ok, Err}
use Rattle.row.specs.Answer.{Answer, at, nothing, refused}
use Rattle.row.specs.Gates.{row_gate, through, and_then}
use Rattle.row.proofs.Gates.{row_fits}
use Rattle.mmt_layout.specs.Layout.{nodes_gate}
use Rattle.mmt_layout.proofs.Gates.{gate_fine}
use Rattle.bp_spec.specs.declared.question.Question.{Question}
use Rattle.bp_spec.specs.declared.question.Question.TheVariants.{FwdSearch, BwdSearch, Close, Open, Enclose, Root, Parent, FirstChild, LastChild, NextSibling, PreviousSibling, IsLeaf, IsAncestor, LevelAncestor, LevelNext, LevelPrev, LevelLeftmost, LevelRightmost}
use Rattle.bp_spec.specs.SearchCalls.{search_answer}
use Rattle.bp_spec.specs.HandleCalls.{node_answer}
use Rattle.bp_spec.specs.RowCalls.{handle_answer}
use Rattle.bp_spec.specs.AncestorCalls.{ancestor_answer}
use Rattle.bp_spec.specs.LevelEnds.{level_answer, rightmost_answer}
use Rattle.bp_spec.specs.Questions.{promised}
use Rattle.bp_spec.proofs.Gates.{then_passed}

abbrev pub IsRefusal : Answer → Type 0
IsRefusal (at x) = ⊥
IsRefusal nothing = ⊥
IsRefusal (refused k) = Unit {0}

through_refuses : (g : Gate) (a : Answer) → (g ≡ (Ok tt) → ⊥) → IsRefusal (through g a)
through_refuses (Ok tt) a f = absurd (f refl)
through_refuses (Err k) a f = tt

module _ (ws : List ℕ) (n : ℕ) (s : List ℤ) (B : ℕ) (many : max_bits < n) where
  row_stops : row_gate (length ws) n ≡ (Ok tt) → ⊥
  row_stops g = let f = (row_fits (length ws) n g).0 in omega arith

  nodes_stop : nodes_gate (length ws) n (length s) B ≡ (Ok tt) → ⊥
  nodes_stop g = let f = (gate_fine (length ws) n (length s) B g).short in omega arith

  over_row_lem : (h : Gate) (a : Answer) → IsRefusal (through (and_then (row_gate (length ws) n) h) a)
  over_row_lem h a = through_refuses _ a (λ g. row_stops (then_passed (row_gate (length ws) n) h g).0)

  over_nodes_lem : (h : Gate) (a : Answer) → IsRefusal (through (and_then (nodes_gate (length ws) n (length s) B) h) a)
  over_nodes_lem h a = through_refuses _ a (λ g. nodes_stop (then_passed (nodes_gate (length ws) n (length s) B) h g).0)

  pub many_refused : (q : Question) → IsRefusal (promised ws n s B q)
  unfolding search_answer node_answer handle_answer ancestor_answer level_answer rightmost_answer
  many_refused (FwdSearch i r) = through_refuses _ _ nodes_stop
  many_refused (BwdSearch i r) = through_refuses _ _ nodes_stop
  many_refused (Close i) = through_refuses _ _ nodes_stop
  many_refused (Open i) = through_refuses _ _ nodes_stop
  many_refused (Enclose i) = through_refuses _ _ nodes_stop
  many_refused Root = through_refuses _ _ row_stops
  many_refused (Parent v) = over_nodes_lem _ _
  many_refused (FirstChild v) = over_row_lem _ _
  many_refused (LastChild v) = over_nodes_lem _ _
  many_refused (NextSibling v) = over_nodes_lem _ _
  many_refused (PreviousSibling v) = over_nodes_lem _ _
  many_refused (IsLeaf v) = over_row_lem _ _
  many_refused (IsAncestor a d) = over_nodes_lem _ _
  many_refused (LevelAncestor v k) = over_nodes_lem _ _
  many_refused (LevelNext v) = over_nodes_lem _ _
  many_refused (LevelPrev v) = over_nodes_lem _ _
  many_refused (LevelLeftmost k) = through_refuses _ _ nodes_stop
  many_refused (LevelRightmost k) = through_refuses _ _ nodes_stop
