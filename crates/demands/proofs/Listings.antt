-- A child listing and its steps answer the list that the child and sibling calls name.
--   starting, sibling_call: the first question of a listing, and the question after each handle
--   held_next: what a listing holds after a step; named: the answers of the steps from a held answer on
--   begun_named: a constructor whose first question is not refused succeeds
--   first_sought: the first question of a constructor; made_named, steps_named: the constructor and the steps of a listing
--   answers_step: `list` writes what the steps answer
-- Assumes nothing.
use mathlib.Core.Path.{◌≡◌, refl, sym, ap, ◌∙◌}
use mathlib.Core.Bool.{Bool, true, false}
use mathlib.Core.List.{List, [], ◌∷◌}
use Prim.Native.Nat.{ℕ, zero, suc, ◌<◌}
use native.Mathlib.Omega.{arith}
use lib.IntN.{ℤ}
use lib.ListN.{length, get_or}
use denote.Ref.{Bor}
use Rattle.row.specs.Answer.{Answer, at, nothing, refused}
use Rattle.row.proofs.Gates.{row_passed}
use Rattle.mmt_layout.specs.Layout.{Fine}
use Rattle.mmt_layout.proofs.Gates.{fine_gate}
use Rattle.bp_spec.specs.RowCalls.{handle_answer}
use Rattle.bp_spec.specs.HandleCalls.{node_answer}
use Rattle.list_slice.specs.Seek.{sought, making, begun, held_after}
use Rattle.list_struct.specs.Listing.{Listing, holding, created}
use Rattle.list_struct.specs.Steps.{answer_at, nth}
use Rattle.list_struct.proofs.Sequence.{next, ended}
use Rattle.list_slice.specs.WholeListing.{answers}
use Rattle.bp_spec.specs.declared.question.Question.{Question}
use Rattle.bp_spec.specs.declared.question.Question.TheVariants.{FirstChild, LastChild, NextSibling, PreviousSibling}
use Rattle.bp_spec.specs.Questions.{promised}
use Rattle.demands.specs.Lists.{Names}

-- The first question of a listing, and the question after each handle.
abbrev pub starting : Bool → ℕ → Question
starting true = FirstChild
starting false = LastChild

abbrev pub sibling_call : Bool → ℕ → Question
sibling_call true = NextSibling
sibling_call false = PreviousSibling

module _ (rising : Bool) (ws : Bor (List ℕ)) (n : ℕ) (s : Bor (List ℤ)) (B : ℕ) where
  abbrev ask : Question → Answer
  ask = promised ws.now n s.now B

  -- The listing that holds a.
  abbrev with : Answer → Listing
  with a = record { words = ws; n = n; nodes = s; block = B; rising = rising; held = a }

  held_next : (r : Bool) (v : ℕ) → held_after r ws.now n s.now B (at v) ≡ ask (sibling_call r v)
  held_next true v = refl
  held_next false v = refl

  named : (l : List ℕ) (k : ℕ) (q : Question) → Names ask (sibling_call rising) q l → answer_at k (with (ask q)) ≡ nth l k
  unfolding answer_at
  named [] zero q e = e
  named [] (suc k) q e = ended (with (ask q)) (suc k) 0 (omega arith) e
  named (v ∷ l) zero q e = e.0
  named (v ∷ l) (suc k) q e =
      ap (λ (a : Answer). answer_at k (with (held_after rising ws.now n s.now B a))) e.0
      ∙ ap (λ (a : Answer). answer_at k (with a)) (held_next rising v)
      ∙ named l k (sibling_call rising v) e.1

  -- If the calls name a list, the first question is not refused, and the constructor succeeds.
  begun_named : (l : List ℕ) (q : Question) → Names ask (sibling_call rising) q l → (making (ask q) ≡ at 0) × (begun (ask q) ≡ ask q)
  begun_named [] q e = (ap making e, ap begun e ∙ sym e)
  begun_named (v ∷ l) q e = (ap making e.0, ap begun e.0 ∙ sym e.0)

  module _ (fine : Fine (length ws.now) n (length s.now) B) (v : ℕ) where
    first_sought : (r : Bool) → sought r ws.now n s.now B v ≡ ask (starting r v)
    unfolding sought handle_answer node_answer
    first_sought true =
        let w = fine.words in
        rw (fine_gate (length ws.now) n (length s.now) B fine, sym (row_passed (length ws.now) n fine.short (omega arith)))
    first_sought false = refl

    module _ (l : List ℕ) (e : Names ask (sibling_call rising) (starting rising v) l) where
      pub made_named : (created rising ws n s B v).answer ≡ at 0
      made_named = ap making (first_sought rising) ∙ (begun_named l (starting rising v) e).0

      pub steps_named : (k : ℕ) → answer_at k (created rising ws n s B v).listing ≡ nth l k
      steps_named k =
          ap (λ (a : Answer). answer_at k (with a)) (ap begun (first_sought rising) ∙ (begun_named l (starting rising v) e).1)
          ∙ named l k (starting rising v) e

-- `list` writes what the steps answer, in their order.
pub answers_step : (l : Listing) (c k : ℕ) (a : Answer) → k < length (answers (next l) c a)
    → get_or (answers (next l) c a) k nothing ≡ answer_at k (holding l a)
unfolding answers answer_at
answers_step l zero k a h = absurd (omega arith)
answers_step l (suc c) zero a h = refl
answers_step l (suc c) (suc k) (at v) h = answers_step l c k (next l (at v)) (omega arith)
answers_step l (suc c) (suc k) nothing h = absurd (omega arith)
answers_step l (suc c) (suc k) (refused m) h = answers_step l c k (next l (refused m)) (omega arith)
