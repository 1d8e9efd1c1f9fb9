-- From the result of the tests and what is found after them to the promises of `parent` and `is_ancestor`.
--   parent_ok: at a handle `parent` is the search for -1
--   two_err, two_ok: the promise of `is_ancestor`, which takes two handles, refused and answered
-- Assumes nothing.
use mathlib.Core.Path.{◌≡◌, ◌∙◌}
use mathlib.Core.List.{List}
use Prim.Native.Nat.{ℕ}
use lib.IntN.{ℤ, negsuc}
use lib.ListN.{length}
use Rattle.std.specs.Prelude.{Result, Ok, Err, IfOk}
use Rattle.row.specs.declared.refusal.Refusal.{Refusal}
use Rattle.row.specs.Answer.{Answer, refused, number_of}
use Rattle.row.specs.Gates.{and_then, gate_of}
use Rattle.mmt_layout.specs.declared.admitted.Admitted.{Admitted}
use Rattle.mmt_layout.specs.Layout.{nodes_gate}
use Rattle.mmt_layout.specs.Parts.{HasParts}
use Rattle.bp_spec.specs.SearchCalls.{outward}
use Rattle.bp_spec.specs.SearchPair.{walked_on, on_row, open_of}
use Rattle.bp_spec.specs.HandleCalls.{HandlePromise}
use Rattle.bp_spec.specs.AncestorCalls.{parent, is_ancestor, both_gate, ancestor_answer, ancestor_defined, AncestorPromise}
use Rattle.bp_spec.proofs.HandleAnswers.{same_row, gates_err, gates_ok, node_gate, node_opens, node_ok}

module _ (ws : List ℕ) (n : ℕ) (s : List ℤ) (B : ℕ) where
  -- The bit at a handle is open, so `enclose` searches for -1.
  pub parent_ok : (v : ℕ) {r : Result Admitted Refusal} (g : gate_of r ≡ node_gate ws n s B v) {t : Admitted}
      → IfOk r (HasParts ws n s B) → r ≡ Ok t → {a : Answer} → a ≡ open_of (walked_on t) v → HandlePromise parent ws n s B v a
  unfolding parent outward
  parent_ok v g {t} p e f = node_ok ws n s B v g parent p e (f ∙ rw (parent, o))
    where
      o : outward t.words.now t.n v ≡ negsuc 0
      o = same_row ws n s B p e (λ us m y. outward us m v) ∙ rw (node_opens ws n s B v g p e)

  module _ (a d : ℕ) {r : Result Admitted Refusal} (g : gate_of r ≡ and_then (nodes_gate (length ws) n (length s) B) (both_gate ws n a d)) where
    pub two_err : {k : Refusal} → r ≡ Err k → AncestorPromise ws n s B a d (refused (number_of k))
    unfolding ancestor_answer ancestor_defined
    two_err e = gates_err ws n s B (both_gate ws n a d) (λ f. is_ancestor ws n f a d) g e

    pub two_ok : {t : Admitted} → IfOk r (HasParts ws n s B) → r ≡ Ok t → {x : Answer} → x ≡ on_row is_ancestor t a d → AncestorPromise ws n s B a d x
    unfolding ancestor_answer ancestor_defined
    two_ok p e f =
        gates_ok ws n s B (both_gate ws n a d) (λ y. is_ancestor ws n y a d) g e (f ∙ same_row ws n s B p e (λ us m y. is_ancestor us m y a d))
