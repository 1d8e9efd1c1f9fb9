-- From the result of the tests and the answer found after them to the promise of a call, for any call.
--   same_row: what is computed over an admitted row is computed over its parts
--   passed_fine: the bounds that refusals 1 to 4 establish
--   passed_handle: the remaining tests pass too
--   plain_err, plain_ok: the promise of a call by searches without further tests, refused and answered
--   gates_err, gates_ok: the promise of a call by searches with any further tests h, refused and answered
--   node_gate: the tests of a call on one handle
--   node_inside, node_opens: after these tests the handle is a position of the admitted row, and its bit is open
--   node_err, node_ok: the promise of a call on one handle, refused and answered
-- Assumes nothing.
use mathlib.Core.Path.{◌≡◌, ◌∙◌}
use mathlib.Core.Bool.{true}
use mathlib.Core.List.{List}
use Prim.Native.Nat.{ℕ, ◌<◌}
use lib.IntN.{ℤ}
use lib.ListN.{length}
use Rattle.std.specs.Prelude.{Result, Ok, Err, IfOk}
use Rattle.std.proofs.lemmas.Result.{IfOk-at_ok}
use Rattle.row.specs.declared.refusal.Refusal.{Refusal}
use Rattle.row.specs.Answer.{Answer, refused, number_of}
use Rattle.row.specs.Gates.{Gate, handle_gate, and_then, through, gate_of}
use Rattle.row.specs.Tree.{opens}
use Rattle.mmt_layout.specs.declared.admitted.Admitted.{Admitted}
use Rattle.mmt_layout.specs.Layout.{nodes_gate, Fine}
use Rattle.mmt_layout.specs.Parts.{HasParts}
use Rattle.mmt_layout.proofs.Gates.{gate_fine}
use Rattle.mmt_node.specs.Nodes.{AsBuilt}
use Rattle.bp_spec.proofs.Gates.{gate_ok, gate_err, then_passed, handle_inside, handle_opens}
use Rattle.bp_spec.specs.SearchCalls.{Promise}
use Rattle.bp_spec.specs.SearchPair.{Searches, walked, defined, on_row}
use Rattle.bp_spec.specs.HandleCalls.{node_answer, node_defined, HandlePromise}
use Rattle.bp_spec.proofs.SearchesAgree.{call_defined}

-- ---- a call by searches: refusals 1 to 4, then the tests of h
module _ (w n t B : ℕ) (h : Gate) (g : and_then (nodes_gate w n t B) h ≡ (Ok tt)) where
  pub passed_fine : Fine w n t B
  passed_fine = gate_fine w n t B (then_passed (nodes_gate w n t B) h g).0

  pub passed_handle : h ≡ (Ok tt)
  passed_handle = (then_passed (nodes_gate w n t B) h g).1

module _ (ws : List ℕ) (n : ℕ) (s : List ℤ) (B : ℕ) where
  abbrev pub gate : Gate
  gate = nodes_gate (length ws) n (length s) B

  module _ {r : Result Admitted Refusal} {t : Admitted} (p : IfOk r (HasParts ws n s B)) (e : r ≡ Ok t) where
    pub row_parts : HasParts ws n s B t
    row_parts = IfOk-at_ok (HasParts ws n s B) e p

    pub same_row : {A : Type 0} → (call : List ℕ → ℕ → Searches → A) → on_row call t ≡ call ws n (walked ws n s B)
    same_row call = let q = row_parts in rw (q.words, q.bits, q.nodes, q.block)

  -- ---- a call with refusals 1 to 4 and no further test, with the answer x by the walk and d by definition
  module _ (x d : Answer) {r : Result Admitted Refusal} (g : gate_of r ≡ gate) where
    pub plain_err : {k : Refusal} → r ≡ Err k → Promise ws n s B (through gate x) d (refused (number_of k))
    plain_err e = let q = gate_err g e in record { answer = rw q; as_built = λ o b. cc }

    pub plain_ok : {t : Admitted} → r ≡ Ok t → {a : Answer} → a ≡ x → (gate ≡ (Ok tt) → AsBuilt ws n s B → x ≡ d) → Promise ws n s B (through gate x) d a
    plain_ok e f h = let q = gate_ok g e in record { answer = rw q f; as_built = λ o b. f ∙ h o b }

  -- ---- a call with the further tests h
  module _ (h : Gate) (call : Searches → Answer) where
    abbrev pub GatedPromise : Answer → Type 0
    GatedPromise a = Promise ws n s B (through (and_then gate h) (call (walked ws n s B))) (through h (call (defined ws n))) a

    module _ {r : Result Admitted Refusal} (g : gate_of r ≡ and_then gate h) where
      pub gates_err : {k : Refusal} → r ≡ Err k → GatedPromise (refused (number_of k))
      gates_err {k} e =
          let q = gate_err g e in
          record { answer = rw q; as_built = λ o b. let f : h ≡ Err k = rw o at q in rw f }

      pub gates_ok : {t : Admitted} → r ≡ Ok t → {a : Answer} → a ≡ call (walked ws n s B) → GatedPromise a
      gates_ok e w =
          let q = gate_ok g e in
          record { answer = rw q w; as_built = λ o b. rw (then_passed gate h q).1 (w ∙ call_defined ws n s B o b call) }

  -- ---- on one handle
  module _ (v : ℕ) where
    -- Refusals 1 to 5.
    abbrev pub node_gate : Gate
    node_gate = and_then gate (handle_gate ws n v)

    module _ {r : Result Admitted Refusal} (g : gate_of r ≡ node_gate) where
      module _ {t : Admitted} (p : IfOk r (HasParts ws n s B)) (e : r ≡ Ok t) where
        passed : handle_gate ws n v ≡ (Ok tt)
        passed = (then_passed gate (handle_gate ws n v) (gate_ok g e)).1

        pub node_inside : v < t.n
        node_inside = let q = row_parts p e in rw q.bits (handle_inside ws n v passed)

        pub node_opens : opens ws n v ≡ true
        node_opens = handle_opens ws n v passed

      module _ (call : List ℕ → ℕ → Searches → ℕ → Answer) where
        pub node_err : {k : Refusal} → r ≡ Err k → HandlePromise call ws n s B v (refused (number_of k))
        unfolding node_answer node_defined
        node_err e = gates_err (handle_gate ws n v) (λ f. call ws n f v) g e

        pub node_ok : {t : Admitted} → IfOk r (HasParts ws n s B) → r ≡ Ok t → {a : Answer} → a ≡ on_row call t v → HandlePromise call ws n s B v a
        unfolding node_answer node_defined
        node_ok p e f = gates_ok (handle_gate ws n v) (λ y. call ws n y v) g e (f ∙ same_row p e (λ us m y. call us m y v))
