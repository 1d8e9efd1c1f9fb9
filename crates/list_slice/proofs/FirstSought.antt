-- What the constructor of a listing finds, case by case.
--   tests_row: refusals 1 to 5 include the tests of a call without nodes
--   sought_refused, sought_err: if a test refuses, the constructor finds that refusal
--   sought_first: if the tests pass, `children` finds the answer of `first_child`
--   unrefused: an answer that is no refusal
--   sought_passed: if the constructor finds no refusal, the tests passed
-- Assumes nothing.
use mathlib.Core.Path.{◌≡◌, refl, sym, ◌∙◌}
use mathlib.Core.Bool.{Bool, true}
use mathlib.Core.List.{List}
use Prim.Native.Nat.{ℕ}
use lib.IntN.{ℤ}
use lib.ListN.{length}
use Rattle.row.specs.declared.refusal.Refusal.{Refusal}
use Rattle.row.specs.Gates.{Gate}
use Rattle.std.specs.Prelude.{Ok, Err, Option, Some, None}
use Rattle.row.specs.Answer.{Answer, at, nothing, refused, number_of, paper_found}
use Rattle.row.specs.Gates.{row_gate, handle_gate, and_then}
use Rattle.mmt_layout.specs.Layout.{block_gate, room_gate, nodes_gate}
use Rattle.bp_spec.specs.RowCalls.{first_child, handle_answer}
use Rattle.bp_spec.proofs.Gates.{then_passed}
use Rattle.bp_spec.specs.HandleCalls.{node_answer}
use Rattle.list_slice.specs.Seek.{sought}

-- The answer is not a refusal.
abbrev pub Unrefused : Answer → Type 0
Unrefused (at v) = Unit {0}
Unrefused nothing = Unit {0}
Unrefused (refused k) = ⊥

pub unrefused : (o : Option ℕ) → Unrefused (paper_found (Ok o))
unrefused (Some v) = tt
unrefused None = tt

-- Refusals 1 to 5.
abbrev pub tests : List ℕ → ℕ → List ℤ → ℕ → ℕ → Gate
tests ws n s B v = and_then (nodes_gate (length ws) n (length s) B) (handle_gate ws n v)

module _ (ws : List ℕ) (n : ℕ) (s : List ℤ) (B v : ℕ) where
  -- If refusals 1 to 5 pass, so do the tests of a call without nodes.
  pub tests_row : tests ws n s B v ≡ (Ok tt) → and_then (row_gate (length ws) n) (handle_gate ws n v) ≡ (Ok tt)
  unfolding nodes_gate
  tests_row e =
      let o = then_passed (nodes_gate (length ws) n (length s) B) (handle_gate ws n v) e in
      let p = then_passed (block_gate B) (and_then (row_gate (length ws) n) (room_gate n (length s) B)) o.0 in
      rw (then_passed (row_gate (length ws) n) (room_gate n (length s) B) p.1).0 o.1

  sought_refused : (rising : Bool) (k : Refusal) → tests ws n s B v ≡ Err k → refused (number_of k) ≡ sought rising ws n s B v
  unfolding sought node_answer
  sought_refused rising k e = rw e

  pub sought_err : (rising : Bool) {g : Gate} → g ≡ tests ws n s B v → {k : Refusal} → g ≡ Err k → refused (number_of k) ≡ sought rising ws n s B v
  sought_err rising e {k} f = sought_refused rising k (sym e ∙ f)

  pub sought_first : {g : Gate} → g ≡ tests ws n s B v → g ≡ (Ok tt) → {a : Answer} → a ≡ handle_answer first_child ws n v → a ≡ sought true ws n s B v
  unfolding sought node_answer handle_answer
  sought_first e f q = let o = sym e ∙ f in rw o (rw (tests_row o) at q)

  pub sought_passed : (rising : Bool) → Unrefused (sought rising ws n s B v) → tests ws n s B v ≡ (Ok tt)
  sought_passed rising u = go (tests ws n s B v) refl
    where
      go : (g : Gate) → tests ws n s B v ≡ g → g ≡ (Ok tt)
      go (Ok tt) e = refl
      go (Err k) e = absurd (rw (sym (sought_refused rising k e)) at u)
