-- From the result of the tests to the promise of a call that needs no search.
--   gate_ok, gate_err: the gate of a test that gives a value, if it passes and if it refuses
--   then_passed: two gates in a row pass only if both pass
--   handle_opens: a position that passes the test of a handle is an open bit of the row
--   handle_inside: such a position is below n
--   bare_facts: what the tests of a call without a search establish
--   bare_refused: the promise of such a call if a test refuses
-- Assumes nothing.
use mathlib.Core.Path.{◌≡◌, refl, sym, ◌∙◌}
use mathlib.Core.Bool.{Bool, true, false, cond}
use mathlib.Core.List.{List}
use Prim.Native.Nat.{ℕ, ◌*◌, ◌≤◌, ◌<◌}
use borrow.Author.Tests.{ltb-true}
use lib.Dec.{ltb, eqb}
use lib.ListN.{length}
use Rattle.row.specs.declared.refusal.Refusal.{Refusal}
use Rattle.row.specs.declared.refusal.Refusal.TheVariants.{NotAHandle}
use Rattle.row.specs.Gates.{Gate}
use Rattle.std.specs.Prelude.{Result, Ok, Err}
use Rattle.row.specs.Answer.{Answer, refused, number_of}
use Rattle.row.specs.Bits.{bit_at}
use Rattle.row.specs.Gates.{row_gate, handle_gate, and_then, gate_of}
use Rattle.row.specs.Tree.{opens}
use Rattle.row.proofs.Bools.{and_left}
use Rattle.row.proofs.Gates.{row_fits}
use Rattle.bp_spec.specs.RowCalls.{handle_answer}

-- ---- the gate of a test that also gives a value
module _ {A : Type 0} {r : Result A Refusal} {g : Gate} (e : gate_of r ≡ g) where
  pub gate_ok : {x : A} → r ≡ Ok x → g ≡ (Ok tt)
  gate_ok p = sym e ∙ rw p

  pub gate_err : {k : Refusal} → r ≡ Err k → g ≡ Err k
  gate_err p = sym e ∙ rw p

-- ---- gates that pass
pub then_passed : (g h : Gate) → and_then g h ≡ (Ok tt) → (g ≡ (Ok tt)) × (h ≡ (Ok tt))
then_passed (Ok tt) h e = (refl, e)
then_passed (Err k) h e = (cc, cc)

module _ (ws : List ℕ) (n v : ℕ) where
  pub handle_opens : handle_gate ws n v ≡ (Ok tt) → opens ws n v ≡ true
  unfolding handle_gate
  handle_opens = go (opens ws n v)
    where
      go : (t : Bool) → ◌≡◌ {A = Gate} (cond t (Ok tt) (Err NotAHandle)) (Ok tt) → t ≡ true
      go true e = refl
      go false e = cc

  pub handle_inside : handle_gate ws n v ≡ (Ok tt) → v < n
  unfolding opens
  handle_inside e = ltb-true v n (and_left (ltb v n) (eqb (bit_at ws v) 1) (handle_opens e))

-- ---- a call on a handle that needs no search
pub bare_facts : (w n : ℕ) (ws : List ℕ) (v : ℕ) → and_then (row_gate w n) (handle_gate ws n v) ≡ (Ok tt) → (n ≤ 64 * w) × (v < n)
bare_facts w n ws v g = let e = then_passed (row_gate w n) (handle_gate ws n v) g in ((row_fits w n e.0).1, handle_inside ws n v e.1)

module _ (ws : List ℕ) (n v : ℕ) where
  abbrev pub bare : Gate
  bare = and_then (row_gate (length ws) n) (handle_gate ws n v)

  module _ (call : List ℕ → ℕ → ℕ → Answer) where
    pub bare_refused : (k : Refusal) → bare ≡ Err k → refused (number_of k) ≡ handle_answer call ws n v
    unfolding handle_answer
    bare_refused k g = rw g

-- The laws for the proof of a call without a search.
pub ruleset bare_steps = (bare_facts, bare_refused)
