-- The order of the tests before an answer. GateRange of bp_spec has the numbers by which each gate refuses.
--   block_fine, block_bad: test 1; not_handle: test 5
--   Refuses, refuses_one, refuses_both: a gate that refuses by 5 if a number is no handle, for one handle and for two
--   nodes_order, row_order: a call with nodes, and one without, makes its tests in the order of SCOPE, Refusals
--   then_passed: a gate with no other gate after it
-- Assumes nothing.
use mathlib.Core.Path.{◌≡◌, refl, sym}
use mathlib.Core.Bool.{Bool, true, false, cond, ◌&&◌}
use mathlib.Core.List.Memᴰ
use mathlib.Core.List.{List, [], ◌∷◌}
use mathlib.Core.Logic.{inl, inr}
use Prim.Native.Nat.{ℕ, ◌%◌}
use native.Mathlib.Omega.{arith}
use borrow.Author.Tests.{ltb-true, leb-true, eqb-true}
use lib.Dec.{ltb, leb, eqb}
use lib.IntN.{ℤ}
use lib.ListN.{length}
use Rattle.ints.proofs.Linear.{never_true}
use Rattle.row.specs.declared.refusal.Refusal.TheVariants.{BlockSize as BadBlock, TooManyBits, TooFewWords, NotAHandle}
use Rattle.row.specs.Gates.{Gate}
use Rattle.std.specs.Prelude.{Ok, Err}
use Rattle.row.specs.Answer.{Answer}
use Rattle.row.specs.Gates.{row_gate, handle_gate, through, and_then}
use Rattle.row.specs.Tree.{opens, Handle}
use Rattle.row.proofs.Gates.{row_many, row_few, row_passed}
use Rattle.mmt_layout.specs.Layout.{block_gate, nodes_gate, max_block}
use Rattle.mmt_layout.proofs.Gates.{block_passed, room_few, gate_block, gate_row, gate_room, fine_gate}
use Rattle.bp_spec.specs.AncestorCalls.{both_gate}
use Rattle.demands.specs.First.{BlockSize, InOrder}
use Rattle.bp_spec.specs.Ranges.{over_nodes, over_row, Among}
use Rattle.row.proofs.Bools.{not_yes}

-- ---- the order of the tests
block_fine : (B : ℕ) → BlockSize B → block_gate B ≡ (Ok tt)
block_fine B f = sym (block_passed B (λ z. let e = f.eight in omega arith) f.small f.eights)

block_bad : (B : ℕ) → (BlockSize B → ⊥) → block_gate B ≡ Err BadBlock
unfolding block_gate
block_bad B f = go (ltb 0 B) refl (leb B max_block) refl (eqb (B % 8) 0) refl
  where
    go : (a : Bool) → ltb 0 B ≡ a → (b : Bool) → leb B max_block ≡ b → (c : Bool) → eqb (B % 8) 0 ≡ c
        → ◌≡◌ {A = Gate} (cond (a && b && c) (Ok tt) (Err BadBlock)) (Err BadBlock)
    go true p true q true r =
        let z = ltb-true 0 B p in
        let m = eqb-true (B % 8) 0 r in
        absurd (f (record { eight = omega arith; eights = m; small = leb-true B max_block q }))
    go true p true q false r = refl
    go true p false q c r = refl
    go false p b q c r = refl

pub not_handle : (ws : List ℕ) (n v : ℕ) → (Handle ws n v → ⊥) → handle_gate ws n v ≡ Err NotAHandle
unfolding handle_gate
not_handle ws n v f = rw (not_yes (opens ws n v) f)

-- The gate h refuses by 5 if a number of the list is no handle.
abbrev pub Refuses : List ℕ → ℕ → List ℕ → Gate → Type 0
Refuses ws n l h = (v : ℕ) → Among v l → (Handle ws n v → ⊥) → h ≡ Err NotAHandle

module _ (ws : List ℕ) (n : ℕ) (s : List ℤ) (B b : ℕ) (l : List ℕ) (h : Gate) (a : Answer) (f : Refuses ws n l h) where
  pub nodes_order : InOrder ws n s B (over_nodes l b) (through (and_then (nodes_gate (length ws) n (length s) B) h) a)
  nodes_order = record {
    one = λ y z. rw (← gate_block (length ws) n (length s) B BadBlock (block_bad B z));
    two = λ y m. rw (← gate_row (length ws) n (length s) B TooManyBits (block_fine B (y refl)) (sym (row_many (length ws) n m)));
    three = λ y m k. rw (← gate_row (length ws) n (length s) B TooFewWords (block_fine B (y refl)) (sym (row_few (length ws) n m (omega arith))));
    four = λ y z m k r.
        rw (← gate_room (length ws) n (length s) B (block_fine B z) (sym (row_passed (length ws) n m (omega arith))), ← room_few n (length s) B r);
    five = λ y m k v i z. rw (fine_gate (length ws) n (length s) B (y refl), f v i z);
  }

  pub row_order : InOrder ws n s B (over_row l b) (through (and_then (row_gate (length ws) n) h) a)
  row_order = record {
    one = λ y z. absurd (never_true y);
    two = λ y m. rw (← row_many (length ws) n m);
    three = λ y m k. rw (← row_few (length ws) n m (omega arith));
    four = λ y z m k r. absurd (never_true y);
    five = λ y m k v i z. rw (← row_passed (length ws) n m (omega arith), f v i z);
  }

-- The gate of one handle, and the gate of two handles.
pub refuses_one : (ws : List ℕ) (n v : ℕ) → Refuses ws n (v ∷ []) (handle_gate ws n v)
refuses_one ws n v w i f = rw (Memᴰ.eq_of_singleton i) at (not_handle ws n w f)

pub refuses_both : (ws : List ℕ) (n a d : ℕ) → Refuses ws n (a ∷ d ∷ []) (both_gate ws n a d)
unfolding handle_gate
refuses_both ws n a d w i f = elim (Memᴰ.cases_cons i) [
  | inl e ↦ (let q = rw e at (not_handle ws n w f) in rw q)
  | inr m ↦ second (opens ws n a) (handle_gate ws n d) (rw (Memᴰ.eq_of_singleton m) at (not_handle ws n w f))
]
  where
    second : (t : Bool) (h : Gate) → h ≡ Err NotAHandle → and_then (cond t (Ok tt) (Err NotAHandle)) h ≡ Err NotAHandle
    second true h q = q
    second false h q = refl

-- A gate with no other gate after it.
pub then_passed : (g : Gate) (a : Answer) → through (and_then g (Ok tt)) a ≡ through g a
then_passed (Ok tt) a = refl
then_passed (Err k) a = refl
