-- `level_leftmost` and `level_rightmost`: the promise of each, and laws for the branches of the code.
--   level_err, level_ok: the promise of a call on a level if a test refuses, and if all pass
--   rightmost_err, rightmost_ok: the same for `level_rightmost`, which starts differently by the walk and by definition
--   leftmost_none: `level_leftmost` is nothing on an empty row
--   leftmost_far, leftmost_walk: for a level above n it is nothing; for any level but 0 it is what the walk finds
--   root_err, root_fit, root_near, root_read: what the result of `examine` says about the root
-- The theorem that both starts of `level_rightmost` agree is rightmost_right of RightmostStart, in the crate bp_spec.
-- Assumes nothing.
use mathlib.Core.Path.{◌≡◌, refl, sym, ◌∙◌}
use mathlib.Core.Bool.{Bool, true, false, cond, ◌&&◌}
use mathlib.Core.List.{List}
use Prim.Native.Nat.{ℕ, ◌≤◌, ◌<◌}
use native.Mathlib.Omega.{arith}
use borrow.Author.Tests.{le-ltb, le-leb, ne_eqb}
use lib.Dec.{eqb}
use lib.IntN.{ℤ, pos}
use lib.ListN.{length}
use Rattle.std.specs.Prelude.{Result, Ok, Err, IfOk}
use mir.Syntax.{w64}
use mir.Val.{to_z, of_z}
use mir.ValLaws.{to_z-of_z}
use Rattle.ints.specs.Sides.{size}
use Rattle.ints.proofs.Shapes.{zsum}
use Rattle.bits_stretch.specs.declared.summary.Summary.{Summary}
use Rattle.row.specs.Limits.{max_bits}
use Rattle.row.specs.declared.refusal.Refusal.{Refusal}
use Rattle.row.specs.declared.refusal.Refusal.TheVariants.{NodesMisfit}
use Rattle.row.specs.Answer.{Answer, nothing, refused, number_of}
use Rattle.row.specs.Gates.{gate_of}
use Rattle.row.specs.Way.{forward}
use Rattle.mmt_layout.specs.declared.admitted.Admitted.{Admitted}
use Rattle.mmt_layout.specs.Parts.{HasParts}
use Rattle.mmt_layout.proofs.Gates.{gate_fine}
use Rattle.walk_spec.specs.Walk.{fits, walk}
use Rattle.walk_examine.specs.Asked.{examined_of}
use Rattle.walk_examine.proofs.Asks.{fits_size}
use Rattle.bp_spec.specs.SearchPair.{Searches, walked, defined, on_row}
use Rattle.bp_spec.proofs.SearchesAgree.{call_defined}
use Rattle.bp_spec.proofs.HandleAnswers.{gate, row_parts, same_row, plain_err, plain_ok}
use Rattle.bp_level.proofs.NodeLevels.{level_read, walk_beyond}
use Rattle.bp_spec.specs.LevelEnds.{level_leftmost, level_rightmost, root_start, last_start, level_answer, rightmost_answer, rightmost_defined, LevelPromise, RightmostPromise}
use Rattle.bp_spec.proofs.RightmostStart.{rightmost_right}

-- ---- the tests

-- `level_rightmost` starts by the total of the root; by definition it starts at 2*ones - 1.
abbrev by_walk : List ℕ → ℕ → List ℤ → ℕ → ℕ → Answer
by_walk ws n s B k = level_rightmost ws n (walked ws n s B) (root_start n s) k

module _ (ws : List ℕ) (n : ℕ) (s : List ℤ) (B k : ℕ) {r : Result Admitted Refusal} (g : gate_of r ≡ gate ws n s B) where
  module _ (call : List ℕ → ℕ → Searches → ℕ → Answer) where
    pub level_err : {e : Refusal} → r ≡ Err e → LevelPromise call ws n s B k (refused (number_of e))
    unfolding level_answer
    level_err h = plain_err ws n s B (call ws n (walked ws n s B) k) (call ws n (defined ws n) k) g h

    pub level_ok : {t : Admitted} → IfOk r (HasParts ws n s B) → r ≡ Ok t → {a : Answer} → a ≡ on_row call t k → LevelPromise call ws n s B k a
    unfolding level_answer
    level_ok p h f =
        plain_ok ws n s B (call ws n (walked ws n s B) k) (call ws n (defined ws n) k) g h (f ∙ same_row ws n s B p h (λ us m y. call us m y k))
        (λ o b. call_defined ws n s B o b (λ y. call ws n y k))

  pub rightmost_err : {e : Refusal} → r ≡ Err e → RightmostPromise ws n s B k (refused (number_of e))
  unfolding rightmost_answer
  rightmost_err h = plain_err ws n s B (by_walk ws n s B k) (rightmost_defined ws n k) g h

  pub rightmost_ok : {t : Admitted} → IfOk r (HasParts ws n s B) → r ≡ Ok t → {a : Answer}
      → a ≡ on_row level_rightmost t (root_start t.n t.nodes.now) k → RightmostPromise ws n s B k a
  unfolding rightmost_answer rightmost_defined
  rightmost_ok {t} p h f =
      let q = row_parts ws n s B p h in
      let same : on_row level_rightmost t (root_start t.n t.nodes.now) k ≡ by_walk ws n s B k = rw (q.words, q.bits, q.nodes, q.block) in
      plain_ok ws n s B (by_walk ws n s B k) (level_rightmost ws n (defined ws n) (last_start ws n) k) g h (f ∙ same)
      (λ o b. let z = gate_fine (length ws) n (length s) B o in let w = z.eight in
      call_defined ws n s B o b (λ y. level_rightmost ws n y (root_start n s) k) ∙ rightmost_right ws n s B (omega arith) z.short b k)

module _ (ws : List ℕ) (n : ℕ) (s : List ℤ) (B : ℕ) where
  -- ---- `level_leftmost`
  module _ (k : ℕ) where
    pub leftmost_none : n ≡ 0 → nothing ≡ level_leftmost ws n (walked ws n s B) k
    unfolding level_leftmost walk
    leftmost_none e = rw (le-ltb 0 n (omega arith), none (eqb k 0), le-leb n 1 (omega arith))
      where
        none : (b : Bool) → (b && false) ≡ false
        none true = refl
        none false = refl

    pub leftmost_walk : (k ≡ 0 → ⊥) → (walk forward ws n s B 0 (pos k)).answer ≡ level_leftmost ws n (walked ws n s B) k
    unfolding level_leftmost
    leftmost_walk z = rw (ne_eqb k 0 z)

    pub leftmost_far : n < k → nothing ≡ level_leftmost ws n (walked ws n s B) k
    leftmost_far h = walk_beyond ws n s B forward 0 (pos k) (omega arith) ∙ leftmost_walk (λ z. omega arith)

-- The laws for the proof of the code of `level_leftmost`.
pub ruleset leftmost_steps = (level_read, leftmost_none, leftmost_far)

-- ---- the root, after it is examined
module _ (x : Summary) {r : Result Summary Refusal} (p : r ≡ examined_of x) where
  pub root_err : {k : Refusal} → r ≡ Err k → (fits x ≡ false) × (k ≡ NodesMisfit)
  unfolding examined_of
  root_err {k} q = go (fits x) (sym q ∙ p)
    where
      go : (b : Bool) → Err k ≡ cond b (Ok x) (Err NodesMisfit) → (b ≡ false) × (k ≡ NodesMisfit)
      go true e = (cc, cc)
      go false e = (refl, cc)

  module _ {y : Summary} (q : r ≡ Ok y) where
    pub root_fit : (fits x ≡ true) × (x ≡ y)
    unfolding examined_of
    root_fit = go (fits x) (sym q ∙ p)
      where
        go : (b : Bool) → Ok y ≡ cond b (Ok x) (Err NodesMisfit) → (b ≡ true) × (x ≡ y)
        go true e = (refl, cc)
        go false e = (cc, cc)

    pub root_near : size x.total ≤ max_bits
    root_near = fits_size x root_fit.0

    -- The total that the machine reads is the total of the root.
    pub root_read : to_z w64 (of_z w64 y.total) ≡ x.total
    root_read = rw (sym root_fit.1) (to_z-of_z w64 x.total (omega (zsum, root_near)))
