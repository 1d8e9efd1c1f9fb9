-- Laws of the climb as the code makes it: without the count of examined nodes, and by the answer of the sibling that is asked.
--   climb_count: the count does not change the result
--   climbed_root: at the root, the climb leaves the tree
--   climbed_up: at a node without a sibling beyond it, the climb goes on at the parent
--   climbed_asked: at any other node, the answer of the sibling decides the result
--   is_last, not_last: a node has no sibling beyond it exactly if it is the farther child of its parent
--   rises_on: `Rises` holds after each node without a sibling beyond it
--   rises_out, beside: where the way up ends, at the root or at a node with a sibling beyond it
--   part_on: after a passed sibling, the climb goes on to the same result, from a smaller index and with room there
--   Turned, turned: the node that a climb turns to exists and has its height, and the remainder has room for a descent
-- Assumes nothing.
use mathlib.Core.Path.{◌≡◌, refl, sym, ap, ◌∙◌}
use mathlib.Core.Bool.{true, false}
use mathlib.Core.List.{List}
use Prim.Native.Nat.{ℕ, zero, suc, ◌+◌, ◌-◌, ◌*◌, ◌/◌, ◌%◌, ◌<◌}
use native.Mathlib.Omega.{arith}
use borrow.Author.Tests.{eq-eqb, ne_eqb, eqb-false, leb-false}
use lib.Dec.{leb, eqb}
use lib.IntN.{ℤ}
use Rattle.std.specs.Prelude.{Option, Some, None, Result, Ok, Err}
use mir.Syntax.{w64}
use mir.Val.{SFits, to_z, of_z}
use Rattle.std.proofs.lemmas.Bool.{cond_both}
use Rattle.std.specs.declared.ops.ControlFlow.TheVariants.{Continue}
use Rattle.row.specs.Way.{Way, forward, backward}
use Rattle.row.specs.declared.refusal.Refusal.{Refusal}
use Rattle.bits_stretch.specs.Scan.{order, passed}
use Rattle.mmt_node.specs.Nodes.{node_at}
use Rattle.mmt_layout.proofs.Places.{Place as At, place_up}
use Rattle.bits_stretch.specs.Summary.{holds_on}
use Rattle.walk_spec.specs.Walk.{fits, Climb, last_sibling, sibling_beyond, farther, climb}
use Rattle.walk_spec.proofs.Ways.{kin, met, side_place, alike}
use Rattle.walk_spec.proofs.Steps.{climb_root, climb_up, climb_beside}
use Rattle.walk_examine.specs.declared.node.Asked.{Asked}
use Rattle.walk_examine.specs.declared.node.Asked.TheVariants.{Past}
use Rattle.walk_examine.specs.Asked.{asked_of, Room}
use Rattle.walk_examine.proofs.Asks.{passed_size, back, answer, says, past_size}
use Rattle.walk_examine.specs.declared.place.Place.{Place}
use Rattle.walk_climb.specs.declared.Sibling.{Sibling}
use Rattle.walk_climb.specs.Climbed.{climbed_of, step_of, climbed_on, Rises, Beside, Part}

module _ (w : Way) (m : ℕ) (s : List ℤ) where
  -- ---- the count
  climb_count : (f h k : ℕ) (r : ℤ) (c d : ℕ) → climbed_of (climb w m s f h k r c) ≡ climbed_of (climb w m s f h k r d)
  unfolding climb
  climb_count zero h k r c d = refl
  climb_count (suc f) h k r c d =
      let x = node_at s (sibling_beyond w k) in
      let j = (k - 1) / 2 in
      alike climbed_of climbed_of (eqb k 0) refl
      (alike climbed_of climbed_of (last_sibling w k) (climb_count f (suc h) j r c d)
      (alike climbed_of climbed_of (leb m (sibling_beyond w k)) refl
      (alike climbed_of climbed_of (fits x)
      (alike climbed_of climbed_of (holds_on w x r) refl (climb_count f (suc h) j (passed w r x.total) (suc c) (suc d))) refl)))

  -- ---- one step up
  module _ (h k : ℕ) (r : ℤ) where
    climbed_root : k ≡ 0 → Ok None ≡ climbed_of (climb w m s k h k r 0)
    climbed_root z = ap climbed_of (climb_root w m s k h k r 0 z)

    module _ (z : k ≡ 0 → ⊥) where
      climbed_up : last_sibling w k ≡ true → climbed_of (climb w m s ((k - 1) / 2) (h + 1) ((k - 1) / 2) r 0) ≡ climbed_of (climb w m s k h k r 0)
      climbed_up e = ap climbed_of (climb_up w m s h k r 0 z e)

      -- the sibling beyond node k
      abbrev sibling : Sibling
      sibling = record { node = sibling_beyond w k; parent = (k - 1) / 2; height = h }

      climbed_asked : last_sibling w k ≡ false → climbed_on w m s (step_of sibling r (asked_of w m s sibling.node r)) ≡ climbed_of (climb w m s k h k r 0)
      unfolding asked_of
      climbed_asked e =
          let x = node_at s (sibling_beyond w k) in
          let j = (k - 1) / 2 in
          let f : Result Asked Refusal → Result (Option Place) Refusal = (λ a. climbed_on w m s (step_of sibling r a)) in
          rw (← climb_beside w m s h k r 0 z e)
          (alike f climbed_of (leb m (sibling_beyond w k)) refl
          (alike f climbed_of (fits x)
          (alike f climbed_of (holds_on w x r) refl (climb_count j (h + 1) j (passed w r x.total) 0 1)) refl))

-- ---- up past nodes without a sibling beyond them
-- of two siblings, the farther one has none beyond it
is_last : (w : Way) (k : ℕ) → (k ≡ 0 → ⊥) → k ≡ farther w ((k - 1) / 2) → last_sibling w k ≡ true
is_last forward k z e = eq-eqb (k % 2) 0 (omega arith)
is_last backward k z e = eq-eqb (k % 2) 1 (omega arith)

not_last : (w : Way) (k : ℕ) → (k ≡ 0 → ⊥) → (k ≡ farther w ((k - 1) / 2) → ⊥) → last_sibling w k ≡ false
not_last forward k z e = ne_eqb (k % 2) 0 (λ d. e (omega arith))
not_last backward k z e = ne_eqb (k % 2) 1 (λ d. e (omega arith))

module _ (w : Way) (k h : ℕ) where
  module _ (j g : ℕ) (p : Rises w k h j g) where
    pub rises_out : j ≡ 0 → (m : ℕ) (s : List ℤ) (r : ℤ) → Ok None ≡ climbed_of (climb w m s k h k r 0)
    rises_out z m s r = climbed_root w m s g j r z ∙ p.same m s r

    module _ (z : j ≡ 0 → ⊥) {n : ℕ × ℕ} (d : n ≡ order w (2 * ((j - 1) / 2) + 1) (2 * ((j - 1) / 2) + 2)) where
      far_is : n.1 ≡ farther w ((j - 1) / 2)
      far_is = rw (d, met w ((j - 1) / 2))

      pub rises_on : j ≡ n.1 → Rises w k h ((j - 1) / 2) (g + 1)
      rises_on e = record {
        under = omega (arith, p.under);
        room = omega (arith, p.room);
        same = λ m s r. climbed_up w m s g j r z (is_last w j z (e ∙ far_is)) ∙ p.same m s r;
      }

      pub beside : (j ≡ n.1 → ⊥) → Beside w k h (record { node = n.1; parent = (j - 1) / 2; height = g })
      beside e =
          let l = not_last w j z (λ y. e (y ∙ sym far_is)) in
          record {
            under = omega (arith, p.under);
            room = omega (arith, p.room);
            same = λ m s r. rw (far_is ∙ sym (kin w j z l).1) (climbed_asked w m s g j r z l ∙ p.same m s r);
          }

-- ---- the sibling b has been passed, with the remainder q after it
module _ (w : Way) (m : ℕ) (s : List ℤ) (k h : ℕ) (r : ℤ) (b : Sibling) (y : Beside w k h b) (o : Room (h + 2 * k) r)
    (v : SFits w64 r) {a : Result Asked Refusal} (p : a ≡ asked_of w m s b.node (to_z w64 (of_z w64 r))) (q : ℤ) (g : a ≡ Ok (Past q)) where
  -- the machine reads r back from 64 bits
  e : asked_of w m s b.node r ≡ Ok (Past q)
  e = answer w m s b.node r v p g

  past_room : Room (b.height + 1 + 2 * b.parent) q
  past_room = omega (arith, y.room, past_size w m s b.node r q (says w m s b.node r e))

  -- the machine reads q back from 64 bits
  pub part_on : Part w m s k h r (Ok (Continue (record { node = b.parent; height = b.height + 1; remainder = to_z w64 (of_z w64 q) })))
  part_on = rw (back (b.height + 1 + 2 * b.parent) q past_room) (record { result = rw e at (y.same m s r); higher = (y.under, past_room) })

-- ---- the node that a climb turns to; t is the height of the root

-- the node exists and has height g, and the remainder has room for a descent
abbrev pub Turned : ℕ → ℕ → Result (Option Place) Refusal → Type 0
Turned m t (Ok (Some p)) = (p.node < m) × At t p.height p.node × Room p.height p.remainder
Turned m t (Ok None) = Unit {0}
Turned m t (Err e) = Unit {0}

module _ (w : Way) (m : ℕ) (s : List ℤ) (t : ℕ) where
  pub turned : (f h k : ℕ) (r : ℤ) (c : ℕ) → k < m → At t h k → Room (h + 2 * k) r → Turned m t (climbed_of (climb w m s f h k r c))
  unfolding climb
  turned zero h k r c l p o = tt
  turned (suc f) h k r c l p o =
      let P : Climb → Type 0 = (λ d. Turned m t (climbed_of d)) in
      let b = sibling_beyond w k in
      let x = node_at s b in
      let j = (k - 1) / 2 in
      cond_both (eqb k 0) _ _ P (λ z. tt)
      (λ z. let n = eqb-false k 0 z in let u = place_up t h k (omega arith) p in
      cond_both (last_sibling w k) _ _ P (λ e. turned f (suc h) j r c (omega arith) u (omega arith))
      (λ e. cond_both (leb m b) _ _ P (λ a. tt)
      (λ a. cond_both (fits x) _ _ P
      (λ g. cond_both (holds_on w x r) _ _ P (λ y. (leb-false m b a, side_place t w h k n e p, omega arith))
      (λ y. turned f (suc h) j (passed w r x.total) (suc c) (omega arith) u (omega (arith, passed_size w r x g))))
      (λ g. tt))))
