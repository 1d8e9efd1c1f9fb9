-- What a summary says about the bits that it belongs to, for a walk with the remainder r.
--   Told: either the scan of the bits hits a position and the summary qualifies, or the scan passes all bits and it does not qualify
--   told_hit: if the scan hits a position, the summary qualifies
--   summary_fit: the summary of up to 2^32 bits is in range
--   numbers_told: the summary of any stretch, also of an empty one, satisfies `Told` if r is not 0
-- Assumes nothing.
use mathlib.Core.Path.{◌≡◌, refl}
use mathlib.Core.Logic.{⊎_elim}
use mathlib.Core.Bool.{Bool, true, false}
use Prim.Native.Nat.{ℕ, zero, suc, ◌≤◌}
use native.Mathlib.Omega.{arith}
use lib.IntN.{ℤ, pos, ◌+ℤ◌, neg_ℤ}
use lib.Signed.{le_z, ◌≤ℤ◌}
use Rattle.row.specs.Limits.{max_bits}
use Rattle.ints.specs.Sides.{size}
use Rattle.ints.proofs.Shapes.{zsum}
use Rattle.ints.proofs.Order.{le_test}
use Rattle.row.specs.Way.{Way, forward, backward}
use Rattle.row.proofs.Bools.{and_both}
use Rattle.bits_stretch.specs.declared.summary.Summary.{Summary}
use Rattle.bits_stretch.specs.Scan.{Scanned}
use Rattle.std.specs.declared.ops.ControlFlow.TheVariants.{Break, Continue}
use Rattle.bits_stretch.specs.Summary.{none, summary_of, holds_for}
use Rattle.bits_stretch.specs.Scan.{passed, scan}
use Rattle.bits_stretch.proofs.Full.{summary_size}
use Rattle.bits_stretch.proofs.Meets.{scan_none, scan_leaves}
use Rattle.bits_stretch.proofs.Covers.{summary_total, holds_low, holds_top, back_cases, skip_on, hold_forward, hold_backward}
use Rattle.bits_stretch.specs.Summary.{holds_on}
use Rattle.walk_spec.specs.Walk.{in_range, fits}

near_yes : (z : ℤ) → size z ≤ max_bits → in_range z ≡ true
unfolding in_range
near_yes z h =
    let l : neg_ℤ (pos max_bits) ≤ℤ z = omega zsum in
    let g : z ≤ℤ pos max_bits = omega zsum in
    and_both (le_z (neg_ℤ (pos max_bits)) z) (le_z z (pos max_bits)) (le_test l) (le_test g)

-- the summary of no bits qualifies only for the remainder 0
none_for : (r : ℤ) → holds_for none r ≡ true → r ≡ pos 0
unfolding none
none_for r h = omega (zsum, holds_low none r h, holds_top none r h)

none_holds : (w : Way) (r : ℤ) → holds_on w none r ≡ true → r ≡ pos 0
unfolding none
none_holds forward r h = none_for r h
none_holds backward r h =
    let s : r +ℤ pos 0 ≡ pos 0 = ⊎_elim (λ z. z) (none_for (r +ℤ pos 0)) (back_cases none (r +ℤ pos 0) h) in
    omega (zsum, s)

-- x is the summary of some bits, and y is the result of their scan with the remainder r
pub data Told (w : Way) (r : ℤ) (x : Summary) (y : Scanned) : Type 0 where
  here : (j : ℕ) → y ≡ Break j → holds_on w x r ≡ true → Told w r x y
  past : y ≡ Continue (passed w r x.total) → holds_on w x r ≡ false → (passed w r x.total ≡ pos 0 → ⊥) → Told w r x y

pub told_hit : {w : Way} {r : ℤ} {x : Summary} {y : Scanned} (j : ℕ) → Told w r x y → y ≡ Break j → holds_on w x r ≡ true
told_hit j (here i b t) e = t
told_hit j (past b t z) e = cc

module _ (f : ℕ → ℕ) (a : ℕ) where
  pub summary_fit : (c : ℕ) → c ≤ max_bits → fits (summary_of f a c) ≡ true
  unfolding fits
  summary_fit c h =
      let x = summary_of f a c in
      let s = summary_size f a c in
      rw (near_yes x.total (omega arith), near_yes x.least (omega arith), near_yes x.greatest (omega arith))

  pass : (w : Way) (c : ℕ) (r : ℤ) → holds_on w (summary_of f a c) r ≡ false → scan w f c a r ≡ Continue (passed w r (summary_of f a c).total)
  pass w zero r h = rw summary_total (scan_none f w 0 a r (λ k p q m. omega arith))
  pass w (suc c) r h = skip_on f (suc c) a (omega arith) w r h

  hold : (w : Way) (c : ℕ) (r : ℤ) → (r ≡ pos 0 → ⊥) → holds_on w (summary_of f a c) r ≡ true → (j : ℕ) × (scan w f c a r ≡ Break j)
  unfolding summary_of
  hold w zero r n h = absurd (n (none_holds w r h))
  hold forward (suc c) r n h = hold_forward f (suc c) a (omega arith) r h
  hold backward (suc c) r n h = hold_backward f (suc c) a (omega arith) r n h

  pub numbers_told : (w : Way) (c : ℕ) (r : ℤ) → (r ≡ pos 0 → ⊥) → Told w r (summary_of f a c) (scan w f c a r)
  numbers_told w c r n = go (holds_on w (summary_of f a c) r) refl
    where
      go : (t : Bool) → holds_on w (summary_of f a c) r ≡ t → Told w r (summary_of f a c) (scan w f c a r)
      go true e = let y = hold w c r n e in here y.0 y.1 e
      go false e = past (pass w c r e) e (scan_leaves f w c a r (passed w r (summary_of f a c).total) (λ o. n) (pass w c r e))
