-- What a scan finds, in either direction: the nearest position with the searched excess, or the remainder that it leaves.
--   met: the excess that is compared at a position
--   hit_answer: the hit of a scan as an answer, without the remainder
--   scan_nearest: a scan hits the nearest position with the searched excess, or none of its bits has it
--   scan_left: the remainder that a scan leaves is the old one minus the total of the bits (plus the total, going backward)
--   scan_none: if no position has the searched excess, the scan leaves this remainder
--   scan_leaves: a scan of at least one bit never leaves 0
--   hit_within: a hit of a scan is below the end of the bits that it reads
-- Assumes nothing.
use mathlib.Core.Path.{◌≡◌, refl, sym, ◌∙◌}
use mathlib.Core.Logic.{◌⊎◌, inl, inr, ⊎_elim}
use mathlib.Core.Bool.{Bool, true, false, cond}
use Prim.Native.Nat.{ℕ, zero, suc, ◌+◌, ◌≤◌, ◌<◌}
use native.Mathlib.Omega.{arith}
use native.Mathlib.Nat.{add-zero, add-suc}
use native.Mathlib.Decide.{dec_lt}
use lib.IntN.{ℤ, pos, ◌+ℤ◌}
use Rattle.ints.specs.Order.{eq_z}
use Rattle.ints.proofs.Linear.{plus, minus}
use Rattle.ints.proofs.Shapes.{zsum}
use Rattle.ints.proofs.Order.{eq_z_true, eq_z_false}
use Rattle.row.specs.Answer.{Answer, at, nothing, refused}
use Rattle.row.specs.Excess.{sign, excess}
use Rattle.row.specs.Way.{Way, forward, backward, Before}
use Rattle.row.proofs.Excess.{excess_add}
use Rattle.row.proofs.Nearest.{NearestBy, InStretch}
use Rattle.bits_stretch.specs.Scan.{Scanned}
use Rattle.std.specs.declared.ops.ControlFlow.TheVariants.{Break, Continue}
use Rattle.bits_stretch.specs.Scan.{place, rest, passed, less, scan}
use Rattle.bits_stretch.proofs.Steps.{place_from, rest_from}
use Rattle.bits_stretch.proofs.Parts.{then_at, then_rest}

-- The excess that is compared at position k: going forward the one after it, going backward the one before it.
abbrev pub met : Way → (ℕ → ℤ) → ℕ → ℤ
met forward e k = e (suc k)
met backward e k = e k

-- The hit of a scan as an answer. The remainder is dropped.
abbrev pub hit_answer : Scanned → Answer
hit_answer (Break j) = at j
hit_answer (Continue q) = nothing

module _ (f : ℕ → ℕ) (v : ℤ) where
  abbrev Meets : Way → ℕ → Type 0
  Meets w k = met w (excess f) k ≡ v

  -- ---- one bit: v is the excess where the scan starts, plus the remainder r
  next : (w : Way) (c a : ℕ) (r : ℤ) → v ≡ excess f (place w (suc c) a) +ℤ r → v ≡ excess f (place w c (rest w a)) +ℤ less w r (f (place w c a))
  unfolding excess
  next forward c a r h = omega (zsum, minus r (sign (f a)), plus (excess f a) (sign (f a)))
  next backward c a r h =
      let q : v ≡ excess f (suc (a + c)) +ℤ r = rw add-suc at h in omega (zsum, plus r (sign (f (a + c))), plus (excess f (a + c)) (sign (f (a + c))))

  judged : (w : Way) (c a : ℕ) → met w (excess f) (place w c a) ≡ excess f (place w c (rest w a))
  judged forward c a = refl
  judged backward c a = refl

  -- The bit that is read first is met before the others, and the others are the rest.
  ahead : (w : Way) (c a k : ℕ) → a ≤ k → k < a + suc c → Before w k (place w c a) → ⊥
  ahead forward c a k h l b = omega arith
  ahead backward c a k h l b = omega arith

  others : (w : Way) (c a k : ℕ) → a ≤ k → k < a + suc c → (k ≡ place w c a) ⊎ ((rest w a ≤ k) × (k < rest w a + c))
  others forward c a k h l = elim (dec_lt a k) [ yes p ↦ inr (omega arith, omega arith) | no p ↦ inl (omega arith) ]
  others backward c a k h l = elim (dec_lt k (a + c)) [ yes p ↦ inr (omega arith, omega arith) | no p ↦ inl (omega arith) ]

  -- ---- the c bits from a on
  Here : Way → ℕ → ℕ → Answer → Type 0
  Here w a c = NearestBy (Before w) (InStretch (Meets w) a (a + c))

  module _ (w : Way) (c a : ℕ) where
    hit : Meets w (place w c a) → Here w a (suc c) (at (place w c a))
    unfolding Here
    hit m = let i = place_from w c a in ((i.0, i.1, m), λ k h b. ahead w c a k h.0 h.1 b)

    missed : (Meets w (place w c a) → ⊥) → (k : ℕ) → InStretch (Meets w) a (a + suc c) k → InStretch (Meets w) (rest w a) (rest w a + c) k
    missed n k h = ⊎_elim (λ e. absurd (n (rw e at h.2))) (λ i. (i.0, i.1, h.2)) (others w c a k h.0 h.1)

    wider : (Meets w (place w c a) → ⊥) → (y : Answer) → Here w (rest w a) c y → Here w a (suc c) y
    unfolding Here
    wider n (at j) g = let i = g.0 in ((omega (arith, rest_from w a), omega (arith, rest_from w a), i.2), λ k h b. g.1 k (missed n k h) b)
    wider n nothing g = λ k h. g k (missed n k h)
    wider n (refused m) g = g

  pub scan_nearest : (w : Way) (c a : ℕ) (r : ℤ) → v ≡ excess f (place w c a) +ℤ r
      → NearestBy (Before w) (InStretch (Meets w) a (a + c)) (hit_answer (scan w f c a r))
  unfolding scan Here
  scan_nearest w zero a r h = λ k i. omega arith
  scan_nearest w (suc c) a r h = go (eq_z q (pos 0)) refl (scan_nearest w c (rest w a) q n)
    where
      q : ℤ
      q = less w r (f (place w c a))

      n : v ≡ excess f (place w c (rest w a)) +ℤ q
      n = next w c a r h

      go : (t : Bool) → eq_z q (pos 0) ≡ t → Here w (rest w a) c (hit_answer (scan w f c (rest w a) q))
          → Here w a (suc c) (hit_answer (cond t (Break (place w c a)) (scan w f c (rest w a) q)))
      go true e g = let z = eq_z_true q (pos 0) e in hit w c a (judged w c a ∙ omega (zsum, n))
      go false e g = wider w c a (λ m. eq_z_false q (pos 0) e (omega (zsum, n, judged w c a, m))) (hit_answer (scan w f c (rest w a) q)) g

  -- ---- the remainder: v is the excess where the scan ends, plus the remainder that it leaves
  left_at : (w : Way) (c a : ℕ) (r q : ℤ) → v ≡ excess f (place w c a) +ℤ r → scan w f c a r ≡ Continue q → v ≡ excess f (then_at w c a) +ℤ q
  unfolding scan
  left_at w zero a r q h e = let z : r ≡ q = cc in rw z at (same w h)
    where
      same : (w : Way) → v ≡ excess f (place w 0 a) +ℤ r → v ≡ excess f (then_at w 0 a) +ℤ r
      same forward h = rw add-zero h
      same backward h = rw add-zero at h
  left_at w (suc c) a r q h e = go (eq_z p (pos 0)) e (λ g. left_at w c (rest w a) p q (next w c a r h) g)
    where
      p : ℤ
      p = less w r (f (place w c a))

      go : (t : Bool) → cond t (Break (place w c a)) (scan w f c (rest w a) p) ≡ Continue q
          → (scan w f c (rest w a) p ≡ Continue q → v ≡ excess f (then_at w c (rest w a)) +ℤ q) → v ≡ excess f (then_at w (suc c) a) +ℤ q
      go true e g = let z : ◌≡◌ {A = ℕ} 0 1 = cc in absurd (omega arith)
      go false e g = rw (← then_rest w c a) (g e)

module _ (f : ℕ → ℕ) where
  pub scan_left : (w : Way) (c a : ℕ) (r q : ℤ) → scan w f c a r ≡ Continue q → q ≡ passed w r (excess (λ k. f (a + k)) c)
  scan_left forward c a r q e =
      omega (zsum, left_at f (excess f a +ℤ r) forward c a r q refl e, excess_add f a c, plus (excess f a) r, minus r (excess (λ k. f (a + k)) c))
  scan_left backward c a r q e =
      omega (zsum, left_at f (excess f (a + c) +ℤ r) backward c a r q refl e, excess_add f a c, plus (excess f (a + c)) r, plus r (excess (λ k. f (a + k)) c))

  -- If no position has the searched excess, the scan passes all bits.
  pub scan_none : (w : Way) (c a : ℕ) (r : ℤ) → ((k : ℕ) → a ≤ k → k < a + c → met w (excess f) k ≡ excess f (place w c a) +ℤ r → ⊥)
      → scan w f c a r ≡ Continue (passed w r (excess (λ k. f (a + k)) c))
  scan_none w c a r n = go (scan w f c a r) refl (scan_nearest f (excess f (place w c a) +ℤ r) w c a r refl)
    where
      go : (x : Scanned) → scan w f c a r ≡ x → NearestBy (Before w) (InStretch (Meets f (excess f (place w c a) +ℤ r) w) a (a + c)) (hit_answer x) → scan w f c a r ≡ Continue (passed w r (excess (λ k. f (a + k)) c))
      go (Break j) e g = absurd (n j g.0.0 g.0.1 g.0.2)
      go (Continue q) e g = rw (← scan_left w c a r q e) e

  -- A scan of at least one bit never leaves the remainder 0, whatever the bits are. Over no bits it leaves 0 only if it starts with 0.
  pub scan_leaves : (w : Way) (c a : ℕ) (r q : ℤ) → (c ≡ 0 → r ≡ pos 0 → ⊥) → scan w f c a r ≡ Continue q → q ≡ pos 0 → ⊥
  unfolding scan
  scan_leaves w zero a r q n e z = n refl (let y : r ≡ q = cc in y ∙ z)
  scan_leaves w (suc c) a r q n e z = go (eq_z p (pos 0)) refl e (λ m g. scan_leaves w c (rest w a) p q (λ o y. m y) g z)
    where
      p : ℤ
      p = less w r (f (place w c a))

      go : (t : Bool) → eq_z p (pos 0) ≡ t → cond t (Break (place w c a)) (scan w f c (rest w a) p) ≡ Continue q
          → ((p ≡ pos 0 → ⊥) → scan w f c (rest w a) p ≡ Continue q → ⊥) → ⊥
      go true h e g = let y : ◌≡◌ {A = ℕ} 0 1 = cc in omega arith
      go false h e g = g (eq_z_false p (pos 0) h) e

-- A hit of a scan is below the end of the bits that it reads.
pub hit_within : (w : Way) (f : ℕ → ℕ) (c a : ℕ) (r : ℤ) {k : ℕ} → Break k ≡ scan w f c a r → k < a + c
hit_within w f c a r e = (rw (sym e) at (scan_nearest f _ w c a r refl)).0.1
