-- What the summary of a stretch says of a scan: a stretch that does not qualify is passed, one that qualifies has a hit.
--   holds_in: if least <= r <= greatest, the test for going forward says yes
--   holds_low, holds_top: if it says yes, then least <= r (r <= greatest)
--   back_zero: the test for going backward says yes of 0
--   back_cases: if it says yes of s, then s = 0 or the test for going forward says yes of s
--   summary_total: the total of a summary is the excess of the bits
--   scan_some: if some position of the stretch has the searched excess, the scan hits a position
--   skip_forward, skip_backward: a scan passes a stretch that does not qualify, and the remainder changes by its total
--   skip_on: the same for both directions
--   hold_forward, hold_backward: a scan hits a position in a stretch that qualifies; going backward, if r is not 0
--   skip_far: a scan passes c bits if |r| is above c
-- Assumes nothing.
use mathlib.Core.Path.{◌≡◌, refl, sym, ap, ◌∙◌}
use mathlib.Core.Logic.{◌⊎◌, inl, inr, ⊎_elim}
use mathlib.Core.Bool.{Bool, true, false, cond, ◌||◌, true≢false}
use Prim.Native.Nat.{ℕ, zero, suc, ◌+◌, ◌-◌, ◌≤◌, ◌<◌}
use native.Mathlib.Omega.{arith}
use native.Mathlib.Decide.{dec_lt}
use lib.IntN.{ℤ, pos, ◌+ℤ◌, ◌-ℤ◌}
use lib.Signed.{le_z, ◌≤ℤ◌}
use Rattle.ints.specs.Sides.{size}
use Rattle.ints.specs.Order.{eq_z}
use Rattle.ints.proofs.Linear.{plus, minus, plus_size, minus_size}
use Rattle.ints.proofs.Shapes.{zsum}
use Rattle.ints.proofs.Order.{eq_z_true, eq_z_yes, le_test}
use Rattle.row.specs.Excess.{sign, excess}
use Rattle.row.specs.Way.{Way, forward, backward, Before}
use Rattle.row.proofs.Bools.{and_left, and_right}
use Rattle.row.proofs.Excess.{sign_size}
use Rattle.row.proofs.Nearest.{NearestBy, InStretch}
use Rattle.bits_stretch.specs.declared.summary.Summary.{Summary}
use Rattle.bits_stretch.specs.Scan.{Scanned}
use Rattle.std.specs.declared.ops.ControlFlow.TheVariants.{Break, Continue}
use Rattle.bits_stretch.specs.Summary.{run, none, summary_of, holds_for, holds_back, holds_on}
use Rattle.bits_stretch.specs.Scan.{place, rest, passed, less, scan}
use Rattle.bits_stretch.proofs.Full.{Full, summary_full}
use Rattle.bits_stretch.proofs.Meets.{met, hit_answer, scan_nearest, scan_left, scan_none}

-- ---- the tests whether a stretch qualifies
pub holds_in : (x : Summary) (r : ℤ) → x.least ≤ℤ r → r ≤ℤ x.greatest → holds_for x r ≡ true
unfolding holds_for
holds_in x r h k = rw (le_test h, le_test k)

pub holds_low : (x : Summary) (r : ℤ) → holds_for x r ≡ true → x.least ≤ℤ r
unfolding holds_for
holds_low x r h = let t = and_left (le_z x.least r) (le_z r x.greatest) h in omega zsum

pub holds_top : (x : Summary) (r : ℤ) → holds_for x r ≡ true → r ≤ℤ x.greatest
unfolding holds_for
holds_top x r h = let t = and_right (le_z x.least r) (le_z r x.greatest) h in omega zsum

back_in : (x : Summary) (s : ℤ) → holds_for x s ≡ true → holds_back x s ≡ true
unfolding holds_back
back_in x s h = go (eq_z s (pos 0))
  where
    go : (t : Bool) → (t || holds_for x s) ≡ true
    go true = refl
    go false = h

pub back_zero : (x : Summary) (s : ℤ) → s ≡ pos 0 → holds_back x s ≡ true
unfolding holds_back
back_zero x s z = rw (eq_z_yes s (pos 0) z)

pub back_cases : (x : Summary) (s : ℤ) → holds_back x s ≡ true → (s ≡ pos 0) ⊎ (holds_for x s ≡ true)
unfolding holds_back
back_cases x s h = go (eq_z s (pos 0)) refl h
  where
    go : (t : Bool) → eq_z s (pos 0) ≡ t → (t || holds_for x s) ≡ true → (s ≡ pos 0) ⊎ (holds_for x s ≡ true)
    go true e h = inl (eq_z_true s (pos 0) e)
    go false e h = inr h

pub summary_total : (f : ℕ → ℕ) (a c : ℕ) → (summary_of f a c).total ≡ excess (λ k. f (a + k)) c
unfolding summary_of none run excess
summary_total f a zero = refl
summary_total f a (suc c) = refl

pub scan_some : (w : Way) (f : ℕ → ℕ) (c a : ℕ) (r : ℤ) (k : ℕ) → a ≤ k → k < a + c → met w (excess f) k ≡ excess f (place w c a) +ℤ r
    → (j : ℕ) × (scan w f c a r ≡ Break j)
scan_some w f c a r k p q m = go (scan w f c a r) refl (scan_nearest f (excess f (place w c a) +ℤ r) w c a r refl)
  where
    go : (x : Scanned) → scan w f c a r ≡ x → NearestBy (Before w) (InStretch (λ k. met w (excess f) k ≡ excess f (place w c a) +ℤ r) a (a + c)) (hit_answer x)
        → (j : ℕ) × (scan w f c a r ≡ Break j)
    go (Break j) e g = (j, e)
    go (Continue z) e g = absurd (g k (p, q, m))

-- ---- bits that are passed, or hit, by their summary
module _ (f : ℕ → ℕ) (c a : ℕ) (some : 0 < c) where
  abbrev x : Summary
  x = summary_of f a c

  bits : Full (excess f) a (a + c) x
  bits = summary_full f a c some

  pub skip_forward : (r : ℤ) → holds_for x r ≡ false → scan forward f c a r ≡ Continue (r -ℤ x.total)
  skip_forward r h = rw summary_total (scan_none f forward c a r (λ k p q m. true≢false (sym (yes k p q m) ∙ h)))
    where
      yes : (k : ℕ) → a ≤ k → k < a + c → excess f (suc k) ≡ excess f a +ℤ r → holds_for x r ≡ true
      yes k p q m = holds_in x r (omega (zsum, bits.over k p q)) (omega (zsum, bits.under k p q))

  pub skip_backward : (r : ℤ) → holds_back x (r +ℤ x.total) ≡ false → scan backward f c a r ≡ Continue (r +ℤ x.total)
  skip_backward r h = rw summary_total (scan_none f backward c a r (λ k p q m. true≢false (sym (holds k p q m) ∙ h)))
    where
      -- If the excess before bit k is r more than at the end of the stretch, it is r + total more than at its beginning.
      s : (k : ℕ) → excess f k ≡ excess f (a + c) +ℤ r → excess f k ≡ excess f a +ℤ (r +ℤ x.total)
      s k m = omega (zsum, bits.total, plus r x.total, plus (excess f (a + c)) r)

      holds : (k : ℕ) → a ≤ k → k < a + c → excess f k ≡ excess f (a + c) +ℤ r → holds_back x (r +ℤ x.total) ≡ true
      holds k p q m = elim (dec_lt a k) [
        | yes l ↦ (let w : suc (k - 1) ≡ k = omega arith in
            let o : (excess f a +ℤ x.least) ≤ℤ excess f k = rw w at (bits.over (k - 1) (omega arith) (omega arith)) in
            let u : excess f k ≤ℤ (excess f a +ℤ x.greatest) = rw w at (bits.under (k - 1) (omega arith) (omega arith)) in
            back_in x (r +ℤ x.total) (holds_in x (r +ℤ x.total) (omega (zsum, s k m, plus r x.total)) (omega (zsum, s k m, plus r x.total))))
        | no l ↦ (let w : k ≡ a = omega arith in let y : excess f a ≡ excess f a +ℤ (r +ℤ x.total) = rw w at (s k m) in back_zero x (r +ℤ x.total) (omega (zsum, y, plus r x.total)))
      ]

  pub skip_on : (w : Way) (r : ℤ) → holds_on w x r ≡ false → scan w f c a r ≡ Continue (passed w r x.total)
  skip_on forward r h = skip_forward r h
  skip_on backward r h = skip_backward r h

  pub hold_forward : (r : ℤ) → holds_for x r ≡ true → (j : ℕ) × (scan forward f c a r ≡ Break j)
  hold_forward r h =
      let k = bits.taken (excess f a +ℤ r) (omega (zsum, holds_low x r h)) (omega (zsum, holds_top x r h)) in
      scan_some forward f c a r k.0 k.1 k.2 k.3

  -- A backward scan does not compare the excess after the last bit. So r = 0 is excluded.
  pub hold_backward : (r : ℤ) → (r ≡ pos 0 → ⊥) → holds_back x (r +ℤ x.total) ≡ true → (j : ℕ) × (scan backward f c a r ≡ Break j)
  hold_backward r n h =
      ⊎_elim (λ z. scan_some backward f c a r a (omega arith) (omega arith) (omega (zsum, bits.total, plus r x.total))) inner (back_cases x s h)
    where
      s : ℤ
      s = r +ℤ x.total

      inner : holds_for x s ≡ true → (j : ℕ) × (scan backward f c a r ≡ Break j)
      inner i =
          let k = bits.taken (excess f a +ℤ s) (omega (zsum, holds_low x s i, plus r x.total)) (omega (zsum, holds_top x s i, plus r x.total)) in
          let m : excess f (suc k.0) ≡ excess f (a + c) +ℤ r = omega (zsum, k.3, bits.total, plus r x.total) in
          elim (dec_lt (suc k.0) (a + c)) [
            | yes l ↦ scan_some backward f c a r (suc k.0) (omega (arith, k.1)) l m
            | no l ↦ (let e : suc k.0 ≡ a + c = omega (arith, k.2) in
                let y : excess f (a + c) ≡ excess f (a + c) +ℤ r = rw e at m in absurd (n (omega (zsum, y))))
          ]

-- ---- bits that are passed because |r| is above their number
less_far : (w : Way) (r : ℤ) (b : ℕ) → size r ≤ size (less w r b) + 1
less_far forward r b =
    let e : r ≡ (r -ℤ sign b) +ℤ sign b = omega (zsum, plus (r -ℤ sign b) (sign b), minus r (sign b)) in
    omega (arith, ap size e, plus_size (r -ℤ sign b) (sign b), sign_size b)
less_far backward r b =
    let e : r ≡ (r +ℤ sign b) -ℤ sign b = omega (zsum, minus (r +ℤ sign b) (sign b), plus r (sign b)) in
    omega (arith, ap size e, minus_size (r +ℤ sign b) (sign b), sign_size b)

module _ (w : Way) (f : ℕ → ℕ) where
  unmet : (c a : ℕ) (r : ℤ) (j : ℕ) → c < size r → scan w f c a r ≡ Break j → ⊥
  unfolding scan
  unmet zero a r j l e = let z : ◌≡◌ {A = ℕ} 0 1 = cc in omega arith
  unmet (suc c) a r j l e = go (eq_z p (pos 0)) refl e (λ g. unmet c (rest w a) p j (omega (arith, less_far w r (f (place w c a)))) g)
    where
      p : ℤ
      p = less w r (f (place w c a))

      go : (t : Bool) → eq_z p (pos 0) ≡ t → cond t (Break (place w c a)) (scan w f c (rest w a) p) ≡ Break j → (scan w f c (rest w a) p ≡ Break j → ⊥) → ⊥
      go true h e g = let z : size p ≡ 0 = ap size (eq_z_true p (pos 0) h) in omega (arith, less_far w r (f (place w c a)))
      go false h e g = g e

  pub skip_far : (c a : ℕ) (r : ℤ) → c < size r → scan w f c a r ≡ Continue (passed w r (excess (λ k. f (a + k)) c))
  skip_far c a r l = go (scan w f c a r) refl
    where
      go : (y : Scanned) → scan w f c a r ≡ y → scan w f c a r ≡ Continue (passed w r (excess (λ k. f (a + k)) c))
      go (Break j) e = absurd (unmet c a r j l e)
      go (Continue q) e = rw (← scan_left f w c a r q e) e
