-- What a summary says of the bits from a to t - 1 and their excess e. From a to t the excess changes by the total. Relative to e(a)
-- it stays between least and greatest, and it takes every value between them.
--   Full: this claim, for a stretch of at least one bit
--   end_over, end_under: the excess at the end of the stretch is also between least and greatest
--   wide: least <= greatest
--   full_only: at most one summary satisfies the claim
--   join_full: the join of two summaries satisfies it for the two stretches together
--   single: the summary whose three values are equal
--   summary_first: the summary of one bit is such a summary
--   summary_full: the summary of at least one bit satisfies the claim
--   summary_join: the summary of c + d bits is the join of those of the first c and the other d
--   summary_ext: a summary depends only on the bits, not on their position
--   Sized: each of the three values has a size of at most m
--   summary_size: each value of the summary of c bits has a size of at most c
--   summary_tame: the summary of at most 2^61 bits is `Tame`, so it can be joined
--   summary_pair: two such summaries can be joined
-- Assumes nothing.
use mathlib.Core.Path.{◌≡◌, refl, ap, ap₂}
use mathlib.Core.Bool.{Bool, true, false}
use Prim.Native.Nat.{ℕ, zero, suc, ◌+◌, ◌-◌, ◌≤◌, ◌<◌}
use native.Mathlib.Omega.{arith}
use native.Mathlib.Decide.{dec_lt}
use native.Mathlib.Nat.{add-suc, add-zero}
use lib.IntN.{ℤ, ◌+ℤ◌}
use lib.Signed.{le_z, ◌≤ℤ◌}
use Rattle.ints.specs.Sides.{size}
use Rattle.ints.specs.Order.{min_z, max_z}
use Rattle.ints.proofs.Linear.{plus}
use Rattle.ints.proofs.Shapes.{zsum}
use Rattle.ints.proofs.Order.{min_ud, max_ud, min_size, max_size}
use Rattle.row.specs.Excess.{sign, excess}
use Rattle.row.proofs.Excess.{StepsByOne, steps, excess_ext, excess_size}
use Rattle.bits_stretch.specs.declared.summary.Summary.{Summary}
use Rattle.bits_stretch.specs.Summary.{run, lowest, highest, none, summary_of, join_of, Tame, TamePair, tame_bound}

pub record Full (e : ℕ → ℤ) (a t : ℕ) (x : Summary) : Type 0 where
  pub some : a < t
  pub total : e t ≡ e a +ℤ x.total
  pub over : (j : ℕ) → a ≤ j → j < t → (e a +ℤ x.least) ≤ℤ e (suc j)
  pub under : (j : ℕ) → a ≤ j → j < t → e (suc j) ≤ℤ (e a +ℤ x.greatest)
  pub taken : (v : ℤ) → (e a +ℤ x.least) ≤ℤ v → v ≤ℤ (e a +ℤ x.greatest) → (j : ℕ) × (a ≤ j) × (j < t) × (e (suc j) ≡ v)

-- ---- one stretch
module _ (e : ℕ → ℤ) (a t : ℕ) (x : Summary) (f : Full e a t x) where
  last : suc (t - 1) ≡ t
  last = let s = f.some in omega arith

  pub end_over : (e a +ℤ x.least) ≤ℤ e t
  end_over = let s = f.some in rw last at (f.over (t - 1) (omega arith) (omega arith))

  pub end_under : e t ≤ℤ (e a +ℤ x.greatest)
  end_under = let s = f.some in rw last at (f.under (t - 1) (omega arith) (omega arith))

  pub wide : x.least ≤ℤ x.greatest
  wide = let s = f.some in omega (zsum, end_over, end_under)

-- If both summaries satisfy the claim for the same bits, the least of x is at most that of y, and the greatest of x at least that of y.
within : (e : ℕ → ℤ) (a t : ℕ) (x y : Summary) → Full e a t x → Full e a t y → (x.least ≤ℤ y.least) × (y.greatest ≤ℤ x.greatest)
within e a t x y f g =
    let l = g.taken (e a +ℤ y.least) (omega zsum) (omega (zsum, wide e a t y g)) in
    let h = g.taken (e a +ℤ y.greatest) (omega (zsum, wide e a t y g)) (omega zsum) in
    (omega (zsum, f.over l.0 l.1 l.2, l.3), omega (zsum, f.under h.0 h.1 h.2, h.3))

pub full_only : (e : ℕ → ℤ) (a t : ℕ) (x y : Summary) → Full e a t x → Full e a t y → x ≡ y
full_only e a t x y f g =
    let p = within e a t x y f g in
    let q = within e a t y x g f in
    let q₁ : x.total ≡ y.total = omega (zsum, f.total, g.total) in
    let q₂ : x.least ≡ y.least = omega (zsum, p.0, q.0) in
    let q₃ : x.greatest ≡ y.greatest = omega (zsum, p.1, q.1) in
    λ i. record { total = q₁ i; least = q₂ i; greatest = q₃ i }

-- ---- two stretches
module _ (e : ℕ → ℤ) (near : (k : ℕ) → StepsByOne e k) (a m t : ℕ) (x y : Summary) (f : Full e a m x) (g : Full e m t y) where
  join_taken : (v : ℤ) → (e a +ℤ (join_of x y).least) ≤ℤ v → v ≤ℤ (e a +ℤ (join_of x y).greatest) → (j : ℕ) × (a ≤ j) × (j < t) × (e (suc j) ≡ v)
  unfolding join_of
  join_taken v lo hi = go (le_z (e a +ℤ x.least) v) refl (le_z v (e a +ℤ x.greatest)) refl
    where
      p₁ : a < m
      p₁ = f.some

      p₂ : m < t
      p₂ = g.some

      left : (e a +ℤ x.least) ≤ℤ v → v ≤ℤ (e a +ℤ x.greatest) → (j : ℕ) × (a ≤ j) × (j < t) × (e (suc j) ≡ v)
      left l h = let w = f.taken v l h in (w.0, w.1, omega arith, w.3)

      right : (e m +ℤ y.least) ≤ℤ v → v ≤ℤ (e m +ℤ y.greatest) → (j : ℕ) × (a ≤ j) × (j < t) × (e (suc j) ≡ v)
      right l h = let w = g.taken v l h in (w.0, omega arith, w.2, w.3)

      o : (e a +ℤ x.least) ≤ℤ e m
      o = end_over e a m x f

      u : e m ≤ℤ (e a +ℤ x.greatest)
      u = end_under e a m x f

      o₁ : (e m +ℤ y.least) ≤ℤ e (suc m)
      o₁ = g.over m (omega arith) p₂

      u₁ : e (suc m) ≤ℤ (e m +ℤ y.greatest)
      u₁ = g.under m (omega arith) p₂

      n : StepsByOne e m
      n = near m

      go : (b : Bool) → le_z (e a +ℤ x.least) v ≡ b → (c : Bool) → le_z v (e a +ℤ x.greatest) ≡ c → (j : ℕ) × (a ≤ j) × (j < t) × (e (suc j) ≡ v)
      go true h true k = left (omega zsum) (omega zsum)
      go true h false k =
          right (omega (zsum, o, u, o₁, u₁, n.rises, n.falls, f.total, max_ud x.greatest (x.total +ℤ y.greatest), plus x.total y.greatest))
          (omega (zsum, o, u, o₁, u₁, n.rises, n.falls, f.total, max_ud x.greatest (x.total +ℤ y.greatest), plus x.total y.greatest))
      go false h true k =
          right (omega (zsum, o, u, o₁, u₁, n.rises, n.falls, f.total, min_ud x.least (x.total +ℤ y.least), plus x.total y.least))
          (omega (zsum, o, u, o₁, u₁, n.rises, n.falls, f.total, min_ud x.least (x.total +ℤ y.least), plus x.total y.least))
      go false h false k = absurd (omega (zsum, o, u))

  pub join_full : Full e a t (join_of x y)
  unfolding join_of
  join_full = record {
    some = let p = f.some in let q = g.some in omega arith;
    total = omega (zsum, f.total, g.total, plus x.total y.total);
    over = λ j h l. elim (dec_lt j m) [
      | yes p ↦ omega (zsum, f.over j h p, min_ud x.least (x.total +ℤ y.least), plus x.total y.least)
      | no p ↦ omega (zsum, g.over j (omega arith) l, f.total, min_ud x.least (x.total +ℤ y.least), plus x.total y.least)
    ];
    under = λ j h l. elim (dec_lt j m) [
      | yes p ↦ omega (zsum, f.under j h p, max_ud x.greatest (x.total +ℤ y.greatest), plus x.total y.greatest)
      | no p ↦ omega (zsum, g.under j (omega arith) l, f.total, max_ud x.greatest (x.total +ℤ y.greatest), plus x.total y.greatest)
    ];
    taken = join_taken;
  }

-- ---- bits
-- The summary of one bit: all three values are what the bit adds.
abbrev pub single : ℤ → Summary
single s = record { total = s; least = s; greatest = s }

module _ (f : ℕ → ℕ) where
  single_full : (m : ℕ) → Full (excess f) m (suc m) (single (sign (f m)))
  unfolding excess
  single_full m = record {
    some = omega arith;
    total = refl;
    over = λ j h l. let q : j ≡ m = omega arith in rw q (omega zsum);
    under = λ j h l. let q : j ≡ m = omega arith in rw q (omega zsum);
    taken = λ v l h. (m, omega arith, omega arith, omega zsum);
  }

  pub summary_first : (a : ℕ) → summary_of f a 1 ≡ single (sign (f a))
  unfolding summary_of lowest highest run excess
  summary_first a = rw add-zero (ap single (omega zsum))

  summary_next : (a c : ℕ) → summary_of f a (suc (suc c)) ≡ join_of (summary_of f a (suc c)) (single (sign (f (suc (a + c)))))
  unfolding summary_of lowest highest run excess join_of
  summary_next a c = rw add-suc

  counted : (a c : ℕ) → Full (excess f) a (suc (a + c)) (summary_of f a (suc c))
  counted a zero = rw (summary_first a, add-zero) (single_full a)
  counted a (suc c) =
      rw (summary_next a c, add-suc)
      (join_full (excess f) (steps f) a (suc (a + c)) (suc (suc (a + c))) (summary_of f a (suc c)) (single (sign (f (suc (a + c))))) (counted a c) (single_full (suc (a + c))))

  pub summary_full : (a c : ℕ) → 0 < c → Full (excess f) a (a + c) (summary_of f a c)
  summary_full a zero h = absurd (omega arith)
  summary_full a (suc c) h = rw add-suc (counted a c)

  pub summary_join : (a c d : ℕ) → 0 < c → 0 < d → summary_of f a (c + d) ≡ join_of (summary_of f a c) (summary_of f (a + c) d)
  summary_join a c d h k =
      let q : (a + c) + d ≡ a + (c + d) = omega arith in
      full_only (excess f) a (a + (c + d)) (summary_of f a (c + d)) (join_of (summary_of f a c) (summary_of f (a + c) d)) (summary_full a (c + d) (omega arith))
      (rw q at (join_full (excess f) (steps f) a (a + c) ((a + c) + d) (summary_of f a c) (summary_of f (a + c) d) (summary_full a c h) (summary_full (a + c) d k)))

-- ---- a summary depends only on the bits
lowest_ext : (g h : ℕ → ℤ) (c : ℕ) → ((j : ℕ) → j ≤ c → g j ≡ h j) → lowest g c ≡ lowest h c
unfolding lowest
lowest_ext g h zero q = q 0 (omega arith)
lowest_ext g h (suc c) q = ap₂ min_z (lowest_ext g h c (λ j l. q j (omega arith))) (q (suc c) (omega arith))

highest_ext : (g h : ℕ → ℤ) (c : ℕ) → ((j : ℕ) → j ≤ c → g j ≡ h j) → highest g c ≡ highest h c
unfolding highest
highest_ext g h zero q = q 0 (omega arith)
highest_ext g h (suc c) q = ap₂ max_z (highest_ext g h c (λ j l. q j (omega arith))) (q (suc c) (omega arith))

pub summary_ext : (f g : ℕ → ℕ) (a b c : ℕ) → ((k : ℕ) → k < c → f (a + k) ≡ g (b + k)) → summary_of f a c ≡ summary_of g b c
unfolding summary_of run
summary_ext f g a b zero h = refl
summary_ext f g a b (suc c) h =
    λ i. record { total = q c (omega arith) i; least = lowest_ext (run f a) (run g b) c q i; greatest = highest_ext (run f a) (run g b) c q i }
  where
    q : (j : ℕ) → j ≤ c → run f a j ≡ run g b j
    q j l = excess_ext (λ k. f (a + k)) (λ k. g (b + k)) (suc j) (λ k m. h k (omega arith))

-- ---- c bits change the excess by at most c
lowest_size : (g : ℕ → ℤ) (m c : ℕ) → ((j : ℕ) → j ≤ c → size (g j) ≤ m) → size (lowest g c) ≤ m
unfolding lowest
lowest_size g m zero h = h 0 (omega arith)
lowest_size g m (suc c) h = min_size (lowest g c) (g (suc c)) m (lowest_size g m c (λ j l. h j (omega arith))) (h (suc c) (omega arith))

highest_size : (g : ℕ → ℤ) (m c : ℕ) → ((j : ℕ) → j ≤ c → size (g j) ≤ m) → size (highest g c) ≤ m
unfolding highest
highest_size g m zero h = h 0 (omega arith)
highest_size g m (suc c) h = max_size (highest g c) (g (suc c)) m (highest_size g m c (λ j l. h j (omega arith))) (h (suc c) (omega arith))

pub record Sized (m : ℕ) (x : Summary) : Type 0 where
  pub total : size x.total ≤ m
  pub least : size x.least ≤ m
  pub greatest : size x.greatest ≤ m

pub summary_size : (f : ℕ → ℕ) (a c : ℕ) → Sized c (summary_of f a c)
unfolding summary_of none run
summary_size f a zero = record { total = omega arith; least = omega arith; greatest = omega arith }
summary_size f a (suc c) = record { total = q c (omega arith); least = lowest_size (run f a) (suc c) c q; greatest = highest_size (run f a) (suc c) c q }
  where
    q : (j : ℕ) → j ≤ c → size (run f a j) ≤ suc c
    q j l = omega (arith, excess_size (λ k. f (a + k)) (suc j))

pub summary_tame : (f : ℕ → ℕ) (a c : ℕ) → c ≤ tame_bound → Tame (summary_of f a c)
summary_tame f a c h = let s = summary_size f a c in record { total = omega arith; least = omega arith; greatest = omega arith }

pub summary_pair : {x y : Summary} (f g : ℕ → ℕ) (a b c d : ℕ) → x ≡ summary_of f a c → y ≡ summary_of g b d → c ≤ tame_bound → d ≤ tame_bound → TamePair x y
summary_pair f g a b c d p q h k = record { left = rw p (summary_tame f a c h); right = rw q (summary_tame g b d k) }
