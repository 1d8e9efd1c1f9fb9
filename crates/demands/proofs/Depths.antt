-- Handles by their depth, on any row. Each bit below n changes the excess by one, so the excess skips no value.
--   Up, Down, turn: a position below n has an open bit and the excess rises, or a close bit and the excess falls
--   opens_up: at an open bit the excess rises
--   Stands, stands, at_depth_lem, not_depth: what `at_depth` means
--   strict: an integer that is at least b and not b is greater than b
--   stays, stayed: an excess above k that does not meet k stays above k, forward and backward
--   first_deep: after an excess of at most k, the first position with excess k + 1 after its bit is the first handle of depth k
--   last_deep: before an excess above k, the last position with excess k before its bit is the last handle of depth k
-- The last two are by induction on the positions left.
-- Assumes nothing.
use mathlib.Core.Path.{◌≡◌, refl, sym, ap, ◌∙◌}
use mathlib.Core.Logic.{◌⊎◌, inl, inr}
use mathlib.Core.Bool.{Bool, true, false}
use mathlib.Core.List.{List}
use Prim.Native.Nat.{ℕ, zero, suc, ◌+◌, ◌≤◌, ◌<◌}
use native.Mathlib.Omega.{arith}
use native.Mathlib.Decide.{dec_lt}
use borrow.Author.Tests.{lt-ltb}
use lib.IntN.{ℤ, pos, negsuc, ◌+ℤ◌}
use lib.Signed.{lt_z, ◌≤ℤ◌, ◌<ℤ◌}
use Rattle.ints.specs.Order.{eq_z}
use Rattle.ints.proofs.Linear.{plus, never_true}
use Rattle.ints.proofs.Shapes.{zsum}
use Rattle.ints.proofs.Order.{eq_z_true, eq_z_false, eq_z_yes}
use Rattle.row.specs.Bits.{bit_at}
use Rattle.row.specs.Excess.{sign, excess, E}
use Rattle.row.specs.Search.{least, greatest, excess_after, excess_before}
use Rattle.row.specs.Tree.{opens, closes}
use Rattle.row.proofs.Bools.{and_left, and_right, and_both, not_yes}
use Rattle.row.proofs.Tree.{opens_low}
use Rattle.demands.specs.Handles.{at_depth}
use Rattle.demands.proofs.Neighbours.{prev, prev_yes, prev_no}

-- ---- one bit
pub record Up (ws : List ℕ) (n i : ℕ) : Type 0 where
  pub open_is : opens ws n i ≡ true
  pub close_is : closes ws n i ≡ false
  pub step : E ws (suc i) ≡ E ws i +ℤ pos 1

pub record Down (ws : List ℕ) (n i : ℕ) : Type 0 where
  pub open_is : opens ws n i ≡ false
  pub close_is : closes ws n i ≡ true
  pub step : E ws (suc i) +ℤ pos 1 ≡ E ws i

-- v is a handle of depth k.
pub record Stands (ws : List ℕ) (n : ℕ) (k : ℤ) (v : ℕ) : Type 0 where
  pub low : v < n
  pub open_is : opens ws n v ≡ true
  pub deep : E ws v ≡ k
  pub over : E ws (suc v) ≡ k +ℤ pos 1

strict : (a b : ℤ) → b ≤ℤ a → (a ≡ b → ⊥) → b <ℤ a
strict a b l f = go (lt_z b a) refl
  where
    go : (t : Bool) → lt_z b a ≡ t → b <ℤ a
    go true e = omega zsum
    go false e = absurd (f (omega zsum))

module _ (ws : List ℕ) (n : ℕ) where
  pub turn : (i : ℕ) → i < n → Up ws n i ⊎ Down ws n i
  unfolding opens closes excess sign
  turn i h = go (bit_at ws i) refl (omega arith)
    where
      go : (x : ℕ) → bit_at ws i ≡ x → x < 2 → Up ws n i ⊎ Down ws n i
      go zero q l =
          inr (record { open_is = rw (lt-ltb i n h, q); close_is = rw (lt-ltb i n h, q); step = rw q (omega (zsum, plus (E ws i) (negsuc 0))) })
      go (suc zero) q l = inl (record { open_is = rw (lt-ltb i n h, q); close_is = rw (lt-ltb i n h, q); step = rw q })
      go (suc (suc x)) q l = absurd (omega arith)

  pub opens_up : (i : ℕ) → opens ws n i ≡ true → Up ws n i
  opens_up i h = elim (turn i (opens_low ws n i h)) [ inl u ↦ u | inr d ↦ absurd (never_true (sym d.open_is ∙ h)) ]

  pub stands : (k : ℤ) (v : ℕ) → at_depth ws n k v ≡ true → Stands ws n k v
  unfolding at_depth
  stands k v h =
      let o = and_left (opens ws n v) (eq_z (E ws v) k) h in
      let d = eq_z_true (E ws v) k (and_right (opens ws n v) (eq_z (E ws v) k) h) in
      record { low = opens_low ws n v o; open_is = o; deep = d; over = (opens_up v o).step ∙ ap (λ (z : ℤ). z +ℤ pos 1) d }

  pub at_depth_lem : (k : ℤ) (v : ℕ) → opens ws n v ≡ true → E ws v ≡ k → at_depth ws n k v ≡ true
  unfolding at_depth
  at_depth_lem k v o d = and_both (opens ws n v) (eq_z (E ws v) k) o (eq_z_yes (E ws v) k d)

  pub not_depth : (k : ℤ) (v : ℕ) → (Stands ws n k v → ⊥) → at_depth ws n k v ≡ false
  not_depth k v f = not_yes (at_depth ws n k v) (λ h. f (stands k v h))

  -- ---- an excess above k that does not meet k stays above k
  pub stays : (k : ℤ) (a y : ℕ) → a ≤ y → y ≤ n → k <ℤ E ws a → ((x : ℕ) → a ≤ x → x < y → E ws (suc x) ≡ k → ⊥) → k <ℤ E ws y
  stays k a zero l m h f = let w : 0 ≡ a = omega arith in rw w h
  stays k a (suc y) l m h f = go (dec_lt y a) (stays k a y)
    where
      go : Dec (y < a) → (a ≤ y → y ≤ n → k <ℤ E ws a → ((x : ℕ) → a ≤ x → x < y → E ws (suc x) ≡ k → ⊥) → k <ℤ E ws y) → k <ℤ E ws (suc y)
      go (yes z) rest = let w : suc y ≡ a = omega arith in rw w h
      go (no z) rest =
          let r : k <ℤ E ws y = rest (omega arith) (omega arith) h (λ x p q. f x p (omega arith)) in
          strict (E ws (suc y)) k (elim (turn y m) [ inl u ↦ omega zsum | inr d ↦ omega zsum ]) (f y (omega arith) (omega arith))

  pub stayed : (k : ℤ) (c y t : ℕ) → t ≡ y + c → t ≤ n → k <ℤ E ws t → ((x : ℕ) → y ≤ x → x < t → E ws x ≡ k → ⊥) → k <ℤ E ws y
  stayed k zero y t e m h f = let w : y ≡ t = omega arith in rw w h
  stayed k (suc c) y t e m h f =
      let r = stayed k c (suc y) t (omega arith) m h (λ x p q. f x (omega arith) q) in
      strict (E ws y) k (elim (turn y (omega arith)) [ inl u ↦ omega zsum | inr d ↦ omega zsum ]) (f y (omega arith) (omega arith))

  -- ---- if E(a) <= k, the first position from a on with excess k + 1 after its bit is the first handle of depth k
  pub first_deep : (k v : ℤ) (c a : ℕ) → v ≡ k +ℤ pos 1 → a + c ≤ n → E ws a ≤ℤ k → least (excess_after (E ws) v) c a ≡ least (at_depth ws n k) c a
  unfolding least
  first_deep k v zero a w l h = refl
  first_deep k v (suc c) a w l h = go (turn a (omega arith)) (eq_z (E ws (suc a)) v) refl (first_deep k v c (suc a) w (omega arith))
    where
      go : Up ws n a ⊎ Down ws n a → (t : Bool) → eq_z (E ws (suc a)) v ≡ t
          → (E ws (suc a) ≤ℤ k → least (excess_after (E ws) v) c (suc a) ≡ least (at_depth ws n k) c (suc a))
          → least (excess_after (E ws) v) (suc c) a ≡ least (at_depth ws n k) (suc c) a
      go (inl u) true q rest = let x = eq_z_true (E ws (suc a)) v q in let d : E ws a ≡ k = omega zsum in rw (q, at_depth_lem k a u.open_is d, least)
      go (inl u) false q rest =
          let m : E ws (suc a) <ℤ v = strict v (E ws (suc a)) (omega zsum) (λ z. eq_z_false (E ws (suc a)) v q (sym z)) in
          rw (q, not_depth k a (λ s. eq_z_false (E ws (suc a)) v q (s.over ∙ sym w)), least) (rest (omega zsum))
      go (inr d) true q rest = let x = eq_z_true (E ws (suc a)) v q in absurd (omega zsum)
      go (inr d) false q rest = rw (q, not_depth k a (λ s. never_true (sym d.open_is ∙ s.open_is)), least) (rest (omega zsum))

  -- If E(t) > k, the last position below t with excess k before its bit is the last handle of depth k.
  pub last_deep : (k v : ℤ) (t : ℕ) → v ≡ k → t ≤ n → k <ℤ E ws t → greatest (excess_before (E ws) v) t 0 ≡ prev (at_depth ws n k) t
  unfolding greatest
  last_deep k v zero w l h = refl
  last_deep k v (suc t) w l h = go (turn t l) (eq_z (E ws t) v) refl (last_deep k v t w (omega arith))
    where
      go : Up ws n t ⊎ Down ws n t → (b : Bool) → eq_z (E ws t) v ≡ b
          → (k <ℤ E ws t → greatest (excess_before (E ws) v) t 0 ≡ prev (at_depth ws n k) t)
          → greatest (excess_before (E ws) v) (suc t) 0 ≡ prev (at_depth ws n k) (suc t)
      go (inl u) true q rest =
          prev_yes (excess_before (E ws) v) t q ∙ sym (prev_yes (at_depth ws n k) t (at_depth_lem k t u.open_is (eq_z_true (E ws t) v q ∙ w)))
      go (inl u) false q rest =
          let m : k <ℤ E ws t = strict (E ws t) k (omega zsum) (λ z. eq_z_false (E ws t) v q (z ∙ sym w)) in
          prev_no (excess_before (E ws) v) t q ∙ rest m ∙ sym (prev_no (at_depth ws n k) t (not_depth k t (λ s. eq_z_false (E ws t) v q (s.deep ∙ sym w))))
      go (inr d) true q rest = let x = eq_z_true (E ws t) v q in absurd (omega zsum)
      go (inr d) false q rest =
          prev_no (excess_before (E ws) v) t q ∙ rest (omega zsum)
          ∙ sym (prev_no (at_depth ws n k) t (not_depth k t (λ s. never_true (sym d.open_is ∙ s.open_is))))
