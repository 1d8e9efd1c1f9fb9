-- In a row that is one tree, let c be the close of a handle v. The child calls by definition go to the next child of v, or to the last child
-- before.
--   Kid, kid, is_kid, no_kid, between: what `child_of` means
--   low, v_up, leaf, deeper, first_child_lem: position v + 1 is a child of v or the close of v
--   inner, under, still, ended, after_close, next_sibling_lem: the position after the close of a child is a child of v or the close of v
--   last_kid: `open` from a position with excess E(v) + 2 answers the last child before it
--   c_deep, close_before, clash, apart, last_child_lem, previous_sibling_lem: such a position is c - 1, or w - 1 for a child w
-- Assumes nothing.
use mathlib.Core.Path.{◌≡◌, sym, ap, ◌∙◌}
use mathlib.Core.Logic.{◌⊎◌, inl, inr}
use mathlib.Core.Bool.{true, false, ◌&&◌}
use mathlib.Core.List.{List}
use Prim.Native.Nat.{ℕ, suc, ◌+◌, ◌-◌, ◌≤◌, ◌<◌}
use native.Mathlib.Omega.{arith}
use native.Mathlib.Decide.{dec_lt}
use native.Mathlib.Numerals.{add-one}
use borrow.Author.Tests.{ltb-true, lt-ltb}
use lib.Dec.{ltb}
use lib.IntN.{pos, negsuc, ◌+ℤ◌}
use Rattle.ints.proofs.Linear.{plus, never_true}
use Rattle.ints.proofs.Shapes.{zsum}
use Rattle.row.specs.Answer.{Answer}
use Rattle.row.specs.Excess.{E}
use Rattle.row.specs.Search.{fwd, bwd}
use Rattle.row.specs.Tree.{opens, OneTree, Handle}
use Rattle.row.proofs.Bools.{and_left, and_right, not_yes}
use Rattle.bp_spec.specs.RowCalls.{handle_at, first_child}
use Rattle.bp_spec.specs.SearchPair.{defined, onward}
use Rattle.bp_spec.specs.SiblingCalls.{last_child, next_sibling, previous_sibling}
use Rattle.demands.specs.Handles.{at_depth, is_before, child_of}
use Rattle.demands.proofs.Neighbours.{next, prev, next_is, next_none, prev_skip, prev_none, prev_same}
use Rattle.demands.proofs.Depths.{Up, Down, turn, opens_up, stands, at_depth_lem}
use Rattle.demands.proofs.Closes.{Closed, closing, open_deep}

-- x is a child of v, and c is the close of v.
pub record Kid (ws : List ℕ) (n v c x : ℕ) : Type 0 where
  pub right : v < x
  pub inner : x < c
  pub open_is : opens ws n x ≡ true
  pub deep : E ws x ≡ E ws v +ℤ pos 1

module _ (ws : List ℕ) (n : ℕ) (t : OneTree ws n) (v c : ℕ) (o : Handle ws n v) (d : Closed ws n v c) where
  -- Between v and its close, the children are exactly the handles of depth E(v) + 1.
  between : (x : ℕ) → v < x → x < c → child_of ws n v x ≡ at_depth ws n (E ws v +ℤ pos 1) x
  unfolding child_of
  between x a b = rw (d.is, lt-ltb v x a, lt-ltb x c b, child_of)

  pub kid : (x : ℕ) → child_of ws n v x ≡ true → Kid ws n v c x
  unfolding child_of
  kid x h =
      let inside = is_before x (fwd ws n v (negsuc 0)) in
      let deep = at_depth ws n (E ws v +ℤ pos 1) x in
      let r = and_right (ltb v x) (inside && deep) h in
      let i : ltb x c ≡ true = ap (is_before x) (sym d.is) ∙ and_left inside deep r in
      let s = stands ws n (E ws v +ℤ pos 1) x (and_right inside deep r) in
      record { right = ltb-true v x (and_left (ltb v x) (inside && deep) h); inner = ltb-true x c i; open_is = s.open_is; deep = s.deep }

  pub is_kid : (x : ℕ) → v < x → x < c → opens ws n x ≡ true → E ws x ≡ E ws v +ℤ pos 1 → child_of ws n v x ≡ true
  is_kid x a b p q = between x a b ∙ at_depth_lem ws n (E ws v +ℤ pos 1) x p q

  no_kid : (x : ℕ) → (Kid ws n v c x → ⊥) → child_of ws n v x ≡ false
  no_kid x f = not_yes (child_of ws n v x) (λ h. f (kid x h))

  -- ---- the bit after v
  low : suc v < n
  low = omega arith

  v_up : E ws (suc v) ≡ E ws v +ℤ pos 1
  v_up = (opens_up ws n v o).step

  -- Position v + 1 is the close of v, or it is a child.
  leaf : Down ws n (suc v) → c ≡ suc v
  leaf w = elim (dec_lt (suc v) c) [
    | yes y ↦ (let z = d.over (suc (suc v)) (omega arith) y in absurd (omega (zsum, v_up)))
    | no y ↦ omega arith
  ]

  deeper : Up ws n (suc v) → suc v < c
  deeper w =
      let b = d.back in
      elim (dec_lt (suc v) c) [
        | yes y ↦ y
        | no y ↦ (let q : c ≡ suc v = omega arith in let z : E ws (suc (suc v)) ≡ E ws v = rw q at b in absurd (omega (zsum, v_up)))
      ]

  pub first_child_lem : first_child ws n v ≡ next (child_of ws n v) n 0
  unfolding first_child
  first_child_lem = go (turn ws n (suc v) low)
    where
      go : Up ws n (suc v) ⊎ Down ws n (suc v) → first_child ws n v ≡ next (child_of ws n v) n 0
      go (inl w) =
          rw (add-one v, w.open_is, first_child)
          (sym (next_is (child_of ws n v) n 0 (suc v) (omega arith) low (is_kid (suc v) (omega arith) (deeper w) w.open_is v_up)
          (λ x a b. no_kid x (λ k. omega arith))))
      go (inr w) =
          rw (add-one v, w.open_is, first_child)
          (sym (next_none (child_of ws n v) n 0 (λ x a b. no_kid x (λ k. let q = leaf w in omega arith))))

  -- ---- the child after w, where b is the close of w
  module _ (w b : ℕ) (k : Kid ws n v c w) (g : Closed ws n w b) where
    inner : b < c
    inner =
        let e = g.back in
        elim (dec_lt b c) [
          | yes y ↦ y
          | no y ↦ elim (dec_lt c b) [
            | yes z ↦ (let m = g.over (suc c) (omega arith) z in absurd (omega zsum))
            | no z ↦ (let u : b ≡ c = omega arith in let m : E ws (suc c) ≡ E ws w = rw u at e in absurd (omega zsum))
          ]
        ]

    -- No child of v lies between w and its close.
    under : (x : ℕ) → w < x → x ≤ b → Kid ws n v c x → ⊥
    under x a l y = let m = g.over x a l in omega zsum

    -- Position b + 1 is another child, or it is the close of v.
    still : Up ws n (suc b) → suc b < c
    still u =
        let f = d.back in
        let i = inner in
        elim (dec_lt (suc b) c) [
          | yes y ↦ y
          | no y ↦ (let z : c ≡ suc b = omega arith in let m : E ws (suc (suc b)) ≡ E ws v = rw z at f in absurd (omega zsum))
        ]

    ended : Down ws n (suc b) → c ≤ suc b
    ended u = elim (dec_lt (suc b) c) [
      | yes y ↦ (let m = d.over (suc (suc b)) (omega arith) y in absurd (omega zsum))
      | no y ↦ omega arith
    ]

    after_close : Up ws n (suc b) ⊎ Down ws n (suc b) → handle_at ws n (suc b) ≡ next (child_of ws n v) n (suc w)
    after_close (inl u) =
        let i = still u in
        rw u.open_is
        (sym (next_is (child_of ws n v) n (suc w) (suc b) (omega arith) (omega arith) (is_kid (suc b) (omega arith) i u.open_is (omega zsum))
        (λ x a m. no_kid x (under x a (omega arith)))))
    after_close (inr u) =
        let i = ended u in
        rw u.open_is (sym (next_none (child_of ws n v) n (suc w) (λ x a m. no_kid x (λ y. under x a (omega arith) y))))

  pub next_sibling_lem : (w : ℕ) → child_of ws n v w ≡ true → next_sibling ws n (defined ws n) w ≡ next (child_of ws n v) n (suc w)
  unfolding next_sibling
  next_sibling_lem w h =
      let k = kid w h in
      let (b, g) = closing ws n t w k.open_is in
      let i = inner w b k g in
      ap (λ (a : Answer). onward a (λ e. handle_at ws n (e + 1))) g.is ∙ rw (add-one b) (after_close w b k g (turn ws n (suc b) (omega arith)))

  -- ---- backward
  -- `open` from y finds the last handle of depth E(v) + 1 below y. Since v + 1 is a child, this handle is a child too.
  last_kid : (y m : ℕ) → Up ws n (suc v) → suc v < y → y ≤ c → y ≤ m → ((x : ℕ) → y ≤ x → x < m → Kid ws n v c x → ⊥)
      → E ws y ≡ E ws v +ℤ pos 1 +ℤ pos 1 → bwd ws n y (negsuc 0) ≡ prev (child_of ws n v) m
  last_kid y m u a b l f e =
      open_deep ws n (E ws v +ℤ pos 1) y (omega arith) e
      ∙ prev_same (at_depth ws n (E ws v +ℤ pos 1)) (child_of ws n v) (suc v) y a (at_depth_lem ws n (E ws v +ℤ pos 1) (suc v) u.open_is v_up)
      (λ x p q. between x p (omega arith))
      ∙ sym (prev_skip (child_of ws n v) y m l (λ x p q. no_kid x (f x p q)))

  -- The excess before the close c is E(v) + 1; and the bit before c is a close bit, if it is not the bit at v.
  c_deep : E ws c ≡ E ws v +ℤ pos 1
  c_deep =
      let r = d.right in
      let z = d.over c r (omega arith) in
      elim (turn ws n c d.low) [ inl u ↦ absurd (omega zsum) | inr u ↦ omega zsum ]

  close_before : suc v < c → Down ws n (c - 1)
  close_before i =
      let w : suc (c - 1) ≡ c = omega arith in
      let z = d.over (c - 1) (omega arith) (omega arith) in
      elim (turn ws n (c - 1) (omega arith)) [
        | inl u ↦ (let e : E ws c ≡ E ws (c - 1) +ℤ pos 1 = rw w at u.step in absurd (omega (zsum, c_deep)))
        | inr u ↦ u
      ]

  -- No position has both an open bit and a close bit.
  clash : (x y : ℕ) → x ≡ y → opens ws n x ≡ true → opens ws n y ≡ false → ⊥
  clash x y q a b = never_true (sym b ∙ ap (opens ws n) (sym q) ∙ a)

  apart : (x y : ℕ) → Up ws n x → Down ws n y → x ≤ y → x < y
  apart x y u w l = elim (dec_lt x y) [
    | yes z ↦ z
    | no z ↦ absurd (clash x y (omega arith) u.open_is w.open_is)
  ]

  pub last_child_lem : last_child ws n (defined ws n) v ≡ prev (child_of ws n v) n
  unfolding last_child
  last_child_lem = go (turn ws n (suc v) low)
    where
      go : Up ws n (suc v) ⊎ Down ws n (suc v) → last_child ws n (defined ws n) v ≡ prev (child_of ws n v) n
      go (inl u) =
          let i = deeper u in
          let w : suc (c - 1) ≡ c = omega arith in
          let z = close_before i in
          let e : E ws c +ℤ pos 1 ≡ E ws (c - 1) = rw w at z.step in
          rw (add-one v, u.open_is, last_child, d.is)
          (last_kid (c - 1) n u (apart (suc v) (c - 1) u z (omega arith)) (omega arith) (omega arith)
          (λ x a b k. clash x (c - 1) (omega arith) k.open_is z.open_is)
          (omega (zsum, c_deep, plus (E ws v) (pos 1))))
      go (inr u) = rw (add-one v, u.open_is, last_child) (sym (prev_none (child_of ws n v) n (λ x a. no_kid x (λ k. let q = leaf u in omega arith))))

  pub previous_sibling_lem : (w : ℕ) → child_of ws n v w ≡ true → previous_sibling ws n (defined ws n) w ≡ prev (child_of ws n v) w
  unfolding previous_sibling
  previous_sibling_lem w h = go (turn ws n (w - 1) (omega (arith, l)))
    where
      k : Kid ws n v c w
      k = kid w h

      l : (v < w) × (w < c) × (c < n)
      l = (k.right, k.inner, d.low)

      q : suc (w - 1) ≡ w
      q = omega (arith, l)

      some : ltb 0 w ≡ true
      some = lt-ltb 0 w (omega (arith, l))

      e : E ws w ≡ E ws v +ℤ pos 1
      e = k.deep

      first_up : Up ws n (suc v)
      first_up = elim (turn ws n (suc v) low) [ inl u ↦ u | inr u ↦ (let z = leaf u in absurd (omega (arith, l))) ]

      go : Up ws n (w - 1) ⊎ Down ws n (w - 1) → previous_sibling ws n (defined ws n) w ≡ prev (child_of ws n v) w
      go (inl u) =
          let f : E ws w ≡ E ws (w - 1) +ℤ pos 1 = rw q at u.step in
          let m : w ≡ suc v = elim (dec_lt (suc v) w) [
            | yes y ↦ (let z = d.over (w - 1) (omega (arith, l)) (omega (arith, l)) in absurd (omega (zsum, e)))
            | no y ↦ omega (arith, l)
          ] in
          rw (some, u.close_is, previous_sibling) (sym (prev_none (child_of ws n v) w (λ x a. no_kid x (λ y. omega arith))))
      go (inr u) =
          let f : E ws w +ℤ pos 1 ≡ E ws (w - 1) = rw q at u.step in
          let m : v < w - 1 = apart v (w - 1) (opens_up ws n v o) u (omega (arith, l)) in
          rw (some, u.close_is, previous_sibling)
          (last_kid (w - 1) w first_up (apart (suc v) (w - 1) first_up u m) (omega (arith, l)) (omega arith)
          (λ x a b y. clash x (w - 1) (omega (arith, l)) y.open_is u.open_is)
          (omega (zsum, e, plus (E ws v) (pos 1))))
