-- Laws of the descent as the code makes it: without the count of examined nodes, by the answers of the children, several levels per call.
--   Reached: a claim holds for the node that a descent reaches
--   descend_count: the count does not change the result
--   by_first, by_second: the result of one level for each answer of the first child, and of the second
--   down_near, down_none, down_err: one level down, if the first child qualifies, does not exist, or is out of range
--   past_room: after a passed first child, the remainder has room for the second
--   down_far, down_lost, down_far_err: one level down, if the second child qualifies, does not, or is out of range
--   on_down: the descent goes on by b levels
--   descended_leaf: a descent with no level left stays at its node
--   kept: a claim that holds for the children of a node if it holds for the node also holds for the node reached
--   told_then: a descent by a levels and then by b levels is the descent by a + b levels
--   told_left: after the a levels a descent by the b levels left can begin
--   one_err, one_left, one_on: after the first call of `down_two`, a refusal, the second call's condition and its result
--   two_err, two_left: the same after the first call of `descend`
--   four_err, four_end, four_left, four_on: the same after its second call, and its result if no level is left
--   Landed, landed: the node that a descent reaches exists and is a block leaf, and the remainder has room for the bits of its block
-- Assumes nothing.
use mathlib.Core.Path.{◌≡◌, refl, sym, ap, ◌∙◌}
use mathlib.Core.Logic.{◌⊎◌, ⊎_elim}
use mathlib.Core.Bool.{true}
use mathlib.Core.List.{List}
use Prim.Native.Nat.{ℕ, zero, suc, ◌+◌, ◌-◌, ◌*◌, ◌≤◌, ◌<◌, min}
use native.Mathlib.Nat.{zero-add, add-zero, suc-add}
use native.Mathlib.Omega.{arith}
use borrow.Author.Tests.{leb-false}
use lib.Dec.{leb}
use lib.IntN.{ℤ}
use mir.Syntax.{w64}
use mir.Val.{to_z, of_z}
use Rattle.std.specs.Prelude.{Result, Ok, Err}
use Rattle.std.proofs.lemmas.Bool.{cond_both}
use Rattle.row.specs.Way.{Way}
use Rattle.row.specs.declared.refusal.Refusal.{Refusal}
use Rattle.row.specs.declared.refusal.Refusal.TheVariants.{NodesMisfit}
use Rattle.bits_stretch.specs.declared.summary.Summary.{Summary}
use Rattle.bits_stretch.specs.Scan.{order, passed}
use Rattle.mmt_node.specs.Nodes.{node_at}
use Rattle.mmt_layout.proofs.Places.{Place}
use Rattle.bits_stretch.specs.Summary.{holds_on}
use Rattle.walk_spec.specs.Walk.{fits, Descent, nearer, farther, descend}
use Rattle.walk_spec.proofs.Ways.{met, near_place, far_place, alike}
use Rattle.walk_spec.proofs.Steps.{descend_leaf}
use Rattle.walk_examine.specs.declared.node.Asked.{Asked}
use Rattle.walk_examine.specs.declared.node.Asked.TheVariants.{Here, Past, Absent}
use Rattle.walk_examine.specs.Asked.{asked_of, Room}
use Rattle.walk_examine.proofs.Asks.{passed_size, back, says, past_size}
use Rattle.walk_descend.specs.declared.Leaf.{Leaf}
use Rattle.walk_descend.specs.Descended.{descended_of, Descends}

-- the claim P holds for the node that a descent reaches with b levels left
abbrev pub Reached : (ℕ → ℕ → ℤ → Type 0) → ℕ → Result Leaf Refusal → Type 0
Reached P b (Ok l) = P b l.node l.remainder
Reached P b (Err e) = Unit {0}

module _ (w : Way) (m : ℕ) (s : List ℤ) where
  -- ---- the count
  pub descend_count : (h k : ℕ) (r : ℤ) (c d : ℕ) → descended_of (descend w m s h k r c) ≡ descended_of (descend w m s h k r d)
  unfolding descend
  descend_count zero k r c d = refl
  descend_count (suc h) k r c d =
      let x = node_at s (nearer w k) in
      let y = node_at s (farther w k) in
      let q = passed w r x.total in
      alike descended_of descended_of (leb m (nearer w k)) refl
      (alike descended_of descended_of (fits x) (alike descended_of descended_of (holds_on w x r) (descend_count h (nearer w k) r (suc c) (suc d))
      (alike descended_of descended_of (leb m (farther w k)) refl
      (alike descended_of descended_of (fits y)
      (alike descended_of descended_of (holds_on w y q) (descend_count h (farther w k) q (suc (suc c)) (suc (suc d))) refl) refl))) refl)

  -- ---- down by one level, to the child i or, if that one is passed, to the child j
  module _ (i j : ℕ) where
    -- the result of one level for each answer of the second child, which is asked for q
    abbrev pub by_second : ℤ → Result Asked Refusal → Result Leaf Refusal
    by_second q (Ok Here) = Ok (record { node = j; remainder = q })
    by_second q (Ok (Past z)) = Err NodesMisfit
    by_second q (Ok Absent) = Err NodesMisfit
    by_second q (Err e) = Err e

    -- the result of one level for each answer of the first child, which is asked for r
    abbrev pub by_first : ℤ → Result Asked Refusal → Result Leaf Refusal
    by_first r (Ok Here) = Ok (record { node = i; remainder = r })
    by_first r (Ok (Past q)) = by_second q (asked_of w m s j q)
    by_first r (Ok Absent) = Err NodesMisfit
    by_first r (Err e) = Err e

  down_asked : (k : ℕ) (r : ℤ) → by_first (nearer w k) (farther w k) r (asked_of w m s (nearer w k) r) ≡ descended_of (descend w m s 1 k r 0)
  unfolding asked_of descend
  down_asked k r =
      let x = node_at s (nearer w k) in
      let y = node_at s (farther w k) in
      let q = passed w r x.total in
      let first = by_first (nearer w k) (farther w k) r in
      let second = by_second (nearer w k) (farther w k) q in
      alike first descended_of (leb m (nearer w k)) refl
      (alike first descended_of (fits x) (alike first descended_of (holds_on w x r) refl
      (alike second descended_of (leb m (farther w k)) refl
      (alike second descended_of (fits y) (alike second descended_of (holds_on w y q) refl refl) refl))) refl)

  -- the code puts the two children in the order in which they are met; the machine reads the remainder back from 64 bits
  module _ (k : ℕ) (r : ℤ) (o : Room 1 r) {n : ℕ × ℕ} (d : n ≡ order w (2 * k + 1) (2 * k + 2))
      {a : Result Asked Refusal} (p : a ≡ asked_of w m s n.0 (to_z w64 (of_z w64 r))) where
    asked : a ≡ asked_of w m s n.0 r
    asked = rw (back 1 r o) at p

    abbrev Down : Result Leaf Refusal → Type 0
    Down x = x ≡ descended_of (descend w m s 1 k r 0)

    first : {b : Result Asked Refusal} → a ≡ b → Down (by_first n.0 n.1 r b)
    first e = rw (sym e, asked, d, met w k) (down_asked k r)

    pub down_near : a ≡ Ok Here → Down (Ok (record { node = n.0; remainder = to_z w64 (of_z w64 r) }))
    down_near e = rw (back 1 r o) (first e)

    pub down_none : a ≡ Ok Absent → Down (Err NodesMisfit)
    down_none = first

    pub down_err : {e : Refusal} → a ≡ Err e → Down (Err e)
    down_err = first

    module _ (q : ℤ) (e : a ≡ Ok (Past q)) where
      -- after a passed first child, the remainder has room for the second
      past : Room 0 q
      past = omega (arith, past_size w m s n.0 r q (says w m s n.0 r (sym asked ∙ e)))

      pub past_room : Room 0 (to_z w64 (of_z w64 q))
      past_room = rw (back 0 q past) past

      module _ {c : Result Asked Refusal} (f : c ≡ asked_of w m s n.1 (to_z w64 (of_z w64 q))) where
        second : {b : Result Asked Refusal} → c ≡ b → Down (by_second n.0 n.1 q b)
        second g = rw (sym g, rw (back 0 q past) at f) (first e)

        pub down_far : c ≡ Ok Here → Down (Ok (record { node = n.1; remainder = to_z w64 (of_z w64 q) }))
        down_far g = rw (back 0 q past) (second g)

        pub down_lost : {b : Asked} → c ≡ Ok b → ((z : ℤ) × (b ≡ Past z)) ⊎ (b ≡ Absent) → Down (Err NodesMisfit)
        down_lost g = ⊎_elim (λ u. second (rw u.1 at g)) (λ u. second (rw u at g))

        pub down_far_err : {e : Refusal} → c ≡ Err e → Down (Err e)
        down_far_err = second

  -- ---- down by a levels, then by b levels
  abbrev pub on_down : ℕ → Result Leaf Refusal → Result Leaf Refusal
  on_down b (Ok l) = descended_of (descend w m s b l.node l.remainder 0)
  on_down b (Err e) = Err e

  then_down : (a b k : ℕ) (r : ℤ) (c : ℕ) → on_down b (descended_of (descend w m s a k r c)) ≡ descended_of (descend w m s (a + b) k r c)
  unfolding descend
  then_down zero b k r c = rw (zero-add b) (descend_count b k r 0 c)
  then_down (suc a) b k r c =
      let lower : Descent → Result Leaf Refusal = (λ d. on_down b (descended_of d)) in
      let x = node_at s (nearer w k) in
      let y = node_at s (farther w k) in
      let q = passed w r x.total in
      rw (suc-add a b)
      (alike lower descended_of (leb m (nearer w k)) refl
      (alike lower descended_of (fits x) (alike lower descended_of (holds_on w x r) (then_down a b (nearer w k) r (suc c))
      (alike lower descended_of (leb m (farther w k)) refl
      (alike lower descended_of (fits y) (alike lower descended_of (holds_on w y q) (then_down a b (farther w k) q (suc (suc c))) refl) refl))) refl))

  pub descended_leaf : (h k : ℕ) (r : ℤ) → h ≡ 0 → Ok (record { node = k; remainder = r }) ≡ descended_of (descend w m s h k r 0)
  descended_leaf h k r z = ap descended_of (descend_leaf w m s h k r 0 z)

  -- ---- a claim about the levels left, the node and the remainder; if it holds for a node, it holds for both children
  module _ (P : ℕ → ℕ → ℤ → Type 0)
      (near : (h k : ℕ) (r : ℤ) → nearer w k < m → P (suc h) k r → P h (nearer w k) r)
      (far : (h k : ℕ) (r : ℤ) (x : Summary) → fits x ≡ true → farther w k < m → P (suc h) k r → P h (farther w k) (passed w r x.total)) where
    kept : (a b k : ℕ) (r : ℤ) (c : ℕ) → P (a + b) k r → Reached P b (descended_of (descend w m s a k r c))
    unfolding descend
    kept zero b k r c p = rw (zero-add b) at p
    kept (suc a) b k r c p =
        let Q : Descent → Type 0 = (λ d. Reached P b (descended_of d)) in
        let i = nearer w k in
        let j = farther w k in
        let x = node_at s i in
        let y = node_at s j in
        let q = passed w r x.total in
        let o : P (suc (a + b)) k r = rw (suc-add a b) at p in
        cond_both (leb m i) _ _ Q (λ u. tt)
        (λ u. cond_both (fits x) _ _ Q
        (λ g. cond_both (holds_on w x r) _ _ Q (λ v. kept a b i r (suc c) (near (a + b) k r (leb-false m i u) o))
        (λ v. cond_both (leb m j) _ _ Q (λ e. tt)
        (λ e. cond_both (fits y) _ _ Q
        (λ d. cond_both (holds_on w y q) _ _ Q (λ v. kept a b j q (suc (suc c)) (far (a + b) k r x g (leb-false m j e) o)) (λ v. tt))
        (λ d. tt))))
        (λ g. tt))

  -- ---- h levels in two parts: a levels by a call with the result c, and the b levels left
  module _ (a b h k : ℕ) (r : ℤ) (z : h ≡ a + b) {c : Result Leaf Refusal} (p : c ≡ descended_of (descend w m s a k r 0)) where
    told_then : {d : Result Leaf Refusal} → c ≡ d → on_down b d ≡ descended_of (descend w m s h k r 0)
    told_then e = rw (z, sym e, p) (then_down a b k r 0)

    module _ (l : Leaf) (e : c ≡ Ok l) (t : Descends m k h r) where
      fallen : (l.node < m) × Room b l.remainder
      fallen =
          rw (sym p ∙ e) at
          (kept (λ g j q. (j < m) × Room g q) (λ g j q u p. let v = p.1 in (u, omega arith))
          (λ g j q x y u p. let v = p.1 in (u, omega (arith, passed_size w q x y))) a b k r 0 (t.inside, rw z at t.room))

      told_left : Descends m l.node b l.remainder
      told_left = record { inside = fallen.0; few = t.few; room = fallen.1 }

  -- ---- the calls of `down_two` by up to two levels, h of them in all
  module _ (h k : ℕ) (some : 0 < h) (r : ℤ) (t : Descends m k h r)
      {c : Result Leaf Refusal} (p : c ≡ descended_of (descend w m s 1 k (to_z w64 (of_z w64 r)) 0)) where
    went : c ≡ descended_of (descend w m s 1 k r 0)
    went = rw (back h r t.room) at p

    one_then : {x : Result Leaf Refusal} → c ≡ x → on_down (min h 2 - 1) x ≡ descended_of (descend w m s (min h 2) k r 0)
    one_then = told_then 1 (min h 2 - 1) (min h 2) k r (omega arith) went

    pub one_err : {e : Refusal} → c ≡ Err e → Err e ≡ descended_of (descend w m s (min h 2) k r 0)
    one_err = one_then

    module _ (l : Leaf) (e : c ≡ Ok l) where
      left : Descends m l.node (h - 1) l.remainder
      left = told_left 1 (h - 1) h k r (omega arith) went l e t

      pub one_left : 1 < h → Descends m l.node 1 (to_z w64 (of_z w64 l.remainder))
      one_left o = rw (back (h - 1) l.remainder left.room) (record { inside = left.inside; few = left.few; room = (let q = left.room in omega arith) })

      pub one_on : 1 < h → {x : Result Leaf Refusal} → x ≡ descended_of (descend w m s 1 l.node (to_z w64 (of_z w64 l.remainder)) 0)
          → x ≡ descended_of (descend w m s (min h 2) k r 0)
      one_on o q =
          let d : min h 2 - 1 ≡ 1 = omega arith in
          (rw (back (h - 1) l.remainder left.room) at q) ∙ (rw d at (one_then e))

  -- ---- the calls of `descend` by h levels, each of which goes down by up to two
  module _ (h k : ℕ) (r : ℤ) (t : Descends m k h r) {c : Result Leaf Refusal} (p : c ≡ descended_of (descend w m s (min h 2) k r 0)) where
    two_then : {d : Result Leaf Refusal} → c ≡ d → on_down (h - 2) d ≡ descended_of (descend w m s h k r 0)
    two_then = told_then (min h 2) (h - 2) h k r (omega arith) p

    pub two_err : {e : Refusal} → c ≡ Err e → Err e ≡ descended_of (descend w m s h k r 0)
    two_err = two_then

    module _ (l : Leaf) (e : c ≡ Ok l) where
      left₂ : Descends m l.node (h - 2) l.remainder
      left₂ = told_left (min h 2) (h - 2) h k r (omega arith) p l e t

      pub two_left : Descends m l.node (h - 2) (to_z w64 (of_z w64 l.remainder))
      two_left = rw (back (h - 2) l.remainder left₂.room) left₂

      module _ {d : Result Leaf Refusal} (q : d ≡ descended_of (descend w m s (min (h - 2) 2) l.node (to_z w64 (of_z w64 l.remainder)) 0)) where
        went₂ : d ≡ descended_of (descend w m s (min (h - 2) 2) l.node l.remainder 0)
        went₂ = rw (back (h - 2) l.remainder left₂.room) at q

        four_then : {x : Result Leaf Refusal} → d ≡ x → on_down (h - 4) x ≡ descended_of (descend w m s h k r 0)
        four_then u = told_then (min (h - 2) 2) (h - 4) (h - 2) l.node l.remainder (omega arith) went₂ u ∙ two_then e

        pub four_err : {e : Refusal} → d ≡ Err e → Err e ≡ descended_of (descend w m s h k r 0)
        four_err = four_then

        module _ (i : Leaf) (u : d ≡ Ok i) where
          pub four_end : h ≤ 4 → Ok i ≡ descended_of (descend w m s h k r 0)
          four_end o = descended_leaf (h - 4) i.node i.remainder (omega arith) ∙ four_then u

          left₄ : Descends m i.node (h - 4) i.remainder
          left₄ = told_left (min (h - 2) 2) (h - 4) (h - 2) l.node l.remainder (omega arith) went₂ i u left₂

          pub four_left : Descends m i.node (h - 4) (to_z w64 (of_z w64 i.remainder))
          four_left = rw (back (h - 4) i.remainder left₄.room) left₄

          pub four_on : {x : Result Leaf Refusal} → x ≡ descended_of (descend w m s (h - 4) i.node (to_z w64 (of_z w64 i.remainder)) 0)
              → x ≡ descended_of (descend w m s h k r 0)
          four_on z = (rw (back (h - 4) i.remainder left₄.room) at z) ∙ four_then u

-- ---- the end of a descent; t is the height of the root

-- the node exists and is a block leaf, and the remainder has room for the bits of its block
abbrev pub Landed : ℕ → ℕ → Result Leaf Refusal → Type 0
Landed m t d = Reached (λ g j q. (j < m) × Place t g j × Room g q) 0 d

module _ (w : Way) (m : ℕ) (s : List ℤ) (t : ℕ) where
  pub landed : (h k : ℕ) (r : ℤ) (c : ℕ) → k < m → Place t h k → Room h r → Landed m t (descended_of (descend w m s h k r c))
  landed h k r c l p o =
      kept w m s (λ g j q. (j < m) × Place t g j × Room g q) (λ g j q u v. let n = v.2 in (u, near_place t w g j v.1, omega arith))
      (λ g j q x y u v. let n = v.2 in (u, far_place t w g j v.1, omega (arith, passed_size w q x y))) h 0 k r c (rw (add-zero h) (l, p, o))
