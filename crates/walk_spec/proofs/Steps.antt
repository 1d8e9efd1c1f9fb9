-- Climb and descent by cases, one law per branch of their definitions. A climb from node k is allowed k steps.
--   climb_root: at the root, the climb leaves the tree
--   enough: any number of allowed steps that is at least k gives the same climb
--   climb_up: at a node without a sibling beyond it, the climb goes on at the parent
--   climb_beside: at any other node the sibling beyond it decides
--   climb_alone, climb_turn, climb_pass: this sibling does not exist, qualifies, or is passed
--   descend_leaf: a descent with no level left stays at its node
--   descend_near, descend_far: the first child qualifies; the first child is passed and the second qualifies
-- Assumes nothing.
use mathlib.Core.Path.{◌≡◌, refl, sym}
use mathlib.Core.Bool.{true, false, cond}
use mathlib.Core.List.{List}
use Prim.Native.Nat.{ℕ, zero, suc, ◌+◌, ◌-◌, ◌/◌, ◌≤◌, ◌<◌}
use native.Mathlib.Omega.{arith}
use native.Mathlib.Numerals.{add-one, add-two}
use borrow.Author.Tests.{eq-eqb, ne_eqb, le-leb, lt-leb}
use lib.Dec.{leb, eqb}
use lib.IntN.{ℤ}
use Rattle.row.specs.Way.{Way}
use Rattle.bits_stretch.specs.declared.summary.Summary.{Summary}
use Rattle.bits_stretch.specs.Scan.{passed}
use Rattle.mmt_node.specs.Nodes.{node_at}
use Rattle.bits_stretch.specs.Summary.{holds_on}
use Rattle.walk_spec.specs.Walk.{fits, examine, Climb, turn, out, misfit, last_sibling, sibling_beyond, climb, Descent, leaf, lost, nearer, farther, descend}

module _ (w : Way) (m : ℕ) (s : List ℤ) where
  -- ---- the climb
  pub climb_root : (f h k : ℕ) (r : ℤ) (c : ℕ) → k ≡ 0 → out c ≡ climb w m s f h k r c
  unfolding climb
  climb_root zero h k r c z = refl
  climb_root (suc f) h k r c z = rw (eq-eqb k 0 z, climb)

  pub enough : (f g h k : ℕ) (r : ℤ) (c : ℕ) → k ≤ f → k ≤ g → climb w m s f h k r c ≡ climb w m s g h k r c
  unfolding climb
  enough zero g h k r c p q = climb_root g h k r c (omega arith)
  enough (suc f) zero h k r c p q = sym (climb_root (suc f) h k r c (omega arith))
  enough (suc f) (suc g) h k r c p q =
      let j = (k - 1) / 2 in
      rw (enough f g (suc h) j r c (omega arith) (omega arith), enough f g (suc h) j _ (suc c) (omega arith) (omega arith))

  -- the climb goes on at the parent
  abbrev parent : ℕ → ℕ → ℤ → ℕ → Climb
  parent h k q c = climb w m s ((k - 1) / 2) (h + 1) ((k - 1) / 2) q c

  abbrev step : ℕ → ℕ → ℤ → ℕ → Climb
  step h k r c =
      cond (eqb k 0) (out c)
      (cond (last_sibling w k) (parent h k r c)
      (cond (leb m (sibling_beyond w k)) (out c)
      (examine w (node_at s (sibling_beyond w k)) r misfit (turn (sibling_beyond w k) h r (c + 1)) (λ q. parent h k q (c + 1)))))

  climb_step : (h k : ℕ) (r : ℤ) (c : ℕ) → step h k r c ≡ climb w m s k h k r c
  unfolding climb
  climb_step h zero r c = refl
  climb_step h (suc k) r c =
      let p = (suc k - 1) / 2 in
      rw (add-one h, add-one c, enough p k (suc h) p r c (omega arith) (omega arith), enough p k (suc h) p _ (suc c) (omega arith) (omega arith))

  module _ (h k : ℕ) (r : ℤ) (c : ℕ) where
    module _ (z : k ≡ 0 → ⊥) where
      pub climb_up : last_sibling w k ≡ true → climb w m s ((k - 1) / 2) (h + 1) ((k - 1) / 2) r c ≡ climb w m s k h k r c
      climb_up e = rw (← climb_step h k r c, ne_eqb k 0 z, e)

      module _ (e : last_sibling w k ≡ false) where
        pub climb_beside : cond (leb m (sibling_beyond w k)) (out c)
            (examine w (node_at s (sibling_beyond w k)) r misfit (turn (sibling_beyond w k) h r (c + 1)) (λ q. parent h k q (c + 1))) ≡ climb w m s k h k r c
        climb_beside = rw (← climb_step h k r c, ne_eqb k 0 z, e)

        pub climb_alone : m ≤ sibling_beyond w k → out c ≡ climb w m s k h k r c
        climb_alone l = rw (le-leb m (sibling_beyond w k) l) at climb_beside

        module _ (l : sibling_beyond w k < m) where
          abbrev beside : Summary
          beside = node_at s (sibling_beyond w k)

          module _ (f : fits beside ≡ true) where
            pub climb_turn : holds_on w beside r ≡ true → turn (sibling_beyond w k) h r (c + 1) ≡ climb w m s k h k r c
            climb_turn y = rw (lt-leb m (sibling_beyond w k) l, f, y) at climb_beside

            pub climb_pass : holds_on w beside r ≡ false
                → climb w m s ((k - 1) / 2) (h + 1) ((k - 1) / 2) (passed w r beside.total) (c + 1) ≡ climb w m s k h k r c
            climb_pass y = rw (lt-leb m (sibling_beyond w k) l, f, y) at climb_beside

  -- ---- the descent
  module _ (h k : ℕ) (r : ℤ) (c : ℕ) where
    pub descend_leaf : h ≡ 0 → leaf k r c ≡ descend w m s h k r c
    unfolding descend
    descend_leaf z = rw z

    module _ (z : h ≡ 0 → ⊥) where
      abbrev first : Summary
      first = node_at s (nearer w k)

      abbrev other : Summary
      other = node_at s (farther w k)

      abbrev q : ℤ
      q = passed w r first.total

      abbrev fall : ℕ → Descent
      fall g =
          cond (leb m (nearer w k)) lost
          (examine w first r lost (descend w m s g (nearer w k) r (c + 1)) (λ q. cond (leb m (farther w k)) lost
          (examine w other q lost (descend w m s g (farther w k) q (c + 2)) (λ z. lost))))

      descend_step : (g : ℕ) → (g ≡ 0 → ⊥) → fall (g - 1) ≡ descend w m s g k r c
      unfolding descend
      descend_step zero z = absurd (z refl)
      descend_step (suc g) z = let e : suc g - 1 ≡ g = omega arith in rw (e, add-one c, add-two c)

      module _ (l : nearer w k < m) (f : fits first ≡ true) where
        pub descend_near : holds_on w first r ≡ true → descend w m s (h - 1) (nearer w k) r (c + 1) ≡ descend w m s h k r c
        descend_near t = rw (← descend_step h z, lt-leb m (nearer w k) l, f, t)

        module _ (t : holds_on w first r ≡ false) (o : farther w k < m) (g : fits other ≡ true) where
          pub descend_far : holds_on w other q ≡ true → descend w m s (h - 1) (farther w k) q (c + 2) ≡ descend w m s h k r c
          descend_far u = rw (← descend_step h z, lt-leb m (nearer w k) l, f, t, lt-leb m (farther w k) o, g, u)
