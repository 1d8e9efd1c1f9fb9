-- The walk reads no bit from position n on and no min-max node after the last one. So it is the same walk over two rows with the same first n
-- bits and two buffers with the same min-max nodes.
--   scan_same: a scan inside the row
--   Alike: two buffers have the same first m min-max nodes; asked_same: a step that examines a min-max node, if it exists
--   climb_same: the climb, by induction on the steps allowed; descend_same: the descent, by induction on the levels left
--   start_same: the scan of the start block
--   in_start_same, after_same, land_same, leaf_same: the walk after that scan, after the climb, after the descent, after the target block
--   walk_same: the walk; searches_same: both searches
-- Assumes nothing.
use mathlib.Core.Path.{◌≡◌, refl, ap, ◌∙◌}
use mathlib.Core.Bool.{Bool, true, false, cond}
use mathlib.Core.List.{List}
use Prim.Native.Nat.{ℕ, zero, suc, ◌+◌, ◌-◌, ◌*◌, ◌/◌, ◌≤◌, ◌<◌, min}
use native.Mathlib.Omega.{arith}
use borrow.Author.Tests.{leb-false}
use lib.Dec.{leb, eqb}
use lib.IntN.{ℤ, pos}
use Rattle.ints.specs.Order.{eq_z}
use Rattle.row.specs.Answer.{nothing}
use Rattle.row.specs.Bits.{bit_at}
use Rattle.row.specs.Way.{Way, forward, backward}
use Rattle.row.proofs.Surplus.{Same}
use Rattle.bits_stretch.specs.Scan.{Scanned}
use Rattle.std.specs.declared.ops.ControlFlow.TheVariants.{Break, Continue}
use Rattle.bits_stretch.specs.Scan.{less, scan}
use Rattle.mmt_layout.specs.Layout.{inner, count}
use Rattle.mmt_node.specs.Nodes.{node_at}
use Rattle.walk_spec.specs.Walk.{examine, Climb, turn, out, misfit, last_sibling, sibling_beyond, climb, Descent, leaf, lost, nearer, farther, descend, Walk, found, far, ends_at_once, start_block, start_scan, in_leaf, land, after_climb, in_start, walk}
use Rattle.walk_spec.proofs.Right.{inside}
use Rattle.bp_spec.specs.SearchPair.{walked}

-- ---- a scan
scan_same : (w : Way) (f g : ℕ → ℕ) (n : ℕ) → ((k : ℕ) → k < n → f k ≡ g k) → (c a : ℕ) (r : ℤ) → (0 < c → a + c ≤ n)
    → scan w f c a r ≡ scan w g c a r
unfolding scan
scan_same w f g n e zero a r h = refl
scan_same forward f g n e (suc c) a r h =
    let l = h (omega arith) in
    let q = less forward r (g a) in
    rw (e a (omega arith))
    (ap (λ (x : Scanned). cond (eq_z q (pos 0)) (Break a) x) (scan_same forward f g n e c (suc a) q (λ u. omega arith)))
scan_same backward f g n e (suc c) a r h =
    let l = h (omega arith) in
    let q = less backward r (g (a + c)) in
    rw (e (a + c) (omega arith))
    (ap (λ (x : Scanned). cond (eq_z q (pos 0)) (Break (a + c)) x) (scan_same backward f g n e c a q (λ u. omega arith)))

-- ---- the min-max nodes
-- Both buffers have the same first m min-max nodes.
abbrev pub Alike : List ℤ → List ℤ → ℕ → Type 0
Alike s t m = (k : ℕ) → k < m → node_at s k ≡ node_at t k

module _ (w : Way) (s t : List ℤ) (m : ℕ) (e : Alike s t m) where
  -- A min-max node after the last one is not examined.
  asked_same : {A : Type 0} (k : ℕ) (r : ℤ) (none bad here here' : A) (past past' : ℤ → A) → here ≡ here' → ((q : ℤ) → past q ≡ past' q)
      → cond (leb m k) none (examine w (node_at s k) r bad here past) ≡ cond (leb m k) none (examine w (node_at t k) r bad here' past')
  asked_same {A} k r none bad here here' past past' p f = go (leb m k) refl
    where
      go : (b : Bool) → leb m k ≡ b
          → cond b none (examine w (node_at s k) r bad here past) ≡ cond b none (examine w (node_at t k) r bad here' past')
      go true q = refl
      go false q = let y = e k (leb-false m k q) in λ i. examine w (y i) r bad (p i) (λ z. f z i)

  climb_same : (f h k : ℕ) (r : ℤ) (c : ℕ) → climb w m s f h k r c ≡ climb w m t f h k r c
  unfolding climb
  climb_same zero h k r c = refl
  climb_same (suc f) h k r c =
      let up = climb_same f (suc h) ((k - 1) / 2) in
      let j = sibling_beyond w k in
      let on = asked_same j r (out c) misfit (turn j h r (suc c)) (turn j h r (suc c)) _ _ refl (λ q. up q (suc c)) in
      λ i. cond (eqb k 0) (out c) (cond (last_sibling w k) (up r c i) (on i))

  descend_same : (h k : ℕ) (r : ℤ) (c : ℕ) → descend w m s h k r c ≡ descend w m t h k r c
  unfolding descend
  descend_same zero k r c = refl
  descend_same (suc h) k r c =
      asked_same (nearer w k) r lost lost _ _ _ _ (descend_same h (nearer w k) r (suc c))
      (λ q. asked_same (farther w k) q lost lost _ _ (λ z. lost) (λ z. lost) (descend_same h (farther w k) q (suc (suc c))) (λ z. refl))

-- ---- the whole walk
module _ (ws vs : List ℕ) (n : ℕ) (s t : List ℤ) (B : ℕ) (same : Same ws vs n) (e : Alike s t (count n B)) where
  start_same : (w : Way) (i : ℕ) (r : ℤ) → ends_at_once w n i ≡ false → start_scan w ws n B i r ≡ start_scan w vs n B i r
  start_same forward i r z =
      scan_same forward (bit_at ws) (bit_at vs) n same (min n (((i + 1) / B + 1) * B) - (i + 1)) (i + 1) r (λ u. omega arith)
  start_same backward i r z =
      let l = inside backward n i z in
      scan_same backward (bit_at ws) (bit_at vs) n same (i - (i - 1) / B * B) ((i - 1) / B * B) r (λ u. omega arith)

  module _ (w : Way) where
    leaf_same : (x : Scanned) (c : ℕ) → in_leaf w ws n s B x c ≡ in_leaf w vs n t B x c
    leaf_same (Break j) c = refl
    leaf_same (Continue q) c = refl

    land_same : (d : Descent) → land w ws n s B d ≡ land w vs n t B d
    land_same (leaf k r c) =
        let b = k - inner n B in
        let m = min B (n - b * B) in
        leaf_same (scan w (bit_at ws) m (b * B) r) c
        ∙ ap (λ (x : Scanned). in_leaf w vs n t B x c) (scan_same w (bit_at ws) (bit_at vs) n same m (b * B) r (λ u. omega arith))
    land_same lost = refl

    after_same : (x : Climb) → after_climb w ws n s B x ≡ after_climb w vs n t B x
    after_same (turn k h r c) = land_same (descend w (count n B) s h k r c) ∙ ap (land w vs n t B) (descend_same w s t (count n B) e h k r c)
    after_same (out c) = refl
    after_same misfit = refl

    in_start_same : (b : ℕ) (x : Scanned) → in_start w ws n s B b x ≡ in_start w vs n t B b x
    in_start_same b (Break j) = refl
    in_start_same b (Continue q) =
        let k = inner n B + b in
        after_same (climb w (count n B) s k 0 k q 0) ∙ ap (after_climb w vs n t B) (climb_same w s t (count n B) e k 0 k q 0)

    pub walk_same : (i : ℕ) (r : ℤ) → walk w ws n s B i r ≡ walk w vs n t B i r
    unfolding walk
    walk_same i r = go (ends_at_once w n i) refl
      where
        b : ℕ
        b = start_block w B i

        go : (y : Bool) → ends_at_once w n i ≡ y
            → cond y (found nothing 0) (cond (far n r) (found nothing 0) (in_start w ws n s B b (start_scan w ws n B i r)))
            ≡ cond y (found nothing 0) (cond (far n r) (found nothing 0) (in_start w vs n t B b (start_scan w vs n B i r)))
        go true z = refl
        go false z =
            ap (λ (x : Walk). cond (far n r) (found nothing 0) x)
            (in_start_same b (start_scan w ws n B i r) ∙ ap (in_start w vs n t B b) (start_same w i r z))

  pub searches_same : walked ws n s B ≡ walked vs n t B
  searches_same = λ j. record { fwd = λ i r. (walk_same forward i r j).answer; bwd = λ i r. (walk_same backward i r j).answer }
