-- Over nodes as built, climb and descent find what a scan of the bits finds, in both directions.
--   node_fits: the entries of a node are in range
--   node_told: a node qualifies for a remainder exactly if a scan of its bits hits a position
--   down: a descent from a node whose bits contain the position answers it; by induction on the height
--   up: a climb from a node answers what a scan of the bits beyond the node hits; the measure is the index of the node
-- Assumes nothing.
use mathlib.Core.Path.{◌≡◌, refl, sym, ◌∙◌}
use mathlib.Core.Bool.{Bool, true, false}
use mathlib.Core.List.{List}
use Prim.Native.Nat.{ℕ, zero, suc, ◌+◌, ◌-◌, ◌*◌, ◌/◌, ◌≤◌, ◌<◌}
use native.Mathlib.Omega.{arith}
use native.Mathlib.Nat.{lt_of_not-le}
use native.Mathlib.Numerals.{add-one}
use native.Mathlib.Decide.{dec_lt, dec_le}
use lib.IntN.{ℤ, pos}
use Rattle.row.specs.Limits.{max_bits}
use Rattle.row.specs.Answer.{at}
use Rattle.row.specs.Bits.{bit_at}
use Rattle.row.specs.Way.{Way, forward, backward}
use Rattle.std.specs.declared.ops.ControlFlow.TheVariants.{Break, Continue}
use Rattle.bits_stretch.specs.Summary.{summary_of}
use Rattle.bits_stretch.specs.Scan.{passed}
use Rattle.bits_stretch.proofs.Parts.{scan_onward}
use Rattle.bits_stretch.proofs.Meets.{hit_answer}
use Rattle.mmt_layout.specs.Layout.{count}
use Rattle.mmt_node.specs.Nodes.{node_at, AsBuilt}
use Rattle.mmt_layout.proofs.Places.{Place, place_up}
use Rattle.mmt_node.proofs.Covered.{start_of, top, start_child, start_le, start_mono, absent, node_is}
use Rattle.walk_spec.specs.Walk.{fits, last_sibling, sibling_beyond, climb, nearer, farther, descend, land, after_climb}
use Rattle.walk_spec.proofs.Ways.{kin, near_place, far_place, side_place}
use Rattle.walk_spec.proofs.Steps.{climb_root, climb_up, climb_alone, climb_turn, climb_pass, descend_leaf, descend_near, descend_far}
use Rattle.walk_spec.proofs.Told.{Told, here, past, told_hit, summary_fit, numbers_told}
use Rattle.walk_spec.proofs.Stretches.{over, over_none, bits_of, rest_of, child_bounds, children, rest_last, rest_beside, rest_root, leaf_bits}

-- the position at which a walk enters the bits of node k: forward their start, backward their end
abbrev into : Way → ℕ → ℕ → ℕ → ℕ → ℕ
into forward n B h k = start_of n B h k
into backward n B h k = start_of n B h (suc k)

module _ (ws : List ℕ) (n : ℕ) (s : List ℤ) (B : ℕ) (pB : 0 < B) (some : 0 < n) (short : n ≤ max_bits) (built : AsBuilt ws n s B) where
  -- ---- which nodes exist, and where their bits begin
  present : (h k : ℕ) → Place (top n B) h k → start_of n B h k < n → k < count n B
  present h k p l = lt_of_not-le (λ z. omega (arith, absent n B pB some h k p z))

  -- a node whose bits contain a hit begins before n
  begins : (w : Way) (h k j : ℕ) (r : ℤ) → bits_of w ws n B h k r ≡ Break j → start_of n B h k < n
  begins w h k j r e =
      lt_of_not-le (λ z. let o = over_none (bit_at ws) w (start_of n B h k) (start_of n B h (suc k)) r (omega (arith, start_le n B pB h (suc k))) in
      let x : ◌≡◌ {A = ℕ} 0 1 = cc in
      omega arith)

  start_into : (w : Way) (h k : ℕ) → start_of n B h k ≤ into w n B h k
  start_into forward h k = omega arith
  start_into backward h k = start_mono n B pB h k

  into_near : (w : Way) (h k : ℕ) → into w n B h (nearer w k) ≡ into w n B (suc h) k
  into_near forward h k = start_child n B pB h k
  into_near backward h k = let e : suc (2 * k + 2) ≡ 2 * suc k + 1 = omega arith in rw e (start_child n B pB h (suc k))

  into_far : (w : Way) (h k j : ℕ) (r : ℤ) → start_of n B h (nearer w k) < n → bits_of w ws n B h (farther w k) r ≡ Break j → into w n B h (farther w k) < n
  into_far forward h k j r l e = begins forward h (2 * k + 2) j r e
  into_far backward h k j r l e = let d : suc (2 * k + 1) ≡ 2 * k + 2 = omega arith in rw d l

  -- if the sibling beyond node k does not exist, there are no bits beyond node k
  alone : (w : Way) (h k : ℕ) (r : ℤ) → Place (top n B) h (sibling_beyond w k) → start_of n B h k < n → (k ≡ 0 → ⊥) → count n B ≤ sibling_beyond w k
      → rest_of w ws n B h k r ≡ Continue r
  alone forward h k r p l z o = over_none (bit_at ws) forward (start_of n B h (suc k)) n r (omega (arith, rw add-one at (absent n B pB some h (k + 1) p o)))
  alone backward h k r p l z o =
      let e : suc (k - 1) ≡ k = omega arith in
      absurd (omega (arith, absent n B pB some h (k - 1) p o, rw e at (start_mono n B pB h (k - 1))))

  -- ---- what the entries of node k say about its bits
  module _ (h k : ℕ) (p : Place (top n B) h k) (i : k < count n B) where
    node : node_at s k ≡ summary_of (bit_at ws) (start_of n B h k) (start_of n B h (suc k) - start_of n B h k)
    node = node_is ws n s B pB some 0 built.node h k p (omega arith) i

    node_fits : fits (node_at s k) ≡ true
    node_fits = rw node (summary_fit (bit_at ws) (start_of n B h k) (start_of n B h (suc k) - start_of n B h k) (omega (arith, start_le n B pB h (suc k))))

    pub node_told : (w : Way) (r : ℤ) → (r ≡ pos 0 → ⊥) → Told w r (node_at s k) (bits_of w ws n B h k r)
    unfolding over
    node_told w r = rw node (numbers_told (bit_at ws) (start_of n B h k) w (start_of n B h (suc k) - start_of n B h k) r)

  module _ (w : Way) where
    -- ---- the descent

    -- a descent from any node at height h answers the position j that the scan of its bits hits
    abbrev Lands : ℕ → Type 0
    Lands h = (k j : ℕ) (r : ℤ) (c : ℕ) → Place (top n B) h k → into w n B h k < n → (r ≡ pos 0 → ⊥) → bits_of w ws n B h k r ≡ Break j
        → (land w ws n s B (descend w (count n B) s h k r c)).answer ≡ at j

    at_leaf : Lands 0
    at_leaf k j r c p l z e =
        rw (← descend_leaf w (count n B) s 0 k r c refl, ← leaf_bits ws n B pB some w k r p (present 0 k p (omega (arith, start_into w 0 k))), e)

    to_child : (h : ℕ) → Lands h → Lands (suc h)
    to_child h rec k j r c p l z e =
        let nz : suc h ≡ 0 → ⊥ = (λ o. omega arith) in
        let d : suc h - 1 ≡ h = omega arith in
        let pn = near_place (top n B) w h k p in
        let pf = far_place (top n B) w h k p in
        let m : into w n B h (nearer w k) < n = rw (into_near w h k) l in
        let a : start_of n B h (nearer w k) < n = omega (arith, start_into w h (nearer w k)) in
        let i = present h (nearer w k) pn a in
        let f = node_fits h (nearer w k) pn i in
        let q = passed w r (node_at s (nearer w k)).total in
        let both : Break j ≡ scan_onward (bits_of w ws n B h (nearer w k) r) (bits_of w ws n B h (farther w k)) = sym e ∙ children ws n B pB w h k r in
        elim (node_told h (nearer w k) pn i w r z) [
          | here j₁ b t ↦ rw (← descend_near w (count n B) s (suc h) k r c nz i f t, d) (rec (nearer w k) j r (c + 1) pn m z (cc))
          | past b t y ↦ (let g : bits_of w ws n B h (farther w k) q ≡ Break j = cc in
              let o = present h (farther w k) pf (begins w h (farther w k) j q g) in
              let u = told_hit j (node_told h (farther w k) pf o w q y) g in
              rw (← descend_far w (count n B) s (suc h) k r c nz i f t o (node_fits h (farther w k) pf o) u, d)
              (rec (farther w k) j q (c + 2) pf (into_far w h k j q a g) y g))
        ]

    down : (h : ℕ) → Lands h
    down zero = at_leaf
    down (suc h) = to_child h (down h)

    -- ---- the climb
    abbrev Found : ℕ → ℕ → ℤ → ℕ → Type 0
    Found h k r c = (after_climb w ws n s B (climb w (count n B) s k h k r c)).answer ≡ hit_answer (rest_of w ws n B h k r)

    -- a climb from any node with an index of at most f answers what the scan of the bits beyond the node hits
    abbrev Finds : ℕ → Type 0
    Finds f = (h k : ℕ) (r : ℤ) (c : ℕ) → k ≤ f → Place (top n B) h k → start_of n B h k < n → (r ≡ pos 0 → ⊥) → Found h k r c

    at_root : (h k : ℕ) (r : ℤ) (c : ℕ) → k ≡ 0 → Place (top n B) h k → Found h k r c
    at_root h k r c e p = rw (← climb_root w (count n B) s k h k r c e, rest_root ws n B pB w h k r e p)

    to_parent : (f : ℕ) → Finds f → (h k : ℕ) (r : ℤ) (c : ℕ) → k ≤ suc f → Place (top n B) h k → start_of n B h k < n → (r ≡ pos 0 → ⊥)
        → (k ≡ 0 → ⊥) → Found h k r c
    to_parent f rec h k r c l p a z o = go (last_sibling w k) refl
      where
        pp : Place (top n B) (suc h) ((k - 1) / 2)
        pp = place_up (top n B) h k (omega arith) p

        onwards : (q : ℤ) (d : ℕ) → (q ≡ pos 0 → ⊥) → Found (suc h) ((k - 1) / 2) q d
        onwards q d = rec (suc h) ((k - 1) / 2) q d (omega arith) pp (omega (arith, (child_bounds n B pB h k (omega arith)).0))

        beside : last_sibling w k ≡ false → Place (top n B) h (sibling_beyond w k) → sibling_beyond w k < count n B → Found h k r c
        beside e ps i =
            let d = kin w k o e in
            let f = node_fits h (sibling_beyond w k) ps i in
            elim (node_told h (sibling_beyond w k) ps i w r z) [
              | here j b t ↦ (let u : into w n B h (sibling_beyond w k) < n = rw d.1 (into_far w h ((k - 1) / 2) j r (rw d.0 at a) (rw d.1 at b)) in
                  rw (← climb_turn w (count n B) s h k r c o e i f t, rest_beside ws n B pB h k r o w e, b) (down h (sibling_beyond w k) j r (c + 1) ps u z b))
              | past b t y ↦ rw (← climb_pass w (count n B) s h k r c o e i f t, add-one h, rest_beside ws n B pB h k r o w e, b)
                  (onwards (passed w r (node_at s (sibling_beyond w k)).total) (c + 1) y)
            ]

        go : (t : Bool) → last_sibling w k ≡ t → Found h k r c
        go true e = rw (← climb_up w (count n B) s h k r c o e, add-one h, rest_last ws n B pB h k r o w e) (onwards r c z)
        go false e =
            let ps : Place (top n B) h (sibling_beyond w k) = side_place (top n B) w h k o e p in
            elim (dec_le (count n B) (sibling_beyond w k)) [
              | yes m ↦ rw (← climb_alone w (count n B) s h k r c o e m, alone w h k r ps a o m)
              | no m ↦ beside e ps (omega arith)
            ]

    pub up : (f : ℕ) → Finds f
    up zero h k r c l p a z = at_root h k r c (omega arith) p
    up (suc f) h k r c l p a z = elim (dec_lt 0 k) [
      | yes y ↦ to_parent f (up f) h k r c l p a z (λ e. omega arith)
      | no y ↦ at_root h k r c (omega arith) p
    ]
