-- The answer of a walk over any nodes lies beyond i, in the direction of the search, and below n.
--   hit_in: a scan hits a position among its bits
--   Only, only_more: the answer has a property if it is a position; a weaker property follows
--   In, Beyond: the positions among the bits of node k, and beyond them
--   down_in: a descent from node k answers a position among the bits of node k
--   up_in: a climb from node k leads to a position beyond node k
--   walk_inside: the theorem for both directions
--   walk_after, walk_before: the theorem forward and backward
-- Assumes nothing.
use mathlib.Core.Path.{◌≡◌, refl}
use mathlib.Core.Bool.{false}
use mathlib.Core.List.{List}
use Prim.Native.Nat.{ℕ, zero, suc, ◌+◌, ◌-◌, ◌*◌, ◌/◌, ◌≤◌, ◌<◌, min}
use native.Mathlib.Omega.{arith}
use native.Mathlib.Nat.{div-mul-le_self, lt-div-mul-add}
use native.Mathlib.Numerals.{add-one}
use borrow.Author.Tests.{eqb-false, leb-false}
use lib.Dec.{leb, eqb}
use lib.IntN.{ℤ, ◌+ℤ◌}
use Rattle.std.proofs.lemmas.Bool.{cond_both}
use Rattle.row.specs.Answer.{Answer, at, nothing, refused}
use Rattle.row.specs.Bits.{bit_at}
use Rattle.row.specs.Excess.{excess}
use Rattle.row.specs.Way.{Way, forward, backward, Before}
use Rattle.bits_stretch.specs.Scan.{Scanned}
use Rattle.std.specs.declared.ops.ControlFlow.TheVariants.{Break, Continue}
use Rattle.bits_stretch.specs.Scan.{place, passed, scan}
use Rattle.bits_stretch.proofs.Meets.{scan_nearest}
use Rattle.mmt_layout.specs.Layout.{inner, count}
use Rattle.mmt_node.specs.Nodes.{node_at}
use Rattle.mmt_layout.proofs.Powers.{leaves_in}
use Rattle.mmt_layout.proofs.Places.{Place, place_up}
use Rattle.mmt_node.proofs.Covered.{start_of, top, start_le, start_mono}
use Rattle.bits_stretch.specs.Summary.{holds_on}
use Rattle.walk_spec.specs.Walk.{fits, Climb, last_sibling, sibling_beyond, climb, Descent, nearer, farther, descend, far, ends_at_once, start_block, start_scan, Walk, in_leaf, land, after_climb, in_start, walk}
use Rattle.walk_spec.proofs.Ways.{near_place, far_place, side_place}
use Rattle.walk_spec.proofs.Stretches.{over, bits_of, left_bounds, right_bounds, child_bounds, block_place, block_start, block_end, leaf_bits}
use Rattle.walk_spec.proofs.Right.{Inside, inside, start_in}

-- a scan hits a position among its bits
hit_in : (w : Way) (f : ℕ → ℕ) (c a : ℕ) (r : ℤ) (j : ℕ) → scan w f c a r ≡ Break j → (a ≤ j) × (j < a + c)
hit_in w f c a r j e =
    let g = rw e at (scan_nearest f (excess f (place w c a) +ℤ r) w c a r refl) in
    (g.0.0, g.0.1)

-- if the answer is a position, this position has the property P
abbrev Only : (ℕ → Type 0) → Answer → Type 0
Only P (at j) = P j
Only P nothing = Unit {0}
Only P (refused m) = Unit {0}

only_more : {P Q : ℕ → Type 0} → ((j : ℕ) → P j → Q j) → (a : Answer) → Only P a → Only Q a
only_more f (at j) p = f j p
only_more f nothing p = tt
only_more f (refused m) p = tt

module _ (n B : ℕ) where
  -- position j is among the bits of node k at height h
  abbrev In : ℕ → ℕ → ℕ → Type 0
  In h k j = (start_of n B h k ≤ j) × (j < start_of n B h (suc k))

  -- position j is beyond the bits of node k
  abbrev Beyond : Way → ℕ → ℕ → ℕ → Type 0
  Beyond forward h k j = (start_of n B h (suc k) ≤ j) × (j < n)
  Beyond backward h k j = j < start_of n B h k

  module _ (pB : 0 < B) where
    near_in : (w : Way) (h k j : ℕ) → In h (nearer w k) j → In (suc h) k j
    near_in forward h k j i = let b = left_bounds n B pB h (2 * k + 1) k refl in (omega arith, omega arith)
    near_in backward h k j i = let b = right_bounds n B pB h (2 * k + 2) k refl in (omega arith, omega arith)

    far_in : (w : Way) (h k j : ℕ) → In h (farther w k) j → In (suc h) k j
    far_in forward h k j i = let b = right_bounds n B pB h (2 * k + 2) k refl in (omega arith, omega arith)
    far_in backward h k j i = let b = left_bounds n B pB h (2 * k + 1) k refl in (omega arith, omega arith)

    -- a position beyond the parent of node k is beyond node k
    parent_beyond : (w : Way) (h k j : ℕ) → 0 < k → Beyond w (suc h) ((k - 1) / 2) j → Beyond w h k j
    parent_beyond forward h k j z b = let c = child_bounds n B pB h k z in (omega arith, b.1)
    parent_beyond backward h k j z b = let c = child_bounds n B pB h k z in omega arith

    -- a position among the bits of the sibling beyond node k is beyond node k
    sibling_beyond_lem : (w : Way) (h k j : ℕ) → 0 < k → In h (sibling_beyond w k) j → Beyond w h k j
    sibling_beyond_lem forward h k j z i = let a = rw add-one at i in (a.0, omega (arith, a.1, start_le n B pB h (suc (suc k))))
    sibling_beyond_lem backward h k j z i = let e : suc (k - 1) ≡ k = omega arith in rw e at i.1

module _ (w : Way) (ws : List ℕ) (n : ℕ) (s : List ℤ) (B : ℕ) (pB : 0 < B) (some : 0 < n) where
  abbrev m : ℕ
  m = count n B

  -- the answer after a descent from node k
  abbrev down : ℕ → ℕ → ℤ → ℕ → Answer
  down h k r c = (land w ws n s B (descend w m s h k r c)).answer

  -- the answer after a climb from node k
  abbrev up : ℕ → ℕ → ℕ → ℤ → ℕ → Answer
  up f h k r c = (after_climb w ws n s B (climb w m s f h k r c)).answer

  leaf_in : (k : ℕ) (r : ℤ) (c : ℕ) (x : Scanned) → bits_of w ws n B 0 k r ≡ x → Only (In n B 0 k) (in_leaf w ws n s B x c).answer
  unfolding over
  leaf_in k r c (Break j) e =
      let h = hit_in w (bit_at ws) (start_of n B 0 (suc k) - start_of n B 0 k) (start_of n B 0 k) r j e in
      (h.0, omega (arith, h.1, start_mono n B pB 0 k))
  leaf_in k r c (Continue q) e = tt

  down_in : (h k : ℕ) (r : ℤ) (c : ℕ) → k < m → Place (top n B) h k → Only (In n B h k) (down h k r c)
  unfolding descend
  down_in zero k r c l p =
      let b = k - inner n B in
      leaf_in k r c (scan w (bit_at ws) (min B (n - b * B)) (b * B) r) (leaf_bits ws n B pB some w k r p l)
  down_in (suc h) k r c l p =
      let P : Descent → Type 0 = (λ d. Only (In n B (suc h) k) (land w ws n s B d).answer) in
      let i = nearer w k in
      let j = farther w k in
      let x = node_at s i in
      let y = node_at s j in
      let q = passed w r x.total in
      let pi = near_place (top n B) w h k p in
      let pj = far_place (top n B) w h k p in
      cond_both (leb m i) _ _ P (λ a. tt)
      (λ a. cond_both (fits x) _ _ P
      (λ g. cond_both (holds_on w x r) _ _ P
      (λ v. only_more (near_in n B pB w h k) (down h i r (suc c)) (down_in h i r (suc c) (leb-false m i a) pi))
      (λ v. cond_both (leb m j) _ _ P (λ e. tt)
      (λ e. cond_both (fits y) _ _ P
      (λ d. cond_both (holds_on w y q) _ _ P
      (λ v. only_more (far_in n B pB w h k) (down h j q (suc (suc c))) (down_in h j q (suc (suc c)) (leb-false m j e) pj))
      (λ v. tt))
      (λ d. tt))))
      (λ g. tt))

  up_in : (f h k : ℕ) (r : ℤ) (c : ℕ) → Place (top n B) h k → Only (Beyond n B w h k) (up f h k r c)
  unfolding climb
  up_in zero h k r c p = tt
  up_in (suc f) h k r c p =
      let P : Climb → Type 0 = (λ d. Only (Beyond n B w h k) (after_climb w ws n s B d).answer) in
      let i = sibling_beyond w k in
      let j = (k - 1) / 2 in
      let x = node_at s i in
      cond_both (eqb k 0) _ _ P (λ z. tt)
      (λ z. let o = eqb-false k 0 z in let u = place_up (top n B) h k (omega arith) p in
      let on : (q : ℤ) (d : ℕ) → Only (Beyond n B w h k) (up f (suc h) j q d) =
      (λ q d. only_more (λ y. parent_beyond n B pB w h k y (omega arith)) (up f (suc h) j q d) (up_in f (suc h) j q d u)) in
      cond_both (last_sibling w k) _ _ P (λ e. on r c)
      (λ e. cond_both (leb m i) _ _ P (λ a. tt)
      (λ a. cond_both (fits x) _ _ P
      (λ g. cond_both (holds_on w x r) _ _ P
      (λ y. only_more (λ y. sibling_beyond_lem n B pB w h k y (omega arith)) (down h i r (suc c))
      (down_in h i r (suc c) (leb-false m i a) (side_place (top n B) w h k o e p)))
      (λ y. on (passed w r x.total) (suc c)))
      (λ g. tt))))

-- ---- the whole walk
module _ (ws : List ℕ) (n : ℕ) (s : List ℤ) (B : ℕ) (pB : 0 < B) (i : ℕ) (r : ℤ) where
  -- position j is in the row, and the search meets it after i
  abbrev Past : Way → ℕ → Type 0
  Past w j = Before w i j × (j < n)

  -- a hit in the start block
  start_hit : (w : Way) (j : ℕ) → Inside w n i → start_scan w ws n B i r ≡ Break j → Past w j
  start_hit forward j o e =
      let h = hit_in forward (bit_at ws) (min n (((i + 1) / B + 1) * B) - (i + 1)) (i + 1) r j e in
      (omega (arith, h.0), omega (arith, h.1))
  start_hit backward j o e =
      let h = hit_in backward (bit_at ws) (i - (i - 1) / B * B) ((i - 1) / B * B) r j e in
      let l = div-mul-le_self (i - 1) B in
      (omega (arith, h.1), omega (arith, h.1))

  -- a hit beyond the start block
  start_past : (w : Way) (j : ℕ) → Inside w n i → Beyond n B w 0 (inner n B + start_block w B i) j → Past w j
  start_past forward j o b =
      let e = block_end ws n B pB (omega arith) ((i + 1) / B) (start_in n B pB forward i o) in
      (omega (arith, e, b.0, b.1, lt-div-mul-add {a = i + 1} pB), b.1)
  start_past backward j o b =
      let e = block_start ws n B pB (omega arith) ((i - 1) / B) (start_in n B pB backward i o) in
      let l = div-mul-le_self (i - 1) B in
      (omega arith, omega arith)

  module _ (w : Way) where
    from_start : ends_at_once w n i ≡ false → (x : Scanned) → start_scan w ws n B i r ≡ x → Only (Past w) (in_start w ws n s B (start_block w B i) x).answer
    from_start e (Break j) h = start_hit w j (inside w n i e) h
    from_start e (Continue q) h =
        let o = inside w n i e in
        let b = start_block w B i in
        let k = inner n B + b in
        let l = start_in n B pB w i o in
        let some : 0 < n = omega (arith, leaves_in n B pB b l) in
        only_more (λ j. start_past w j o) (up w ws n s B pB some k 0 k q 0)
        (up_in w ws n s B pB some k 0 k q 0 (block_place ws n B pB some b l))

    walk_inside : Only (Past w) (walk w ws n s B i r).answer
    unfolding walk
    walk_inside =
        let P : Walk → Type 0 = (λ d. Only (Past w) d.answer) in
        cond_both (ends_at_once w n i) _ _ P (λ e. tt) (λ e. cond_both (far n r) _ _ P (λ f. tt) (λ f. from_start e (start_scan w ws n B i r) refl))

  pub walk_after : (j : ℕ) → (walk forward ws n s B i r).answer ≡ at j → (i < j) × (j < n)
  walk_after j e = rw e at (walk_inside forward)

  pub walk_before : (j : ℕ) → (walk backward ws n s B i r).answer ≡ at j → (j < i) × (j < n)
  walk_before j e = rw e at (walk_inside backward)
