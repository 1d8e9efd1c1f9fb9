-- Scans of the bits of a node and of the bits beyond it, in both directions.
--   over: the scan of the bits from position a up to t - 1
--   in_turn: the scans of a left part and a right part, in the order of the direction
--   over_none: the scan of no bits leaves the remainder unchanged
--   over_split: the scan of a stretch consists of the scans of its two parts
--   bits_of, rest_of: the scan of the bits of node k, and of the bits beyond it
--   start_up: a left child begins where its parent does
--   Among, left_bounds, right_bounds, child_bounds: the bits of a child are among those of its parent
--   children: the bits of a node are those of its two children
--   rest_last: beyond a node without a sibling beyond it are the bits beyond its parent
--   rest_beside: beyond any other node are the bits of its sibling, then the bits beyond its parent
--   rest_root: beyond the root are no bits
--   block_place, block_start, block_end: the height of block leaf b, and the start and the end of its bits
--   leaf_bits: the bits of a block leaf are those of its block
-- Assumes nothing.
use mathlib.Core.Path.{◌≡◌, refl, ◌∙◌}
use mathlib.Core.Bool.{true, false}
use mathlib.Core.List.{List}
use Prim.Native.Nat.{ℕ, suc, ◌+◌, ◌-◌, ◌*◌, ◌/◌, ◌%◌, ◌^◌, ◌≤◌, ◌<◌, min}
use native.Mathlib.Omega.{arith}
use native.Mathlib.Decide.{dec_lt}
use native.Mathlib.Numerals.{add-one}
use borrow.Author.Tests.{eqb-true, eqb-false}
use lib.IntN.{ℤ}
use lib.Pow.{pow_mono}
use Rattle.row.specs.Bits.{bit_at}
use Rattle.row.specs.Way.{Way, forward, backward}
use Rattle.bits_stretch.specs.Scan.{Scanned}
use Rattle.std.specs.declared.ops.ControlFlow.TheVariants.{Continue}
use Rattle.bits_stretch.specs.Scan.{scan}
use Rattle.bits_stretch.proofs.Parts.{scan_onward, scan_split}
use Rattle.mmt_layout.specs.Layout.{leaves, inner_for, inner, count}
use Rattle.mmt_layout.proofs.Powers.{inner_top, inner_room}
use Rattle.mmt_layout.proofs.Places.{inner_is, count_is, block_at, block_in, block_out, reach, reach_next, Place, place_ge, place_leaf, leaf_place}
use Rattle.mmt_node.proofs.Covered.{start_of, top, start_child, start_le, start_mono, start_leaf}
use Rattle.walk_spec.specs.Walk.{last_sibling, sibling_beyond, nearer, farther}

-- the scan of the bits from position a up to t - 1
unfoldable pub over : Way → (ℕ → ℕ) → ℕ → ℕ → ℤ → Scanned
over w f a t r = scan w f (t - a) a r

-- the scans x of a left part and y of a right part, in the order of the direction
abbrev pub in_turn : Way → (ℤ → Scanned) → (ℤ → Scanned) → ℤ → Scanned
in_turn forward x y r = scan_onward (x r) y
in_turn backward x y r = scan_onward (y r) x

module _ (f : ℕ → ℕ) where
  pub over_none : (w : Way) (a t : ℕ) (r : ℤ) → t ≤ a → over w f a t r ≡ Continue r
  unfolding over scan
  over_none w a t r h = let e : t - a ≡ 0 = omega arith in rw e

  pub over_split : (w : Way) (a m t : ℕ) (r : ℤ) → a ≤ m → m ≤ t → over w f a t r ≡ in_turn w (over w f a m) (over w f m t) r
  unfolding over
  over_split forward a m t r h l =
      let e : (m - a) + (t - m) ≡ t - a = omega arith in
      let d : a + (m - a) ≡ m = omega arith in
      rw (e, d) at (scan_split forward f (m - a) (t - m) a r)
  over_split backward a m t r h l =
      let e : (t - m) + (m - a) ≡ t - a = omega arith in
      let d : a + (m - a) ≡ m = omega arith in
      rw (e, d) at (scan_split backward f (t - m) (m - a) a r)

-- ---- node k at height h

-- the scan of the bits of node k
abbrev pub bits_of : Way → List ℕ → ℕ → ℕ → ℕ → ℕ → ℤ → Scanned
bits_of w ws n B h k = over w (bit_at ws) (start_of n B h k) (start_of n B h (suc k))

-- the scan of the bits beyond node k: those after its bits forward, those before them backward
abbrev pub rest_of : Way → List ℕ → ℕ → ℕ → ℕ → ℕ → ℤ → Scanned
rest_of forward ws n B h k = over forward (bit_at ws) (start_of n B h (suc k)) n
rest_of backward ws n B h k = over backward (bit_at ws) 0 (start_of n B h k)

module _ (n B : ℕ) (pB : 0 < B) where
  -- a left child begins where its parent does
  pub start_up : (h k p : ℕ) → k ≡ 2 * p + 1 → start_of n B h k ≡ start_of n B (suc h) p
  start_up h k p e = rw e (start_child n B pB h p)

  -- the bits of a child k are among those of its parent p
  abbrev pub Among : ℕ → ℕ → ℕ → Type 0
  Among h k p = (start_of n B (suc h) p ≤ start_of n B h k) × (start_of n B h (suc k) ≤ start_of n B (suc h) (suc p))

  pub left_bounds : (h k p : ℕ) → k ≡ 2 * p + 1 → Among h k p
  left_bounds h k p e = (
    omega (arith, start_up h k p e),
    omega (arith, start_mono n B pB h (suc k), start_up h (suc (suc k)) (suc p) (omega arith)),
  )

  pub right_bounds : (h k p : ℕ) → k ≡ 2 * p + 2 → Among h k p
  right_bounds h k p e =
      let d : suc (2 * p + 1) ≡ k = omega arith in (
        omega (arith, start_up h (2 * p + 1) p refl, rw d at (start_mono n B pB h (2 * p + 1))),
        omega (arith, start_up h (suc k) (suc p) (omega arith)),
      )

  pub child_bounds : (h k : ℕ) → 0 < k → Among h k ((k - 1) / 2)
  child_bounds h k z = elim (dec_lt (2 * ((k - 1) / 2) + 1) k) [
    | yes l ↦ right_bounds h k ((k - 1) / 2) (omega arith)
    | no l ↦ left_bounds h k ((k - 1) / 2) (omega arith)
  ]

module _ (ws : List ℕ) (n B : ℕ) (pB : 0 < B) where
  family : (w : Way) (h k : ℕ) (r : ℤ) → bits_of w ws n B (suc h) k r ≡ in_turn w (bits_of w ws n B h (2 * k + 1)) (bits_of w ws n B h (2 * k + 2)) r
  family w h k r =
      let e : suc (2 * k + 1) ≡ 2 * k + 2 = omega arith in
      let t = start_of n B h (suc (2 * k + 2)) in
      rw (← start_child n B pB h k, ← start_up n B pB h (suc (2 * k + 2)) (suc k) (omega arith), e)
      (over_split (bit_at ws) w (start_of n B h (2 * k + 1)) (start_of n B h (2 * k + 2)) t r (rw e at (start_mono n B pB h (2 * k + 1))) (start_mono n B pB h (2 * k + 2)))

  pub children : (w : Way) (h k : ℕ) (r : ℤ) → bits_of w ws n B (suc h) k r ≡ scan_onward (bits_of w ws n B h (nearer w k) r) (bits_of w ws n B h (farther w k))
  children forward = family forward
  children backward = family backward

  -- ---- beyond a node other than the root
  module _ (h k : ℕ) (r : ℤ) (z : k ≡ 0 → ⊥) where
    abbrev parent : ℕ
    parent = (k - 1) / 2

    pub rest_last : (w : Way) → last_sibling w k ≡ true → rest_of w ws n B h k r ≡ rest_of w ws n B (suc h) parent r
    rest_last forward e = let d = eqb-true (k % 2) 0 e in rw (start_up n B pB h (suc k) (suc parent) (omega arith))
    rest_last backward e = let d = eqb-true (k % 2) 1 e in rw (start_up n B pB h k parent (omega arith))

    pub rest_beside : (w : Way) → last_sibling w k ≡ false → rest_of w ws n B h k r ≡ scan_onward (bits_of w ws n B h (sibling_beyond w k) r) (rest_of w ws n B (suc h) parent)
    rest_beside forward e =
        let d = eqb-false (k % 2) 0 e in
        rw (add-one k, ← start_up n B pB h (suc (suc k)) (suc parent) (omega arith))
        (over_split (bit_at ws) forward (start_of n B h (suc k)) (start_of n B h (suc (suc k))) n r (start_mono n B pB h (suc k)) (start_le n B pB h (suc (suc k))))
    rest_beside backward e =
        let d = eqb-false (k % 2) 1 e in
        let o : suc (k - 1) ≡ k = omega arith in
        rw (o, ← start_up n B pB h (k - 1) parent (omega arith))
        (over_split (bit_at ws) backward 0 (start_of n B h (k - 1)) (start_of n B h k) r (omega arith) (rw o at (start_mono n B pB h (k - 1))))

  -- ---- beyond the root
  root_reach : (h k : ℕ) → k ≡ 0 → Place (top n B) h k → (2 ^ h ≡ suc (inner_for (leaves n B))) × (reach h k ≡ suc (inner_for (leaves n B)))
  unfolding reach
  root_reach h k z p =
      let e : suc k * 2 ^ h ≡ 2 ^ h = rw z (omega arith) in
      let g = place_ge (top n B) h k p in
      let m = pow_mono {i = h} {j = top n B} (omega (arith, p.sum)) in
      (omega (arith, inner_top (leaves n B)), omega (arith, inner_top (leaves n B)))

  pub rest_root : (w : Way) (h k : ℕ) (r : ℤ) → k ≡ 0 → Place (top n B) h k → rest_of w ws n B h k r ≡ Continue r
  unfolding start_of block_at
  rest_root forward h k r z p =
      let x = root_reach h k z p in
      let b = reach h (suc k) - suc (inner_for (leaves n B)) in
      let e = block_out n B pB b (omega (arith, reach_next h k, inner_room (leaves n B))) in
      over_none (bit_at ws) forward (start_of n B h (suc k)) n r (omega arith)
  rest_root backward h k r z p =
      let e : reach h k - suc (inner_for (leaves n B)) ≡ 0 = omega (arith, (root_reach h k z p).1) in
      over_none (bit_at ws) backward 0 (start_of n B h k) r (rw e (omega arith))

  -- ---- block leaf b
  module _ (some : 0 < n) where
    module _ (b : ℕ) (l : b < leaves n B) where
      pub block_place : Place (top n B) 0 (inner n B + b)
      block_place =
          let i = inner_is n B some in
          let t = inner_top (leaves n B) in
          leaf_place (top n B) (inner n B + b) (omega arith) (omega (arith, inner_room (leaves n B)))

      pub block_start : start_of n B 0 (inner n B + b) ≡ b * B
      block_start = rw (inner_is n B some) (start_leaf n B pB b ∙ block_in n B pB b l)

      pub block_end : start_of n B 0 (suc (inner n B + b)) ≡ min n ((b + 1) * B)
      unfolding block_at
      block_end =
          let e : suc (inner n B + b) ≡ inner_for (leaves n B) + suc b = omega (arith, inner_is n B some) in rw (e, add-one b) (start_leaf n B pB (suc b))

    pub leaf_bits : (w : Way) (k : ℕ) (r : ℤ) → Place (top n B) 0 k → k < count n B
        → bits_of w ws n B 0 k r ≡ scan w (bit_at ws) (min B (n - (k - inner n B) * B)) ((k - inner n B) * B) r
    unfolding over
    leaf_bits w k r p i =
        let b = k - inner n B in
        let o = inner_is n B some in
        let q : inner n B + b ≡ k = omega (arith, place_leaf (top n B) k p, inner_top (leaves n B)) in
        let l : b < leaves n B = omega (arith, count_is n B some) in
        let u : start_of n B 0 k ≡ b * B = rw q at (block_start b l) in
        let v : start_of n B 0 (suc k) ≡ min n ((b + 1) * B) = rw q at (block_end b l) in
        let c : start_of n B 0 (suc k) - start_of n B 0 k ≡ min B (n - b * B) = omega arith in
        rw (c, u)
