-- The theorem: over nodes as built, a walk answers what the search is by definition, in both directions.
--   search: the search by definition, `fwd` or `bwd`
--   remaining: the scan of all bits that the search may read
--   Inside, inside: the positions of a search that does not end at once
--   fwd_scan, bwd_scan, search_scan: a search answers the position that the scan of these bits hits
--   search_ends, search_far: the search is nothing if the walk ends at once, and if |r| > n
--   block_of: a block that begins in the row is a block of the row
--   start_in: the start block is a block of the row
--   start_leaves: the scan of the start block never leaves the remainder 0
--   begin: the bits that the search may read are those of the start block and those beyond it
--   node_leaves: a passed node never leaves the remainder 0, so with start_leaves no climb has the remainder 0
--   walk_forward, walk_backward: the theorem for the two directions
--   walk_answers: no walk is refused
-- Assumes nothing.
use mathlib.Core.Path.{◌≡◌, refl, sym, ap, ◌∙◌}
use mathlib.Core.Bool.{Bool, true, false, ◌||◌, true≢false}
use mathlib.Core.List.{List}
use Prim.Native.Nat.{ℕ, suc, ◌+◌, ◌-◌, ◌*◌, ◌/◌, ◌≤◌, ◌<◌, min}
use native.Mathlib.Omega.{arith}
use native.Mathlib.Nat.{div-mul-le_self, lt-div-mul-add, lt_of_not-le}
use native.Mathlib.Numerals.{add-one}
use native.Mathlib.Decide.{dec_lt}
use borrow.Author.Tests.{ltb-true, leb-true, leb-false, eqb-true, eqb-false}
use lib.Dec.{leb, eqb}
use lib.IntN.{ℤ, pos, ◌+ℤ◌}
use Rattle.std.proofs.lemmas.Bool.{or_parts}
use Rattle.row.specs.Limits.{max_bits}
use Rattle.ints.specs.Sides.{size}
use Rattle.row.specs.Answer.{Answer, nothing, refused}
use Rattle.row.specs.Bits.{bit_at}
use Rattle.row.specs.Excess.{E}
use Rattle.row.specs.Search.{fwd, bwd}
use Rattle.row.specs.Way.{Way, forward, backward}
use Rattle.row.proofs.Meaning.{Ahead, Behind, nearest_ext, fwd_is, fwd_only, bwd_is, bwd_only, bwd_past}
use Rattle.bits_stretch.specs.Scan.{Scanned}
use Rattle.std.specs.declared.ops.ControlFlow.TheVariants.{Break, Continue}
use Rattle.bits_stretch.specs.Scan.{passed, scan}
use Rattle.bits_stretch.proofs.Parts.{scan_onward}
use Rattle.bits_stretch.proofs.Meets.{hit_answer, scan_nearest, scan_leaves}
use Rattle.bits_stretch.proofs.Covers.{skip_far}
use Rattle.mmt_layout.specs.Layout.{leaves, inner, count}
use Rattle.mmt_node.specs.Nodes.{node_at, AsBuilt}
use Rattle.mmt_layout.proofs.Powers.{leaves_in, leaves_out, inner_top, inner_room}
use Rattle.mmt_layout.proofs.Gates.{counted}
use Rattle.mmt_layout.proofs.Places.{count_is, place_of}
use Rattle.mmt_node.proofs.Covered.{top}
use Rattle.bits_stretch.specs.Summary.{holds_on}
use Rattle.walk_spec.specs.Walk.{far, ends_at_once, start_block, start_scan, in_start, walk}
use Rattle.walk_spec.proofs.Told.{here, past}
use Rattle.walk_spec.proofs.Stretches.{over, over_none, over_split, rest_of, block_place, block_start, block_end}
use Rattle.walk_spec.proofs.Built.{node_told, up}

-- ---- a search is a scan of the rest of the row

abbrev pub search : Way → List ℕ → ℕ → ℕ → ℤ → Answer
search forward = fwd
search backward = bwd

abbrev pub remaining : Way → List ℕ → ℕ → ℕ → ℤ → Scanned
remaining forward ws n i = over forward (bit_at ws) (suc i) n
remaining backward ws n i = over backward (bit_at ws) 0 i

-- the positions i of a search that does not end at once
abbrev pub Inside : Way → ℕ → ℕ → Type 0
Inside forward n i = i + 1 < n
Inside backward n i = (0 < i) × (i < n)

pub inside : (w : Way) (n i : ℕ) → ends_at_once w n i ≡ false → Inside w n i
inside forward n i e = leb-false n (i + 1) e
inside backward n i e = let h = or_parts (eqb i 0) (leb n i) e in let z = eqb-false i 0 h.0 in (omega arith, leb-false n i h.1)

module _ (ws : List ℕ) (n i : ℕ) (r : ℤ) where
  fwd_scan : fwd ws n i r ≡ hit_answer (remaining forward ws n i r)
  unfolding over
  fwd_scan =
      let y = hit_answer (scan forward (bit_at ws) (n - suc i) (suc i) r) in
      let s = scan_nearest (bit_at ws) (E ws (suc i) +ℤ r) forward (n - suc i) (suc i) r refl in
      fwd_only ws n i r (fwd ws n i r) y (fwd_is ws n i r)
      (nearest_ext (λ k j. k < j) _ (Ahead ws n i r) (λ k h. (h.0, omega arith, h.2)) (λ k h. (h.0, omega arith, h.2)) y s)

  bwd_scan : i < n → bwd ws n i r ≡ hit_answer (remaining backward ws n i r)
  unfolding over
  bwd_scan l =
      let e : 0 + (i - 0) ≡ i = omega arith in
      let y = hit_answer (scan backward (bit_at ws) (i - 0) 0 r) in
      let s = scan_nearest (bit_at ws) (E ws i +ℤ r) backward (i - 0) 0 r (rw e) in
      bwd_only ws n i r (bwd ws n i r) y (bwd_is ws n i r)
      (nearest_ext (λ k j. j < k) _ (Behind ws n i r) (λ k h. (l, omega arith, h.2)) (λ k h. (omega arith, omega arith, h.2)) y s)

  search_ends : (w : Way) → ends_at_once w n i ≡ true → search w ws n i r ≡ nothing
  search_ends forward e = fwd_scan ∙ ap hit_answer (over_none (bit_at ws) forward (suc i) n r (omega (arith, leb-true n (i + 1) e)))
  search_ends backward e = go (eqb i 0) refl e
    where
      go : (t : Bool) → eqb i 0 ≡ t → (t || leb n i) ≡ true → bwd ws n i r ≡ nothing
      go true z h = elim (dec_lt i n) [
        | yes l ↦ bwd_scan l ∙ ap hit_answer (over_none (bit_at ws) backward 0 i r (omega (arith, eqb-true i 0 z)))
        | no l ↦ bwd_past ws n i r (omega arith)
      ]
      go false z h = bwd_past ws n i r (leb-true n i h)

  search_scan : (w : Way) → Inside w n i → search w ws n i r ≡ hit_answer (remaining w ws n i r)
  search_scan forward h = fwd_scan
  search_scan backward h = bwd_scan h.1

  -- n bits cannot reach a difference r with |r| > n
  search_far : (w : Way) → Inside w n i → n < size r → search w ws n i r ≡ nothing
  unfolding over
  search_far w h l = search_scan w h ∙ go w h
    where
      go : (w : Way) → Inside w n i → hit_answer (remaining w ws n i r) ≡ nothing
      go forward h = ap hit_answer (skip_far forward (bit_at ws) (n - suc i) (suc i) r (omega arith))
      go backward h = ap hit_answer (skip_far backward (bit_at ws) (i - 0) 0 r (omega arith))

-- ---- the start block
module _ (n B : ℕ) (pB : 0 < B) where
  pub block_of : (b : ℕ) → b * B < n → b < leaves n B
  block_of b l = lt_of_not-le (λ h. omega (arith, leaves_out n B pB b h))

  pub start_in : (w : Way) (i : ℕ) → Inside w n i → start_block w B i < leaves n B
  start_in forward i h = block_of ((i + 1) / B) (omega (arith, div-mul-le_self (i + 1) B))
  start_in backward i h = block_of ((i - 1) / B) (omega (arith, div-mul-le_self (i - 1) B))

  -- the scan of the start block never leaves the remainder 0, whatever the bits are
  pub start_leaves : (w : Way) (ws : List ℕ) (i : ℕ) (r q : ℤ) → ends_at_once w n i ≡ false → start_scan w ws n B i r ≡ Continue q → q ≡ pos 0 → ⊥
  start_leaves forward ws i r q h =
      let l = inside forward n i h in
      scan_leaves (bit_at ws) forward (min n (((i + 1) / B + 1) * B) - (i + 1)) (i + 1) r q (λ e z. omega (arith, lt-div-mul-add {a = i + 1} pB))
  start_leaves backward ws i r q h =
      let l = inside backward n i h in
      scan_leaves (bit_at ws) backward (i - (i - 1) / B * B) ((i - 1) / B * B) r q (λ e z. omega (arith, div-mul-le_self (i - 1) B))

  begin : (w : Way) (ws : List ℕ) (i : ℕ) (r : ℤ) → Inside w n i
      → remaining w ws n i r ≡ scan_onward (start_scan w ws n B i r) (rest_of w ws n B 0 (inner n B + start_block w B i))
  unfolding over
  begin forward ws i r h =
      rw (block_end ws n B pB (omega arith) ((i + 1) / B) (start_in forward i h), ← add-one i)
      (over_split (bit_at ws) forward (i + 1) (min n (((i + 1) / B + 1) * B)) n r (omega (arith, lt-div-mul-add {a = i + 1} pB)) (omega arith))
  begin backward ws i r h =
      rw (block_start ws n B pB (omega arith) ((i - 1) / B) (start_in backward i h))
      (over_split (bit_at ws) backward 0 ((i - 1) / B * B) i r (omega arith) (omega (arith, div-mul-le_self (i - 1) B)))

-- ---- the whole walk
search_answers : (w : Way) (ws : List ℕ) (n i : ℕ) (r : ℤ) (m : ℕ) → search w ws n i r ≡ refused m → ⊥
search_answers forward ws n i r m e = rw e at (fwd_is ws n i r)
search_answers backward ws n i r m e = rw e at (bwd_is ws n i r)

module _ (ws : List ℕ) (n : ℕ) (s : List ℤ) (B : ℕ) (pB : 0 < B) (short : n ≤ max_bits) (built : AsBuilt ws n s B) where
  -- a passed node never leaves the remainder 0, if the remainder before it is not 0
  pub node_leaves : (w : Way) (k : ℕ) (r : ℤ) → k < count n B → (r ≡ pos 0 → ⊥) → holds_on w (node_at s k) r ≡ false → passed w r (node_at s k).total ≡ pos 0 → ⊥
  node_leaves w k r i z h =
      let some : 0 < n = counted n B k i in
      let p = place_of (top n B) k (omega (arith, inner_top (leaves n B), inner_room (leaves n B), count_is n B some)) in
      elim (node_told ws n s B pB some short built p.0 k p.1 i w r z) [ here j b t ↦ absurd (true≢false (sym t ∙ h)) | past b t y ↦ y ]

  module _ (w : Way) (i : ℕ) (r : ℤ) where
    from_start : ends_at_once w n i ≡ false → (x : Scanned) → start_scan w ws n B i r ≡ x
        → (in_start w ws n s B (start_block w B i) x).answer ≡ hit_answer (scan_onward x (rest_of w ws n B 0 (inner n B + start_block w B i)))
    from_start h (Break j) e = refl
    from_start h (Continue q) e =
        let b = start_block w B i in
        let l = start_in n B pB w i (inside w n i h) in
        let some : 0 < n = omega (arith, leaves_in n B pB b l) in
        up ws n s B pB some short built w (inner n B + b) 0 (inner n B + b) q 0 (omega arith) (block_place ws n B pB some b l)
        (omega (arith, block_start ws n B pB some b l, leaves_in n B pB b l)) (start_leaves n B pB w ws i r q h e)

    right : (t u : Bool) → ends_at_once w n i ≡ t → far n r ≡ u → (walk w ws n s B i r).answer ≡ search w ws n i r
    unfolding walk
    right true u e f = rw (e, walk) (sym (search_ends ws n i r w e))
    right false true e f = rw (e, f, walk) (sym (search_far ws n i r w (inside w n i e) (ltb-true n (size r) f)))
    right false false e f =
        let o = inside w n i e in
        rw (e, f, walk, search_scan ws n i r w o, begin n B pB w ws i r o) (from_start e (start_scan w ws n B i r) refl)

    walk_right : (walk w ws n s B i r).answer ≡ search w ws n i r
    walk_right = right (ends_at_once w n i) (far n r) refl refl

    pub walk_answers : (m : ℕ) → (walk w ws n s B i r).answer ≡ refused m → ⊥
    walk_answers m e = search_answers w ws n i r m (sym walk_right ∙ e)

pub walk_forward : (ws : List ℕ) (n : ℕ) (s : List ℤ) (B : ℕ) → 0 < B → n ≤ max_bits → AsBuilt ws n s B
    → (i : ℕ) (r : ℤ) → (walk forward ws n s B i r).answer ≡ fwd ws n i r
walk_forward ws n s B p h b = walk_right ws n s B p h b forward

pub walk_backward : (ws : List ℕ) (n : ℕ) (s : List ℤ) (B : ℕ) → 0 < B → n ≤ max_bits → AsBuilt ws n s B
    → (i : ℕ) (r : ℤ) → (walk backward ws n s B i r).answer ≡ bwd ws n i r
walk_backward ws n s B p h b = walk_right ws n s B p h b backward
