-- The walk over any nodes answers a position below n, nothing, or refusal 8. A search by definition gives no refusal.
--   Inside: a position that a scan hit is below a bound
--   scan_inside: a scan hits only positions of its stretch
--   walk_may: the walk
--   fwd_may, bwd_may: the two searches by definition
--   root_may, last_may: where `level_rightmost` starts, by the root and by definition
-- Assumes nothing.
use mathlib.Core.Path.{◌≡◌, refl}
use mathlib.Core.Bool.{Bool, true, false, cond}
use mathlib.Core.List.Memᴰ
use mathlib.Core.List.{List, [], ◌∷◌}
use Prim.Native.Nat.{ℕ, zero, suc, ◌+◌, ◌-◌, ◌*◌, ◌/◌, ◌≤◌, ◌<◌, min}
use native.Mathlib.Omega.{arith}
use borrow.Author.Tests.{ltb-true, eqb-false}
use lib.Dec.{ltb, eqb}
use lib.IntN.{ℤ, pos, negsuc, ◌+ℤ◌, ◌-ℤ◌}
use Rattle.row.specs.Answer.{Answer, at, nothing, refused}
use Rattle.row.specs.Bits.{bit_at}
use Rattle.row.specs.Search.{fwd, bwd}
use Rattle.row.specs.Way.{Way, forward, backward}
use Rattle.row.proofs.Meaning.{IsFwd, IsBwd, fwd_is, bwd_is}
use Rattle.bits_stretch.specs.Scan.{Scanned}
use Rattle.std.specs.declared.ops.ControlFlow.TheVariants.{Break, Continue}
use Rattle.bits_stretch.specs.Scan.{scan}
use Rattle.bits_stretch.proofs.Meets.{hit_within}
use Rattle.mmt_layout.specs.Layout.{inner, count}
use Rattle.mmt_node.specs.Nodes.{node_at}
use Rattle.walk_spec.specs.Walk.{fits, Climb, turn, out, misfit, climb, Descent, leaf, lost, descend, found, far, ends_at_once, start_block, start_scan, in_leaf, land, after_climb, in_start, walk}
use Rattle.walk_spec.proofs.Right.{inside}
use Rattle.bp_spec.specs.LevelEnds.{ones, last_start, in_row, root_start}
use Rattle.bp_spec.specs.Ranges.{May}
use Rattle.bp_spec.proofs.CallRange.{may_cond}

-- ---- a scan
-- A position that the scan hit is below t.
abbrev Inside : ℕ → Scanned → Type 0
Inside t (Break j) = j < t
Inside t (Continue q) = Unit

scan_inside : (w : Way) (f : ℕ → ℕ) (c a t : ℕ) (r : ℤ) → (0 < c → a + c ≤ t) → Inside t (scan w f c a r)
unfolding scan
scan_inside w f zero a t r h = tt
scan_inside w f (suc c) a t r h = go (scan w f (suc c) a r) refl
  where
    go : (x : Scanned) → x ≡ scan w f (suc c) a r → Inside t x
    go (Break j) e = omega (arith, h (omega arith), hit_within w f (suc c) a r e)
    go (Continue q) e = tt

-- ---- the walk
module _ (w : Way) (ws : List ℕ) (n : ℕ) (s : List ℤ) (B : ℕ) where
  in_leaf_lem : (x : Scanned) (c : ℕ) → Inside n x → May n (8 ∷ []) (in_leaf w ws n s B x c).answer
  in_leaf_lem (Break j) c h = h
  in_leaf_lem (Continue q) c h = Memᴰ.head refl

  landed : (d : Descent) → May n (8 ∷ []) (land w ws n s B d).answer
  landed (leaf k r c) =
      let b = k - inner n B in
      let m = min B (n - b * B) in
      in_leaf_lem (scan w (bit_at ws) m (b * B) r) c (scan_inside w (bit_at ws) m (b * B) n r (λ u. omega arith))
  landed lost = Memᴰ.head refl

  climbed : (x : Climb) → May n (8 ∷ []) (after_climb w ws n s B x).answer
  climbed (turn k h r c) = landed (descend w (count n B) s h k r c)
  climbed (out c) = tt
  climbed misfit = Memᴰ.head refl

  started : (b : ℕ) (x : Scanned) → Inside n x → May n (8 ∷ []) (in_start w ws n s B b x).answer
  started b (Break j) h = h
  started b (Continue q) h = climbed (climb w (count n B) s (inner n B + b) 0 (inner n B + b) q 0)

start_inside : (w : Way) (ws : List ℕ) (n B i : ℕ) (r : ℤ) → ends_at_once w n i ≡ false → Inside n (start_scan w ws n B i r)
start_inside forward ws n B i r e = scan_inside forward (bit_at ws) (min n (((i + 1) / B + 1) * B) - (i + 1)) (i + 1) n r (λ u. omega arith)
start_inside backward ws n B i r e =
    let l = inside backward n i e in
    scan_inside backward (bit_at ws) (i - (i - 1) / B * B) ((i - 1) / B * B) n r (λ u. omega arith)

pub walk_may : (w : Way) (ws : List ℕ) (n : ℕ) (s : List ℤ) (B : ℕ) (i : ℕ) (r : ℤ) → May n (8 ∷ []) (walk w ws n s B i r).answer
unfolding walk
walk_may w ws n s B i r = go (ends_at_once w n i) refl (far n r)
  where
    b : ℕ
    b = start_block w B i

    x : Scanned
    x = start_scan w ws n B i r

    go : (t : Bool) → ends_at_once w n i ≡ t → (u : Bool)
        → May n (8 ∷ []) (cond t (found nothing 0) (cond u (found nothing 0) (in_start w ws n s B b x))).answer
    go true e u = tt
    go false e true = tt
    go false e false = started w ws n s B b x (start_inside w ws n B i r e)

-- ---- the searches by definition
module _ (ws : List ℕ) (n i : ℕ) (r : ℤ) (l : List ℕ) where
  pub fwd_may : May n l (fwd ws n i r)
  fwd_may = go (fwd ws n i r) (fwd_is ws n i r)
    where
      go : (a : Answer) → IsFwd ws n i r a → May n l a
      go (at j) h = h.0.1
      go nothing h = tt
      go (refused k) h = absurd h

  pub bwd_may : May n l (bwd ws n i r)
  bwd_may = go (bwd ws n i r) (bwd_is ws n i r)
    where
      go : (a : Answer) → IsBwd ws n i r a → May n l a
      go (at j) h = let x = h.0 in omega arith
      go nothing h = tt
      go (refused k) h = absurd h

-- ---- where level_rightmost starts
in_row_may : (n : ℕ) (z : ℤ) (l : List ℕ) → May n l (in_row n z)
in_row_may n (pos i) l = may_cond l n (ltb i n) (at i) nothing (ltb-true i n) tt
in_row_may n (negsuc i) l = tt

pub root_may : (n : ℕ) (s : List ℤ) → May n (8 ∷ []) (root_start n s)
unfolding root_start
root_may n s =
    may_cond (8 ∷ []) n (eqb n 0) nothing _ (λ e. tt)
    (may_cond (8 ∷ []) n (fits (node_at s 0)) _ (refused 8) (λ e. in_row_may n (pos n +ℤ (node_at s 0).total -ℤ pos 1) (8 ∷ [])) (Memᴰ.head refl))

pub last_may : (ws : List ℕ) (n : ℕ) (l : List ℕ) → May (2 * ones ws n) l (last_start ws n)
unfolding last_start
last_may ws n l = go (eqb (ones ws n) 0) refl
  where
    go : (t : Bool) → eqb (ones ws n) 0 ≡ t → May (2 * ones ws n) l (cond t nothing (at (2 * ones ws n - 1)))
    go true e = tt
    go false e = let z = eqb-false (ones ws n) 0 e in omega arith
