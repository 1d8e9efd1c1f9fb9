-- A walk over any nodes examines at most 3h - 2 nodes, where h is the height of the root (SCOPE, How a search walks: What counts as examined).
--   down_seen: a descent of h levels examines at most 2h nodes
--   up_seen: a climb from height h examines at most one node per level; with its descent at most 3t - 2 - h, where t is the height of the root
--   walk_seen: the bound for the whole walk; it holds for every h >= 1 with at most 2^h block leaves, so for the smallest such h too
-- Assumes nothing.
use mathlib.Core.Path.{◌≡◌}
use mathlib.Core.Bool.{Bool, false, cond}
use mathlib.Core.List.{List}
use Prim.Native.Nat.{ℕ, zero, suc, ◌+◌, ◌-◌, ◌*◌, ◌/◌, ◌^◌, ◌≤◌, ◌<◌, min}
use native.Mathlib.Omega.{arith}
use borrow.Author.Tests.{eqb-false}
use lib.Dec.{leb, eqb}
use lib.IntN.{ℤ}
use Rattle.std.proofs.lemmas.Bool.{cond_both}
use Rattle.row.specs.Bits.{bit_at}
use Rattle.row.specs.Way.{Way}
use Rattle.bits_stretch.specs.Scan.{Scanned}
use Rattle.std.specs.declared.ops.ControlFlow.TheVariants.{Break, Continue}
use Rattle.bits_stretch.specs.Scan.{passed, scan}
use Rattle.mmt_layout.specs.Layout.{leaves, inner, count}
use Rattle.mmt_node.specs.Nodes.{node_at}
use Rattle.mmt_layout.proofs.Powers.{levels_least, leaves_in}
use Rattle.mmt_layout.proofs.Places.{Place, place_up}
use Rattle.mmt_node.proofs.Covered.{top}
use Rattle.bits_stretch.specs.Summary.{holds_on}
use Rattle.walk_spec.specs.Walk.{fits, Climb, last_sibling, sibling_beyond, climb, Descent, nearer, farther, descend, far, ends_at_once, start_block, start_scan, Walk, in_leaf, land, after_climb, in_start, walk}
use Rattle.walk_spec.proofs.Stretches.{block_place}
use Rattle.walk_spec.proofs.Right.{inside, start_in}

-- a property holds for a choice if both alternatives have it
either : {A : Type 0} (P : A → Type 0) (t : Bool) {x y : A} → P x → P y → P (cond t x y)
either P t p q = cond_both t _ _ P (λ e. p) (λ e. q)

module _ (w : Way) (ws : List ℕ) (n : ℕ) (s : List ℤ) (B : ℕ) where
  leaf_seen : (x : Scanned) (c : ℕ) → (in_leaf w ws n s B x c).seen ≤ c
  leaf_seen (Break j) c = omega arith
  leaf_seen (Continue q) c = omega arith

  abbrev m : ℕ
  m = count n B

  down_seen : (h k : ℕ) (r : ℤ) (c : ℕ) → (land w ws n s B (descend w m s h k r c)).seen ≤ c + 2 * h
  unfolding descend
  down_seen zero k r c = let b = k - inner n B in omega (arith, leaf_seen (scan w (bit_at ws) (min B (n - b * B)) (b * B) r) c)
  down_seen (suc h) k r c =
      let P : Descent → Type 0 = (λ d. (land w ws n s B d).seen ≤ c + 2 * suc h) in
      let x = node_at s (nearer w k) in
      let y = node_at s (farther w k) in
      let q = passed w r x.total in
      either P (leb m (nearer w k)) (omega arith)
      (either P (fits x) (either P (holds_on w x r) (omega (arith, down_seen h (nearer w k) r (suc c)))
      (either P (leb m (farther w k)) (omega arith)
      (either P (fits y) (either P (holds_on w y q) (omega (arith, down_seen h (farther w k) q (suc (suc c)))) (omega arith)) (omega arith)))) (omega arith))

  -- t is the height of the root, h the height of node k
  up_seen : (t f h k : ℕ) (r : ℤ) (c : ℕ) → Place t h k → (after_climb w ws n s B (climb w m s f h k r c)).seen ≤ c + (3 * t - (2 + h))
  unfolding climb
  up_seen t zero h k r c p = omega arith
  up_seen t (suc f) h k r c p =
      let P : Climb → Type 0 = (λ d. (after_climb w ws n s B d).seen ≤ c + (3 * t - (2 + h))) in
      let x = node_at s (sibling_beyond w k) in
      cond_both (eqb k 0) _ _ P (λ z. omega arith)
      (λ z. let o = eqb-false k 0 z in let u = place_up t h k (omega arith) p in
      either P (last_sibling w k) (omega (arith, u.sum, up_seen t f (suc h) ((k - 1) / 2) r c u))
      (either P (leb m (sibling_beyond w k)) (omega arith)
      (either P (fits x) (either P (holds_on w x r) (omega (arith, u.sum, down_seen h (sibling_beyond w k) r (suc c)))
      (omega (arith, u.sum, up_seen t f (suc h) ((k - 1) / 2) (passed w r x.total) (suc c) u))) (omega arith))))

  module _ (pB : 0 < B) (h : ℕ) (some : 0 < h) (room : leaves n B ≤ 2 ^ h) (i : ℕ) (r : ℤ) where
    start_seen : ends_at_once w n i ≡ false → (x : Scanned) → (in_start w ws n s B (start_block w B i) x).seen ≤ 3 * h - 2
    start_seen e (Break j) = omega arith
    start_seen e (Continue q) =
        let b = start_block w B i in
        let l = start_in n B pB w i (inside w n i e) in
        let p = block_place ws n B pB (omega (arith, leaves_in n B pB b l)) b l in
        omega (arith, levels_least (leaves n B) h some room, up_seen (top n B) (inner n B + b) 0 (inner n B + b) q 0 p)

    pub walk_seen : (walk w ws n s B i r).seen ≤ 3 * h - 2
    unfolding walk
    walk_seen =
        let P : Walk → Type 0 = (λ d. d.seen ≤ 3 * h - 2) in
        cond_both (ends_at_once w n i) _ _ P (λ e. omega arith) (λ e. either P (far n r) (omega arith) (start_seen e (start_scan w ws n B i r)))
