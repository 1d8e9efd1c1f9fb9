-- The start block is scanned in two parts: the first bits up to a byte boundary, then the rest.
--   edge_fwd_in, edge_bwd_in: the boundary is not outside the start block
--   halves: the two parts together are the scan of the start block
--   Sized, sized: the first bits begin in the row, the rest lies in the row, and together they are at most a block
--   starts_at: the first bits begin in the start block
--   first_hit, first_left: a hit in the first bits is the answer, and without one the rest is still to scan
--   first_on: the answer after the rest is that of the walk
--   rest_passed: a rest without a hit leaves a remainder of a bounded size
-- Assumes nothing.
use mathlib.Core.Path.{◌≡◌, refl, sym, ◌∙◌}
use mathlib.Core.Bool.{false}
use mathlib.Core.List.{List}
use Prim.Native.Nat.{ℕ, ◌+◌, ◌-◌, ◌*◌, ◌/◌, ◌%◌, ◌≤◌, ◌<◌, min}
use native.Mathlib.Nat.{div-mul-le_self, lt-div-mul-add}
use native.Mathlib.Omega.{arith}
use lib.IntN.{ℤ}
use lib.ListN.{length}
use mir.Syntax.{w64}
use mir.Val.{SFits, to_z, of_z}
use mir.ValLaws.{to_z-of_z}
use Rattle.std.specs.Prelude.{Some}
use Rattle.ints.specs.Sides.{size}
use Rattle.ints.proofs.Shapes.{zsum}
use Rattle.row.specs.Limits.{max_bits}
use Rattle.row.specs.Answer.{at}
use Rattle.row.specs.Bits.{bit_at}
use Rattle.row.specs.Way.{Way, forward, backward}
use Rattle.bits_stretch.specs.Scan.{Scanned, order, scan}
use Rattle.std.specs.declared.ops.ControlFlow.TheVariants.{Break, Continue}
use Rattle.bits_stretch.proofs.Parts.{scan_onward, scan_size}
use Rattle.mmt_layout.specs.Layout.{max_block, Fine}
use Rattle.mmt_layout.proofs.Powers.{block_edge}
use Rattle.walk_spec.specs.Walk.{ends_at_once, start_block, start_scan, in_start, walk}
use Rattle.walk_spec.proofs.Stretches.{over, over_split}
use Rattle.walk_spec.proofs.Right.{inside}
use Rattle.walk_code.specs.declared.start.FirstBits.{FirstBits}
use Rattle.walk_code.specs.WalkParts.{first_bits, Starts, Stretch, rest_of_start, scan_of, RestOfStart, StartPassed}
use Rattle.walk_code.proofs.Answers.{walk_starts}

module _ (n B : ℕ) (eight : 8 ≤ B) (eights : B % 8 ≡ 0) (i : ℕ) where
  edge_fwd_in : (i + 1 + 7) / 8 * 8 ≤ (i + 1) / B * B + B
  edge_fwd_in = omega (arith, lt-div-mul-add {a = i + 1} {b = B} (omega arith), block_edge ((i + 1) / B + 1) B eights)

  edge_bwd_in : 0 < i → (i - 1) / B * B ≤ i / 8 * 8
  edge_bwd_in l = omega (arith, div-mul-le_self (i - 1) B, block_edge ((i - 1) / B) B eights)

  abbrev rest : Way → Stretch
  rest w = rest_of_start w n B (first_bits w n i)

  -- the scan of the first bits
  abbrev near : Way → List ℕ → ℤ → Scanned
  near w ws r = scan w (bit_at ws) ((first_bits w n i).to - (first_bits w n i).from) (first_bits w n i).from r

  halves : (w : Way) → ends_at_once w n i ≡ false → (ws : List ℕ) (r : ℤ) → scan_onward (near w ws r) (scan_of w ws (rest w)) ≡ start_scan w ws n B i r
  unfolding over
  halves forward e ws r =
      let l = inside forward n i e in
      let edge = min n ((i + 1 + 7) / 8 * 8) in
      let d : ((i + 1) / B + 1) * B ≡ (i + 1) / B * B + B = omega arith in
      rw d (sym (over_split (bit_at ws) forward (i + 1) edge (min n ((i + 1) / B * B + B)) r (omega arith) (omega (arith, edge_fwd_in))))
  halves backward e ws r =
      let l = inside backward n i e in
      sym (over_split (bit_at ws) backward ((i - 1) / B * B) (i / 8 * 8) i r (edge_bwd_in l.0) (omega arith))

  record Sized (w : Way) : Type 0 where
    begins : (first_bits w n i).first < n
    order : (rest w).0 ≤ (rest w).1
    inside : (rest w).1 ≤ n
    most : (first_bits w n i).to - (first_bits w n i).from + ((rest w).1 - (rest w).0) ≤ B

  sized : (w : Way) → ends_at_once w n i ≡ false → Sized w
  sized forward e =
      let l = inside forward n i e in
      record { begins = l; order = omega (arith, edge_fwd_in); inside = omega arith; most = omega (arith, edge_fwd_in, div-mul-le_self (i + 1) B) }
  sized backward e =
      let l = inside backward n i e in
      let h = lt-div-mul-add {a = i - 1} {b = B} (omega arith) in
      record { begins = omega arith; order = edge_bwd_in l.0; inside = omega arith; most = omega (arith, edge_bwd_in l.0) }

starts_at : (w : Way) (n B i : ℕ) → start_block w B i ≡ (first_bits w n i).first / B
starts_at forward n B i = refl
starts_at backward n B i = refl

-- ---- after the first bits, in the words of the contracts: the first bits b, the result y of their scan
module _ (w : Way) (ws : List ℕ) (n : ℕ) (s : List ℤ) (B i : ℕ) (r : ℤ) (fine : Fine (length ws) n (length s) B) (v : SFits w64 r) (near : size r ≤ n)
    (b : FirstBits) (p : Starts w n i (Some b)) {y : Scanned} (e : y ≡ scan w (bit_at ws) (b.to - b.from) b.from (to_z w64 (of_z w64 r))) where
  read : y ≡ scan w (bit_at ws) (b.to - b.from) b.from r
  read = rw (to_z-of_z w64 r v) at e

  split : (in_start w ws n s B (b.first / B) (scan_onward y (scan_of w ws (rest_of_start w n B b)))).answer ≡ (walk w ws n s B i r).answer
  split =
      rw (read, p.1, ← starts_at w n B i)
      (walk_starts w ws n s B i r p.0 near (halves n B fine.eight fine.eights i w p.0 ws r))

  pub first_hit : {j : ℕ} → y ≡ Break j → at j ≡ (walk w ws n s B i r).answer
  first_hit g = rw g at split

  module _ (q : ℤ) (g : y ≡ Continue q) where
    left : size q ≤ size r + (b.to - b.from)
    left = scan_size w (bit_at ws) (b.to - b.from) b.from r q (sym read ∙ g)

    at_start : RestOfStart w n B b q
    at_start =
        let z = sized n B fine.eight fine.eights i w p.0 in
        let l = rw p.1 at left in
        rw p.1 (record { begins = z.begins; order = z.order; inside = z.inside; near = omega (arith, z.most, l, near, fine.small, fine.short) })

    first_back : to_z w64 (of_z w64 q) ≡ q
    first_back = to_z-of_z w64 q (let m = at_start.near in omega (zsum, m))

    pub first_left : RestOfStart w n B b (to_z w64 (of_z w64 q))
    first_left = rw first_back at_start

    pub first_on : (in_start w ws n s B (b.first / B) (scan_of w ws (rest_of_start w n B b) (to_z w64 (of_z w64 q)))).answer ≡ (walk w ws n s B i r).answer
    first_on = rw first_back (rw g at split)

-- ---- after the rest x of the start block, in the words of the contracts: its end m is that of the block or n, the result of its scan is y
module _ (w : Way) (ws : List ℕ) (n B : ℕ) (pB : 0 < B) (r : ℤ) (v : SFits w64 r) (b : FirstBits) (p : RestOfStart w n B b r)
    {m : ℕ} (d : m ≡ min n (b.first / B * B + B)) {x : Stretch × Stretch} (o : x ≡ order w (b.first / B * B, b.from) (b.to, m))
    {y : Scanned} (e : y ≡ scan_of w ws x.1 (to_z w64 (of_z w64 r))) (q : ℤ) (g : y ≡ Continue q) where
  rest_is : x.1 ≡ rest_of_start w n B b
  rest_is = rw (o, d)

  rest_left : size q ≤ (max_bits + max_block)
  rest_left =
      let z = scan_size w (bit_at ws) (x.1.1 - x.1.0) x.1.0 r q (sym (rw (to_z-of_z w64 r v) at e) ∙ g) in
      omega (arith, rw (sym rest_is) at p.near)

  pub rest_passed : StartPassed n B (b.first / B) (to_z w64 (of_z w64 q))
  rest_passed =
      rw (to_z-of_z w64 q (let l = rest_left in omega (zsum, l)))
      (record { begins = omega (arith, div-mul-le_self b.first B, p.begins); near = rest_left })
