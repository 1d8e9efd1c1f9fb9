-- A scan piece by piece, in either direction: a row is read by words, a word by bytes.
--   Part: the bits that are read next, and the bits that are left after them
--   part_hit: a hit in the part is the hit of the whole scan
--   part_on: if the part leaves a remainder, Reading holds for the bits after it
--   byte_scan: a scan of a byte, with its hit moved, is a scan of these bits of its word
--   byte_read: byte k of a word is that of `to_le_bytes`
--   whole_scan: a scan of a word, with its hit moved, is a scan of these bits of the row
--   piece_hit, piece_on: the same for a loop whose piece k begins at g k; a piece is a word or a byte
--   total_back: the total of a word is unchanged by being stored in an i64
--   far_left: if |r| is above 64, the scan of a whole word leaves the remainder after passing its total
-- Assumes nothing.
use mathlib.Core.Path.{◌≡◌, refl, sym, ap, ◌∙◌}
use Prim.Native.Nat.{ℕ, zero, suc, ◌+◌, ◌-◌, ◌*◌, ◌/◌, ◌%◌, ◌^◌, ◌≤◌, ◌<◌}
use native.Mathlib.Omega.{arith}
use native.Mathlib.Nat.{zero-add, add-zero, add-suc}
use lib.IntN.{ℤ}
use lib.ListN.{get_or}
use mathlib.Core.List.{List}
use mir.Syntax.{w64}
use mir.Val.{SFits, to_z, of_z}
use mir.ValLaws.{to_z-of_z}
use Rattle.ints.specs.Sides.{size}
use Rattle.ints.proofs.Shapes.{zsum}
use Rattle.std.specs.Int.{to_le_bytes}
use Rattle.row.specs.Bits.{digit, bit_at}
use Rattle.row.specs.Excess.{excess}
use Rattle.row.specs.Way.{Way, forward, backward}
use Rattle.row.proofs.Digits.{byte_of}
use Rattle.row.proofs.Excess.{excess_ext, excess_size}
use Rattle.bits_stretch.specs.Scan.{Scanned}
use Rattle.std.specs.declared.ops.ControlFlow.TheVariants.{Break, Continue}
use Rattle.bits_stretch.specs.Scan.{place, rest, passed, scan, moved}
use Rattle.bits_stretch.proofs.Parts.{scan_onward, then_at, scan_split, scan_shift, scan_size}
use Rattle.bits_stretch.proofs.Covers.{skip_far}
use Rattle.bits_edge.proofs.Words.{word_scan}
pub use Rattle.bits_stretch.proofs.Steps.{Reading, reading_start, reading_done}

-- ---- part by part

-- Of the m bits from j on, the p bits from x on are read first, then the d bits from i on.
pub record Part (w : Way) (m j p x d i : ℕ) : Type 0 where
  pub count : m ≡ p + d
  pub first : x ≡ place w d j
  pub next : i ≡ then_at w p j

then_from : (w : Way) (p j : ℕ) → (j ≤ then_at w p j) × (then_at w p j ≤ j + p)
then_from forward p j = (omega arith, omega arith)
then_from backward p j = (omega arith, omega arith)

module _ {w : Way} {f : ℕ → ℕ} {c a : ℕ} {r : ℤ} {m j : ℕ} {q : ℤ} (s : Reading w f c a r m j q)
    {p x d i : ℕ} (t : Part w m j p x d i) {y : Scanned} (e : y ≡ scan w f p x q) where
  split : scan_onward y (scan w f d i) ≡ scan w f c a r
  split = ap (λ (y : Scanned). scan_onward y (scan w f d i)) e ∙ sym (sym s.same ∙ rw (t.count, t.first, t.next) (scan_split w f p d j q))

  pub part_hit : {k : ℕ} → y ≡ Break k → Break k ≡ scan w f c a r
  part_hit g = rw g at split

  pub part_on : {l : ℤ} → y ≡ Continue l → SFits w64 l → Reading w f c a r d i (to_z w64 (of_z w64 l))
  part_on {l} g h = rw (to_z-of_z w64 l h) (record {
    same = rw g at split;
    near = omega (arith, s.near, t.count, scan_size w f p x q l (sym e ∙ g));
    begin = omega (arith, s.begin, t.next, then_from w p j);
    inside = omega (arith, s.inside, t.count, t.next, then_from w p j);
  })

-- ---- bits of a byte, and of a word
pub byte_read : (v k : ℕ) → k < 8 → get_or (to_le_bytes w64 v) k 0 ≡ v / 2 ^ (8 * k) % 256
byte_read v zero h = omega arith
byte_read v (suc zero) h = omega arith
byte_read v (suc (suc zero)) h = omega arith
byte_read v (suc (suc (suc zero))) h = omega arith
byte_read v (suc (suc (suc (suc zero)))) h = omega arith
byte_read v (suc (suc (suc (suc (suc zero))))) h = omega arith
byte_read v (suc (suc (suc (suc (suc (suc zero)))))) h = omega arith
byte_read v (suc (suc (suc (suc (suc (suc (suc zero))))))) h = omega arith
byte_read v (suc (suc (suc (suc (suc (suc (suc (suc k)))))))) h = absurd (omega arith)

-- Byte k of the word v is b. Its bits are the bits of the word from 8k on.
module _ (w : Way) where
  pub byte_scan : (v k : ℕ) (r : ℤ) {b : ℕ} {y z : Scanned} → b ≡ v / 2 ^ (8 * k) % 256 → y ≡ scan w (digit b) 8 0 r → z ≡ moved (8 * k) y
      → z ≡ scan w (digit v) (8 * suc k - 8 * k) (8 * k) r
  byte_scan v k r {b} h e m =
      let n : 8 * suc k - 8 * k ≡ 8 = omega arith in
      m
      ∙ ap (moved (8 * k)) e
      ∙ sym (scan_shift w (digit v) (digit b) (8 * k) 8 0 r (λ j l m. rw h (sym (byte_of v k j (omega arith)))))
      ∙ rw (n, add-zero) refl

  pub whole_scan : (ws : List ℕ) (k : ℕ) (r : ℤ) {y z : Scanned} → y ≡ scan w (digit (get_or ws k 0)) 64 0 r → z ≡ moved (64 * k) y
      → z ≡ scan w (bit_at ws) (64 * suc k - 64 * k) (64 * k) r
  whole_scan ws k r e m = m ∙ word_scan w ws r (record { count = omega arith; begin = omega arith; inside = omega arith }) e

-- ---- one turn of a loop over pieces

-- Piece k begins at g k and ends where piece k + 1 begins.
module _ (g : ℕ → ℕ) (up : (k : ℕ) → g k ≤ g (suc k)) where
  grows : (c k : ℕ) → g k ≤ g (k + c)
  grows zero k = rw add-zero (omega arith)
  grows (suc c) k = rw add-suc (omega (arith, grows c k, up (k + c)))

  -- Of the c + 1 pieces from k on, one is read first, then the other c.
  piece : (w : Way) (c k : ℕ)
      → Part w (g (k + suc c) - g k) (g k) (g (suc (place w c k)) - g (place w c k)) (g (place w c k)) (g (rest w k + c) - g (rest w k)) (g (rest w k))
  piece forward c k =
      let e : k + suc c ≡ suc k + c = omega arith in
      rw e (record { count = omega (arith, up k, grows c (suc k)); first = refl; next = omega (arith, up k) })
  piece backward c k =
      let e : k + suc c ≡ suc (k + c) = omega arith in
      rw e (record { count = omega (arith, up (k + c), grows c k); first = omega (arith, grows c k); next = refl })

  module _ {w : Way} {f : ℕ → ℕ} {n a : ℕ} {r : ℤ} {m k : ℕ} {q : ℤ} (s : Reading w f n a r (g (k + m) - g k) (g k) q)
      {c i : ℕ} {y : Scanned} (e : m ≡ suc c) (h : i ≡ place w c k) (x : y ≡ scan w f (g (suc i) - g i) (g i) q) where
    read : Part w (g (k + m) - g k) (g k) (g (suc i) - g i) (g i) (g (rest w k + c) - g (rest w k)) (g (rest w k))
    read = rw (e, h) (piece w c k)

    pub piece_hit : {j : ℕ} → y ≡ Break j → Break j ≡ scan w f n a r
    piece_hit b = part_hit s read x b

    pub piece_on : {l : ℤ} {i : ℕ} → i ≡ rest w k → y ≡ Continue l → SFits w64 l → Reading w f n a r (g (i + c) - g i) (g i) (to_z w64 (of_z w64 l))
    piece_on o b v = rw o (part_on s read x b v)

-- ---- a whole word that is passed at once by its total t, because |r| is above 64
module _ (v : ℕ) where
  abbrev total : ℤ
  total = excess (digit v) 64

  pub total_back : {t : ℤ} → t ≡ total → to_z w64 (of_z w64 t) ≡ total
  total_back e = ap (λ (t : ℤ). to_z w64 (of_z w64 t)) e ∙ to_z-of_z w64 total (omega (zsum, excess_size (digit v) 64))

  pub far_left : (w : Way) (r : ℤ) {c a : ℕ} → c ≡ 64 → a ≡ 0 → 64 < size r → scan w (digit v) c a r ≡ Continue (passed w r total)
  far_left w r n z h =
      let x : excess (λ k. digit v (0 + k)) 64 ≡ total = excess_ext (λ k. digit v (0 + k)) (digit v) 64 (λ k l. ap (digit v) (zero-add k)) in
      rw (n, z, ← x) (skip_far w (digit v) 64 0 r h)
