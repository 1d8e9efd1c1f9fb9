-- Bits of one word are bits of the row.
--   Lies: the claim that a stretch of the row is a stretch of one word
--   edge_lies: a stretch with the bounds `InWord` satisfies this claim
--   word_scan: a scan of these bits of the word, with its hit moved, is a scan of the row
--   word_summary: the summary of these bits of the word is that of the bits of the row
-- Assumes nothing.
use mathlib.Core.Path.{◌≡◌, sym, ap, ◌∙◌}
use mathlib.Core.List.{List}
use Prim.Native.Nat.{ℕ, ◌+◌, ◌-◌, ◌*◌, ◌/◌, ◌%◌, ◌≤◌, ◌<◌}
use native.Mathlib.Omega.{arith}
use lib.ListN.{get_or}
use lib.IntN.{ℤ}
use Rattle.row.specs.Bits.{digit, bit_at}
use Rattle.row.specs.Way.{Way}
use Rattle.row.proofs.Digits.{word_bits}
use Rattle.bits_stretch.specs.Scan.{Scanned}
use Rattle.bits_stretch.specs.Summary.{summary_of}
use Rattle.bits_stretch.specs.Scan.{scan, moved}
use Rattle.bits_stretch.proofs.Full.{summary_ext}
use Rattle.bits_stretch.proofs.Parts.{scan_shift}
use Rattle.bits_edge.specs.Parts.{InWord}

-- The c bits of the row from a on are the p bits of word i from b on.
pub record Lies (c a i p b : ℕ) : Type 0 where
  pub count : c ≡ p
  pub begin : a ≡ 64 * i + b
  pub inside : b + p ≤ 64

pub edge_lies : {n from to : ℕ} → InWord n from to → Lies (to - from) from (from / 64) ((to - 64 * (from / 64)) - from % 64) (from % 64)
edge_lies h = record { count = omega arith; begin = omega arith; inside = omega arith }

module _ (w : Way) where
  pub word_scan : (ws : List ℕ) (r : ℤ) {c a i p b : ℕ} {y : Scanned} → Lies c a i p b → y ≡ scan w (digit (get_or ws i 0)) p b r
      → moved (64 * i) y ≡ scan w (bit_at ws) c a r
  word_scan ws r {i = i} {p = p} {b = b} h e =
      ap (moved (64 * i)) e ∙ rw (h.count, h.begin) (sym (scan_shift w (bit_at ws) (digit (get_or ws i 0)) (64 * i) p b r (λ k l m. sym (word_bits ws i k (omega (arith, h.inside))))))

module _ (ws : List ℕ) where
  pub word_summary : (from to : ℕ) → from < to → to ≤ 64 * (from / 64) + 64
      → summary_of (digit (get_or ws (from / 64) 0)) (from % 64) ((to - 64 * (from / 64)) - from % 64) ≡ summary_of (bit_at ws) from (to - from)
  word_summary from to h l =
      let n : (to - 64 * (from / 64)) - from % 64 ≡ to - from = omega arith in
      rw n
      (summary_ext (digit (get_or ws (from / 64) 0)) (bit_at ws) (from % 64) from (to - from)
      (λ k m. let p : 64 * (from / 64) + (from % 64 + k) ≡ from + k = omega arith in word_bits ws (from / 64) (from % 64 + k) (omega arith) ∙ ap (bit_at ws) p))
