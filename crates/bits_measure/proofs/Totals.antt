-- The summary of a stretch of a row, computed from its bytes.
--   byte_summary: the summary of byte q is that of the eight bits of the row from 8q on
--   bytes_first: the summary of byte q is that of bytes q to q
--   bytes_next: joined with the summary of byte k, the summary of bytes `from` to k - 1 becomes that of bytes `from` to k
--   tail_summary: if a stretch does not end at a byte boundary, its summary is that of its whole bytes, joined with that of the bits after them
-- Assumes nothing.
use mathlib.Core.Path.{◌≡◌, sym, ap, ◌∙◌}
use mathlib.Core.List.{List}
use Prim.Native.Nat.{ℕ, ◌+◌, ◌-◌, ◌*◌, ◌/◌, ◌%◌, ◌<◌}
use native.Mathlib.Nat.{zero-add}
use native.Mathlib.Omega.{arith}
use Rattle.row.specs.Bits.{digit, bit_at, byte_at}
use Rattle.row.proofs.Digits.{byte_bits}
use Rattle.bits_stretch.specs.declared.summary.Summary.{Summary}
use Rattle.bits_stretch.specs.Summary.{summary_of, join_of}
use Rattle.bits_stretch.proofs.Full.{summary_join, summary_ext}

module _ (ws : List ℕ) where
  pub byte_summary : (q : ℕ) {b : ℕ} {x : Summary} → b ≡ byte_at ws q → x ≡ summary_of (digit b) 0 8 → x ≡ summary_of (bit_at ws) (8 * q) 8
  byte_summary q e h = rw e at h ∙ summary_ext (digit (byte_at ws q)) (bit_at ws) 0 (8 * q) 8 (λ k m. ap (digit (byte_at ws q)) (zero-add k) ∙ byte_bits ws q k m)

  pub bytes_first : (q : ℕ) → summary_of (bit_at ws) (8 * q) 8 ≡ summary_of (bit_at ws) (8 * q) (8 * ((q + 1) - q))
  bytes_first q = let n : 8 ≡ 8 * ((q + 1) - q) = omega arith in ap (summary_of (bit_at ws) (8 * q)) n

  -- The summary of c bits from a on, joined with that of the d bits after them, is the summary of all c + d.
  more : (a b c d m : ℕ) → 0 < c → 0 < d → b ≡ a + c → m ≡ c + d → join_of (summary_of (bit_at ws) a c) (summary_of (bit_at ws) b d) ≡ summary_of (bit_at ws) a m
  more a b c d m h k p q = rw (p, q) (sym (summary_join (bit_at ws) a c d h k))

  pub bytes_next : (from k : ℕ) → from < k
      → join_of (summary_of (bit_at ws) (8 * from) (8 * (k - from))) (summary_of (bit_at ws) (8 * k) 8) ≡ summary_of (bit_at ws) (8 * from) (8 * ((k + 1) - from))
  bytes_next from k h = more (8 * from) (8 * k) (8 * (k - from)) 8 (8 * ((k + 1) - from)) (omega arith) (omega arith) (omega arith) (omega arith)

  pub tail_summary : (from to : ℕ) {x y z : Summary} → from % 8 ≡ 0 → from / 8 < to / 8 → 8 * (to / 8) < to
      → x ≡ summary_of (bit_at ws) (8 * (from / 8)) (8 * (to / 8 - from / 8)) → y ≡ summary_of (bit_at ws) (8 * (to / 8)) (to - 8 * (to / 8))
      → z ≡ join_of x y → z ≡ summary_of (bit_at ws) from (to - from)
  tail_summary from to e h l a b j =
      let p : 8 * (from / 8) ≡ from = omega arith in
      rw (a, b) at j ∙ rw p (more from (8 * (to / 8)) (8 * (to / 8 - from / 8)) (to - 8 * (to / 8)) (to - from) (omega arith) (omega arith) (omega arith) (omega arith))
