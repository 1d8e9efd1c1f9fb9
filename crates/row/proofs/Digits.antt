-- Binary digits of a number, and the bits of a row by words and by bytes.
--   digit_lt: a digit is below 2
--   digit_low: reducing a number modulo 2^m keeps its digits below m
--   digit_shr: digit k of a number shifted right by s is digit s + k of the number
--   digit_suc: digit k + 1 of a number is digit k of its half
--   byte_of: digit k of byte q of a word is digit 8q + k of the word
--   word_bits: digit k of word i is bit 64i + k of the row
--   byte_bits: digit k of byte q is bit 8q + k of the row
-- Assumes nothing.
use mathlib.Core.Path.{◌≡◌, sym, ap, ap₂, ◌∙◌}
use mathlib.Core.List.{List}
use Prim.Native.Nat.{ℕ, suc, ◌+◌, ◌-◌, ◌*◌, ◌/◌, ◌%◌, ◌^◌, ◌<◌}
use native.Mathlib.Nat.{mod-lt}
use native.Mathlib.Numerals.{one-add}
use native.Mathlib.Omega.{arith}
use lib.Dec.{lit<}
use lib.ListN.{get_or}
use lib.Pow.{field, mod-mod-pow, shr-shr}
use Rattle.row.specs.Bits.{digit, bit_at, byte_at}

pub digit_lt : (n k : ℕ) → digit n k < 2
digit_lt n k = mod-lt (n / 2 ^ k) (lit< tt)

pub digit_low : (n m k : ℕ) → k < m → digit (n % 2 ^ m) k ≡ digit n k
digit_low n m k h =
    let e : m ≡ ((m - suc k) + 1) + k = omega arith in
    ap (λ (x : ℕ). digit (n % 2 ^ x) k) e
    ∙ ap (λ (x : ℕ). x % 2) (field n ((m - suc k) + 1) k)
    ∙ mod-mod-pow (n / 2 ^ k) (m - suc k) 1

pub digit_shr : (n s k : ℕ) → digit (n / 2 ^ s) k ≡ digit n (s + k)
digit_shr n s k = ap (λ (x : ℕ). x % 2) (shr-shr n s k)

pub digit_suc : (n k : ℕ) → digit n (suc k) ≡ digit (n / 2) k
digit_suc n k = ap (digit n) (sym (one-add k)) ∙ sym (digit_shr n 1 k)

pub byte_of : (w q k : ℕ) → k < 8 → digit (w / 2 ^ (8 * q) % 256) k ≡ digit w (8 * q + k)
byte_of w q k h = digit_low (w / 2 ^ (8 * q)) 8 k h ∙ digit_shr w (8 * q) k

pub word_bits : (ws : List ℕ) (i k : ℕ) → k < 64 → digit (get_or ws i 0) k ≡ bit_at ws (64 * i + k)
word_bits ws i k h =
    let q : i ≡ (64 * i + k) / 64 = omega arith in
    let s : k ≡ (64 * i + k) % 64 = omega arith in
    ap₂ (λ (x y : ℕ). digit (get_or ws x 0) y) q s

pub byte_bits : (ws : List ℕ) (q k : ℕ) → k < 8 → digit (byte_at ws q) k ≡ bit_at ws (8 * q + k)
byte_bits ws q k h =
    let e : 64 * (q / 8) + (8 * (q % 8) + k) ≡ 8 * q + k = omega arith in
    byte_of (get_or ws (q / 8) 0) (q % 8) k h ∙ word_bits ws (q / 8) (8 * (q % 8) + k) (omega arith) ∙ ap (bit_at ws) e
