-- Laws of powers of two and of the numbers of block leaves and inner nodes. P is the smallest power of two that is at least x.
--   power_ge: P is at least x
--   power_least: every power of two that is at least x is at least P
--   power_is: a power of two that is at least x and below 2x is P
--   inner_one: up to two block leaves have one inner node
--   inner_many: more than two block leaves have P - 1 inner nodes
--   shifted: m + z binary ones shifted right by z are m binary ones
--   levels: the number of levels of inner nodes, which is the height of the root
--   inner_top: I + 1 is 2 to the power of `levels`
--   inner_room: there are at most I + 1 block leaves
--   levels_least: `levels` is the smallest height, at least 1, of a tree with room for the block leaves
--   inner_small: I is below 2^c if c is at least 1 and there are at most 2^c block leaves
--   leaves_in: each of the first L blocks begins before n
--   leaves_out: every later block would begin at n or after it
--   leaves_up: L is n div B, rounded up
--   leaves_small: there are at most 2^29 block leaves
--   block_edge: every block begins at a byte boundary
-- Assumes nothing.
use mathlib.Core.Path.{◌≡◌, refl, ap, ◌∙◌}
use Prim.Native.Nat.{ℕ, zero, suc, ◌+◌, ◌-◌, ◌*◌, ◌/◌, ◌%◌, ◌^◌, ◌≤◌, ◌<◌, max, min}
use native.Mathlib.Omega.{arith}
use native.Mathlib.Nat.{pow-succ', mul-le-mul_right, mul-le-mul_left}
use Rattle.std.proofs.lemmas.Grind.{div_ceil_times}
use Rattle.std.proofs.lemmas.Nat.{mul-mod_second}
use lib.Pow.{pow_pos, pow_mono, high, ones_split, ones_lt}
use Rattle.row.specs.Limits.{max_bits}
use Rattle.mmt_layout.specs.Layout.{leaves, exponent, power, inner_for, max_leaves}

-- ---- the least power of two
lt_pow : (d : ℕ) → d < 2 ^ d
lt_pow zero = grind arith
lt_pow (suc d) = grind (arith, lt_pow d, pow-succ')

exponent_ge : (f d x : ℕ) → x ≤ f + d → x ≤ 2 ^ exponent f d x
unfolding exponent
exponent_ge zero d x h = grind (arith, lt_pow d)
exponent_ge (suc f) d x h = grind (arith, exponent_ge f (suc d) x)

exponent_least : (f d x c : ℕ) → d ≤ c → x ≤ 2 ^ c → exponent f d x ≤ c
unfolding exponent
exponent_least zero d x c h k = h
exponent_least (suc f) d x c h k = grind (arith, exponent_least f (suc d) x c)

module _ (x : ℕ) where
  pub power_ge : x ≤ power x
  unfolding power
  power_ge = exponent_ge x 0 x (omega arith)

  pub power_least : (c : ℕ) → x ≤ 2 ^ c → power x ≤ 2 ^ c
  unfolding power
  power_least c h = grind (arith, pow_mono, exponent_least)

  pub power_is : (c : ℕ) → x ≤ 2 ^ c → 2 ^ c < 2 * x → power x ≡ 2 ^ c
  unfolding power
  power_is c h l =
      grind (arith, power_ge, power_least c, pow_mono {i = suc (exponent x 0 x)} {j = c}, pow_mono {i = c} {j = exponent x 0 x}, pow-succ')

-- ---- inner nodes
pub inner_one : (l : ℕ) → l ≤ 2 → 1 ≡ inner_for l
unfolding inner_for
inner_one l h = grind (arith, power_least l 1)

pub inner_many : (l c : ℕ) → 2 < l → l ≤ 2 ^ c → 2 ^ c < 2 * l → 2 ^ c - 1 ≡ inner_for l
unfolding inner_for
inner_many l c h p q = grind (arith, power_is)

pub shifted : (m z : ℕ) → (2 ^ (m + z) - 1) / 2 ^ z ≡ 2 ^ m - 1
shifted m z = ap (λ (x : ℕ). x / 2 ^ z) (ones_split m z) ∙ high (2 ^ m - 1) z (ones_lt z)

-- the number of levels of inner nodes, which is the height of the root
unfoldable pub levels : ℕ → ℕ
levels l = max 1 (exponent l 0 l)

pub inner_top : (l : ℕ) → suc (inner_for l) ≡ 2 ^ levels l
unfolding inner_for power levels
inner_top l = go (exponent l 0 l)
  where
    go : (g : ℕ) → suc (max 1 (2 ^ g - 1)) ≡ 2 ^ max 1 g
    go zero = refl
    go (suc g) = let q : max 1 (suc g) ≡ suc g = omega arith in rw q (omega (arith, pow-succ' 2 g, pow_pos g))

pub inner_room : (l : ℕ) → l ≤ suc (inner_for l)
unfolding inner_for
inner_room l = omega (arith, power_ge l)

-- `levels` is the smallest height, at least 1, of a tree with room for l block leaves
pub levels_least : (l c : ℕ) → 0 < c → l ≤ 2 ^ c → levels l ≤ c
unfolding levels
levels_least l c h k = grind (arith, exponent_least)

pub inner_small : (l c : ℕ) → 0 < c → l ≤ 2 ^ c → inner_for l < 2 ^ c
inner_small l c h k = grind (arith, inner_top l, pow_mono, levels_least)

-- ---- block leaves
module _ (n B : ℕ) (pB : 0 < B) where
  pub leaves_in : (b : ℕ) → b < leaves n B → b * B < n
  unfolding leaves
  leaves_in b h = grind (arith, mul-le-mul_right {m = suc b} {n = (n + (B - 1)) / B} B)

  pub leaves_out : (b : ℕ) → leaves n B ≤ b → n ≤ b * B
  unfolding leaves
  leaves_out b h = grind (arith, mul-le-mul_right {m = (n + (B - 1)) / B} {n = b} B)

  -- n div B, rounded up
  pub leaves_up : n / B + min 1 (n % B) ≡ leaves n B
  unfolding leaves
  leaves_up = grind (arith, div_ceil_times n B pB, mul-le-mul_right)

-- a block has at least 8 bits, so at most 2^32 div 8 blocks are needed
pub leaves_small : (n B : ℕ) → 8 ≤ B → n ≤ max_bits → leaves n B ≤ max_leaves
leaves_small n B h k = let b = leaves n B - 1 in grind (arith, leaves_in n B (omega arith) b, mul-le-mul_left {m = 8} {n = B} b)

-- every block begins at a byte boundary, because B is a multiple of 8
pub block_edge : (b B : ℕ) → B % 8 ≡ 0 → b * B % 8 ≡ 0
block_edge b B h = grind (arith, mul-mod_second b B 8)
