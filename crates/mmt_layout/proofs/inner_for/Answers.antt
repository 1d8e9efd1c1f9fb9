-- `mmt_layout::inner_for` returns the number of inner nodes above l block leaves. For l > 2 let m be the number of binary digits of l - 1.
-- Then 64 ones shifted right by 64 - m are 2^m - 1, and 2^m is the smallest power of two that is at least l. Assumes nothing.
use mathlib.Core.Path.{◌≡◌, ap, ◌∙◌}
use Prim.Native.Nat.{ℕ, ◌+◌, ◌-◌, ◌*◌, ◌/◌, ◌^◌, ◌≤◌, ◌<◌}
use native.Mathlib.Omega.{arith}
use lib.Count.{count_leading_zeros, leading_length}
use Rattle.mmt_layout.proofs.Powers.{inner_many, shifted}
use Rattle.mmt_layout.proofs.inner_for.Goals as goal

-- l - 1 has m binary digits: its leading zeros are 64 - m, and 2^m is the smallest power of two above l - 1
digits : (c : goal.Else-l-le2) → let a = c.args.l - 1 in (m : ℕ) × (count_leading_zeros 64 a + m ≡ 64) × (a < 2 ^ m) × (2 ^ m ≤ 2 * a + 1)
digits c = leading_length 64 (c.args.l - 1) (omega arith)

pub returns : goal.returns
returns c =
    let l = c.args.l in
    let d = digits c in
    let z = count_leading_zeros 64 (l - 1) in
    let e : 64 ≡ d.0 + z = omega arith in
    ap (λ (k : ℕ). (2 ^ k - 1) / 2 ^ z) e ∙ shifted d.0 z ∙ inner_many l d.0 (omega arith) (omega arith) (omega arith)
