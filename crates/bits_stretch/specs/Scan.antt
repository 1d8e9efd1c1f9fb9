-- A scan: it reads a stretch bit by bit with a remainder, forward or backward (SCOPE, How a search walks).
-- Assumes nothing.
use Rattle.std.specs.Prelude.{cond, ℕ, zero, suc, ◌+◌, ℤ, pos, ◌+ℤ◌, ◌-ℤ◌}
use Rattle.ints.specs.Order.{eq_z}
use Rattle.row.specs.Excess.{sign}
use Rattle.row.specs.Way.{Way, forward, backward}
use Rattle.std.specs.declared.ops.ControlFlow.{ControlFlow}
use Rattle.std.specs.declared.ops.ControlFlow.TheVariants.{Break, Continue}

-- Result of a scan: the position that it hits, or the remainder that it leaves.
abbrev pub Scanned : Type 0
Scanned = ControlFlow ℕ ℤ

-- Of the c + 1 bits from j on, the position of the one that is read first: the lowest going forward, the highest going backward.
abbrev pub place : Way → ℕ → ℕ → ℕ
place forward c j = j
place backward c j = j + c

-- The position where the other c bits begin.
abbrev pub rest : Way → ℕ → ℕ
rest forward j = suc j
rest backward j = j

-- Two neighbours in the order in which they are met: the lower one first going forward, the higher one first going backward.
abbrev pub order : {A : Type 0} → Way → A → A → A × A
order forward low high = (low, high)
order backward low high = (high, low)

-- The remainder after passing bits of total t: r - t going forward, r + t going backward.
abbrev pub passed : Way → ℤ → ℤ → ℤ
passed forward r t = r -ℤ t
passed backward r t = r +ℤ t

-- The remainder after passing the bit b.
abbrev pub less : Way → ℤ → ℕ → ℤ
less w r b = passed w r (sign b)

-- A scan of the c bits of f from j on hits the first position at which the remainder becomes 0. Without a hit it leaves the remainder.
unfoldable pub scan : Way → (ℕ → ℕ) → ℕ → ℕ → ℤ → Scanned
scan d f zero j r = Continue r
scan d f (suc c) j r =
    let x = place d c j in
    let q = less d r (f x) in
    cond (eq_z q (pos 0)) (Break x) (scan d f c (rest d j) q)

-- The result of a scan of the same bits a positions further on: a hit moves by a positions, and a remainder is unchanged.
abbrev pub moved : ℕ → Scanned → Scanned
moved a (Break j) = Break (a + j)
moved a (Continue q) = Continue q
