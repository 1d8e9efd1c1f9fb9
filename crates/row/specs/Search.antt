-- The two searches by definition (SCOPE, The two searches).
-- Assumes nothing.
use Rattle.std.specs.Prelude.{Bool, cond, List, ℕ, zero, suc, ◌+◌, ◌-◌, ltb, ℤ, ◌+ℤ◌}
use Rattle.ints.specs.Order.{eq_z}
use Rattle.row.specs.Answer.{Answer, at, nothing}
use Rattle.row.specs.Excess.{E}

-- The smallest of the c numbers from a on that satisfies p, or nothing.
unfoldable pub least : (ℕ → Bool) → ℕ → ℕ → Answer
least p zero a = nothing
least p (suc c) a = cond (p a) (at a) (least p c (suc a))

-- The greatest of the c numbers from a on that satisfies p, or nothing.
unfoldable pub greatest : (ℕ → Bool) → ℕ → ℕ → Answer
greatest p zero a = nothing
greatest p (suc c) a = cond (p (a + c)) (at (a + c)) (greatest p c a)

-- Tests whether the excess after position j is v. This excess counts the bit at j.
abbrev pub excess_after : (ℕ → ℤ) → ℤ → ℕ → Bool
excess_after e v j = eq_z (e (suc j)) v

-- Tests whether the excess before position j is v. This excess does not count the bit at j.
abbrev pub excess_before : (ℕ → ℤ) → ℤ → ℕ → Bool
excess_before e v j = eq_z (e j) v

-- fwd_search(i, r) is the smallest position j with i < j < n and E(j+1) = E(i+1) + r. It is nothing if i >= n, since no j is left then.
unfoldable pub fwd : List ℕ → ℕ → ℕ → ℤ → Answer
fwd ws n i r = least (excess_after (E ws) (E ws (suc i) +ℤ r)) (n - suc i) (suc i)

-- bwd_search(i, r) is the greatest position j < i with E(j) = E(i) + r. It is nothing if i >= n.
unfoldable pub bwd : List ℕ → ℕ → ℕ → ℤ → Answer
bwd ws n i r = cond (ltb i n) (greatest (excess_before (E ws) (E ws i +ℤ r)) i 0) nothing
