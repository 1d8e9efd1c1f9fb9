-- The summary of a stretch and the join of two (SCOPE, The node buffer), and when a stretch qualifies (SCOPE, How a search walks).
-- The bound for a join is in SCOPE, Shapes of code that are required.
-- Assumes nothing.
use Rattle.std.specs.Prelude.{Bool, ◌&&◌, ◌||◌, ℕ, zero, suc, ◌+◌, ◌≤◌, ℤ, pos, ◌+ℤ◌}
use Rattle.std.specs.Int.Signed.{le_z}
use Rattle.ints.specs.Sides.{size}
use Rattle.ints.specs.Order.{min_z, max_z, eq_z}
use Rattle.row.specs.Excess.{excess}
use Rattle.row.specs.Way.{Way, forward, backward}
use Rattle.bits_stretch.specs.declared.summary.Summary.{Summary}

-- The running excess after bit j of the stretch that begins at a: the excess of its bits up to and with bit j.
unfoldable pub run : (ℕ → ℕ) → ℕ → ℕ → ℤ
run f a j = excess (λ k. f (a + k)) (suc j)

-- The smallest of the values g 0 to g k.
unfoldable pub lowest : (ℕ → ℤ) → ℕ → ℤ
lowest g zero = g 0
lowest g (suc k) = min_z (lowest g k) (g (suc k))

-- The greatest of the values g 0 to g k.
unfoldable pub highest : (ℕ → ℤ) → ℕ → ℤ
highest g zero = g 0
highest g (suc k) = max_z (highest g k) (g (suc k))

-- The summary of a stretch without bits is (0, 0, 0).
unfoldable pub none : Summary
none = record { total = pos 0; least = pos 0; greatest = pos 0 }

-- The summary of the c bits from a on: total, least and greatest running excess.
unfoldable pub summary_of : (ℕ → ℕ) → ℕ → ℕ → Summary
summary_of f a zero = none
summary_of f a (suc c) = record { total = run f a c; least = lowest (run f a) c; greatest = highest (run f a) c }

-- A left summary (tl, ml, xl) and a right summary (tr, mr, xr) join to (tl + tr, min(ml, tl + mr), max(xl, tl + xr)).
unfoldable pub join_of : Summary → Summary → Summary
join_of x y = record {
  total = x.total +ℤ y.total;
  least = min_z x.least (x.total +ℤ y.least);
  greatest = max_z x.greatest (x.total +ℤ y.greatest);
}

-- Going forward, a stretch qualifies for the remainder r if least <= r <= greatest.
unfoldable pub holds_for : Summary → ℤ → Bool
holds_for x r = le_z x.least r && le_z r x.greatest

-- Going backward, with s = remainder + total, a stretch qualifies if s = 0 or least <= s <= greatest.
unfoldable pub holds_back : Summary → ℤ → Bool
holds_back x s = eq_z s (pos 0) || holds_for x s

-- A stretch qualifies for the remainder r: forward if least <= r <= greatest; backward, with s = r + total, if s = 0 or
-- least <= s <= greatest.
abbrev pub holds_on : Way → Summary → ℤ → Bool
holds_on forward x r = holds_for x r
holds_on backward x r = holds_back x (r +ℤ x.total)

-- 2^61. The sum of two values of at most this size fits into an i64.
abbrev pub tame_bound : ℕ
tame_bound = 2305843009213693952

-- A summary that can be joined: each of its values has a size of at most 2^61.
pub record Tame (x : Summary) : Type 0 where
  pub total : size x.total ≤ tame_bound
  pub least : size x.least ≤ tame_bound
  pub greatest : size x.greatest ≤ tame_bound

-- Two summaries that can be joined: the left one x and the right one y.
pub record TamePair (x y : Summary) : Type 0 where
  pub left : Tame x
  pub right : Tame y
