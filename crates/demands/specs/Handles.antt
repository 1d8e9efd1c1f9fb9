-- SCOPE, The calls: the depth of a handle, the levels, and the children of a handle, for a row that is one tree.
-- Assumes nothing.
use Rattle.std.specs.Prelude.{Bool, false, ◌&&◌, List, ℕ, ltb, ℤ, pos, negsuc, ◌+ℤ◌}
use Rattle.ints.specs.Order.{eq_z}
use Rattle.row.specs.Answer.{Answer, at, nothing, refused}
use Rattle.row.specs.Excess.{E}
use Rattle.row.specs.Search.{fwd}
use Rattle.row.specs.Tree.{opens}
use Rattle.demands.specs.Lists.{those}

-- Tests whether v is a handle of depth k. The depth of a handle v is E(v).
unfoldable pub at_depth : List ℕ → ℕ → ℤ → ℕ → Bool
at_depth ws n k v = opens ws n v && eq_z (E ws v) k

-- Tests whether the answer is a position greater than c.
abbrev pub is_before : ℕ → Answer → Bool
is_before c (at e) = ltb c e
is_before c nothing = false
is_before c (refused k) = false

-- Tests whether c is a child of v: a handle with v < c < close(v) and E(c) = E(v) + 1. A position v without a close has no children.
unfoldable pub child_of : List ℕ → ℕ → ℕ → ℕ → Bool
child_of ws n v c = ltb v c && (is_before c (fwd ws n v (negsuc 0)) && at_depth ws n (E ws v +ℤ pos 1) c)

-- Level k: the handles of depth k, in rising order.
abbrev pub level : List ℕ → ℕ → ℕ → List ℕ
level ws n k = those (at_depth ws n (pos k)) n 0

-- The children of v, in rising order.
abbrev pub children : List ℕ → ℕ → ℕ → List ℕ
children ws n v = those (child_of ws n v) n 0
