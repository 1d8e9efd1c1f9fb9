-- A list made by a rule, and its entries.
--   tabulated: the list g i, g (i + 1) and so on
--   made_at: entry k of the list that starts with g 0 is g k
-- Assumes nothing.
use mathlib.Core.Path.{◌≡◌, sym, ap, ◌∙◌}
use mathlib.Core.List.{List, [], ◌∷◌}
use Prim.Native.Nat.{ℕ, zero, suc, ◌+◌, ◌<◌}
use native.Mathlib.Nat.{add-zero, zero-add, add-suc, suc-add, le_of_suc-le-suc, not-suc-le-zero}
use lib.ListN.{get_or}

-- The list g i, g (i + 1) and so on, with n entries.
unfoldable pub tabulated : (ℕ → ℕ) → ℕ → ℕ → List ℕ
tabulated g i zero = []
tabulated g i (suc n) = g i ∷ tabulated g (suc i) n

from : (g : ℕ → ℕ) (i n k : ℕ) → k < n → get_or (tabulated g i n) k 0 ≡ g (i + k)
unfolding tabulated
from g i zero k h = absurd (not-suc-le-zero h)
from g i (suc n) zero h = ap g (sym (add-zero i))
from g i (suc n) (suc k) h = from g (suc i) n k (le_of_suc-le-suc h) ∙ ap g (suc-add i k ∙ sym (add-suc i k))

pub made_at : (g : ℕ → ℕ) (n k : ℕ) → k < n → get_or (tabulated g 0 n) k 0 ≡ g k
made_at g n k h = from g 0 n k h ∙ ap g (zero-add k)
