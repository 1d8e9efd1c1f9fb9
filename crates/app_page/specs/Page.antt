-- SCOPE, The program `levels`: how a text is added to a page, and numbers in decimal.
-- Assumes nothing.
use Rattle.std.specs.Prelude.{◌≡◌, cond, List, ◌++◌, ℕ, zero, suc, ◌-◌, ◌^◌, ◌≤◌, ltb, length, take}
use Rattle.io.specs.Digits.{last_digits}

-- The text is added after the first a bytes of the page `old`, as far as the page goes, and the first r bytes of `new` are then filled.
-- The rest of `new` is not specified, and nothing is claimed if a is beyond the page.
abbrev pub Adds : List ℕ → ℕ → List ℕ → List ℕ → ℕ → Type 0
Adds old a text new r = a ≤ length old → (r ≤ length old) × (take r new ≡ take (length old) (take a old ++ text))

-- The size of a `Page` in bytes.
abbrev pub page_bytes : ℕ
page_bytes = 65536

-- The filled bytes of a `Page` once the text is added after the filled bytes `page`, as far as the page goes.
unfoldable pub added : List ℕ → List ℕ → List ℕ
added page text = page ++ take (page_bytes - length page) text

-- The least k from j on with n < 10 ^ k, or j + f if none of the f numbers from j on is such a k.
unfoldable pub places : ℕ → ℕ → ℕ → ℕ
places n j zero = j
places n j (suc f) = cond (ltb n (10 ^ j)) j (places n (suc j) f)

-- A number in decimal, without leading zeros. A u64 has at most 20 digits.
unfoldable pub decimal_of : ℕ → List ℕ
decimal_of n = last_digits 10 (places n 1 19) n
