-- Words and signed numbers in bytes: eight bytes each, the least significant byte first (SCOPE, The C functions).
-- Assumes nothing.
use Rattle.std.specs.Prelude.{List, [], ◌∷◌, ◌++◌, ℕ, zero, suc, ◌+◌, ◌*◌, ◌/◌, ◌%◌, ℤ, length, get_or, drop}
use Rattle.std.specs.Int.{w64}
use Rattle.std.proofs.Common.{to_z, of_z}

-- The number in the four bytes from i on.
unfoldable pub half_at : List ℕ → ℕ → ℕ
half_at s i = get_or s i 0 + 256 * get_or s (i + 1) 0 + 65536 * get_or s (i + 2) 0 + 16777216 * get_or s (i + 3) 0

-- The word in the eight bytes from i on.
unfoldable pub word_at : List ℕ → ℕ → ℕ
word_at s i = half_at s i + 4294967296 * half_at s (i + 4)

-- The signed number in the eight bytes from i on, in two's complement.
abbrev pub number_at : List ℕ → ℕ → ℤ
number_at s i = to_z w64 (word_at s i)

-- The list g i, g (i + 1) and so on, with c elements.
unfoldable pub tabulate : {A : Type 0} → (ℕ → A) → ℕ → ℕ → List A
tabulate g i zero = []
tabulate g i (suc c) = g i ∷ tabulate g (suc i) c

-- The first c values in the bytes s. `value` gives the value in the eight bytes from a position on.
abbrev pub values_in : {A : Type 0} → (List ℕ → ℕ → A) → List ℕ → ℕ → List A
values_in value s c = tabulate (λ j. value s (8 * j)) 0 c

-- The first c words in the bytes s.
abbrev pub words_in : List ℕ → ℕ → List ℕ
words_in = values_in word_at

-- The first c signed numbers in the bytes s.
abbrev pub numbers_in : List ℕ → ℕ → List ℤ
numbers_in = values_in number_at

-- The eight bytes of a word.
abbrev pub eight : ℕ → List ℕ
eight w =
    w % 256 ∷ w / 256 % 256 ∷ w / 65536 % 256 ∷ w / 16777216 % 256
    ∷ w / 4294967296 % 256 ∷ w / 1099511627776 % 256 ∷ w / 281474976710656 % 256 ∷ w / 72057594037927936 ∷ []

-- The eight bytes of a signed number, in two's complement.
abbrev pub eight_signed : ℤ → List ℕ
eight_signed z = eight (of_z w64 z)

-- The bytes of a list of values, in order. `bytes` gives the eight bytes of a value.
unfoldable pub bytes_of : {A : Type 0} → (A → List ℕ) → List A → List ℕ
bytes_of bytes [] = []
bytes_of bytes (x ∷ xs) = bytes x ++ bytes_of bytes xs

-- The bytes s after a list of values is written at the front. The bytes after them are unchanged.
abbrev pub values_over : {A : Type 0} → (A → List ℕ) → List A → List ℕ → List ℕ
values_over bytes xs s = bytes_of bytes xs ++ drop (8 * length xs) s

-- The bytes s after a list of words is written at the front.
abbrev pub words_over : List ℕ → List ℕ → List ℕ
words_over = values_over eight

-- The bytes s after a list of signed numbers is written at the front.
abbrev pub numbers_over : List ℤ → List ℕ → List ℕ
numbers_over = values_over eight_signed
