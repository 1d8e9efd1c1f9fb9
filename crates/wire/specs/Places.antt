-- A word and a signed number depend on their eight bytes alone.
-- Assumes nothing.
use Rattle.std.specs.Prelude.{◌≡◌, List, ℕ, ◌+◌, ◌<◌, get_or, take, drop}
use Rattle.std.proofs.Common.{arith, ap, ◌∙◌}
use Rattle.std.proofs.lemmas.List.{get_or-take, get_or-drop}
use Rattle.wire.specs.Bytes.{half_at, word_at, number_at}

byte_anywhere : (s : List ℕ) (i k j : ℕ) → k < 8 → i + k ≡ j → get_or (take 8 (drop i s)) k 0 ≡ get_or s j 0
byte_anywhere s i k j h e = get_or-take 8 (drop i s) k 0 h ∙ get_or-drop i s k 0 ∙ ap (λ m. get_or s m 0) e

pub word_anywhere : (s : List ℕ) (i : ℕ) → word_at (take 8 (drop i s)) 0 ≡ word_at s i
unfolding half_at word_at
word_anywhere s i =
    simp (
      byte_anywhere s i 0 i (omega arith) (omega arith),
      byte_anywhere s i 1 (i + 1) (omega arith) (omega arith),
      byte_anywhere s i 2 (i + 2) (omega arith) (omega arith),
      byte_anywhere s i 3 (i + 3) (omega arith) (omega arith),
      byte_anywhere s i 4 (i + 4) (omega arith) (omega arith),
      byte_anywhere s i 5 (i + 4 + 1) (omega arith) (omega arith),
      byte_anywhere s i 6 (i + 4 + 2) (omega arith) (omega arith),
      byte_anywhere s i 7 (i + 4 + 3) (omega arith) (omega arith),
    )

pub number_anywhere : (s : List ℕ) (i : ℕ) → number_at (take 8 (drop i s)) 0 ≡ number_at s i
number_anywhere s i = rw (word_anywhere s i)
