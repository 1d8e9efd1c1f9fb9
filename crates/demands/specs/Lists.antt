-- SCOPE, The demands: terms of demand 3. `Names`: calls name the positions of a list one after another. `Exactly`: a list has exactly the
-- numbers that pass a test.
-- Assumes nothing.
use Rattle.std.specs.Prelude.{◌≡◌, Bool, true, cond, ℕ, zero, suc, ◌<◌}
use mathlib.Core.List.{List, [], ◌∷◌}
use Rattle.row.specs.Answer.{Answer, at, nothing}
use Rattle.bp_spec.specs.declared.question.Question.{Question}
use Rattle.bp_spec.specs.Ranges.{Among}

-- The calls name the list: the first question is `start`, and after each answered position v the question is `next v`.
-- The answers are the positions of the list, one by one, and then nothing.
abbrev pub Names : (Question → Answer) → (ℕ → Question) → Question → List ℕ → Type 0
Names ask next start [] = ask start ≡ nothing
Names ask next start (v ∷ l) = (ask start ≡ at v) × Names ask next (next v) l

-- The numbers that pass the test, among the c numbers from a on, in rising order.
unfoldable pub those : (ℕ → Bool) → ℕ → ℕ → List ℕ
those p zero a = []
those p (suc c) a = cond (p a) (a ∷ those p c (suc a)) (those p c (suc a))

-- Each number is less than every number after it. So no number occurs twice.
abbrev pub Rising : List ℕ → Type 0
Rising [] = Unit
Rising (x ∷ l) = ((y : ℕ) → Among y l → x < y) × Rising l

-- The list has exactly the numbers below n that pass the test, each once, in rising order.
pub record Exactly (p : ℕ → Bool) (n : ℕ) (l : List ℕ) : Type 0 where
  pub rising : Rising l
  pub all : (v : ℕ) → v < n → p v ≡ true → Among v l
  pub only : (v : ℕ) → Among v l → (v < n) × (p v ≡ true)
