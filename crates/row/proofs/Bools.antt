-- Laws of Boolean tests.
--   and_left, and_right: if `a && b` is true, so is a (b)
--   and_both: if a and b are true, so is `a && b`
--   not_yes: a test that is not true is false
--   is_true: a test that passes equals true
--   same_test: two tests that are true in the same cases are equal
-- Assumes nothing.
use mathlib.Core.Path.{◌≡◌, refl, sym}
use mathlib.Core.Bool.{Bool, true, false, ◌&&◌, and-eq-true_iff}
use lib.Dec.{T}
pub use Rattle.std.proofs.lemmas.Bool.{and_from as and_both, false_from_ne_true as not_yes}

module _ (a b : Bool) where
  pub and_left : (a && b) ≡ true → a ≡ true
  and_left h = ((and-eq-true_iff a b).0 h).0

  pub and_right : (a && b) ≡ true → b ≡ true
  and_right h = ((and-eq-true_iff a b).0 h).1

pub is_true : (a : Bool) → T a → a ≡ true
is_true true h = refl
is_true false h = absurd h

pub same_test : (a b : Bool) → (a ≡ true → b ≡ true) → (b ≡ true → a ≡ true) → a ≡ b
same_test true b f g = sym (f refl)
same_test false true f g = g refl
same_test false false f g = refl
