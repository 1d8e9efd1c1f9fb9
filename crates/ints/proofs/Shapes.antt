-- The rules with which `omega` proves linear facts about integers. `omega` knows only naturals, so an integer z is written as `up z - dn z`,
-- a difference of two naturals. std's ruleset `ints` has the rules for that; it splits an integer into parts of its own.
--   up_is, dn_is: the parts of an integer here are those of std
--   zsum: the rules, as `omega zsum`, or as `omega (zsum, f)` with a fact f
-- Assumes nothing.
use mathlib.Core.Path.{◌≡◌, refl}
use native.Mathlib.Omega.{arith}
use borrow.Author.Differences as std
use Rattle.std.proofs.lemmas.Int.{ints}
use lib.IntN.{ℤ, pos, negsuc}
use Rattle.ints.specs.Sides.{up, dn}

pub up_is : (z : ℤ) → up z ≡ std.up z
up_is (pos n) = refl
up_is (negsuc n) = refl

pub dn_is : (z : ℤ) → dn z ≡ std.down z
dn_is (pos n) = refl
dn_is (negsuc n) = refl

pub ruleset zsum = (arith, ints, up_is, dn_is)
