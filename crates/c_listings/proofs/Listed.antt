-- What a listing answers as one i64, and what it writes as bytes.
--   count_low: the count is at most 2^32 + 2
--   bytes_refused, bytes_passed: the bytes after a refused constructor, and after the answers are written
--   bytes_enough, bytes_taken: the array has as many numbers as the count says
--   room_enough: the array has room for all answers of a row of 4,096 bits
--   count_cut, bytes_cut: a room cut to the size of the array gives the same count and the same bytes
-- Assumes nothing.
use mathlib.Core.Path.{◌≡◌, refl, sym, ap, ◌∙◌}
use mathlib.Core.Bool.{Bool}
use mathlib.Core.List.{List, map}
use Prim.Native.Nat.{ℕ, ◌+◌, ◌≤◌, ◌<◌, min}
use native.Mathlib.Omega.{arith}
use native.Mathlib.Decide.{dec_lt}
use borrow.Author.Tests.{le-leb, lt-leb}
use lib.IntN.{ℤ}
use lib.ListN.{length, take, drop, length-append, length-map}
use lib.Seq.{take_at, length-take-le}
use Rattle.row.specs.Limits.{max_bits, max_short_bits}
use Rattle.row.specs.Answer.{Answer, at, nothing, refused}
use Rattle.wire.specs.Answer.{wire_of}
use Rattle.wire.specs.Limit.{wire_bits, answer_room}
use Rattle.wire.specs.Bytes.{numbers_over}
use Rattle.list_slice.specs.Seek.{sought}
use Rattle.list_slice.specs.WholeListing.{overlaid, unless_refused, answers_of, count_of, left_of}
use Rattle.list_slice.proofs.AnswerCount.{count_small, room_cut}
use Rattle.c_listings.specs.Listings.{listed_bytes}

-- For the bit count of a call over bytes the array has room for all answers, or the call is refused.
room_enough : (bits : ℕ) → wire_bits bits ≤ max_bits → wire_bits bits + 2 ≤ answer_room
unfolding wire_bits
room_enough bits =
    elim (dec_lt max_short_bits bits) [
      | yes l ↦ rw (lt-leb bits max_short_bits l) (λ h. absurd (omega arith))
      | no l ↦ (let b : bits ≤ max_short_bits = omega arith in rw (le-leb bits max_short_bits b) (λ h. omega arith))
    ]

-- The value of an answer, and 0 for nothing and refusals.
abbrev value : Answer → ℕ
value (at x) = x
value nothing = 0
value (refused k) = 0

module _ (rising : Bool) (ws : List ℕ) (n : ℕ) (s : List ℤ) (B v : ℕ) where
  pub count_low : (c m : ℕ) → at c ≡ count_of rising ws n s B v m → c < (max_bits + 3)
  count_low c m e = rw (sym e) at (count_small rising ws n s B v m)

  module _ (m : ℕ) (out : List ℕ) where
    -- The answers of the listing.
    abbrev l : List Answer
    l = answers_of rising ws n s B v m

    pub bytes_refused : (k : ℕ) → refused k ≡ count_of rising ws n s B v m → out ≡ listed_bytes rising ws n s B v m out
    unfolding count_of listed_bytes
    bytes_refused k e = go (sought rising ws n s B v) e
      where
        go : (a : Answer) → refused k ≡ unless_refused a (at (length l)) refused
            → out ≡ unless_refused a (numbers_over (map wire_of l) out) (λ _. out)
        go (at u) e = cc
        go nothing e = cc
        go (refused j) e = refl

  module _ (c : ℕ) (xs ys : List ℤ) (out : List ℕ) where
    -- The first c numbers are the answers.
    front : (zs : List ℤ) → c ≡ length zs → ys ≡ overlaid zs xs → (c ≤ length ys) × (take c ys ≡ zs)
    front zs e f = (
      rw f (omega (arith, length-append zs (drop (length zs) xs))),
      rw f (take_at zs (drop (length zs) xs) c (sym e)),
    )

    both : at c ≡ count_of rising ws n s B v (length xs) → ys ≡ left_of rising ws n s B v xs
        → (c ≤ length ys) × (numbers_over (take c ys) out ≡ listed_bytes rising ws n s B v (length xs) out)
    unfolding count_of left_of listed_bytes
    both = go (sought rising ws n s B v)
      where
        zs : List ℤ
        zs = map wire_of (answers_of rising ws n s B v (length xs))

        counts : at c ≡ at (length (answers_of rising ws n s B v (length xs))) → c ≡ length zs
        counts e = ap value e ∙ sym (length-map (answers_of rising ws n s B v (length xs)) wire_of)

        go : (a : Answer) → at c ≡ unless_refused a (at (length (answers_of rising ws n s B v (length xs)))) refused
            → ys ≡ unless_refused a (overlaid zs xs) (λ _. xs)
            → (c ≤ length ys) × (numbers_over (take c ys) out ≡ unless_refused a (numbers_over zs out) (λ _. out))
        go (at u) e f = let p = front zs (counts e) f in (p.0, ap (λ x. numbers_over x out) p.1)
        go nothing e f = let p = front zs (counts e) f in (p.0, ap (λ x. numbers_over x out) p.1)
        go (refused k) e f = cc

    module _ (p : at c ≡ count_of rising ws n s B v (length xs)) (q : ys ≡ left_of rising ws n s B v xs) where
      pub bytes_enough : c ≤ length ys
      bytes_enough = (both p q).0

      pub bytes_taken : c ≡ length (take c ys)
      bytes_taken = sym (length-take-le c ys bytes_enough)

      pub bytes_passed : numbers_over (take c ys) out ≡ listed_bytes rising ws n s B v (length xs) out
      bytes_passed = (both p q).1

-- The laws for the proof of `put_listing`.
pub ruleset put_steps = (count_low, bytes_refused, bytes_enough, bytes_taken, bytes_passed)

-- For the bit count of a call over bytes, with the room cut to 4,098 answers.
module _ (rising : Bool) (ws : List ℕ) (bits : ℕ) (s : List ℤ) (B v c : ℕ) where
  pub count_cut : count_of rising ws (wire_bits bits) s B v (min c answer_room) ≡ count_of rising ws (wire_bits bits) s B v c
  unfolding count_of
  count_cut = room_cut rising ws (wire_bits bits) s B v (λ l. at (length l)) refused c answer_room (room_enough bits)

  pub bytes_cut : (out : List ℕ) → listed_bytes rising ws (wire_bits bits) s B v (min c answer_room) out ≡ listed_bytes rising ws (wire_bits bits) s B v c out
  unfolding listed_bytes
  bytes_cut out = room_cut rising ws (wire_bits bits) s B v (λ l. numbers_over (map wire_of l) out) (λ _. out) c answer_room (room_enough bits)
