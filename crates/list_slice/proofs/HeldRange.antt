-- Where the handles of a listing are, over any nodes: below n, and each one further on than the one before.
--   Only: a position that is answered has a property; nothing and refusals always satisfy this
--   only_more: a property that implies another one may be replaced by it
--   left: the number of positions from u on in the direction of the listing
--   HandlesLeft: the position is below n, and fewer than f positions are left from it on
--   start_on, next_on: the calls that find the first handle and the next one
--   sought_within, after_within: what the listing holds at first, and after a handle
--   sought_below, after_below: both are below n
-- Assumes nothing.
use mathlib.Core.Path.{◌≡◌, refl}
use mathlib.Core.Bool.{Bool, true, false, cond, ◌&&◌}
use mathlib.Core.List.{List}
use Prim.Native.Nat.{ℕ, ◌+◌, ◌-◌, ◌<◌}
use native.Mathlib.Omega.{arith}
use lib.Dec.{ltb}
use lib.IntN.{ℤ, negsuc}
use lib.ListN.{length}
use Rattle.row.specs.Gates.{Gate}
use Rattle.std.specs.Prelude.{Ok, Err}
use Rattle.row.specs.Answer.{Answer, at, nothing, refused}
use Rattle.row.specs.Gates.{handle_gate, through}
use Rattle.row.specs.Tree.{opens, closes}
use Rattle.row.proofs.Tree.{opens_low}
use Rattle.bp_spec.specs.RowCalls.{handle_at, first_child}
use Rattle.bp_spec.proofs.Gates.{handle_inside}
use Rattle.walk_spec.proofs.Inside.{walk_after, walk_before}
use Rattle.bp_spec.specs.SearchPair.{Searches, walked, onward, close_of, open_of}
use Rattle.bp_spec.specs.HandleCalls.{node_answer}
use Rattle.bp_spec.proofs.HandleAnswers.{passed_fine, passed_handle}
use Rattle.bp_spec.specs.SiblingCalls.{last_child, next_sibling, previous_sibling}
use Rattle.list_slice.specs.Seek.{start_call, next_call, sought, held_after, Below}
use Rattle.list_slice.proofs.FirstSought.{tests}

-- ---- a property of the position that is answered
abbrev pub Only : (ℕ → Type 0) → Answer → Type 0
Only P (at j) = P j
Only P nothing = Unit {0}
Only P (refused k) = Unit {0}

pub only_more : (P Q : ℕ → Type 0) → ((j : ℕ) → P j → Q j) → (a : Answer) → Only P a → Only Q a
only_more P Q f (at j) p = f j p
only_more P Q f nothing p = tt
only_more P Q f (refused k) p = tt

module _ (P : ℕ → Type 0) where
  only : (a : Answer) → ((j : ℕ) → a ≡ at j → P j) → Only P a
  only (at j) f = f j refl
  only nothing f = tt
  only (refused k) f = tt

  only_onward : (a : Answer) (next : ℕ → Answer) → ((j : ℕ) → a ≡ at j → Only P (next j)) → Only P (onward a next)
  only_onward (at j) next f = f j refl
  only_onward nothing next f = tt
  only_onward (refused k) next f = tt

  only_through : (g : Gate) (a : Answer) → (g ≡ (Ok tt) → Only P a) → Only P (through g a)
  only_through (Ok tt) a f = f refl
  only_through (Err k) a f = tt

  only_where : (t : Bool) (a : Answer) → (t ≡ true → Only P a) → Only P (cond t a nothing)
  only_where true a f = f refl
  only_where false a f = tt

-- ---- the positions left from u on, in the direction of the listing
abbrev pub left : Bool → ℕ → ℕ → ℕ
left true n u = n - u
left false n u = u + 1

abbrev pub HandlesLeft : Bool → ℕ → ℕ → ℕ → Type 0
HandlesLeft rising n f u = (u < n) × (left rising n u < f)

-- ---- the calls
module _ (ws : List ℕ) (n : ℕ) where
  module _ (s : List ℤ) (B : ℕ) (pB : 0 < B) (v : ℕ) (l : v < n) where
    -- The searches by the walk, which the calls make.
    abbrev f : Searches
    f = walked ws n s B

    start_on : (rising : Bool) → Only (HandlesLeft rising n n) (start_call rising ws n f v)
    unfolding first_child last_child
    start_on true = only_where (HandlesLeft true n n) (opens ws n (v + 1)) (at (v + 1)) (λ o. let h = opens_low ws n (v + 1) o in (h, omega arith))
    start_on false =
        only_where (HandlesLeft false n n) (opens ws n (v + 1)) (onward (close_of f v) (λ c. open_of f (c - 1)))
        (λ o. only_onward (HandlesLeft false n n) (close_of f v) (λ c. open_of f (c - 1))
        (λ c e. let p = walk_after ws n s B pB v (negsuc 0) c e in only (HandlesLeft false n n) (open_of f (c - 1))
        (λ u h. let q = walk_before ws n s B pB (c - 1) (negsuc 0) u h in (omega arith, omega arith))))

    next_on : (rising : Bool) → Only (HandlesLeft rising n (left rising n v)) (next_call rising ws n f v)
    unfolding next_sibling previous_sibling
    next_on true =
        only_onward (HandlesLeft true n (left true n v)) (close_of f v) (λ c. handle_at ws n (c + 1))
        (λ c e. let p = walk_after ws n s B pB v (negsuc 0) c e in only_where (HandlesLeft true n (left true n v)) (opens ws n (c + 1)) (at (c + 1))
        (λ o. let h = opens_low ws n (c + 1) o in (h, omega arith)))
    next_on false =
        only_where (HandlesLeft false n (left false n v)) (ltb 0 v && closes ws n (v - 1)) (open_of f (v - 1))
        (λ t. only (HandlesLeft false n (left false n v)) (open_of f (v - 1))
        (λ u h. let q = walk_before ws n s B pB (v - 1) (negsuc 0) u h in (omega arith, omega arith)))

-- ---- what the listing holds
module _ (rising : Bool) (ws : List ℕ) (n : ℕ) (s : List ℤ) (B : ℕ) where
  -- A property of a call's answer holds behind the tests too.
  node_on : (P : ℕ → Type 0) (call : List ℕ → ℕ → Searches → ℕ → Answer) (v : ℕ)
      → (0 < B → v < n → Only P (call ws n (walked ws n s B) v)) → Only P (node_answer call ws n s B v)
  unfolding node_answer
  node_on P call v h =
      only_through P (tests ws n s B v) (call ws n (walked ws n s B) v)
      (λ g. let p = (passed_fine (length ws) n (length s) B (handle_gate ws n v) g).eight in
      h (omega arith) (handle_inside ws n v (passed_handle (length ws) n (length s) B (handle_gate ws n v) g)))

  pub sought_within : (v : ℕ) → Only (HandlesLeft rising n n) (sought rising ws n s B v)
  unfolding sought
  sought_within v = node_on (HandlesLeft rising n n) (start_call rising) v (λ p l. start_on ws n s B p v l rising)

  pub after_within : (v : ℕ) → Only (HandlesLeft rising n (left rising n v)) (held_after rising ws n s B (at v))
  after_within v = node_on (HandlesLeft rising n (left rising n v)) (next_call rising) v (λ p l. next_on ws n s B p v l rising)

  below : (f : ℕ) (a : Answer) → Only (HandlesLeft rising n f) a → Below n a
  below f (at v) w = w.0
  below f nothing w = tt
  below f (refused k) w = tt

  pub sought_below : (v : ℕ) → Below n (sought rising ws n s B v)
  sought_below v = below n (sought rising ws n s B v) (sought_within v)

  pub after_below : (a : Answer) → Below n (held_after rising ws n s B a)
  after_below (at v) = below (left rising n v) (held_after rising ws n s B (at v)) (after_within v)
  after_below nothing = tt
  after_below (refused k) = tt
