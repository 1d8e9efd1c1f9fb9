-- Laws of examined nodes and of asked nodes, one per case.
--   near_size: an entry in range has a size of at most 2^32
--   fits_size: so has the total of a node whose entries are in range
--   passed_size: a passed node makes the remainder larger by at most 2^32
--   room_fits: a remainder with room fits into an i64
--   Looked, looked: what each result of `examine` says about the node
--   back: the machine reads a remainder with room back as it is
--   total_room, past_room: a remainder with room also has room for the total of a node in range
--   asked_absent, asked_misfit, asked_here, asked_past: the answer of a node in each of the four cases
--   answer: the answer of the node, where the machine reads the remainder back from 64 bits
--   Says, says: what each answer says about the node
--   past_size: the remainder in the answer `Past` is larger by at most 2^32
-- Assumes nothing.
use mathlib.Core.Path.{◌≡◌, refl, sym, ◌∙◌}
use mathlib.Core.Bool.{Bool, true, false, cond, ◌&&◌}
use mathlib.Core.List.{List}
use Rattle.std.specs.Prelude.{Result, Ok, Err}
use Prim.Native.Nat.{ℕ, ◌+◌, ◌≤◌, ◌<◌}
use native.Mathlib.Omega.{arith}
use borrow.Author.Tests.{leb-true, leb-false, le-leb, lt-leb}
use lib.Dec.{leb}
use lib.IntN.{ℤ, pos, negsuc, neg_ℤ}
use lib.Signed.{le_z}
use mir.Syntax.{w64}
use mir.Val.{SFits, to_z, of_z}
use mir.ValLaws.{to_z-of_z}
use Rattle.ints.specs.Limits.{i64_bound}
use Rattle.row.specs.Limits.{max_bits}
use Rattle.ints.specs.Sides.{size}
use Rattle.ints.proofs.Linear.{plus_size, minus_size}
use Rattle.ints.proofs.Shapes.{zsum}
use Rattle.row.specs.Way.{Way, forward, backward}
use Rattle.row.proofs.Bools.{and_left, and_right}
use Rattle.bits_stretch.specs.declared.summary.Summary.{Summary}
use Rattle.bits_stretch.specs.Scan.{passed}
use Rattle.mmt_node.specs.Nodes.{node_at}
use Rattle.bits_stretch.specs.Summary.{holds_on}
use Rattle.walk_spec.specs.Walk.{in_range, fits}
use Rattle.row.specs.declared.refusal.Refusal.{Refusal}
use Rattle.row.specs.declared.refusal.Refusal.TheVariants.{NodesMisfit}
use Rattle.walk_examine.specs.declared.node.Asked.{Asked}
use Rattle.walk_examine.specs.declared.node.Asked.TheVariants.{Here, Past, Absent}
use Rattle.walk_examine.specs.Asked.{examined_of, asked_of, Room}

-- ---- sizes
near_size : (z : ℤ) → in_range z ≡ true → size z ≤ max_bits
unfolding in_range
near_size (pos n) e = let h = and_right (le_z (neg_ℤ (pos max_bits)) (pos n)) (le_z (pos n) (pos max_bits)) e in omega zsum
near_size (negsuc n) e = let h = and_left (le_z (neg_ℤ (pos max_bits)) (negsuc n)) (le_z (negsuc n) (pos max_bits)) e in omega zsum

pub fits_size : (x : Summary) → fits x ≡ true → size x.total ≤ max_bits
unfolding fits
fits_size x e =
    near_size x.total (and_left (in_range x.total) (in_range x.least) (and_left (in_range x.total && in_range x.least) (in_range x.greatest) e))

pub passed_size : (w : Way) (r : ℤ) (x : Summary) → fits x ≡ true → size (passed w r x.total) ≤ size r + max_bits
passed_size forward r x e = omega (arith, minus_size r x.total, fits_size x e)
passed_size backward r x e = omega (arith, plus_size r x.total, fits_size x e)

pub room_fits : (c : ℕ) (r : ℤ) → Room c r → SFits w64 r
room_fits c r h = omega zsum

-- ---- an examined node with the entries x
module _ (x : Summary) where
  -- what each result of `examine` says about x
  abbrev Looked : Result Summary Refusal → Type 0
  Looked (Ok y) = (fits x ≡ true) × (x ≡ y)
  Looked (Err e) = (fits x ≡ false) × (NodesMisfit ≡ e)

  looks : (b : Bool) → fits x ≡ b → Looked (cond b (Ok x) (Err NodesMisfit))
  looks true e = (e, refl)
  looks false e = (e, refl)

  looked : {b : Result Summary Refusal} → examined_of x ≡ b → Looked b
  unfolding examined_of
  looked {b} q = rw (sym q) (looks (fits x) refl)

-- ---- the remainder r and the total of an examined node, which the machine reads back from 64 bits
pub back : (c : ℕ) (r : ℤ) → Room c r → to_z w64 (of_z w64 r) ≡ r
back c r o = to_z-of_z w64 r (room_fits c r o)

module _ (x y : Summary) (p : examined_of x ≡ Ok y) where
  ok_size : size y.total ≤ max_bits
  ok_size = let h = looked x p in rw (sym h.1) (fits_size x h.0)

  total_back : to_z w64 (of_z w64 y.total) ≡ y.total
  total_back = to_z-of_z w64 y.total (omega (zsum, ok_size))

  module _ (r : ℤ) (o : Room 0 r) where
    pub total_room : size (to_z w64 (of_z w64 r)) + size y.total < i64_bound
    total_room = rw (back 0 r o) (omega (arith, ok_size))

    pub past_room : size (to_z w64 (of_z w64 r)) + size (to_z w64 (of_z w64 y.total)) < i64_bound
    past_room = rw total_back total_room

    past_back : (w : Way) → to_z w64 (of_z w64 (passed w r y.total)) ≡ passed w r y.total
    past_back w = let h = looked x p in rw (sym h.1) (to_z-of_z w64 (passed w r x.total) (omega (zsum, passed_size w r x h.0)))

-- ---- node k of m nodes, asked for the remainder r
module _ (w : Way) (m : ℕ) (s : List ℤ) (k : ℕ) (r : ℤ) where
  pub asked_absent : m ≤ k → Ok Absent ≡ asked_of w m s k r
  unfolding asked_of
  asked_absent l = rw (le-leb m k l)

  module _ (l : k < m) where
    pub asked_misfit : {e : Refusal} → examined_of (node_at s k) ≡ Err e → Err e ≡ asked_of w m s k r
    unfolding asked_of
    asked_misfit p = let h = looked (node_at s k) p in rw (lt-leb m k l, h.0, sym h.1)

    -- the machine reads the remainders and the total back from 64 bits
    module _ {x : Summary} (p : examined_of (node_at s k) ≡ Ok x) (o : Room 0 r) where
      pub asked_here : true ≡ holds_on w x (to_z w64 (of_z w64 r)) → Ok Here ≡ asked_of w m s k r
      unfolding asked_of
      asked_here y = let h = looked (node_at s k) p in rw (lt-leb m k l, h.0, h.1, sym (rw (back 0 r o) at y))

      pub asked_past : {q : ℤ} → false ≡ holds_on w x (to_z w64 (of_z w64 r)) → q ≡ passed w (to_z w64 (of_z w64 r)) (to_z w64 (of_z w64 x.total))
          → Ok (Past (to_z w64 (of_z w64 q))) ≡ asked_of w m s k r
      unfolding asked_of
      asked_past y e =
          let h = looked (node_at s k) p in
          rw (e, back 0 r o, total_back (node_at s k) x p, past_back (node_at s k) x p r o w, lt-leb m k l, h.0, h.1, sym (rw (back 0 r o) at y))

  pub answer : {a b : Result Asked Refusal} → SFits w64 r → a ≡ asked_of w m s k (to_z w64 (of_z w64 r)) → a ≡ b → asked_of w m s k r ≡ b
  answer {a} {b} f p e = sym (rw (to_z-of_z w64 r f) at p) ∙ e

  -- what each answer says about node k
  abbrev pub Says : Result Asked Refusal → Type 0
  Says (Ok Here) = (k < m) × (fits (node_at s k) ≡ true) × (holds_on w (node_at s k) r ≡ true)
  Says (Ok (Past q)) = (k < m) × (fits (node_at s k) ≡ true) × (holds_on w (node_at s k) r ≡ false) × (passed w r (node_at s k).total ≡ q)
  Says (Ok Absent) = m ≤ k
  Says (Err e) = (k < m) × (fits (node_at s k) ≡ false) × (NodesMisfit ≡ e)

  said : (a b c : Bool) → leb m k ≡ a → fits (node_at s k) ≡ b → holds_on w (node_at s k) r ≡ c
      → Says (cond a (Ok Absent) (cond b (cond c (Ok Here) (Ok (Past (passed w r (node_at s k).total)))) (Err NodesMisfit)))
  said true b c p q t = leb-true m k p
  said false false c p q t = (leb-false m k p, q, refl)
  said false true true p q t = (leb-false m k p, q, t)
  said false true false p q t = (leb-false m k p, q, t, refl)

  pub says : {b : Result Asked Refusal} → asked_of w m s k r ≡ b → Says b
  unfolding asked_of
  says {b} q = rw (sym q) (said (leb m k) (fits (node_at s k)) (holds_on w (node_at s k) r) refl refl refl)

  pub past_size : (q : ℤ) → Says (Ok (Past q)) → size q ≤ size r + max_bits
  past_size q a = rw a.3 at (passed_size w r (node_at s k) a.1)
