-- Laws of the answers of the walk's parts, one per branch, and of the nodes on the way.
--   Laid, laid_out: the layout, and that block leaf b, where the climb starts, exists
--   beyond_lost, beyond_leaf: the answer if the descent is refused, and if it reaches a block leaf
--   start_room: the remainder has room for the climb
--   turn_there, leaf_there: the node that the climb turns to and the block leaf reached exist, and the remainder has room there
--   laid, turn_at, leaf_at, lost_answer, leaf_answer: the same, given what the contracts of the calls say
--   climbs_at, descends_at, target_at: what the calls require
--   walk_end, walk_far: the walk answers nothing because of its position, or because |r| > n
--   walk_starts: any other walk scans its start block
--   abs_size: the absolute value of r in the code is its size
-- Assumes nothing.
use mathlib.Core.Path.{◌≡◌, refl, sym, ap, ◌∙◌}
use mathlib.Core.Bool.{true, false}
use mathlib.Core.List.{List}
use Prim.Native.Nat.{ℕ, ◌+◌, ◌-◌, ◌*◌, ◌≤◌, ◌<◌, min}
use native.Mathlib.Omega.{arith}
use borrow.Author.Tests.{lt-ltb, le-ltb}
use lib.IntN.{ℤ, pos, negsuc}
use lib.ListN.{length}
use mir.Syntax.{w64}
use mir.Val.{SFits, to_z, of_z}
use mir.ValLaws.{to_z-of_z}
use Rattle.std.specs.Prelude.{Option, Some, Result, Ok, Err, unsigned_abs}
use Rattle.row.specs.declared.refusal.Refusal.{Refusal}
use Rattle.row.specs.declared.refusal.Refusal.TheVariants.{NodesMisfit}
use Rattle.row.specs.Limits.{max_bits}
use Rattle.ints.specs.Sides.{size}
use Rattle.row.specs.Answer.{Answer, nothing, paper_found}
use Rattle.row.specs.Bits.{bit_at}
use Rattle.row.specs.Way.{Way}
use Rattle.bits_stretch.specs.Scan.{Scanned, scan}
use Rattle.std.specs.declared.ops.ControlFlow.TheVariants.{Break, Continue}
use Rattle.mmt_layout.specs.declared.Layout.{Layout}
use Rattle.mmt_layout.specs.Layout.{leaves, layout_of, inner, count, max_block, max_nodes, Fine}
use Rattle.mmt_layout.proofs.Powers.{inner_top}
use Rattle.mmt_layout.proofs.Gates.{count_small}
use Rattle.mmt_layout.proofs.Places.{inner_is, count_is, place_leaf, leaf_in}
use Rattle.mmt_node.proofs.Covered.{top}
use Rattle.walk_spec.specs.Walk.{Climb, turn, out, misfit, climb, Descent, leaf, lost, descend, ends_at_once, start_block, start_scan, in_leaf, beyond, in_start, walk}
use Rattle.walk_spec.proofs.Stretches.{block_place}
use Rattle.walk_spec.proofs.Right.{block_of}
use Rattle.walk_examine.specs.Asked.{Room}
use Rattle.walk_examine.proofs.Asks.{back}
use Rattle.walk_examine.specs.declared.place.Place.{Place}
use Rattle.walk_climb.specs.Climbed.{climbed_of, Climbs}
use Rattle.walk_climb.proofs.Climbs.{Turned, turned}
use Rattle.walk_descend.specs.declared.Leaf.{Leaf}
use Rattle.walk_descend.specs.Descended.{descended_of, Descends}
use Rattle.walk_descend.proofs.Descends.{descend_count, Landed, landed}
use Rattle.walk_code.specs.WalkParts.{StartPassed, TargetBlock}

-- ---- a climb or a descent, given its result without the count of examined nodes
turn_is : (x : Climb) (p : Place) → climbed_of x ≡ Ok (Some p) → (c : ℕ) × (x ≡ turn p.node p.height p.remainder c)
turn_is (turn j g q c) p e =
    let d : ◌≡◌ {A = Place} (record { node = j; height = g; remainder = q }) p = cc in
    (c, ap (λ (p : Place). turn p.node p.height p.remainder c) d)
turn_is (out c) p e = absurd cc
turn_is misfit p e = absurd cc

leaf_is : (x : Descent) (l : Leaf) → descended_of x ≡ Ok l → (c : ℕ) × (x ≡ leaf l.node l.remainder c)
leaf_is (leaf j q c) l e =
    let d : ◌≡◌ {A = Leaf} (record { node = j; remainder = q }) l = cc in
    (c, ap (λ (l : Leaf). leaf l.node l.remainder c) d)
leaf_is lost l e = absurd cc

lost_is : (x : Descent) (k : Refusal) → descended_of x ≡ Err k → (x ≡ lost) × (NodesMisfit ≡ k)
lost_is (leaf j q c) k e = absurd cc
lost_is lost k e = (refl, cc)

-- ---- the layout, and the leaf of block b in it
pub record Laid (n B b : ℕ) (x : Layout) : Type 0 where
  pub first : x.inner ≡ inner n B
  pub all : x.inner + x.leaves ≡ count n B
  pub few : count n B ≤ max_nodes
  pub there : inner n B + b < count n B

module _ (n B b : ℕ) (eight : 8 ≤ B) (short : n ≤ max_bits) (l : b * B < n) where
  which : b < leaves n B
  which = block_of n B (omega arith) b l

  start_there : inner n B + b < count n B
  start_there = omega (arith, which, inner_is n B (omega arith), count_is n B (omega arith))

  laid_out : (x : Layout) → x ≡ layout_of n B → Laid n B b x
  laid_out x e = record { first = ap (λ (y : Layout). y.inner) e; all = rw e (omega arith); few = count_small n B eight short; there = start_there }

module _ (w : Way) (ws : List ℕ) (n : ℕ) (s : List ℤ) (B : ℕ) where
  -- ---- the target block b
  abbrev inside : ℕ → ℤ → Scanned
  inside b r = scan w (bit_at ws) (min B (n - b * B)) (b * B) r

  leaf_count : (x : Scanned) (c : ℕ) → (in_leaf w ws n s B x 0).answer ≡ (in_leaf w ws n s B x c).answer
  leaf_count (Break j) c = refl
  leaf_count (Continue q) c = refl

  -- ---- after the start block b
  module _ (b : ℕ) (r : ℤ) where
    abbrev climbing : Climb
    climbing = climb w (count n B) s (inner n B + b) 0 (inner n B + b) r 0

    module _ (p : Place) (e : climbed_of climbing ≡ Ok (Some p)) where
      abbrev d : ℕ
      d = (turn_is climbing p e).0

      abbrev descent : ℕ → Descent
      descent c = descend w (count n B) s p.height p.node p.remainder c

      beyond_lost : (k : Refusal) → descended_of (descent 0) ≡ Err k → paper_found (Err k) ≡ (beyond w ws n s B b r).answer
      beyond_lost k f =
          let y = lost_is (descent d) k (descend_count w (count n B) s p.height p.node p.remainder d 0 ∙ f) in
          rw (sym y.1, (turn_is climbing p e).1, y.0)

      beyond_leaf : (l : Leaf) → descended_of (descent 0) ≡ Ok l → (in_leaf w ws n s B (inside (l.node - inner n B) l.remainder) 0).answer ≡ (beyond w ws n s B b r).answer
      beyond_leaf l f =
          let y = leaf_is (descent d) l (descend_count w (count n B) s p.height p.node p.remainder d 0 ∙ f) in
          rw ((turn_is climbing p e).1, y.1) (leaf_count (inside (l.node - inner n B) l.remainder) y.0)

    -- the nodes on the way exist, if b is a block of the row
    module _ (eight : 8 ≤ B) (short : n ≤ max_bits) (l : b * B < n) (o : size r ≤ (max_bits + max_block)) where
      start_room : Room (0 + 2 * (inner n B + b)) r
      start_room = omega (arith, start_there n B b eight short l, count_small n B eight short)

      module _ (p : Place) (e : climbed_of climbing ≡ Ok (Some p)) where
        turn_there : Turned (count n B) (top n B) (Ok (Some p))
        turn_there =
            rw e at (turned w (count n B) s (top n B) (inner n B + b) 0 (inner n B + b) r 0 (start_there n B b eight short l)
            (block_place ws n B (omega arith) (omega arith) b (which n B b eight short l)) start_room)

        leaf_there : (j : Leaf) → descended_of (descent p e 0) ≡ Ok j → (inner n B ≤ j.node) × (j.node < count n B) × Room 0 j.remainder
        leaf_there j f =
            let t = turn_there in
            let y : Landed (count n B) (top n B) (Ok j) = rw f at (landed w (count n B) s (top n B) p.height p.node p.remainder 0 t.0 t.1 t.2) in
            (omega (arith, place_leaf (top n B) j.node y.1, inner_top (leaves n B), inner_is n B (omega arith)), y.0, y.2)

  -- ---- the whole walk
  module _ (i : ℕ) (r : ℤ) where
    pub walk_end : ends_at_once w n i ≡ true → nothing ≡ (walk w ws n s B i r).answer
    unfolding walk
    walk_end e = rw e

    module _ (e : ends_at_once w n i ≡ false) where
      pub walk_far : n < size r → nothing ≡ (walk w ws n s B i r).answer
      unfolding walk
      walk_far f = rw (e, lt-ltb n (size r) f)

      module _ (f : size r ≤ n) where
        pub walk_starts : {x : Scanned} → x ≡ start_scan w ws n B i r → (in_start w ws n s B (start_block w B i) x).answer ≡ (walk w ws n s B i r).answer
        unfolding walk
        walk_starts x = rw (e, le-ltb n (size r) f, x)

-- ---- the calls of `beyond`, in the words of their contracts: the layout x, the climb z, the descent y
module _ (w : Way) (ws : List ℕ) (n : ℕ) (s : List ℤ) (B b : ℕ) (r : ℤ) (fine : Fine (length ws) n (length s) B) (p : StartPassed n B b r) (v : SFits w64 r)
    (x : Layout) (e : x ≡ layout_of n B) where
  laid : Laid n B b x
  laid = laid_out n B b fine.eight fine.short p.begins x e

  pub climbs_at : Climbs (x.inner + x.leaves) (x.inner + b) 0 (to_z w64 (of_z w64 r))
  climbs_at =
      let l = laid in
      let o = start_room w ws n s B b r fine.eight fine.short p.begins p.near in
      rw (to_z-of_z w64 r v, l.all, l.first) (record { inside = l.there; room = o })

  module _ {z : Result (Option Place) Refusal} (f : z ≡ climbed_of (climb w (x.inner + x.leaves) s (x.inner + b) 0 (x.inner + b) (to_z w64 (of_z w64 r)) 0))
      (k : Place) (g : z ≡ Ok (Some k)) where
    climbed : climbed_of (climbing w ws n s B b r) ≡ Ok (Some k)
    climbed = sym (rw (to_z-of_z w64 r v, laid.all, laid.first) at f) ∙ g

    turn_at : Turned (count n B) (top n B) (Ok (Some k))
    turn_at = turn_there w ws n s B b r fine.eight fine.short p.begins p.near k climbed

    pub descends_at : Descends (x.inner + x.leaves) k.node k.height k.remainder
    descends_at = rw laid.all (record { inside = turn_at.0; few = laid.few; room = turn_at.2 })

    module _ {y : Result Leaf Refusal} (d : y ≡ descended_of (descend w (x.inner + x.leaves) s k.height k.node k.remainder 0)) where
      landing : y ≡ descended_of (descend w (count n B) s k.height k.node k.remainder 0)
      landing = rw laid.all at d

      pub lost_answer : {q : Refusal} → y ≡ Err q → paper_found (Err q) ≡ (beyond w ws n s B b r).answer
      lost_answer {q} l = beyond_lost w ws n s B b r k climbed q (sym landing ∙ l)

      module _ (j : Leaf) (l : y ≡ Ok j) where
        leaf_at : (inner n B ≤ j.node) × (j.node < count n B) × Room 0 j.remainder
        leaf_at = leaf_there w ws n s B b r fine.eight fine.short p.begins p.near k climbed j (sym landing ∙ l)

        leaf_back : to_z w64 (of_z w64 j.remainder) ≡ j.remainder
        leaf_back = back 0 j.remainder leaf_at.2

        pub leaf_after : x.inner ≤ j.node
        leaf_after = rw laid.first leaf_at.0

        pub target_at : TargetBlock n B (j.node - x.inner) (to_z w64 (of_z w64 j.remainder))
        target_at =
            rw (leaf_back, laid.first)
            (record { begins = leaf_in n B j.node (omega (arith, fine.eight)) leaf_at.1 leaf_at.0; room = leaf_at.2 })

        pub leaf_answer : {a : Answer} → a ≡ (in_leaf w ws n s B (inside w ws n s B (j.node - x.inner) (to_z w64 (of_z w64 j.remainder))) 0).answer
            → a ≡ (beyond w ws n s B b r).answer
        leaf_answer t = t ∙ rw (leaf_back, laid.first) (beyond_leaf w ws n s B b r k climbed j (sym landing ∙ l))

-- ---- the test whether |r| > n, where the machine reads r back from 64 bits
abs_is : (r : ℤ) → unsigned_abs r ≡ size r
abs_is (pos n) = omega arith
abs_is (negsuc n) = omega arith

pub abs_size : {r : ℤ} {a : ℕ} → SFits w64 r → a ≡ unsigned_abs (to_z w64 (of_z w64 r)) → a ≡ size r
abs_size {r} f e = rw (to_z-of_z w64 r f, abs_is r) at e
