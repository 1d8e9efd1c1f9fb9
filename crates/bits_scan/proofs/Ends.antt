-- The three parts of bits `from` to `to` - 1, in either direction: those that are met first, the whole units, and those that are met last.
--   Cut: positions p and q cut the bits into three parts
--   others, others_at: how many bits are left after those that are met first, and where they begin
--   Whole: the parts that the code cuts are of this form, with units of u bits, and at most u bits are met first
--   whole_bytes, whole_words: this is so for bytes and for words
--   last_in_word: the bits that are met after the whole words lie in one word
--   first_hit, first_on: a hit in the bits that are met first, or what is left to scan after them
--   whole_hit, whole_on: a hit in the whole units, or what is left to scan after them
-- Assumes nothing.
use mathlib.Core.Path.{◌≡◌, refl, sym, ◌∙◌}
use Prim.Native.Nat.{ℕ, zero, suc, ◌+◌, ◌-◌, ◌*◌, ◌≤◌, ◌<◌, min}
use native.Mathlib.Omega.{arith}
use lib.IntN.{ℤ}
use mir.Syntax.{w64}
use mir.Val.{SFits, to_z, of_z}
use Rattle.row.specs.Limits.{max_bits}
use Rattle.row.specs.Way.{Way, forward, backward}
use Rattle.std.specs.declared.ops.ControlFlow.TheVariants.{Break, Continue}
use Rattle.bits_stretch.specs.Scan.{Scanned, order, scan}
use Rattle.bits_stretch.proofs.Steps.{scan_end}
use Rattle.bits_edge.specs.Parts.{InRow, InWord}
use Rattle.bits_scan.specs.declared.Parts.{Parts}
use Rattle.bits_scan.specs.Parts.{begin_of, end_of, parts_of}
use Rattle.bits_scan.proofs.Pieces.{Part, Reading, reading_start, part_hit, part_on}

pub record Cut (from p q to : ℕ) : Type 0 where
  pub low : from ≤ p
  pub middle : p ≤ q
  pub high : q ≤ to

module _ (from p q to : ℕ) where
  abbrev ends : Way → (ℕ × ℕ) × (ℕ × ℕ)
  ends w = order w (from, p) (q, to)

  -- How many bits are left after those that are met first, and where they begin.
  abbrev pub others : Way → ℕ
  others forward = to - p
  others backward = q - from

  abbrev pub others_at : Way → ℕ
  others_at forward = p
  others_at backward = from

  module _ (cut : Cut from p q to) where
    head : (w : Way) → Part w (to - from) from ((ends w).0.1 - (ends w).0.0) (ends w).0.0 (others w) (others_at w)
    head forward = record { count = omega (arith, cut.low, cut.middle, cut.high); first = refl; next = omega (arith, cut.low) }
    head backward = record { count = omega (arith, cut.low, cut.middle, cut.high); first = omega (arith, cut.low, cut.middle); next = refl }

    body : (w : Way) → Part w (others w) (others_at w) (q - p) p ((ends w).1.1 - (ends w).1.0) (ends w).1.0
    body forward = record { count = omega (arith, cut.low, cut.middle, cut.high); first = refl; next = omega (arith, cut.middle) }
    body backward = record { count = omega (arith, cut.low, cut.middle, cut.high); first = omega (arith, cut.low); next = refl }

    few_first : (u : ℕ) (w : Way) → p ≤ from + u → to ≤ q + u → to - from ≤ others w + u
    few_first u forward a b = omega (arith, cut.low, cut.middle, cut.high)
    few_first u backward a b = omega (arith, cut.low, cut.middle, cut.high)

-- Bits p to q - 1 are the whole units. If there are none, p and q are equal, and need not be the begin of a unit.
pub record Whole (w : Way) (u from p q to : ℕ) (x : Parts) : Type 0 where
  pub cut : Cut from p q to
  pub first : x.first ≡ (ends from p q to w).0
  pub last : x.last ≡ (ends from p q to w).1
  pub count : u * (x.whole.1 - x.whole.0) ≡ q - p
  pub start : 0 < u * (x.whole.1 - x.whole.0) → u * x.whole.0 ≡ p
  pub few : to - from ≤ others from p q to w + u

-- The positions where bits `from` to `to` - 1 are cut.
abbrev pub low_of : ℕ → ℕ → ℕ → ℕ
low_of u from to = min to (u * begin_of u from)

abbrev pub high_of : ℕ → ℕ → ℕ → ℕ
high_of u from to = min to (u * end_of u from to)

module _ (w : Way) {from to : ℕ} {x : Parts} (order : from ≤ to) where
  pub whole_bytes : x ≡ parts_of w from to 8 → Whole w 8 from (low_of 8 from to) (high_of 8 from to) to x
  whole_bytes e =
      let c : Cut from (low_of 8 from to) (high_of 8 from to) to = record { low = omega arith; middle = omega arith; high = omega arith } in
      rw e (record { cut = c; first = refl; last = refl; count = omega arith; start = λ k. omega arith; few = few_first _ _ _ _ c _ w (omega arith) (omega arith) })

  pub whole_words : x ≡ parts_of w from to 64 → Whole w 64 from (low_of 64 from to) (high_of 64 from to) to x
  whole_words e =
      let c : Cut from (low_of 64 from to) (high_of 64 from to) to = record { low = omega arith; middle = omega arith; high = omega arith } in
      rw e (record { cut = c; first = refl; last = refl; count = omega arith; start = λ k. omega arith; few = few_first _ _ _ _ c _ w (omega arith) (omega arith) })

module _ {from to n : ℕ} (row : InRow (64 * n) from to max_bits) where
  beside_words : (w : Way) → InWord n (parts_of w from to 64).last.0 (parts_of w from to 64).last.1
  beside_words forward = record { order = omega (arith, row.order); inside = omega (arith, row.order, row.inside); one = omega (arith, row.order); short = omega (arith, row.short) }
  beside_words backward = record { order = omega (arith, row.order); inside = omega (arith, row.order, row.inside); one = omega (arith, row.order); short = omega (arith, row.order, row.short) }

  pub last_in_word : (w : Way) {x : Parts} → x ≡ parts_of w from to 64 → InWord n x.last.0 x.last.1
  last_in_word w e = rw e (beside_words w)

-- A scan of no bits may begin anywhere.
same_start : (w : Way) (f : ℕ → ℕ) (c : ℕ) {s p : ℕ} (r : ℤ) → (0 < c → s ≡ p) → scan w f c s r ≡ scan w f c p r
same_start w f zero r b = sym (scan_end w f zero _ r refl) ∙ scan_end w f zero _ r refl
same_start w f (suc c) r b = rw (b (omega arith)) refl

module _ {w : Way} {u from p q to : ℕ} {x : Parts} (t : Whole w u from p q to x) where
  -- y is the result for the bits that are met first.
  module _ (f : ℕ → ℕ) (r : ℤ) {y : Scanned} (e : y ≡ scan w f (x.first.1 - x.first.0) x.first.0 r) where
    pub first_hit : {k : ℕ} → y ≡ Break k → Break k ≡ scan w f (to - from) from r
    first_hit g = part_hit (reading_start w f (to - from) from r) (head from p q to t.cut w) (rw t.first at e) g

    pub first_on : {l : ℤ} → y ≡ Continue l → SFits w64 l → Reading w f (to - from) from r (others from p q to w) (others_at from p q to w) (to_z w64 (of_z w64 l))
    first_on g v = part_on (reading_start w f (to - from) from r) (head from p q to t.cut w) (rw t.first at e) g v

  -- y is the result for the whole units, with the remainder l.
  module _ {f : ℕ → ℕ} {r l : ℤ} (s : Reading w f (to - from) from r (others from p q to w) (others_at from p q to w) l)
      {y : Scanned} (e : y ≡ scan w f (u * (x.whole.1 - x.whole.0)) (u * x.whole.0) l) where
    there : y ≡ scan w f (q - p) p l
    there = rw t.count at (e ∙ same_start w f (u * (x.whole.1 - x.whole.0)) l t.start)

    pub whole_hit : {k : ℕ} → y ≡ Break k → Break k ≡ scan w f (to - from) from r
    whole_hit g = part_hit s (body from p q to t.cut w) there g

    pub whole_on : {m : ℤ} → y ≡ Continue m → SFits w64 m → Reading w f (to - from) from r (x.last.1 - x.last.0) x.last.0 (to_z w64 (of_z w64 m))
    whole_on g v = rw t.last (part_on s (body from p q to t.cut w) there g v)
