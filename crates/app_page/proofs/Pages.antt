-- Texts that are added to a page one after another, and the number of digits of a number.
--   take_joined: the first k elements of two joined lists do not depend on the first list after its first k elements
--   adds_nothing: an empty text; adds_one, adds_none: one byte, if the page has room and if it is full
--   adds_then: one text and then another
--   take_over, added_is: a text that is added as `Adds` says is `added` to the filled bytes
--   added_nothing, added_then, added_front: an empty text, one text and then another, and a text on an empty page that has room for it
--   places_are, few_places, decimal_is: `decimal_of` gives the digits that `io::decimal` writes
-- Assumes nothing.
use mathlib.Core.Path.{◌≡◌, refl, sym, ap, ◌∙◌}
use mathlib.Core.Bool.{Bool, true, false}
use mathlib.Core.Logic.{⊎_elim}
use mathlib.Core.List.{List, [], ◌∷◌, ◌++◌, append_assoc, append-nil}
use Prim.Native.Nat.{ℕ, zero, suc, ◌+◌, ◌-◌, ◌^◌, ◌≤◌, ◌<◌}
use native.Mathlib.Nat.{eq-or-lt_of_le, pow-le-pow_right}
use native.Mathlib.Numerals.{add-one}
use native.Mathlib.Omega.{arith}
use borrow.Author.Tests.{ltb-true, ltb-false, leb-true, leb-false}
use lib.Dec.{ltb, leb}
use lib.ListN.{length, take, set, length-append}
use lib.Seq.{length-take-le, take_all, take-suc-set, take-append_seam}
use Rattle.io.specs.Digits.{last_digits, IsDigitCount}
use Rattle.app_page.specs.Page.{page_bytes, Adds, added, places, decimal_of}

-- The first k elements of l joined with u do not depend on the elements of l after its first k.
take_joined : (k : ℕ) (l u : List ℕ) → take k (take k l ++ u) ≡ take k (l ++ u)
take_joined zero l u = refl
take_joined (suc k) [] u = refl
take_joined (suc k) (x ∷ l) u = ap (λ (r : List ℕ). x ∷ r) (take_joined k l u)

-- An empty text.
pub adds_nothing : (old : List ℕ) (a : ℕ) → Adds old a [] old a
adds_nothing old a h =
    let l : length (take a old) ≤ length old = omega (arith, length-take-le a old h) in
    (h, sym (ap (take (length old)) (append-nil (take a old)) ∙ take_all (length old) (take a old) l))

pub adds_one : (old : List ℕ) (a b : ℕ) → a < length old → Adds old a (b ∷ []) (set old a b) (a + 1)
adds_one old a b h k =
    let n : length (take a old ++ (b ∷ [])) ≤ length old = omega (arith, h, length-append (take a old) (b ∷ []), length-take-le a old k) in
    (omega (arith, h), rw add-one (take-suc-set old a b h) ∙ sym (take_all (length old) (take a old ++ (b ∷ [])) n))

-- One byte, on a full page.
pub adds_none : (old : List ℕ) (a b : ℕ) → length old ≤ a → Adds old a (b ∷ []) old a
adds_none old a b h k =
    let e : take a old ≡ old = take_all a old h in
    (k, e ∙ sym (ap (λ (x : List ℕ). take (length old) (x ++ (b ∷ []))) e ∙ take-append_seam old (b ∷ [])))

-- One text, then another.
pub adds_then : (old page new t u : List ℕ) (a m r : ℕ) → length page ≡ length old
    → Adds old a t page m → Adds page m u new r → Adds old a (t ++ u) new r
adds_then old page new t u a m r e one two h =
    let p = one h in
    let q = two (omega (arith, e, p.0)) in (
      omega (arith, e, q.0),
      q.1 ∙ ap (λ (k : ℕ). take k (take m page ++ u)) e ∙ ap (λ (x : List ℕ). take (length old) (x ++ u)) p.1
          ∙ take_joined (length old) (take a old ++ t) u ∙ ap (take (length old)) (append_assoc (take a old) t u),
    )

-- ---- a `Page`
-- An empty text.
pub added_nothing : (page : List ℕ) → added page [] ≡ page
unfolding added
added_nothing page =
    let nothing : List ℕ = [] in
    let e : take (page_bytes - length page) nothing ≡ nothing = take_all (page_bytes - length page) nothing (omega arith) in
    rw e (append-nil page)

-- The first k elements of two joined lists.
take_over : (k : ℕ) (t u : List ℕ) → take k t ++ take (k - length (take k t)) u ≡ take k (t ++ u)
take_over zero t u = refl
take_over (suc k) [] u = let e : suc k - 0 ≡ suc k = omega arith in rw e refl
take_over (suc k) (x ∷ t) u =
    let e : suc k - suc (length (take k t)) ≡ k - length (take k t) = omega arith in
    rw e (ap (λ (r : List ℕ). x ∷ r) (take_over k t u))

-- A text that is added as `Adds` says to a page of `page_bytes` bytes, where the list `page` is the filled ones.
pub added_is : (old new text page : List ℕ) (a r : ℕ) → take a old ≡ page → Adds old a text new r → length old ≡ page_bytes → a ≤ page_bytes
    → take r new ≡ added page text
unfolding added
added_is old new text page a r v one e l =
    let h : a ≤ length old = omega (arith, e, l) in
    let m : length page ≡ a = rw v at (length-take-le a old h) in
    let t : take page_bytes page ≡ page = take_all page_bytes page (omega (arith, m, l)) in
    let q : page ++ take (page_bytes - length page) text ≡ take page_bytes (page ++ text) = rw t at (take_over page_bytes page text) in
    rw (e, v) at (one h).1 ∙ sym q

-- One text, then another.
pub added_then : (page t u : List ℕ) → added (added page t) u ≡ added page (t ++ u)
unfolding added
added_then page t u =
    let k = page_bytes - length page in
    let e : page_bytes - length (page ++ take k t) ≡ k - length (take k t) = omega (arith, length-append page (take k t)) in
    rw (e, append_assoc page (take k t) (take (k - length (take k t)) u)) (ap (λ (x : List ℕ). page ++ x) (take_over k t u))

-- A text on an empty page that has room for it.
pub added_front : (text : List ℕ) → length text ≤ page_bytes → added [] text ≡ text
unfolding added
added_front text h = take_all page_bytes text h

pub places_are : (n k j f : ℕ) → IsDigitCount 10 1 n k → 1 ≤ j → j ≤ k → k ≤ j + f → places n j f ≡ k
unfolding places
places_are n k j zero w o h l = omega arith
places_are n k j (suc f) w o h l = by (ltb n (10 ^ j)) refl (λ q. places_are n k (suc j) f w (omega arith) q (omega arith))
  where
    by : (b : Bool) → ltb n (10 ^ j) ≡ b → (suc j ≤ k → places n (suc j) f ≡ k) → places n j (suc f) ≡ k
    by true e more =
        let g = ltb-true n (10 ^ j) e in
        let q : j ≡ k = ⊎_elim (λ q. q) (λ q. absurd (omega (arith, g, last q))) (eq-or-lt_of_le h) in
        rw e q
      where
        last : j < k → 10 ^ j ≤ n
        last q =
            let m : 10 ^ j ≤ 10 ^ (k - 1) = pow-le-pow_right (omega arith) (omega arith) in
            omega (arith, m, w.2 (omega arith))
    by false e more =
        let g = ltb-false n (10 ^ j) e in
        let q : j < k = ⊎_elim (λ q. absurd (below q g)) (λ q. q) (eq-or-lt_of_le h) in
        rw e (more q)
      where
        below : j ≡ k → 10 ^ j ≤ n → ⊥
        below q g = let m : 10 ^ j ≡ 10 ^ k = ap (λ x. 10 ^ x) q in omega (arith, g, m, w.1)

few_places : (n k : ℕ) → n < 18446744073709551616 → IsDigitCount 10 1 n k → k ≤ 20
few_places n k h w = by (leb k 20) refl
  where
    by : (b : Bool) → leb k 20 ≡ b → k ≤ 20
    by true e = leb-true k 20 e
    by false e =
        let g = leb-false k 20 e in
        let m : 10 ^ 20 ≤ 10 ^ (k - 1) = pow-le-pow_right {n = 10} (omega arith) {i = 20} {j = k - 1} (omega arith) in
        absurd (omega (arith, m, w.2 (omega arith)))

pub decimal_is : (n k : ℕ) → n < 18446744073709551616 → IsDigitCount 10 1 n k → last_digits 10 k n ≡ decimal_of n
unfolding decimal_of
decimal_is n k h w = let l = few_places n k h w in ap (λ j. last_digits 10 j n) (sym (places_are n k 1 19 w (omega arith) w.0 (omega (arith, l))))
