-- Laws of lists of values in a byte slice, each in eight bytes.
--   length_made: `tabulate g i c` has c elements
--   made_at: element j of `tabulate g i c` is `g (i + j)`
--   Each: the claim that the elements 0 to c - 1 of a list are g 0 to g (c - 1)
--   more: storing `g i` as element i extends this claim from i to i + 1
--   each_made: a list of c elements that satisfies the claim for c is `tabulate g 0 c`
--   all_made: the same for a list that may be empty
--   first_at, chunk_at: chunk i of eight bytes begins at byte 8i
--   length_bytes: k values are 8k bytes
--   bytes_append: the bytes of two lists of values follow one another
--   over_none: with no value written the bytes are unchanged
--   over_next: writing value i turns i written values into i + 1
-- Assumes nothing.
use mathlib.Core.Path.{◌≡◌, refl, sym, ap, ◌∙◌}
use mathlib.Core.List.{List, [], ◌∷◌, ◌++◌, append_assoc}
use Prim.Native.Nat.{ℕ, zero, suc, ◌+◌, ◌*◌, ◌<◌}
use native.Mathlib.Omega.{arith}
use lib.ListN.{length, get_or, set, take, drop, length-append}
use Rattle.std.proofs.lemmas.List.{take_more, append-nil}
use lib.Seq.{length-take-le, get_or-set_same, get_or-set_other, ext_get_or, take_at, drop_at, drop-drop}
use borrow.Author.Count.{below_more}
use Rattle.std.specs.Simd.{first_chunks}
use Rattle.wire.specs.Bytes.{tabulate, bytes_of, values_over}

-- ---- lists made by a rule
module _ {A : Type 0} where
  pub length_made : (g : ℕ → A) (i c : ℕ) → length (tabulate g i c) ≡ c
  unfolding tabulate
  length_made g i zero = refl
  length_made g i (suc c) = ap suc (length_made g (suc i) c)

  pub made_at : (g : ℕ → A) (d : A) (i c j : ℕ) → j < c → get_or (tabulate g i c) j d ≡ g (i + j)
  unfolding tabulate
  made_at g d i zero j h = absurd (omega arith)
  made_at g d i (suc c) zero h = ap g (omega arith)
  made_at g d i (suc c) (suc j) h = made_at g d (suc i) c j (omega arith) ∙ ap g (omega arith)

  abbrev pub Each : List A → A → (ℕ → A) → ℕ → Type 0
  Each a d g c = (j : ℕ) → j < c → get_or a j d ≡ g j

  pub more : (a : List A) (d v : A) (g : ℕ → A) (i : ℕ) → i < length a → Each a d g i → v ≡ g i → Each (set a i v) d g (i + 1)
  more a d v g i h f e =
      below_more (λ j. get_or (set a i v) j d ≡ g j) i
      (λ j l. get_or-set_other a i j v d (λ q. omega arith) ∙ f j l) (get_or-set_same a i v d h ∙ e)

  pub each_made : (a : List A) (d : A) (g : ℕ → A) (c : ℕ) → length a ≡ c → Each a d g c → a ≡ tabulate g 0 c
  each_made a d g c e f =
      ext_get_or d a (tabulate g 0 c) (e ∙ sym (length_made g 0 c))
      (λ j l. f j (omega arith) ∙ ap g (omega arith) ∙ sym (made_at g d 0 c j (omega arith)))

  -- The same if the list may be empty, so that there may be no d.
  pub all_made : (a : List A) (g : ℕ → A) (c : ℕ) → length a ≡ c → ((d : A) → Each a d g c) → a ≡ tabulate g 0 c
  unfolding tabulate
  all_made [] g c e f = rw (← e) refl
  all_made (x ∷ xs) g c e f = each_made (x ∷ xs) x g c e (f x)

-- ---- chunks of eight bytes
first_at : {A : Type 0} (d : List A) (k : ℕ) (s : List A) (i : ℕ) → i < k → get_or (first_chunks 8 k s) i d ≡ take 8 (drop (8 * i) s)
first_at d zero s i h = absurd (omega arith)
first_at d (suc k) s zero h = refl
first_at d (suc k) s (suc i) h =
    let e : 8 + 8 * i ≡ 8 * suc i = omega arith in
    first_at d k (drop 8 s) i (omega arith) ∙ ap (take 8) (drop-drop (8 * i) 8 s ∙ ap (λ j. drop j s) e)

pub chunk_at : {A : Type 0} (d : List A) (k : ℕ) (s : List A) (i : ℕ) (c : List (List A)) → i < k → c ≡ first_chunks 8 k s
    → get_or c i d ≡ take 8 (drop (8 * i) s)
chunk_at d k s i c h e = rw e (first_at d k s i h)

-- ---- values written as bytes
module _ {A : Type 0} (bytes : A → List ℕ) (long : (x : A) → length (bytes x) ≡ 8) where
  length_bytes : (xs : List A) → length (bytes_of bytes xs) ≡ 8 * length xs
  unfolding bytes_of
  length_bytes [] = refl
  length_bytes (x ∷ xs) = let e = length_bytes xs in let f = long x in length-append (bytes x) (bytes_of bytes xs) ∙ omega arith

  bytes_append : (xs ys : List A) → bytes_of bytes (xs ++ ys) ≡ bytes_of bytes xs ++ bytes_of bytes ys
  unfolding bytes_of
  bytes_append [] ys = refl
  bytes_append (x ∷ xs) ys =
      ap (λ r. bytes x ++ r) (bytes_append xs ys) ∙ sym (append_assoc (bytes x) (bytes_of bytes xs) (bytes_of bytes ys))

  pub over_none : (xs : List A) (s : List ℕ) → s ≡ values_over bytes (take 0 xs) s
  unfolding bytes_of
  over_none xs s = refl

  -- Value i is written into the eight bytes from 8i on.
  pub over_next : (xs : List A) (d : A) (s b v : List ℕ) (i k : ℕ) → i < length xs → k ≡ 8 → b ≡ values_over bytes (take i xs) s → v ≡ bytes (get_or xs i d)
      → take (8 * i) b ++ (v ++ drop k (drop (8 * i) b)) ≡ values_over bytes (take (i + 1) xs) s
  unfolding bytes_of
  over_next xs d s b v i k h e₈ eb ev =
      let x = get_or xs i d in
      let p = bytes_of bytes (take i xs) in
      let q = drop (8 * length (take i xs)) s in
      let t : length (take i xs) ≡ i = length-take-le i xs (omega arith) in
      let l : length p ≡ 8 * i = length_bytes (take i xs) ∙ ap (λ k. 8 * k) t in
      let u : length (take (i + 1) xs) ≡ i + 1 = length-take-le (i + 1) xs (omega arith) in
      let n : 8 * length (take i xs) + 8 ≡ 8 * length (take (i + 1) xs) = omega arith in
      let r : drop 8 q ≡ drop (8 * length (take (i + 1) xs)) s = drop-drop 8 (8 * length (take i xs)) s ∙ ap (λ k. drop k s) n in
      let f : bytes_of bytes (take (i + 1) xs) ≡ p ++ bytes x =
      ap (bytes_of bytes) (take_more xs i d h) ∙ bytes_append (take i xs) (x ∷ []) ∙ ap (λ y. p ++ y) (append-nil (bytes x)) in
      rw (eb, ev, e₈, f, take_at p q (8 * i) l, drop_at p q (8 * i) l, r) (sym (append_assoc p (bytes x) (drop (8 * length (take (i + 1) xs)) s)))
