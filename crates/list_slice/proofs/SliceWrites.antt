-- The output slice while the answers of the steps are written to it.
--   ended, goes_on: what the test of the code for `nothing` says about the answer
--   answers_more, answers_last: the answers from h on, if h is not `nothing`, and if it is
--   Writing: the first i answers are written, and the listing holds h
--   writing_step: after one more answer
--   written_full, written_ended: all answers are written if the slice is full, and if the last one was `nothing`
--   list_err, list_ok: the promise of `list` if the constructor is refused, and if it succeeds
--   sought_ok: what the constructor found, if it succeeds
-- Assumes nothing.
use mathlib.Core.Path.{◌≡◌, refl, sym, ap, ◌∙◌}
use mathlib.Core.Bool.{Bool, true, false}
use mathlib.Core.List.{List, [], ◌∷◌, ◌++◌, map, append_assoc, append-nil}
use Prim.Native.Nat.{ℕ, suc, ◌+◌, ◌-◌, ◌≤◌, ◌<◌}
use native.Mathlib.Omega.{arith}
use native.Mathlib.Numerals.{add-one}
use lib.IntN.{ℤ}
use lib.ListN.{length, take, drop, set, length-set, take-append-drop, length-map}
use lib.Seq.{length-take-le, take-suc-set, drop-drop, drop-set-lt}
use Rattle.row.specs.Writes.{Writes}
use Rattle.std.specs.Prelude.{Result, Ok, Err, Option, Some, None}
use Rattle.std.specs.Result.{result_eq}
use Rattle.std.specs.Option.{option_eq}
use Rattle.row.specs.declared.refusal.Refusal.{Refusal}
use Rattle.row.specs.Answer.{Answer, at, nothing, refused, number_of, paper_found}
use Rattle.wire.specs.Answer.{wire_of}
use Rattle.list_slice.specs.Seek.{sought, held_after}
use Rattle.list_slice.specs.WholeListing.{answers, Wrote, unless_refused, count_of, left_of}

-- ---- the test `held == Ok(None)`
module _ (p : ℕ → ℕ → Bool) (q : Refusal → Refusal → Bool) where
  abbrev is_end : Result (Option ℕ) Refusal → Bool
  is_end f = result_eq (option_eq p) q f (Ok None)

  pub ended : (f : Result (Option ℕ) Refusal) → is_end f ≡ true → paper_found f ≡ nothing
  ended (Ok (Some v)) e = cc
  ended (Ok None) e = refl
  ended (Err k) e = cc

  pub goes_on : (f : Result (Option ℕ) Refusal) → is_end f ≡ false → paper_found f ≡ nothing → ⊥
  goes_on (Ok (Some v)) e h = cc
  goes_on (Ok None) e h = cc
  goes_on (Err k) e h = cc

module _ (next : Answer → Answer) where
  -- The answers as numbers of the wire.
  abbrev numbers : ℕ → Answer → List ℤ
  numbers c a = map wire_of (answers next c a)

  answers_more : (c : ℕ) (h : Answer) → (h ≡ nothing → ⊥) → answers next (suc c) h ≡ h ∷ answers next c (next h)
  unfolding answers
  answers_more c (at v) e = refl
  answers_more c nothing e = absurd (e refl)
  answers_more c (refused k) e = refl

  answers_last : (c : ℕ) (h : Answer) → h ≡ nothing → answers next (suc c) h ≡ h ∷ []
  unfolding answers
  answers_last c h e = rw e

  module _ (a : Answer) (out₀ : List ℤ) where
    -- All numbers that are to be written.
    abbrev all : List ℤ
    all = numbers (length out₀) a

    pub record Writing (out : List ℤ) (h : Answer) (i : ℕ) : Type 0 where
      pub room : i ≤ length out₀
      pub same : length out ≡ length out₀
      pub front : take i out ++ numbers (length out₀ - i) h ≡ all
      pub back : drop i out ≡ drop i out₀

    -- If the first i entries are exactly the numbers to be written, the slice and the count are right.
    written : (out : List ℤ) (i : ℕ) → i ≤ length out → take i out ≡ all → drop i out ≡ drop i out₀ → Wrote next a out₀ out i
    written out i r f b =
        let n : i ≡ length all = sym (length-take-le i out r) ∙ ap length f in
        record {
          count = n ∙ length-map (answers next (length out₀) a) wire_of;
          left = sym (take-append-drop i out) ∙ rw (f, b, n);
        }

    module _ (out : List ℤ) (h : Answer) (i : ℕ) (w : Writing out h i) where
      pub written_full : length out₀ ≤ i → Wrote next a out₀ out i
      unfolding answers
      written_full l =
          let e : length out₀ - i ≡ 0 = (let r = w.room in omega arith) in
          written out i (let s = w.same in let r = w.room in omega arith) (sym (append-nil (take i out)) ∙ rw e at w.front) w.back

      module _ (l : i < length out₀) where
        abbrev left : ℕ
        left = length out₀ - (i + 1)

        -- The count of numbers still to come.
        more : length out₀ - i ≡ suc left
        more = omega arith

        in_out : i < length out
        in_out = let s = w.same in omega arith

        -- The front of the slice, one number longer.
        longer : (l : List ℤ) → take (i + 1) (set out i (wire_of h)) ++ l ≡ take i out ++ wire_of h ∷ l
        longer l = rw (add-one, take-suc-set out i (wire_of h) in_out) (append_assoc (take i out) (wire_of h ∷ []) l)

        past : drop (i + 1) (set out i (wire_of h)) ≡ drop (i + 1) out₀
        past = drop-set-lt (i + 1) out i (wire_of h) (omega arith) ∙ sym (drop-drop 1 i out) ∙ ap (drop 1) w.back ∙ drop-drop 1 i out₀

        pub writing_step : (h ≡ nothing → ⊥) → Writing (set out i (wire_of h)) (next h) (i + 1)
        writing_step e = record {
          room = omega arith;
          same = length-set out i (wire_of h) ∙ w.same;
          front = longer (numbers left (next h)) ∙ rw (more, answers_more left h e) at w.front;
          back = past;
        }

        pub written_ended : h ≡ nothing → Wrote next a out₀ (set out i (wire_of h)) (i + 1)
        written_ended e =
            let r : i + 1 ≤ length (set out i (wire_of h)) = rw (length-set out i (wire_of h)) (omega (arith, in_out)) in
            written (set out i (wire_of h)) (i + 1) r (sym (append-nil _) ∙ longer [] ∙ rw (more, answers_last left h e) at w.front) past

-- ---- the call
module _ (rising : Bool) (ws : List ℕ) (n : ℕ) (s : List ℤ) (B v : ℕ) (out : List ℤ) where
  -- The promise of `list` about its answer a and the slice t that it leaves.
  abbrev pub ListPromise : Answer → List ℤ → Type 0
  ListPromise a t = Writes a (count_of rising ws n s B v (length out)) t (left_of rising ws n s B v out)

  -- The constructor answers f.
  module _ {f : Result (Option ℕ) Refusal} (e : paper_found f ≡ sought rising ws n s B v) where
    pub list_err : {k : Refusal} → f ≡ Err k → (a : Answer) → a ≡ refused (number_of k) → ListPromise a out
    unfolding count_of left_of
    list_err h a q = record { answer = rw (← e, h) q; slice = rw (← e, h) }

    module _ {o : Option ℕ} (h : f ≡ Ok o) where
      pub sought_ok : paper_found (Ok o) ≡ sought rising ws n s B v
      sought_ok = rw h at e

      pub list_ok : {i : ℕ} {t : List ℤ} → Wrote (held_after rising ws n s B) (paper_found (Ok o)) out t i → ListPromise (at i) t
      unfolding count_of left_of
      list_ok w = record { answer = rw (← sought_ok) (go o refused (ap at w.count)); slice = rw (← sought_ok) (go o (λ _. out) w.left) }
        where
          go : {A : Type 0} {x y : A} (o : Option ℕ) (z : ℕ → A) → x ≡ y → x ≡ unless_refused (paper_found (Ok o)) y z
          go (Some j) z q = q
          go None z q = q
