-- The answer for an input, and its words, depend only on its first 4,097 bytes.
--   end_front: the end of the line among the first n bytes
--   end_near, line_near: a line of at most 4,096 bytes; end_far: a longer line
--   input_front, words_front: the answer for the input and the words, from its first 4,097 bytes
-- Assumes nothing.
use Rattle.std.proofs.Common.{◌≡◌, ℕ, zero, suc, ◌≤◌, ◌<◌, min, Bool, true, false, cond, eqb, leb, List, [], ◌∷◌, take, refl, ap, ◌∙◌, arith}
use borrow.Author.Tests.{leb-true, leb-false, lt-leb}
use lib.Seq.{take-take}
use Rattle.row.specs.Limits.{max_short_bits}
use Rattle.app_line.specs.Input.{line_end, line, line_words, input_answer}

end_front : (n : ℕ) (s : List ℕ) → line_end (take n s) ≡ min n (line_end s)
unfolding line_end
end_front zero s = omega arith
end_front (suc n) [] = omega arith
end_front (suc n) (b ∷ s) = by (eqb b 10) (end_front n s)
  where
    by : (t : Bool) → line_end (take n s) ≡ min n (line_end s) → cond t 0 (suc (line_end (take n s))) ≡ min (suc n) (cond t 0 (suc (line_end s)))
    by true e = omega arith
    by false e = omega (arith, e)

module _ (s : List ℕ) where
  end_near : line_end s ≤ max_short_bits → line_end (take 4097 s) ≡ line_end s
  end_near h = omega (arith, end_front 4097 s)

  line_near : line_end s ≤ max_short_bits → line (take 4097 s) ≡ line s
  line_near h = ap (λ k. take k (take 4097 s)) (end_near h) ∙ take-take (line_end s) 4097 s (omega (arith, h))

  end_far : max_short_bits < line_end s → max_short_bits < line_end (take 4097 s)
  end_far h = omega (arith, end_front 4097 s)

  module _ (ws : List ℕ) where
    pub words_front : line_words (take 4097 s) ws ≡ line_words s ws
    unfolding line_words
    words_front = by (leb (line_end s) max_short_bits) refl
      where
        by : (t : Bool) → leb (line_end s) max_short_bits ≡ t → line_words (take 4097 s) ws ≡ line_words s ws
        by true e = let h = leb-true (line_end s) max_short_bits e in (rw (line_near h, end_near h) refl)
        by false e =
            let h : max_short_bits < line_end s = leb-false (line_end s) max_short_bits e in
            let f = lt-leb (line_end (take 4097 s)) max_short_bits (end_far h) in
            rw (f, e) refl

    pub input_front : input_answer (take 4097 s) ws ≡ input_answer s ws
    unfolding input_answer
    input_front = by (leb (line_end s) max_short_bits) refl
      where
        by : (t : Bool) → leb (line_end s) max_short_bits ≡ t → input_answer (take 4097 s) ws ≡ input_answer s ws
        by true e = let h = leb-true (line_end s) max_short_bits e in (rw (line_near h, end_near h) refl)
        by false e =
            let h : max_short_bits < line_end s = leb-false (line_end s) max_short_bits e in
            let f = lt-leb (line_end (take 4097 s)) max_short_bits (end_far h) in
            rw (f, e) refl
