-- The page fits into 65,536 bytes. Each outline node has one line, and a tree of n bits has n / 2 outline nodes. A line has at most 20 bytes.
-- The proof bounds it by 30, because it does not rule out a refusal as close and as parent.
--   places_least, digits_length, decimal_fits: a number below 10^k has at most k digits
--   refusal_fits, answer_fits: the text of a refusal and of an answer; cell_fits, joined, short: parts of a line; line_fits: a line
--   lines_fit, levels_fit: the lines of a list, and of some levels
--   hit, hits, hits_past, hits_few: a position is on at most one level, and only if its bit is open
--   those_next, those_none, tally, tally_none, tally_next, tally_few: so all levels together have at most as many outline nodes as open bits
--   opens_bit, opens_ones, tree_half: the open bits of one tree are half of its bits
--   page_fits: the page
-- Assumes nothing.
use mathlib.Core.Path.{◌≡◌, refl, ap, ◌∙◌}
use mathlib.Core.Logic.{⊎_elim}
use mathlib.Core.Bool.{Bool, true, false, cond}
use mathlib.Core.List.Memᴰ
use mathlib.Core.List.{List, [], ◌∷◌, ◌++◌}
use Prim.Native.Nat.{ℕ, zero, suc, ◌+◌, ◌*◌, ◌/◌, ◌^◌, ◌≤◌, ◌<◌}
use native.Mathlib.Nat.{eq-or-lt_of_le, add-zero, zero-add}
use native.Mathlib.Omega.{arith}
use borrow.Author.Tests.{ltb-false, lt-ltb}
use lib.Dec.{ltb}
use lib.IntN.{pos}
use lib.ListN.{length, length-append}
use Rattle.row.specs.Limits.{max_short_bits}
use Rattle.io.specs.Digits.{last_digits}
use Rattle.ints.proofs.Shapes.{zsum}
use Rattle.row.specs.Answer.{Answer, at, nothing, refused}
use Rattle.row.specs.Bits.{bit_at}
use Rattle.row.specs.Excess.{E}
use Rattle.row.specs.Tree.{OneTree, opens}
use Rattle.row.proofs.Digits.{digit_lt}
use Rattle.bp_spec.specs.LevelEnds.{ones}
use Rattle.bp_spec.proofs.RightmostStart.{E_ones}
use Rattle.bp_spec.specs.Ranges.{May}
use Rattle.bp_spec.specs.declared.question.Question.TheVariants.{Close, Parent}
use Rattle.bp_spec.specs.Questions.{definition}
use Rattle.demands.specs.Lists.{those}
use Rattle.demands.specs.Handles.{at_depth, level}
use Rattle.bp_spec.proofs.DefinitionRange.{defined_may}
use Rattle.demands.proofs.Depths.{stands, not_depth}
use Rattle.app_page.specs.Page.{page_bytes, places, decimal_of}
use Rattle.app_levels.specs.Shown.{refused_text, answer_text}
use Rattle.app_levels.specs.Outline.{lines_of, defined_line, defined_levels, defined_lines}

-- ---- numbers
places_least : (n k j f : ℕ) → n < 10 ^ k → j ≤ k → k ≤ j + f → places n j f ≤ k
unfolding places
places_least n k j zero h l m = l
places_least n k j (suc f) h l m = by (ltb n (10 ^ j)) refl (λ q. places_least n k (suc j) f h q (omega arith))
  where
    by : (b : Bool) → ltb n (10 ^ j) ≡ b → (suc j ≤ k → places n (suc j) f ≤ k) → places n j (suc f) ≤ k
    by true e more = rw e l
    by false e more =
        let g = ltb-false n (10 ^ j) e in
        let q : j < k = ⊎_elim (λ q. absurd (omega (arith, g, h, ap (λ x. 10 ^ x) q))) (λ q. q) (eq-or-lt_of_le l) in
        rw e (more q)

digits_length : (b k n : ℕ) → length (last_digits b k n) ≡ k
digits_length b zero n = refl
digits_length b (suc k) n = length-append (last_digits b k (n / b)) _ ∙ omega (arith, digits_length b k (n / b))

decimal_fits : (x k : ℕ) → x < 10 ^ k → 1 ≤ k → k ≤ 20 → length (decimal_of x) ≤ k
unfolding decimal_of
decimal_fits x k h l m = rw (digits_length 10 (places x 1 19) x) (places_least x k 1 19 h l (omega (arith, m)))

pub refusal_fits : (k : ℕ) → k < 10 → length (refused_text k) ≤ 9
unfolding refused_text
refusal_fits k h = omega (arith, decimal_fits k 1 h (omega arith) (omega arith))

-- ---- a line
answer_fits : (b : ℕ) → b ≤ 10000 → (a : Answer) → May b (5 ∷ []) a → length (answer_text a) ≤ 9
answer_fits b h (at x) m = omega (arith, decimal_fits x 4 (omega (arith, m, h)) (omega arith) (omega arith))
answer_fits b h nothing m = omega arith
answer_fits b h (refused k) m = let e = Memᴰ.eq_of_singleton m in refusal_fits k (omega (arith, e))

-- A text and the byte after it.
cell_fits : (t : List ℕ) (b m : ℕ) → length t ≤ m → length (t ++ (b ∷ [])) ≤ m + 1
cell_fits t b m h = omega (arith, h, length-append t (b ∷ []))

joined : (t u : List ℕ) (a b : ℕ) → length t ≤ a → length u ≤ b → length (t ++ u) ≤ a + b
joined t u a b h l = omega (arith, h, l, length-append t u)

short : (x : ℕ) → x ≤ max_short_bits → length (decimal_of x) ≤ 4
short x h = decimal_fits x 4 (omega (arith, h)) (omega arith) (omega arith)

module _ (ws : List ℕ) (n : ℕ) (few : n ≤ max_short_bits) where
  line_fits : (k v : ℕ) → k < n → v < n → length (defined_line ws n k v) ≤ 30
  unfolding defined_line
  line_fits k v h l =
      let close = definition ws n (Close v) in
      let above = definition ws n (Parent v) in
      let one = cell_fits (decimal_of k) 32 4 (short k (omega (arith, h, few))) in
      let two = cell_fits (decimal_of v) 32 4 (short v (omega (arith, l, few))) in
      let three = cell_fits (answer_text close) 32 9 (answer_fits n (omega (arith, few)) close (defined_may ws n (Close v))) in
      let four = cell_fits (answer_text above) 10 9 (answer_fits n (omega (arith, few)) above (defined_may ws n (Parent v))) in
      let rest = joined (answer_text close ++ (32 ∷ [])) _ 10 10 three four in
      joined (decimal_of k ++ (32 ∷ [])) _ 5 25 one (joined (decimal_of v ++ (32 ∷ [])) _ 5 20 two rest)

  -- The lines of the positions that pass a test, among the c positions from a on.
  lines_fit : (k : ℕ) (p : ℕ → Bool) (c a : ℕ) → k < n → a + c ≤ n → length (lines_of (defined_line ws n k) (those p c a)) ≤ 30 * length (those p c a)
  unfolding those
  lines_fit k p zero a h l = omega arith
  lines_fit k p (suc c) a h l = by (p a) refl (lines_fit k p c (suc a) h (omega (arith, l)))
    where
      by : (b : Bool) → p a ≡ b → length (lines_of (defined_line ws n k) (those p c (suc a))) ≤ 30 * length (those p c (suc a))
          → length (lines_of (defined_line ws n k) (those p (suc c) a)) ≤ 30 * length (those p (suc c) a)
      by true e r =
          let m = joined (defined_line ws n k a) (lines_of (defined_line ws n k) (those p c (suc a))) 30 _ (line_fits k a h (omega (arith, l))) r in
          rw (e, those) (omega (arith, m))
      by false e r = rw (e, those) r

-- ---- how many lines
abbrev hit : Bool → ℕ
hit b = cond b 1 0

those_next : (p : ℕ → Bool) (c a : ℕ) → length (those p (suc c) a) ≡ hit (p a) + length (those p c (suc a))
unfolding those
those_next p c a = by (p a) refl
  where
    by : (b : Bool) → p a ≡ b → length (those p (suc c) a) ≡ hit (p a) + length (those p c (suc a))
    by true e = rw (e, those) (omega arith)
    by false e = rw (e, those) (omega arith)

those_none : (p : ℕ → Bool) (a : ℕ) → length (those p 0 a) ≡ 0
unfolding those
those_none p a = refl

module _ (ws : List ℕ) (n : ℕ) where
  -- The number of levels that have position a, among the f levels from k on.
  hits : ℕ → ℕ → ℕ → ℕ
  hits a k zero = 0
  hits a k (suc f) = hit (at_depth ws n (pos k) a) + hits a (suc k) f

  -- The number of outline nodes on the f levels from k on, among the c positions from a on.
  tally : ℕ → ℕ → ℕ → ℕ → ℕ
  tally c a k zero = 0
  tally c a k (suc f) = length (those (at_depth ws n (pos k)) c a) + tally c a (suc k) f

  hits_past : (a j k f : ℕ) → E ws a ≡ pos j → j < k → hits a k f ≡ 0
  unfolding hits
  hits_past a j k zero e h = refl
  hits_past a j k (suc f) e h =
      let z = not_depth ws n (pos k) a (λ s. omega (zsum, e, s.deep)) in
      rw z (omega (arith, hits_past a j (suc k) f e (omega (arith, h))))

  -- A position is on at most one level, and only if its bit is open.
  hits_few : (a k f : ℕ) → hits a k f ≤ hit (opens ws n a)
  unfolding hits
  hits_few a k zero = omega arith
  hits_few a k (suc f) = by (at_depth ws n (pos k) a) refl (hits_few a (suc k) f)
    where
      by : (b : Bool) → at_depth ws n (pos k) a ≡ b → hits a (suc k) f ≤ hit (opens ws n a) → hits a k (suc f) ≤ hit (opens ws n a)
      by true e r =
          let s = stands ws n (pos k) a e in
          let z = hits_past a k (suc k) f s.deep (omega arith) in
          rw (e, s.open_is) (omega (arith, z))
      by false e r = rw e (omega (arith, r))

  tally_none : (a k f : ℕ) → tally 0 a k f ≡ 0
  unfolding tally
  tally_none a k zero = refl
  tally_none a k (suc f) = omega (arith, those_none (at_depth ws n (pos k)) a, tally_none a (suc k) f)

  tally_next : (c a k f : ℕ) → tally (suc c) a k f ≡ hits a k f + tally c (suc a) k f
  unfolding tally hits
  tally_next c a k zero = omega arith
  tally_next c a k (suc f) = omega (arith, those_next (at_depth ws n (pos k)) c a, tally_next c a (suc k) f)

  tally_few : (c a k f : ℕ) → tally c a k f ≤ length (those (opens ws n) c a)
  tally_few zero a k f = omega (arith, tally_none a k f)
  tally_few (suc c) a k f = omega (arith, tally_next c a k f, hits_few a k f, those_next (opens ws n) c a, tally_few c (suc a) k f)

  opens_bit : (a : ℕ) → a < n → hit (opens ws n a) ≡ bit_at ws a
  unfolding opens
  opens_bit a h = by (bit_at ws a) refl (digit_lt _ _)
    where
      by : (x : ℕ) → bit_at ws a ≡ x → x < 2 → hit (opens ws n a) ≡ bit_at ws a
      by zero e l = rw (lt-ltb a n h, e)
      by (suc zero) e l = rw (lt-ltb a n h, e)
      by (suc (suc x)) e l = absurd (omega (arith, l))

  opens_ones : (c a : ℕ) → a + c ≤ n → length (those (opens ws n) c a) + ones ws a ≡ ones ws (a + c)
  unfolding ones
  opens_ones zero a h = rw (add-zero a) (omega (arith, those_none (opens ws n) a))
  opens_ones (suc c) a h =
      let e : a + suc c ≡ suc a + c = omega arith in
      rw e (omega (arith, those_next (opens ws n) c a, opens_bit a (omega (arith, h)), opens_ones c (suc a) (omega (arith, h))))

  tree_half : OneTree ws n → (k f : ℕ) → 2 * tally n 0 k f ≤ n
  tree_half t k f =
      let e : n ≡ 2 * ones ws n = omega (zsum, E_ones ws n, t.closed) in
      let o = rw (zero-add n) at (opens_ones n 0 (omega arith)) in
      omega (arith, e, o, tally_few n 0 k f)

  levels_fit : n ≤ max_short_bits → (k f : ℕ) → k + f ≤ n → length (defined_levels ws n k f) ≤ 30 * tally n 0 k f
  unfolding defined_levels tally
  levels_fit few k zero h = omega arith
  levels_fit few k (suc f) h =
      let one = lines_fit ws n few k (at_depth ws n (pos k)) n 0 (omega (arith, h)) (omega arith) in
      let two = levels_fit few (suc k) f (omega (arith, h)) in
      omega (arith, one, two, length-append (lines_of (defined_line ws n k) (level ws n k)) (defined_levels ws n (suc k) f))

  pub page_fits : n ≤ max_short_bits → OneTree ws n → length (defined_lines ws n) ≤ page_bytes
  unfolding defined_lines
  page_fits few t =
      let one = cell_fits (decimal_of (n / 2)) 32 4 (short (n / 2) (omega (arith, few))) in
      let two = cell_fits (decimal_of n) 10 4 (short n few) in
      let three = joined (decimal_of n ++ (10 ∷ [])) (defined_levels ws n 0 n) 5 _ two (levels_fit few 0 n (omega arith)) in
      let all = joined (decimal_of (n / 2) ++ (32 ∷ [])) ((decimal_of n ++ (10 ∷ [])) ++ defined_levels ws n 0 n) 5 _ one three in
      omega (arith, all, tree_half t 0 n)
