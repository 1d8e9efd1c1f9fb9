-- On a row that is one tree, the lines that the program puts are those of the page by definition, if every answer equals its definition.
-- This uses demand 3.
--   lines_same: the lines of a list by two equal rules
--   none_under, deeper, deepest: below an empty level every level is empty
--   chain: the outline nodes that `level_next` names are put line by line
--   those_few: at most c of c numbers pass a test
--   line_is, level_is, levels_are, tree_is: a line, a level, the levels from k on, the page
-- Assumes nothing.
use mathlib.Core.Path.{◌≡◌, refl, sym, ap, ◌∙◌}
use mathlib.Core.Bool.{Bool, true, false}
use mathlib.Core.List.Memᴰ
use mathlib.Core.List.{List, [], ◌∷◌, ◌++◌}
use Prim.Native.Nat.{ℕ, zero, suc, ◌/◌, ◌≤◌}
use native.Mathlib.Omega.{arith}
use native.Mathlib.Decide.{dec_lt}
use lib.IntN.{ℤ, pos}
use lib.ListN.{length}
use Rattle.ints.proofs.Shapes.{zsum}
use Rattle.row.specs.Excess.{E}
use Rattle.row.specs.Tree.{OneTree}
use Rattle.bp_spec.specs.declared.question.Question.{Question}
use Rattle.bp_spec.specs.declared.question.Question.TheVariants.{Close, Parent, LevelNext, LevelLeftmost}
use Rattle.bp_spec.specs.Questions.{promised, definition}
use Rattle.demands.specs.Lists.{Names, those}
use Rattle.demands.specs.Handles.{at_depth, level}
use Rattle.demands.specs.Third.{Tours}
use Rattle.demands.proofs.ExactLists.{among, none_those}
use Rattle.demands.proofs.Depths.{Stands, at_depth_lem, not_depth}
use Rattle.row.proofs.Tree.{opens_low}
use Rattle.demands.proofs.Closes.{closing, E_zero}
use Rattle.demands.proofs.Children.{kid}
use Rattle.demands.proofs.Parents.{parent_of}
use Rattle.app_page.specs.Page.{decimal_of}
use Rattle.app_levels.specs.Shown.{line_of, node_line}
use Rattle.app_levels.specs.Levels.{next_lines, level_lines, levels_lines, tree_lines}
use Rattle.app_levels.specs.Outline.{lines_of, defined_line, defined_levels, defined_lines}

lines_same : (f g : ℕ → List ℕ) → ((v : ℕ) → f v ≡ g v) → (l : List ℕ) → lines_of f l ≡ lines_of g l
lines_same f g e [] = refl
lines_same f g e (v ∷ l) = rw (e v, lines_same f g e l)

-- ---- below an empty level every level is empty
module _ (ws : List ℕ) (n : ℕ) (t : OneTree ws n) where
  -- An outline node on level k + 1 would have its parent on level k.
  none_under : (k : ℕ) → level ws n k ≡ [] → (w : ℕ) → Stands ws n (pos (suc k)) w → ⊥
  none_under k e w s = elim (dec_lt 0 w) [
    | yes l ↦ let (u, p) = parent_of ws n t w s.open_is l in
        let (c, d) = closing ws n t u p.open_is in
        let q = (kid ws n t u c p.open_is d w p.child).deep in
        let j = opens_low ws n u p.open_is in
        let m = among (at_depth ws n (pos k)) u n 0 (omega arith) (omega arith) (at_depth_lem ws n (pos k) u p.open_is (omega (zsum, s.deep))) in
        Memᴰ.not-nil (rw e at m)
    | no l ↦ let z : w ≡ 0 = omega arith in omega (zsum, s.deep, ap (E ws) z, E_zero ws n)
  ]

  deeper : (k : ℕ) → level ws n k ≡ [] → level ws n (suc k) ≡ []
  deeper k e = none_those (at_depth ws n (pos (suc k))) n 0 (λ w a b. not_depth ws n (pos (suc k)) w (none_under k e w))

  deepest : (f k : ℕ) → level ws n k ≡ [] → defined_levels ws n k f ≡ []
  unfolding defined_levels
  deepest zero k e = refl
  deepest (suc f) k e = rw e (deepest f (suc k) (deeper k e))

-- ---- the outline nodes that `level_next` names
module _ (ws : List ℕ) (n : ℕ) (s : List ℤ) (k : ℕ) where
  chain : (l : List ℕ) (f v : ℕ) → Names (promised ws n s 64) LevelNext (LevelNext v) l → length l ≤ f
      → next_lines ws n s k f v ≡ lines_of (node_line ws n s k) l
  unfolding next_lines
  chain [] zero v h m = refl
  chain [] (suc f) v h m = rw h refl
  chain (w ∷ l) zero v h m = absurd (omega (arith, m))
  chain (w ∷ l) (suc f) v h m = rw h.0 (ap (λ (x : List ℕ). node_line ws n s k w ++ x) (chain l f w h.1 (omega (arith, m))))

-- ---- at most c of c numbers pass a test
those_few : (p : ℕ → Bool) (c a : ℕ) → length (those p c a) ≤ c
unfolding those
those_few p zero a = omega arith
those_few p (suc c) a = by (p a) refl (those_few p c (suc a))
  where
    by : (b : Bool) → p a ≡ b → length (those p c (suc a)) ≤ c → length (those p (suc c) a) ≤ suc c
    by true e h = rw (e, those) (omega (arith, h))
    by false e h = rw (e, those) (omega (arith, h))

-- ---- the levels, and the page
module _ (ws : List ℕ) (n : ℕ) (s : List ℤ) (t : OneTree ws n) (tour : Tours ws n (promised ws n s 64))
    (is : (q : Question) → promised ws n s 64 q ≡ definition ws n q) where
  line_is : (k v : ℕ) → node_line ws n s k v ≡ defined_line ws n k v
  unfolding node_line defined_line
  line_is k v =
      ap (λ a. line_of k v a (promised ws n s 64 (Parent v))) (is (Close v)) ∙ ap (line_of k v (definition ws n (Close v))) (is (Parent v))

  level_is : (k v : ℕ) (l : List ℕ) → level ws n k ≡ v ∷ l → Names (promised ws n s 64) LevelNext (LevelNext v) l
      → level_lines ws n s k v ≡ lines_of (defined_line ws n k) (v ∷ l)
  unfolding level_lines
  level_is k v l e h =
      let m : length (v ∷ l) ≤ n = rw e at (those_few (at_depth ws n (pos k)) n 0) in
      ap (λ (x : List ℕ). node_line ws n s k v ++ x) (chain ws n s k l n v h (omega (arith, m)))
      ∙ lines_same (node_line ws n s k) (defined_line ws n k) (line_is k) (v ∷ l)

  levels_are : (f k : ℕ) → levels_lines ws n s k f ≡ defined_levels ws n k f
  unfolding levels_lines defined_levels
  levels_are zero k = refl
  levels_are (suc f) k = by (level ws n k) refl (tour.level_rises k) (levels_are f (suc k))
    where
      by : (l : List ℕ) → level ws n k ≡ l → Names (promised ws n s 64) LevelNext (LevelLeftmost k) l
          → levels_lines ws n s (suc k) f ≡ defined_levels ws n (suc k) f → levels_lines ws n s k (suc f) ≡ defined_levels ws n k (suc f)
      by [] e h r = rw (h, e) (sym (deepest ws n t f (suc k) (deeper ws n t k e)))
      by (v ∷ l) e h r = rw (h.0, r, level_is k v l e h.1, e) refl

  pub tree_is : tree_lines ws n s ≡ defined_lines ws n
  unfolding tree_lines defined_lines
  tree_is = ap (λ (x : List ℕ). (decimal_of (n / 2) ++ (32 ∷ [])) ++ ((decimal_of n ++ (10 ∷ [])) ++ x)) (levels_are n 0)
