-- Lines that are put on a page one after another.
--   found_lines, no_lines, refused_lines: the lines that follow from the answer of a call
--   next_is, levels_is: one step of the definitions of the lines
--   level_start, level_next_put, level_ends, level_refused, level_spent: the lines of a level
--   levels_next_put, levels_end, levels_refused, levels_spent: the lines of the levels
--   tree_whole: the page
-- Assumes nothing.
use mathlib.Core.Path.{◌≡◌, refl, sym, ◌∙◌}
use mathlib.Core.List.{List, [], ◌∷◌, ◌++◌}
use Prim.Native.Nat.{ℕ, suc, ◌+◌, ◌-◌, ◌/◌, ◌≤◌, ◌<◌}
use native.Mathlib.Numerals.{add-one}
use native.Mathlib.Omega.{arith}
use lib.IntN.{ℤ}
use Rattle.row.specs.Answer.{Answer, at, nothing, refused}
use Rattle.bp_spec.specs.HandleCalls.{node_answer}
use Rattle.bp_spec.specs.LevelCalls.{level_next}
use Rattle.bp_spec.specs.LevelEnds.{level_leftmost, level_answer}
use Rattle.app_page.specs.Page.{added, decimal_of}
use Rattle.app_page.proofs.Pages.{added_nothing, added_then}
use Rattle.app_levels.specs.Shown.{refusal_line, node_line}
use Rattle.app_levels.specs.Levels.{lines_for, next_lines, level_lines, levels_lines, tree_lines}

module _ (page : List ℕ) (x : Answer) where
  found_lines : (t u : ℕ → List ℕ) (w : ℕ) → x ≡ at w → added page (lines_for x (λ v. t v ++ u v)) ≡ added (added page (t w)) (u w)
  found_lines t u w q = rw q (sym (added_then page (t w) (u w)))

  no_lines : (f : ℕ → List ℕ) → x ≡ nothing → added page (lines_for x f) ≡ page
  no_lines f q = rw q (added_nothing page)

  refused_lines : (f : ℕ → List ℕ) (k : ℕ) → x ≡ refused k → added page (lines_for x f) ≡ added page (refusal_line k)
  refused_lines f k q = rw q refl

module _ (ws : List ℕ) (n : ℕ) (s : List ℤ) (page : List ℕ) (k : ℕ) where
  pub level_start : (v : ℕ) → added (added page (node_line ws n s k v)) (next_lines ws n s k (n - 0) v) ≡ added page (level_lines ws n s k v)
  unfolding level_lines
  level_start v = let e : n - 0 ≡ n = omega arith in rw e (added_then page (node_line ws n s k v) (next_lines ws n s k n v))

  -- The lines after the line of v on its level, where i lines are put already.
  module _ (i v : ℕ) where
    next_is : i < n
        → next_lines ws n s k (n - i) v
        ≡ lines_for (node_answer level_next ws n s 64 v) (λ w. node_line ws n s k w ++ next_lines ws n s k (n - (i + 1)) w)
    unfolding next_lines
    next_is h = let e : n - i ≡ suc (n - (i + 1)) = omega (arith, h) in rw e refl

    pub level_next_put : i < n → (w : ℕ) → node_answer level_next ws n s 64 v ≡ at w
        → added page (next_lines ws n s k (n - i) v) ≡ added (added page (node_line ws n s k w)) (next_lines ws n s k (n - (i + 1)) w)
    level_next_put h w q = rw (next_is h) (found_lines page _ (node_line ws n s k) (next_lines ws n s k (n - (i + 1))) w q)

    pub level_ends : i < n → node_answer level_next ws n s 64 v ≡ nothing → added page (next_lines ws n s k (n - i) v) ≡ page
    level_ends h q = rw (next_is h) (no_lines page _ _ q)

    pub level_refused : i < n → (r : ℕ) → node_answer level_next ws n s 64 v ≡ refused r
        → added page (next_lines ws n s k (n - i) v) ≡ added page (refusal_line r)
    level_refused h r q = rw (next_is h) (refused_lines page _ _ r q)

    pub level_spent : n ≤ i → added page (next_lines ws n s k (n - i) v) ≡ page
    unfolding next_lines
    level_spent h = let e : n - i ≡ 0 = omega (arith, h) in rw e (added_nothing page)

  -- The lines from level k on.
  levels_is : k < n
      → levels_lines ws n s k (n - k)
      ≡ lines_for (level_answer level_leftmost ws n s 64 k) (λ v. level_lines ws n s k v ++ levels_lines ws n s (k + 1) (n - (k + 1)))
  unfolding levels_lines
  levels_is h = let e : n - k ≡ suc (n - (k + 1)) = omega (arith, h) in rw (e, add-one) refl

  pub levels_next_put : k < n → (v : ℕ) → level_answer level_leftmost ws n s 64 k ≡ at v
      → added page (levels_lines ws n s k (n - k)) ≡ added (added page (level_lines ws n s k v)) (levels_lines ws n s (k + 1) (n - (k + 1)))
  levels_next_put h v q =
      rw (levels_is h) (found_lines page _ (level_lines ws n s k) (λ w. levels_lines ws n s (k + 1) (n - (k + 1))) v q)

  pub levels_end : k < n → level_answer level_leftmost ws n s 64 k ≡ nothing → added page (levels_lines ws n s k (n - k)) ≡ page
  levels_end h q = rw (levels_is h) (no_lines page _ _ q)

  pub levels_refused : k < n → (r : ℕ) → level_answer level_leftmost ws n s 64 k ≡ refused r
      → added page (levels_lines ws n s k (n - k)) ≡ added page (refusal_line r)
  levels_refused h r q = rw (levels_is h) (refused_lines page _ _ r q)

  pub levels_spent : n ≤ k → added page (levels_lines ws n s k (n - k)) ≡ page
  unfolding levels_lines
  levels_spent h = let e : n - k ≡ 0 = omega (arith, h) in rw e (added_nothing page)

-- The two numbers of the first line, then the levels.
pub tree_whole : (ws : List ℕ) (n : ℕ) (s : List ℤ) (page : List ℕ)
    → added (added (added page (decimal_of (n / 2) ++ (32 ∷ []))) (decimal_of n ++ (10 ∷ []))) (levels_lines ws n s 0 n) ≡ added page (tree_lines ws n s)
unfolding tree_lines
tree_whole ws n s page =
    let half = decimal_of (n / 2) ++ (32 ∷ []) in
    let whole = decimal_of n ++ (10 ∷ []) in
    added_then (added page half) whole (levels_lines ws n s 0 n) ∙ added_then page half (whole ++ levels_lines ws n s 0 n)
