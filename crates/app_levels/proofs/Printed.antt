-- What is printed, from what the input encodes.
--   Outcome, outcome, input_taken: an input that is not refused has at most 4,096 bits and is one tree
--   few_nodes, room_for, not_refused: so its build is not refused; built_lines: and the lines over its nodes are the page by definition
--   printed_tree, printed_refused: the page of a tree, and the line of a refusal
--   printed_fits: all output fits into 65,536 bytes; printed_front: it depends only on the first 4,097 bytes of the input
-- Assumes nothing.
use mathlib.Core.Path.{◌≡◌, refl, ap, ◌∙◌}
use mathlib.Core.Bool.{Bool, true, false}
use mathlib.Core.List.{List, [], ◌∷◌}
use Prim.Native.Nat.{ℕ, ◌*◌, ◌≤◌, ◌<◌}
use native.Mathlib.Omega.{arith}
use borrow.Author.Tests.{leb-true}
use lib.Dec.{leb, eqb}
use lib.IntN.{pos}
use lib.ListN.{length, take, replicate, length-append}
use Rattle.row.specs.Limits.{max_short_bits}
use Rattle.row.specs.Answer.{Answer, at, nothing, refused}
use Rattle.row.specs.Gates.{through}
use Rattle.row.specs.Tree.{OneTree, one_tree}
use Rattle.row.proofs.Tree.{one_tree_true}
use Rattle.text.specs.Text.{all_parentheses, text_words}
use Rattle.mmt_layout.specs.Layout.{width, leaves, layout_of, count, nodes_gate, Fine}
use Rattle.mmt_build.specs.Build.{built_nodes}
use Rattle.mmt_layout.proofs.Powers.{inner_small}
use Rattle.mmt_layout.proofs.Gates.{fine_gate}
use Rattle.demands.proofs.Second.{second}
use Rattle.demands.proofs.Third.{third}
use Rattle.app_line.specs.Input.{line_end, line, input_answer, line_words}
use Rattle.app_line.proofs.Line.{words_read}
use Rattle.app_line.proofs.Front.{input_front, words_front}
use Rattle.app_levels.specs.Shown.{refused_text, refusal_line}
use Rattle.app_levels.specs.Levels.{lines_for, tree_lines}
use Rattle.app_levels.specs.Outline.{defined_lines}
use Rattle.app_page.specs.Page.{page_bytes}
use Rattle.app_levels.specs.Printed.{blank_words, printed, ShortTree}
use Rattle.app_levels.proofs.Outline.{tree_is}
use Rattle.app_levels.proofs.Room.{refusal_fits, page_fits}

-- An input is accepted, or refused by a number of one digit.
abbrev Outcome : List ℕ → List ℕ → Answer → Type 0
Outcome s ws (at n) = ShortTree (line_words s ws) n
Outcome s ws nothing = Unit
Outcome s ws (refused k) = k < 10

outcome : (s ws : List ℕ) → Outcome s ws (input_answer s ws)
unfolding input_answer
outcome s ws = by (leb (line_end s) max_short_bits) refl (all_parentheses (line s)) refl (one_tree (text_words (line s) ws) (line_end s)) refl
  where
    by : (a : Bool) → leb (line_end s) max_short_bits ≡ a → (b : Bool) → all_parentheses (line s) ≡ b
        → (c : Bool) → one_tree (text_words (line s) ws) (line_end s) ≡ c → Outcome s ws (input_answer s ws)
    by true p true q true o =
        let l = leb-true (line_end s) max_short_bits p in
        let t = one_tree_true (line_words s ws) (line_end s) (rw (← words_read s ws l) o) in
        rw (p, q, o) (record { short = l; tree = t })
    by true p true q false o = rw (p, q, o) (omega arith)
    by true p false q c o = rw (p, q) (omega arith)
    by false p b q c o = rw p (omega arith)

pub input_taken : (s ws : List ℕ) (n : ℕ) → at n ≡ input_answer s ws → ShortTree (line_words s ws) n
input_taken s ws n h = rw (← h) at (outcome s ws)

-- At most 64 block leaves and 63 inner nodes, with three entries each.
few_nodes : (n : ℕ) → n ≤ max_short_bits → width * count n 64 ≤ 381
unfolding layout_of leaves
few_nodes n h = by (eqb n 0) refl
  where
    by : (t : Bool) → eqb n 0 ≡ t → width * count n 64 ≤ 381
    by true e = rw e (omega arith)
    by false e = let l : leaves n 64 ≤ 64 = omega (arith, h) in rw e (omega (arith, l, inner_small (leaves n 64) 6 (omega arith) l))

room_for : (ws : List ℕ) (n : ℕ) → length ws ≡ 64 → n ≤ max_short_bits → Fine (length ws) n 381 64
room_for ws n w h = record {
  eight = omega arith;
  eights = refl;
  small = omega arith;
  short = omega arith;
  words = omega (arith, w, h);
  nodes = few_nodes n h;
}

pub not_refused : (ws : List ℕ) (n k : ℕ) → length ws ≡ 64 → n ≤ max_short_bits → refused k ≡ through (nodes_gate (length ws) n 381 64) (at 0) → ⊥
not_refused ws n k w h q = let e : ◌≡◌ {A = ℕ} 0 1 = cc (fine_gate (length ws) n 381 64 (room_for ws n w h), q) in omega (arith, e)

-- Over the nodes that the program builds, the lines are those of the page by definition.
pub built_lines : (ws : List ℕ) (n : ℕ) → length ws ≡ 64 → n ≤ max_short_bits → OneTree ws n
    → tree_lines ws n (built_nodes ws n (replicate 381 (pos 0)) 64) ≡ defined_lines ws n
built_lines ws n w h t =
    let s = replicate 381 (pos 0) in
    let f = room_for ws n w h in
    tree_is ws n (built_nodes ws n s 64) t (third.over_built ws n s 64 f t) (second.over_built ws n s 64 f).equal

module _ (s : List ℕ) where
  pub printed_tree : (n : ℕ) → at n ≡ input_answer s blank_words → defined_lines (line_words s blank_words) n ≡ printed s
  unfolding printed
  printed_tree n h = ap (λ a. lines_for a (defined_lines (line_words s blank_words))) h

  pub printed_refused : (k : ℕ) → refused k ≡ input_answer s blank_words → refusal_line k ≡ printed s
  unfolding printed
  printed_refused k h = ap (λ a. lines_for a (defined_lines (line_words s blank_words))) h

  -- All output fits on a page of 65,536 bytes.
  pub printed_fits : length (printed s) ≤ page_bytes
  unfolding printed
  printed_fits = by (input_answer s blank_words) (outcome s blank_words)
    where
      by : (a : Answer) → Outcome s blank_words a → length (lines_for a (defined_lines (line_words s blank_words))) ≤ page_bytes
      by (at n) i = page_fits (line_words s blank_words) n i.short i.tree
      by nothing i = omega arith
      by (refused k) i = omega (arith, refusal_fits k i, length-append (refused_text k) (10 ∷ []))

  -- The bytes after the first 4,097 are not needed: a line of more than 4,096 bytes is refused, whatever they are.
  pub printed_front : printed (take 4097 s) ≡ printed s
  unfolding printed
  printed_front =
      ap (λ a. lines_for a (defined_lines (line_words (take 4097 s) blank_words))) (input_front s blank_words)
      ∙ ap (λ ws. lines_for (input_answer s blank_words) (defined_lines ws)) (words_front s blank_words)
