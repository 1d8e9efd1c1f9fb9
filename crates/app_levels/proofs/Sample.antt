-- The examples of SCOPE, The program `levels`, by computation.
--   prints_five_lines: what `(()(()))` prints; prints_a_refusal: an empty input prints `refused 7`
-- Assumes nothing.
use mathlib.Core.Path.{◌≡◌, refl}
use mathlib.Core.List.{[], ◌∷◌, ◌++◌}
use Rattle.ints.specs.Order.{eq_z}
use Rattle.row.specs.Excess.{sign, excess}
use Rattle.row.specs.Gates.{row_gate, handle_gate}
use Rattle.row.specs.Search.{least, greatest, fwd, bwd}
use Rattle.row.specs.Tree.{opens, all_below, one_tree}
use Rattle.text.specs.Text.{all_parentheses, packed, word_of, words_of, text_gate, text_words}
use Rattle.bp_spec.specs.HandleCalls.{node_defined}
use Rattle.bp_spec.specs.SearchCalls.{outward}
use Rattle.bp_spec.specs.AncestorCalls.{parent}
use Rattle.demands.specs.Lists.{those}
use Rattle.demands.specs.Handles.{at_depth}
use Rattle.app_page.specs.Page.{places, decimal_of}
use Rattle.app_line.specs.Input.{line_end, line_words, input_answer}
use Rattle.app_levels.specs.Shown.{refused_text}
use Rattle.app_levels.specs.Outline.{defined_line, defined_levels, defined_lines}
use Rattle.app_levels.specs.Printed.{printed}

pub prints_five_lines : printed (40 ∷ 40 ∷ 41 ∷ 40 ∷ 40 ∷ 41 ∷ 41 ∷ 41 ∷ 10 ∷ [])
    ≡ (52 ∷ 32 ∷ 56 ∷ 10 ∷ [])
    ++ (48 ∷ 32 ∷ 48 ∷ 32 ∷ 55 ∷ 32 ∷ 45 ∷ 10 ∷ [])
    ++ (49 ∷ 32 ∷ 49 ∷ 32 ∷ 50 ∷ 32 ∷ 48 ∷ 10 ∷ [])
    ++ (49 ∷ 32 ∷ 51 ∷ 32 ∷ 54 ∷ 32 ∷ 48 ∷ 10 ∷ [])
    ++ (50 ∷ 32 ∷ 52 ∷ 32 ∷ 53 ∷ 32 ∷ 51 ∷ 10 ∷ [])
unfolding printed input_answer line_words line_end defined_lines defined_levels defined_line places decimal_of those at_depth opens excess sign eq_z
    fwd bwd least greatest parent outward node_defined handle_gate
    all_parentheses text_gate row_gate text_words words_of word_of packed one_tree all_below
prints_five_lines = refl

pub prints_a_refusal : printed [] ≡ (114 ∷ 101 ∷ 102 ∷ 117 ∷ 115 ∷ 101 ∷ 100 ∷ 32 ∷ 55 ∷ 10 ∷ [])
unfolding printed input_answer line_words line_end places decimal_of refused_text excess sign eq_z
    all_parentheses text_gate row_gate text_words words_of word_of packed one_tree all_below
prints_a_refusal = refl
