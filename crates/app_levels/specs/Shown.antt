-- SCOPE, The program `levels`: refusals, answers and outline nodes as text.
-- Assumes nothing.
use Rattle.std.specs.Prelude.{List, [], ◌∷◌, ◌++◌, ℕ, ℤ, negsuc}
use Rattle.row.specs.Answer.{Answer, at, nothing, refused}
use Rattle.bp_spec.specs.SearchCalls.{fwd_answer}
use Rattle.bp_spec.specs.HandleCalls.{node_answer}
use Rattle.bp_spec.specs.AncestorCalls.{parent}
use Rattle.app_page.specs.Page.{decimal_of}

-- A refusal as text: `refused `, then its number.
unfoldable pub refused_text : ℕ → List ℕ
refused_text k = (114 ∷ 101 ∷ 102 ∷ 117 ∷ 115 ∷ 101 ∷ 100 ∷ 32 ∷ []) ++ decimal_of k

-- The line of a refusal, for example `refused 7`.
abbrev pub refusal_line : ℕ → List ℕ
refusal_line k = refused_text k ++ (10 ∷ [])

-- An answer as text: the position, `-` for nothing, or the text of the refusal.
abbrev pub answer_text : Answer → List ℕ
answer_text (at j) = decimal_of j
answer_text nothing = 45 ∷ []
answer_text (refused k) = refused_text k

-- The line of an outline node: level, open position, close position, parent.
abbrev pub line_of : ℕ → ℕ → Answer → Answer → List ℕ
line_of k v close above =
    (decimal_of k ++ (32 ∷ [])) ++ ((decimal_of v ++ (32 ∷ [])) ++ ((answer_text close ++ (32 ∷ [])) ++ (answer_text above ++ (10 ∷ []))))

-- The line of the outline node v on level k, with the answers that `close` and `parent` promise for B = 64.
unfoldable pub node_line : List ℕ → ℕ → List ℤ → ℕ → ℕ → List ℕ
node_line ws n s k v = line_of k v (fwd_answer ws n s 64 v (negsuc 0)) (node_answer parent ws n s 64 v)
