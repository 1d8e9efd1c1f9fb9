-- SCOPE, Small rows: cases a to l as one table with one claim.
-- Assumes nothing.
use Rattle.std.specs.Prelude.{◌≡◌, List, [], ◌∷◌, map, ℕ, pos, negsuc}
use Rattle.row.specs.Answer.{Answer, at, nothing}
use Rattle.mmt_node.specs.Nodes.{written}
use Rattle.bp_spec.specs.declared.question.Question.{Question}
use Rattle.bp_spec.specs.declared.question.Question.TheVariants.{FwdSearch, BwdSearch, Enclose, LevelAncestor, LevelNext, LevelPrev, LevelRightmost}
use Rattle.bp_spec.specs.Questions.{promised, definition}

-- A case: the words and the bit count of a row, a question, and the answer that SCOPE gives.
pub record Case : Type 0 where
  pub words : List ℕ
  pub bits : ℕ
  pub question : Question
  pub answer : Answer

-- A case on row T, `(()(()))`: one word with the bits 1, 1, 0, 1, 1, 0, 0, 0, the least significant one first.
abbrev pub on_t : Question → Answer → Case
on_t q a = record { words = 27 ∷ []; bits = 8; question = q; answer = a }

-- A case on the row `()`: one word with the bits 1, 0, the least significant one first.
abbrev pub on_pair : Question → Answer → Case
on_pair q a = record { words = 1 ∷ []; bits = 2; question = q; answer = a }

-- The cases in their order. Cases j and l have two questions each.
unfoldable pub table : List Case
table =
    -- a, b, c, d
    on_t (FwdSearch 0 (negsuc 0)) (at 7)
    ∷ on_t (FwdSearch 0 (pos 1)) (at 1)
    ∷ on_t (FwdSearch 2 (pos 0)) (at 6)
    ∷ on_t (FwdSearch 7 (negsuc 0)) nothing
    -- e, f
    ∷ on_t (BwdSearch 7 (pos 0)) (at 3)
    ∷ on_t (BwdSearch 4 (pos 1)) nothing
    -- g, h, i
    ∷ on_t (Enclose 6) (at 0)
    ∷ on_t (LevelNext 1) (at 3)
    ∷ on_t (LevelPrev 3) (at 1)
    -- j
    ∷ on_t (LevelAncestor 4 2) (at 0)
    ∷ on_t (LevelAncestor 4 3) nothing
    -- k, l
    ∷ on_t (LevelRightmost 2) (at 4)
    ∷ on_t (LevelRightmost 0) (at 0)
    ∷ on_pair (LevelRightmost 0) nothing
    ∷ []

-- Two answers to a case: that of the definition, and that of the call over the nodes of a build with B = 8.
abbrev pub given : Case → Answer × Answer
given c = (definition c.words c.bits c.question, promised c.words c.bits (written c.words c.bits 8) 8 c.question)

-- The answer of the table, twice: what `given` has to be.
abbrev pub wanted : Case → Answer × Answer
wanted c = (c.answer, c.answer)

-- The claim: in every case both the definition and the call give the answer of the table.
abbrev pub Claim : Type 0
Claim = map given table ≡ map wanted table
