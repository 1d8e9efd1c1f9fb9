-- SCOPE, Refusals: the values and the refusal numbers that each call may answer.
-- Assumes nothing.
use Rattle.std.specs.Prelude.{Bool, true, false, ℕ, ◌<◌}
use mathlib.Core.List.{List, [], ◌∷◌, Memᴰ}
use Rattle.bp_spec.specs.declared.question.Question.{Question}
use Rattle.bp_spec.specs.declared.question.Question.TheVariants.{FwdSearch, BwdSearch, Close, Open, Enclose, Root, Parent, FirstChild, LastChild, NextSibling, PreviousSibling, IsLeaf, IsAncestor, LevelAncestor, LevelNext, LevelPrev, LevelLeftmost, LevelRightmost}
use Rattle.row.specs.Answer.{Answer, at, nothing, refused}

-- The number is a member of the list.
abbrev pub Among : ℕ → List ℕ → Type 0
Among v l = Memᴰ v l

-- The kind of a call: whether it takes a node buffer, which handles it takes, and a bound that its values are below.
pub record Kind : Type 0 where
  pub nodes : Bool
  pub handles : List ℕ
  pub below : ℕ

-- A call that takes a node buffer.
abbrev pub over_nodes : List ℕ → ℕ → Kind
over_nodes handles below = record { nodes = true; handles = handles; below = below }

-- A call that takes no node buffer.
abbrev pub over_row : List ℕ → ℕ → Kind
over_row handles below = record { nodes = false; handles = handles; below = below }

-- The kind of each call: positions are below n; yes is 1 and no is 0, so these values are below 2.
abbrev pub kind : ℕ → Question → Kind
kind n (FwdSearch i r) = over_nodes [] n
kind n (BwdSearch i r) = over_nodes [] n
kind n (Close i) = over_nodes [] n
kind n (Open i) = over_nodes [] n
kind n (Enclose i) = over_nodes [] n
kind n Root = over_row [] n
kind n (Parent v) = over_nodes (v ∷ []) n
kind n (FirstChild v) = over_row (v ∷ []) n
kind n (LastChild v) = over_nodes (v ∷ []) n
kind n (NextSibling v) = over_nodes (v ∷ []) n
kind n (PreviousSibling v) = over_nodes (v ∷ []) n
kind n (IsLeaf v) = over_row (v ∷ []) 2
kind n (IsAncestor a d) = over_nodes (a ∷ d ∷ []) 2
kind n (LevelAncestor v k) = over_nodes (v ∷ []) n
kind n (LevelNext v) = over_nodes (v ∷ []) n
kind n (LevelPrev v) = over_nodes (v ∷ []) n
kind n (LevelLeftmost k) = over_nodes [] n
kind n (LevelRightmost k) = over_nodes [] n

-- The numbers by which a call may refuse: without nodes 1, 4 and 8 are left out, without handles 5 is.
abbrev pub refusals : Bool → List ℕ → List ℕ
refusals true [] = 1 ∷ 2 ∷ 3 ∷ 4 ∷ 8 ∷ []
refusals true (v ∷ l) = 1 ∷ 2 ∷ 3 ∷ 4 ∷ 5 ∷ 8 ∷ []
refusals false [] = 2 ∷ 3 ∷ []
refusals false (v ∷ l) = 2 ∷ 3 ∷ 5 ∷ []

-- The answer is a value below the bound, nothing, or a refusal by one of the numbers.
abbrev pub May : ℕ → List ℕ → Answer → Type 0
May below numbers (at x) = x < below
May below numbers nothing = Unit
May below numbers (refused k) = Among k numbers
