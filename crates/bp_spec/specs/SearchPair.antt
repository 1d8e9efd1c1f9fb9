-- SCOPE, The calls: the two searches that calls are made of, by the walk and by definition, and the steps that all calls share.
-- Assumes nothing.
use Rattle.std.specs.Prelude.{List, ℕ, ℤ, negsuc}
use Rattle.row.specs.Answer.{Answer, at, nothing, refused}
use Rattle.row.specs.Search as search
use Rattle.row.specs.Way.{Way, forward, backward}
use Rattle.mmt_layout.specs.declared.admitted.Admitted.{Admitted}
use Rattle.walk_spec.specs.Walk.{walk}

-- A forward search and a backward search.
pub record Searches : Type 0 where
  pub fwd : ℕ → ℤ → Answer
  pub bwd : ℕ → ℤ → Answer

-- The searches by the walk, over any nodes.
abbrev pub walked : List ℕ → ℕ → List ℤ → ℕ → Searches
walked ws n s B = record { fwd = λ i r. (walk forward ws n s B i r).answer; bwd = λ i r. (walk backward ws n s B i r).answer }

-- The searches by the walk over an admitted row.
abbrev pub walked_on : Admitted → Searches
walked_on t = walked t.words.now t.n t.nodes.now t.block

-- One of these searches, in the direction w.
abbrev pub walked_to : Way → Admitted → ℕ → ℤ → Answer
walked_to w t i r = (walk w t.words.now t.n t.nodes.now t.block i r).answer

-- A call over an admitted row, by the walk.
abbrev pub on_row : {A : Type 0} → (List ℕ → ℕ → Searches → A) → Admitted → A
on_row call t = call t.words.now t.n (walked_on t)

-- The searches by definition (SCOPE, The two searches).
abbrev pub defined : List ℕ → ℕ → Searches
defined ws n = record { fwd = search.fwd ws n; bwd = search.bwd ws n }

-- A call of two steps propagates the answer of its first step if that is nothing or a refusal.
abbrev pub onward : Answer → (ℕ → Answer) → Answer
onward (at j) next = next j
onward nothing next = nothing
onward (refused k) next = refused k

-- `close(i)` is fwd(i, -1).
abbrev pub close_of : Searches → ℕ → Answer
close_of s i = s.fwd i (negsuc 0)

-- `open(i)` is bwd(i, -1).
abbrev pub open_of : Searches → ℕ → Answer
open_of s i = s.bwd i (negsuc 0)
