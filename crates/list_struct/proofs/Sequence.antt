-- The whole sequence of the steps of a listing.
--   answer_next: the answer of a step, from the answer of the step before
--   ended, refused_ends: after `nothing`, and after a refusal, all steps answer nothing
--   made_ends: over any nodes, step n and all later steps answer nothing
--   made_built, answers_built: over nodes as built, on a handle, the constructor succeeds and step k answers child k by definition
--   StepsName: calls name a list of positions one by one and then answer nothing
--   child_named: such a list has exactly the children, in their order
--   stepping_answers: the steps of the code answer this sequence
--   listing_built, listing_ends: answers_built and made_ends, for the answers of the code
-- Assumes nothing.
use mathlib.Core.Path.{◌≡◌, refl, ap, ◌∙◌}
use mathlib.Core.Bool.{Bool, true, false}
use mathlib.Core.List.{List, [], ◌∷◌}
use Prim.Native.Nat.{ℕ, zero, suc, ◌-◌, ◌≤◌, ◌<◌}
use native.Mathlib.Omega.{arith}
use native.Mathlib.Decide.{dec_lt}
use lib.IntN.{ℤ}
use lib.ListN.{length}
use denote.Ref.{Bor}
use Rattle.row.specs.Gates.{Gate}
use Rattle.std.specs.Prelude.{Ok, Err}
use Rattle.row.specs.Answer.{Answer, at, nothing, refused, paper_found}
use Rattle.row.specs.Gates.{handle_gate, through}
use Rattle.row.specs.Tree.{opens}
use Rattle.mmt_layout.specs.Layout.{nodes_gate}
use Rattle.mmt_node.specs.Nodes.{AsBuilt}
use Rattle.bp_spec.specs.SearchPair.{Searches, defined, onward}
use Rattle.bp_spec.specs.HandleCalls.{node_answer}
use Rattle.bp_spec.proofs.SearchesAgree.{call_defined}
use Rattle.list_slice.specs.Seek.{start_call, next_call, sought, making, begun, held_after}
use Rattle.list_slice.proofs.HeldRange.{Only, only_more, left, HandlesLeft, sought_within, after_within}
use Rattle.list_slice.proofs.HeldHandles.{HandleOrNothing, start_handle, next_handle}
use Rattle.list_struct.specs.declared.view.Children.{Children}
use Rattle.list_struct.specs.declared.view.Made.{Made}
use Rattle.list_struct.specs.declared.view.Step.{Step}
use Rattle.list_struct.specs.Listing.{Listing, Outcome, created, stepped}
use Rattle.list_struct.specs.Paper.{paper_listing, paper_made}
use Rattle.list_struct.specs.Steps.{nth, answer_at, child_at, Stepping}

-- ---- any listing
-- What the listing holds after an answer.
abbrev pub next : Listing → Answer → Answer
next l = held_after l.rising l.words.now l.n l.nodes.now l.block

answer_first : (l : Listing) → answer_at 0 l ≡ l.held
unfolding answer_at
answer_first l = refl

pub answer_next : (k : ℕ) (l : Listing) → answer_at (suc k) l ≡ next l (answer_at k l)
unfolding answer_at
answer_next zero l = refl
answer_next (suc k) l = answer_next k (stepped l).listing

module _ (l : Listing) where
  pub ended : (j k : ℕ) → k ≤ j → answer_at k l ≡ nothing → answer_at j l ≡ nothing
  ended zero k h e = let q : k ≡ 0 = omega arith in rw q at e
  ended (suc j) k h e = elim (dec_lt k (suc j)) [
    | yes m ↦ answer_next j l ∙ ap (next l) (ended j k (omega arith) e)
    | no m ↦ (let q : k ≡ suc j = omega arith in rw q at e)
  ]

  pub refused_ends : (j k m : ℕ) → k < j → answer_at k l ≡ refused m → answer_at j l ≡ nothing
  refused_ends j k m h e = ended j (suc k) (omega arith) (answer_next k l ∙ ap (next l) e)

-- ---- a listing from its constructor, over any nodes
module _ (rising : Bool) (ws : Bor (List ℕ)) (n : ℕ) (s : Bor (List ℤ)) (B v : ℕ) where
  abbrev pub fresh : Listing
  fresh = (created rising ws n s B v).listing

  -- After k steps fewer than n - k positions are left.
  fewer : (k : ℕ) → Only (HandlesLeft rising n (n - k)) (answer_at k fresh)
  fewer zero = rw (answer_first fresh) (go (sought rising ws.now n s.now B v) (sought_within rising ws.now n s.now B v))
    where
      go : (a : Answer) → Only (HandlesLeft rising n n) a → Only (HandlesLeft rising n (n - 0)) (begun a)
      go (at u) w = (w.0, omega (arith, w.1))
      go nothing w = tt
      go (refused m) w = tt
  fewer (suc k) = rw (answer_next k fresh) (go (answer_at k fresh) (fewer k))
    where
      go : (a : Answer) → Only (HandlesLeft rising n (n - k)) a → Only (HandlesLeft rising n (n - suc k)) (next fresh a)
      go (at u) w =
          only_more (HandlesLeft rising n (left rising n u)) (HandlesLeft rising n (n - suc k)) (λ j p. (p.0, omega (arith, p.1, w.1)))
          (next fresh (at u)) (after_within rising ws.now n s.now B u)
      go nothing w = tt
      go (refused m) w = tt

  -- From every position below n at least one position is left: itself.
  some_left : (t : Bool) (u : ℕ) → u < n → 0 < left t n u
  some_left true u l = omega arith
  some_left false u l = omega arith

  pub made_ends : (k : ℕ) → n ≤ k → answer_at k fresh ≡ nothing
  made_ends zero h = answer_first fresh ∙ go (sought rising ws.now n s.now B v) (sought_within rising ws.now n s.now B v)
    where
      go : (a : Answer) → Only (HandlesLeft rising n n) a → begun a ≡ nothing
      go (at u) w = let l = w.0 in absurd (omega arith)
      go nothing w = refl
      go (refused m) w = refl
  made_ends (suc k) h = answer_next k fresh ∙ go (answer_at k fresh) (fewer k)
    where
      go : (a : Answer) → Only (HandlesLeft rising n (n - k)) a → next fresh a ≡ nothing
      go (at u) w = absurd (omega (arith, w.1, some_left rising u w.0))
      go nothing w = refl
      go (refused m) w = refl

  -- ---- over nodes as built, on a handle
  module _ (g : nodes_gate (length ws.now) n (length s.now) B ≡ (Ok tt)) (b : AsBuilt ws.now n s.now B) (o : opens ws.now n v ≡ true) where
    -- A public call on a handle equals the call by definition.
    node_built : (call : List ℕ → ℕ → Searches → ℕ → Answer) (u : ℕ) → opens ws.now n u ≡ true
        → node_answer call ws.now n s.now B u ≡ call ws.now n (defined ws.now n) u
    unfolding node_answer handle_gate
    node_built call u p = rw (g, p) (call_defined ws.now n s.now B g b (λ f. call ws.now n f u))

    next_built : (a : Answer) → HandleOrNothing ws.now n a → next fresh a ≡ onward a (next_call rising ws.now n (defined ws.now n))
    next_built (at u) p = node_built (next_call rising) u p
    next_built nothing p = refl
    next_built (refused m) p = absurd p

    sought_built : sought rising ws.now n s.now B v ≡ start_call rising ws.now n (defined ws.now n) v
    unfolding sought
    sought_built = node_built (start_call rising) v o

    -- The children by definition.
    abbrev child : ℕ → Answer
    child = child_at rising ws.now n v

    child_handle : (k : ℕ) → HandleOrNothing ws.now n (child k)
    unfolding child_at
    child_handle zero = start_handle ws.now n v rising
    child_handle (suc k) = go (child k) (child_handle k)
      where
        go : (a : Answer) → HandleOrNothing ws.now n a → HandleOrNothing ws.now n (onward a (next_call rising ws.now n (defined ws.now n)))
        go (at u) p = next_handle ws.now n u rising
        go nothing p = tt
        go (refused m) p = absurd p

    -- The answer that the constructor finds is no refusal.
    started : (a : Answer) → HandleOrNothing ws.now n a → (making a ≡ at 0) × (begun a ≡ a)
    started (at u) p = (refl, refl)
    started nothing p = (refl, refl)
    started (refused m) p = absurd p

    pub made_built : (created rising ws n s B v).answer ≡ at 0
    made_built = ap making sought_built ∙ (started (start_call rising ws.now n (defined ws.now n) v) (start_handle ws.now n v rising)).0

    pub answers_built : (k : ℕ) → answer_at k fresh ≡ child k
    unfolding child_at
    answers_built zero = answer_first fresh ∙ ap begun sought_built ∙ (started (child 0) (start_handle ws.now n v rising)).1
    answers_built (suc k) = answer_next k fresh ∙ ap (next fresh) (answers_built k) ∙ next_built (child k) (child_handle k)

-- ---- the children as a list
-- Starting with the answer a, the call `step` names exactly the positions of the list, one after another, and then answers nothing.
abbrev pub StepsName : (ℕ → Answer) → Answer → List ℕ → Type 0
StepsName step a [] = a ≡ nothing
StepsName step a (v ∷ l) = (a ≡ at v) × StepsName step (step v) l

module _ (step : ℕ → Answer) where
  -- The answer after k steps from the answer a.
  chain : Answer → ℕ → Answer
  chain a zero = a
  chain a (suc k) = onward (chain a k) step

  chain_shift : (a : Answer) (k : ℕ) → chain a (suc k) ≡ chain (onward a step) k
  unfolding chain
  chain_shift a zero = refl
  chain_shift a (suc k) = ap (λ (x : Answer). onward x step) (chain_shift a k)

  chain_nth : (l : List ℕ) (k : ℕ) (a : Answer) → StepsName step a l → chain a k ≡ nth l k
  unfolding chain
  chain_nth [] zero a h = h
  chain_nth [] (suc k) a h = chain_shift a k ∙ chain_nth [] k (onward a step) (ap (λ (x : Answer). onward x step) h)
  chain_nth (v ∷ l) zero a h = h.0
  chain_nth (v ∷ l) (suc k) a h = chain_shift a k ∙ ap (λ (x : Answer). chain (onward x step) k) h.0 ∙ chain_nth l k (step v) h.1

module _ (rising : Bool) (ws : List ℕ) (n v : ℕ) where
  child_chain : (k : ℕ) → child_at rising ws n v k ≡ chain (next_call rising ws n (defined ws n)) (start_call rising ws n (defined ws n) v) k
  unfolding chain child_at
  child_chain zero = refl
  child_chain (suc k) = ap (λ (x : Answer). onward x (next_call rising ws n (defined ws n))) (child_chain k)

  pub child_named : (l : List ℕ) → StepsName (next_call rising ws n (defined ws n)) (start_call rising ws n (defined ws n) v) l
      → (k : ℕ) → child_at rising ws n v k ≡ nth l k
  child_named l h k = child_chain k ∙ chain_nth (next_call rising ws n (defined ws n)) l k (start_call rising ws n (defined ws n) v) h

-- ---- the steps of the code
pub stepping_answers : (k : ℕ) (c : Children) (q : ℕ → Step) → Stepping c q → paper_found (q k).found ≡ answer_at k (paper_listing c)
unfolding answer_at
stepping_answers zero c q p = ap (λ (x : Outcome). x.answer) p.first
stepping_answers (suc k) c q p =
    stepping_answers k (q 0).rest (λ j. q (suc j)) (record { first = p.next 0; next = λ j. p.next (suc j) })
    ∙ ap (λ (x : Outcome). answer_at k x.listing) p.first

-- A listing that the code constructed, and its steps.
module _ (rising : Bool) (ws : Bor (List ℕ)) (n : ℕ) (s : Bor (List ℤ)) (B v : ℕ)
    (m : Made) (q : ℕ → Step) (e : paper_made m ≡ created rising ws n s B v) (p : Stepping m.listing q) where
  -- Its steps answer what the steps of the specified listing answer.
  its_answers : (k : ℕ) → paper_found (q k).found ≡ answer_at k (fresh rising ws n s B v)
  its_answers k = stepping_answers k m.listing q p ∙ ap (λ (x : Outcome). answer_at k x.listing) e

  pub listing_ends : (k : ℕ) → n ≤ k → paper_found (q k).found ≡ nothing
  listing_ends k h = its_answers k ∙ made_ends rising ws n s B v k h

  pub listing_built : nodes_gate (length ws.now) n (length s.now) B ≡ (Ok tt) → AsBuilt ws.now n s.now B → opens ws.now n v ≡ true
      → (m.gate ≡ (Ok tt)) × ((k : ℕ) → paper_found (q k).found ≡ child_at rising ws.now n v k)
  listing_built g b o = (
    go m.gate (ap (λ (x : Outcome). x.answer) e ∙ made_built rising ws n s B v g b o),
    λ k. its_answers k ∙ answers_built rising ws n s B v g b o k,
  )
    where
      go : (t : Gate) → through t (at 0) ≡ at 0 → t ≡ (Ok tt)
      go (Ok tt) f = refl
      go (Err k) f = let z : ◌≡◌ {A = ℕ} 0 1 = cc in absurd (omega arith)
