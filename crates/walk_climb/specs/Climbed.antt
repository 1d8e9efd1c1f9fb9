-- The results of the climb in code: those of the definition in walk_spec, without the count of examined nodes
-- (SCOPE, How a search walks: Recursion).
-- Assumes nothing.
use Rattle.std.specs.Prelude.{◌≡◌, List, ℕ, ◌+◌, ◌*◌, ◌≤◌, ◌<◌, ℤ, Option, Some, None, Result, Ok, Err}
use Rattle.std.specs.declared.ops.ControlFlow.{ControlFlow}
use Rattle.std.specs.declared.ops.ControlFlow.TheVariants.{Break, Continue}
use Rattle.row.specs.Way.{Way}
use Rattle.walk_spec.specs.Walk.{Climb, turn, out, misfit, climb}
use Rattle.walk_examine.specs.Asked.{asked_of, Room}
use Rattle.walk_examine.specs.declared.node.Asked.{Asked}
use Rattle.walk_examine.specs.declared.node.Asked.TheVariants.{Here, Past, Absent}
use Rattle.row.specs.declared.refusal.Refusal.{Refusal}
use Rattle.row.specs.declared.refusal.Refusal.TheVariants.{NodesMisfit}
use Rattle.walk_examine.specs.declared.place.Place.{Place}
use Rattle.walk_climb.specs.declared.Sibling.{Sibling}

-- A climb can begin at node k of m nodes at height h: node k exists, and r has room for the whole climb.
pub record Climbs (m k h : ℕ) (r : ℤ) : Type 0 where
  pub inside : k < m
  pub room : Room (h + 2 * k) r

-- The result of a climb, without the count of examined nodes.
abbrev pub climbed_of : Climb → Result (Option Place) Refusal
climbed_of (turn k h r c) = Ok (Some (record { node = k; height = h; remainder = r }))
climbed_of (out c) = Ok None
climbed_of misfit = Err NodesMisfit

-- A part of a climb breaks off with the result of the whole climb, or the climb goes on from a place.
abbrev pub Step : Type 0
Step = ControlFlow (Option Place) Place

-- The part of a climb that ends with the answer of the sibling b, which is asked for r. After a passed sibling the climb goes on at the parent.
abbrev pub step_of : Sibling → ℤ → Result Asked Refusal → Result Step Refusal
step_of b r (Ok Here) = Ok (Break (Some (record { node = b.node; height = b.height; remainder = r })))
step_of b r (Ok (Past q)) = Ok (Continue (record { node = b.parent; height = b.height + 1; remainder = q }))
step_of b r (Ok Absent) = Ok (Break None)
step_of b r (Err e) = Err e

-- The result of the whole climb after a part of it.
abbrev pub climbed_on : Way → ℕ → List ℤ → Result Step Refusal → Result (Option Place) Refusal
climbed_on w m s (Ok (Continue p)) = climbed_of (climb w m s p.node p.height p.node p.remainder 0)
climbed_on w m s (Ok (Break a)) = Ok a
climbed_on w m s (Err e) = Err e

-- A climb past nodes without a sibling beyond them goes on from node j at height g instead of node k at height h:
-- the index is not greater, the climb needs no more room there, and the result is the same.
pub record Rises (w : Way) (k h j g : ℕ) : Type 0 where
  pub under : j ≤ k
  pub room : g + 2 * j ≤ h + 2 * k
  pub same : (m : ℕ) (s : List ℤ) (r : ℤ) → climbed_of (climb w m s j g j r 0) ≡ climbed_of (climb w m s k h k r 0)

-- The climb from node k at height h comes to the sibling b: its parent has a smaller index, and the climb on from there needs less room.
-- The answer of b decides the result.
pub record Beside (w : Way) (k h : ℕ) (b : Sibling) : Type 0 where
  pub under : b.parent < k
  pub room : b.height + 2 * b.parent + 2 ≤ h + 2 * k
  pub same : (m : ℕ) (s : List ℤ) (r : ℤ) → climbed_on w m s (step_of b r (asked_of w m s b.node r)) ≡ climbed_of (climb w m s k h k r 0)

-- The climb from node k at height h comes to a sibling, or leaves the tree.
abbrev pub Above : Way → ℕ → ℕ → Option Sibling → Type 0
Above w k h (Some b) = Beside w k h b
Above w k h None = (m : ℕ) (s : List ℤ) (r : ℤ) → Ok None ≡ climbed_of (climb w m s k h k r 0)

-- A climb past an examined sibling goes on from a node with a smaller index than k, and has room there.
abbrev pub Higher : ℕ → Result Step Refusal → Type 0
Higher k (Ok (Continue p)) = (p.node < k) × Room (p.height + 2 * p.node) p.remainder
Higher k (Ok (Break a)) = Unit {0}
Higher k (Err e) = Unit {0}

-- A part a of the climb from node k at height h: it goes on to the result of the whole climb, from a node with a smaller index.
pub record Part (w : Way) (m : ℕ) (s : List ℤ) (k h : ℕ) (r : ℤ) (a : Result Step Refusal) : Type 0 where
  pub result : climbed_on w m s a ≡ climbed_of (climb w m s k h k r 0)
  pub higher : Higher k a
