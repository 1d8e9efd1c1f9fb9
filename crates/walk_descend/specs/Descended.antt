-- The result of the descent in code: that of the definition in walk_spec, without the count of examined nodes
-- (SCOPE, How a search walks: Recursion).
-- Assumes nothing.
use Rattle.std.specs.Prelude.{ℕ, ◌≤◌, ◌<◌, ℤ, Result, Ok, Err}
use Rattle.mmt_layout.specs.Layout.{max_nodes}
use Rattle.walk_spec.specs.Walk.{Descent, leaf, lost}
use Rattle.walk_examine.specs.Asked.{Room}
use Rattle.row.specs.declared.refusal.Refusal.{Refusal}
use Rattle.row.specs.declared.refusal.Refusal.TheVariants.{NodesMisfit}
use Rattle.walk_descend.specs.declared.Leaf.{Leaf}

-- The result of a descent, without the count of examined nodes.
abbrev pub descended_of : Descent → Result Leaf Refusal
descended_of (leaf k r c) = Ok (record { node = k; remainder = r })
descended_of lost = Err NodesMisfit

-- A descent by h levels can begin at node k of m nodes: node k exists, and r has room for h totals.
pub record Descends (m k h : ℕ) (r : ℤ) : Type 0 where
  pub inside : k < m
  pub few : m ≤ max_nodes
  pub room : Room h r
