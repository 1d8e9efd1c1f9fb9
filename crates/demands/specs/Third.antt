-- SCOPE, The demands, demand 3: every outline node is found once.
--   lists: the lists `level` and `children` have exactly the handles that they should
--   over_built, over_alike: over the nodes of a build, and over any other buffer as built, the calls name exactly these lists
--   listings: a child listing is constructed, and its steps answer the children
--
-- The demand covers a row that is one tree, with nodes as built for the block size of the call.
-- Assumes nothing.
use Rattle.std.specs.Prelude.{◌≡◌, true, false, List, [], reverse, ℕ, ◌<◌, ℤ, pos, length, ◌<ℤ◌}
use Rattle.std.specs.Borrow.{Bor}
use Rattle.row.specs.Answer.{Answer, at, nothing}
use Rattle.row.specs.Excess.{E}
use Rattle.row.specs.Tree.{OneTree, Handle}
use Rattle.mmt_layout.specs.Layout.{Fine}
use Rattle.mmt_node.specs.Nodes.{AsBuilt}
use Rattle.mmt_build.specs.Build.{built_nodes}
use Rattle.list_struct.specs.Listing.{created}
use Rattle.list_struct.specs.Steps.{answer_at, nth}
use Rattle.bp_spec.specs.declared.question.Question.{Question}
use Rattle.bp_spec.specs.declared.question.Question.TheVariants.{Parent, FirstChild, LastChild, NextSibling, PreviousSibling, LevelNext, LevelPrev, LevelLeftmost, LevelRightmost}
use Rattle.bp_spec.specs.Questions.{promised}
use Rattle.demands.specs.Lists.{Names, Exactly}
use Rattle.bp_spec.specs.Ranges.{Among}
use Rattle.demands.specs.Handles.{at_depth, child_of, level, children}

-- The list of a level has exactly the handles of that depth, and the list of children exactly the children, each once, in rising order.
pub record Lists (ws : List ℕ) (n : ℕ) : Type 0 where
  pub of_level : (k : ℕ) → Exactly (at_depth ws n (pos k)) n (level ws n k)
  pub of_children : (v : ℕ) → Exactly (child_of ws n v) n (children ws n v)

-- u is the only handle that has w among its children, and `parent` names u.
pub record ParentOf (ws : List ℕ) (n : ℕ) (ask : Question → Answer) (w u : ℕ) : Type 0 where
  pub handle : Handle ws n u
  pub child : Among w (children ws n u)
  pub only : (v : ℕ) → Handle ws n v → Among w (children ws n v) → v ≡ u
  pub named : ask (Parent w) ≡ at u

-- What the calls answer on a row that is one tree.
pub record Tours (ws : List ℕ) (n : ℕ) (ask : Question → Answer) : Type 0 where
  -- A level from the left; a level from the right, if the tree has at least two outline nodes (n > 2).
  pub level_rises : (k : ℕ) → Names ask LevelNext (LevelLeftmost k) (level ws n k)
  pub level_falls : 2 < n → (k : ℕ) → Names ask LevelPrev (LevelRightmost k) (reverse (level ws n k))
  -- A level deeper than every outline node is empty.
  pub too_deep : (k : ℕ) → ((v : ℕ) → Handle ws n v → E ws v <ℤ pos k) → (level ws n k ≡ []) × (ask (LevelLeftmost k) ≡ nothing)
  -- The children of a handle, from the left and from the right.
  pub children_rise : (v : ℕ) → Handle ws n v → Names ask NextSibling (FirstChild v) (children ws n v)
  pub children_fall : (v : ℕ) → Handle ws n v → Names ask PreviousSibling (LastChild v) (reverse (children ws n v))
  -- Every handle but the root is among the children of exactly one handle, its parent. The root is among the children of none.
  pub one_parent : (w : ℕ) → Handle ws n w → 0 < w → (u : ℕ) × ParentOf ws n ask w u
  pub root_none : (v : ℕ) → Among 0 (children ws n v) → ⊥

-- A child listing, in either direction, over a borrowed row and node buffer. It is constructed, and its step k (from 0) answers child k.
-- Steps after the last child answer nothing.
pub record Listings (ws : Bor (List ℕ)) (n : ℕ) (s : Bor (List ℤ)) (B : ℕ) : Type 0 where
  pub made_rising : (v : ℕ) → Handle ws.now n v → (created true ws n s B v).answer ≡ at 0
  pub rising : (v : ℕ) → Handle ws.now n v → (k : ℕ) → answer_at k (created true ws n s B v).listing ≡ nth (children ws.now n v) k
  pub made_falling : (v : ℕ) → Handle ws.now n v → (created false ws n s B v).answer ≡ at 0
  pub falling : (v : ℕ) → Handle ws.now n v → (k : ℕ) → answer_at k (created false ws n s B v).listing ≡ nth (reverse (children ws.now n v)) k

-- Demand 3, over the nodes of a build and over any other buffer as built.
pub record Third : Type 0 where
  pub lists : (ws : List ℕ) (n : ℕ) → Lists ws n
  pub over_built : (ws : List ℕ) (n : ℕ) (s : List ℤ) (B : ℕ) → Fine (length ws) n (length s) B → OneTree ws n
      → Tours ws n (promised ws n (built_nodes ws n s B) B)
  pub over_alike : (ws : List ℕ) (n : ℕ) (s : List ℤ) (B : ℕ) → Fine (length ws) n (length s) B → OneTree ws n → AsBuilt ws n s B
      → Tours ws n (promised ws n s B)
  pub listings : (ws : Bor (List ℕ)) (n : ℕ) (s : Bor (List ℤ)) (B : ℕ) → Fine (length ws.now) n (length s.now) B → OneTree ws.now n
      → AsBuilt ws.now n s.now B → Listings ws n s B
