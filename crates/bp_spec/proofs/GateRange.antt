-- The refusal numbers that each gate can give.
--   RefusedBy: the gate passes, or refuses by one of the listed numbers
--   refused_then: two gates in a row give the numbers of both
--   refused_row, refused_nodes, refused_handle: refusals 2 and 3; refusals 1 to 4; refusal 5
--   may_through: an answer behind a gate gives the gate's numbers and its own
--   handle_of: if the test of a handle passes, the position is a handle
-- Assumes nothing.
use mathlib.Core.Path.{◌≡◌, refl}
use mathlib.Core.Bool.{Bool, true, false, cond, ◌&&◌}
use mathlib.Core.List.{List}
use Prim.Native.Nat.{ℕ, ◌*◌, ◌%◌}
use lib.Dec.{ltb, leb, eqb}
use Rattle.row.specs.Limits.{max_bits}
use Rattle.row.specs.declared.refusal.Refusal.TheVariants.{NotAHandle}
use Rattle.row.specs.Gates.{Gate}
use Rattle.std.specs.Prelude.{Ok, Err}
use Rattle.row.specs.Answer.{Answer, number_of}
use Rattle.row.specs.Gates.{words_for, row_gate, handle_gate, through, and_then}
use Rattle.row.specs.Tree.{opens, Handle}
use Rattle.mmt_layout.specs.Layout.{width, count, block_gate, room_gate, nodes_gate, max_block}
use Rattle.bp_spec.specs.Ranges.{May, Among}
use Rattle.bp_spec.proofs.Gates.{then_passed, handle_opens}

-- ---- the numbers of each gate
-- The gate passes, or refuses by one of the listed numbers.
abbrev pub RefusedBy : List ℕ → Gate → Type 0
RefusedBy l (Ok tt) = Unit
RefusedBy l (Err k) = Among (number_of k) l

module _ (l : List ℕ) where
  refused_cond : (t : Bool) (g h : Gate) → RefusedBy l g → RefusedBy l h → RefusedBy l (cond t g h)
  refused_cond true g h p q = p
  refused_cond false g h p q = q

  pub refused_then : (g h : Gate) → RefusedBy l g → RefusedBy l h → RefusedBy l (and_then g h)
  refused_then (Ok tt) h p q = q
  refused_then (Err k) h p q = p

  pub refused_row : (w n : ℕ) → Among 2 l → Among 3 l → RefusedBy l (row_gate w n)
  unfolding row_gate
  refused_row w n p q = refused_cond (leb n max_bits) _ _ (refused_cond (leb (words_for n) w) (Ok tt) _ tt q) p

  pub refused_nodes : (w n t B : ℕ) → Among 1 l → Among 2 l → Among 3 l → Among 4 l → RefusedBy l (nodes_gate w n t B)
  unfolding nodes_gate block_gate room_gate
  refused_nodes w n t B p q r u =
      refused_then (block_gate B) _ (refused_cond (ltb 0 B && leb B max_block && eqb (B % 8) 0) (Ok tt) _ tt p)
      (refused_then (row_gate w n) _ (refused_row w n q r) (refused_cond (leb (width * count n B) t) (Ok tt) _ tt u))

  pub refused_handle : (ws : List ℕ) (n v : ℕ) → Among 5 l → RefusedBy l (handle_gate ws n v)
  unfolding handle_gate
  refused_handle ws n v p = refused_cond (opens ws n v) (Ok tt) (Err NotAHandle) tt p

  pub may_through : (b : ℕ) (g : Gate) (a : Answer) → RefusedBy l g → (g ≡ (Ok tt) → May b l a) → May b l (through g a)
  may_through b (Ok tt) a p h = h refl
  may_through b (Err k) a p h = p

-- A position whose test passes is a handle.
pub handle_of : (ws : List ℕ) (n v : ℕ) (g : Gate) → and_then g (handle_gate ws n v) ≡ (Ok tt) → Handle ws n v
handle_of ws n v g e = handle_opens ws n v (then_passed g (handle_gate ws n v) e).1
