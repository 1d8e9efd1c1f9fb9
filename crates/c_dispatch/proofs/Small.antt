-- Every answer of a call fits into an i64: a position is below n, and an n above 2^32 is refused.
--   may_small: a value below a bound of at most 2^32 + 1
--   refusal_small: a refusal
--   answer_small: the answer of every call
--   read_small: the answer of the text reader
--   small_as: an answer that equals a small one is small
-- Assumes nothing.
use mathlib.Core.Path.{◌≡◌, refl}
use mathlib.Core.Bool.{Bool, true, false}
use mathlib.Core.List.{List}
use Prim.Native.Nat.{◌+◌, ℕ, ◌≤◌}
use native.Mathlib.Omega.{arith}
use borrow.Author.Tests.{leb-true, leb-false}
use lib.Dec.{leb}
use lib.IntN.{ℤ}
use lib.ListN.{length}
use Rattle.row.specs.Limits.{max_bits}
use Rattle.row.specs.Gates.{Gate}
use Rattle.std.specs.Prelude.{Ok, Err}
use Rattle.row.specs.Answer.{Answer, at, nothing, refused}
use Rattle.row.specs.Gates.{through}
use Rattle.text.specs.Text.{text_gate, read_answer}
use Rattle.text.proofs.Text.{text_fits}
use Rattle.bp_spec.specs.declared.question.Question.{Question}
use Rattle.bp_spec.specs.declared.question.Question.TheVariants.{FwdSearch, BwdSearch, Close, Open, Enclose, Root, Parent, FirstChild, LastChild, NextSibling, PreviousSibling, IsLeaf, IsAncestor, LevelAncestor, LevelNext, LevelPrev, LevelLeftmost, LevelRightmost}
use Rattle.bp_spec.specs.Questions.{promised}
use Rattle.bp_spec.specs.Ranges.{kind, refusals, May}
use Rattle.bp_spec.proofs.AnswerRange.{answers_may}
use Rattle.bp_spec.proofs.ManyBits.{IsRefusal, many_refused}
use Rattle.wire.specs.Answer.{Small}

may_small : (b : ℕ) (l : List ℕ) (a : Answer) → b ≤ (max_bits + 1) → May b l a → Small a
may_small b l (at x) h m = omega arith
may_small b l nothing h m = Prim.tt {0}
may_small b l (refused k) h m = Prim.tt {0}

refusal_small : (a : Answer) → IsRefusal a → Small a
refusal_small (at x) r = absurd r
refusal_small nothing r = absurd r
refusal_small (refused k) r = Prim.tt {0}

-- ---- the calls
below_small : (n : ℕ) (q : Question) → n ≤ max_bits → (kind n q).below ≤ (max_bits + 1)
below_small n (FwdSearch i r) h = omega arith
below_small n (BwdSearch i r) h = omega arith
below_small n (Close i) h = omega arith
below_small n (Open i) h = omega arith
below_small n (Enclose i) h = omega arith
below_small n Root h = omega arith
below_small n (Parent v) h = omega arith
below_small n (FirstChild v) h = omega arith
below_small n (LastChild v) h = omega arith
below_small n (NextSibling v) h = omega arith
below_small n (PreviousSibling v) h = omega arith
below_small n (IsLeaf v) h = omega arith
below_small n (IsAncestor a d) h = omega arith
below_small n (LevelAncestor v k) h = omega arith
below_small n (LevelNext v) h = omega arith
below_small n (LevelPrev v) h = omega arith
below_small n (LevelLeftmost k) h = omega arith
below_small n (LevelRightmost k) h = omega arith

pub answer_small : (ws : List ℕ) (n : ℕ) (s : List ℤ) (B : ℕ) (q : Question) → Small (promised ws n s B q)
answer_small ws n s B q = go (leb n max_bits) refl
  where
    go : (t : Bool) → leb n max_bits ≡ t → Small (promised ws n s B q)
    go true e =
        may_small (kind n q).below (refusals (kind n q).nodes (kind n q).handles) (promised ws n s B q)
        (below_small n q (leb-true n max_bits e)) (answers_may ws n s B q)
    go false e = refusal_small (promised ws n s B q) (many_refused ws n s B (leb-false n max_bits e) q)

-- ---- the text reader
pub read_small : (text ws : List ℕ) → Small (read_answer text ws)
read_small text ws = go (text_gate text (length ws)) refl
  where
    go : (g : Gate) → text_gate text (length ws) ≡ g → Small (through g (at (length text)))
    go (Ok tt) e = let f = text_fits text (length ws) e in omega arith
    go (Err k) e = Prim.tt {0}

pub small_as : {a b : Answer} → a ≡ b → Small b → Small a
small_as e h = rw e h
