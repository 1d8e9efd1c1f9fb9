-- A read puts its bytes after those that were read before it.
use Rattle.std.proofs.Common.{◌≡◌, ℕ, ◌+◌, ◌≤◌, List, ◌++◌, rules, length, take, sym, ap, ◌∙◌, subst, length-take-le}
use Rattle.std.specs.Io.KnownBytes.{Consumes}
use Rattle.std.proofs.KnownBytes.{Consumes-trans}
use borrow.Rule.Slice.PartMut.{put_mid, post_of}
use lib.Seq.{take-append-add, take-append-le}
use Rattle.app_line.proofs.input.read_full.Goals as goal

-- The part of the list from a on is overwritten by ys.
take_grown : (a k n : ℕ) (xs ys : List ℕ) → a ≤ length xs → n ≤ length ys → take a xs ++ take n ys ≡ take (a + n) (put_mid a k xs ys)
take_grown a k n xs ys within fits =
    let after = post_of a k xs in
    sym (rw (length-take-le a xs within) at (take-append-add (take a xs) (ys ++ after) n) ∙ ap (λ l. take a xs ++ l) (take-append-le n ys after fits))

pub loop-done-preserved : goal.loop-done-preserved
loop-done-preserved g c =
    let i = c.loop-done.invariant in
    let grown = take_grown c.loop-done.done _ c.in_ok-count.count c.loop-done.bytes c.read.new.buf i.in_bytes c.in_ok-count.ensures.bound.0 in
    record {
      in_bytes = search rules;
      same_len = search rules;
      read_so_far = subst (Consumes _ _) grown (Consumes-trans _ _ _ _ _ i.read_so_far c.in_ok-count.ensures.bytes.0);
    }
