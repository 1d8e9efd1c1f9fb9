-- The fold of the standard library over the numbers from a to b - 1, by a closure that stays as it is. At the number k the fold has `part k`.
--   range_callable: the closure may be called at each number
--   range_fold: the fold ends with `part b`
-- Assumes nothing.
use mathlib.Core.Path.{◌≡◌, refl, ap, ◌∙◌}
use mathlib.Core.List.{List, [], ◌∷◌}
use Prim.Native.Nat.{ℕ, ◌+◌, ◌≤◌, ◌<◌}
use native.Mathlib.Omega.{arith}
use denote.Param.Members.{Mut}
use Rattle.std.specs.Fn.{Called, Takes}
use Rattle.std.specs.Iterator.{Yields, FoldTurn, FoldsItems, CallableInFold}
use Rattle.std.specs.List.{FoldsTo}
use Rattle.std.specs.Prelude.{Some}
use Rattle.std.specs.declared.ops.Range.{Range}
use Rattle.std.proofs.iter.Yields.{nat_range_steps}

module _ {F C : Type 0} (g : Mut F (C × (ℕ × Unit {0})) C) (f : F) (part : ℕ → C) (a b : ℕ) {first : C} (begins : first ≡ part a) (o : a ≤ b)
    (turn : (k : ℕ) → a ≤ k → k < b → (y : C) (h : F) → Called g f (part k, (k, tt)) y h → (h ≡ f) × (y ≡ part (k + 1))) where
  -- The numbers in t are left, and q is what the fold has.
  record At (t : Range ℕ) (q : F × C) : Type 0 where
    begin : a ≤ t.start
    inside : t.start ≤ b
    end : t.end ≡ b
    kept : q ≡ (f, part t.start)

  abbrev all : Range ℕ
  all = record { start = a; end = b }

  at_start : At all (f, first)
  at_start = record { begin = omega arith; inside = o; end = refl; kept = rw begins refl }

  on : (x : ℕ) (s t : Range ℕ) (p q : F × C) → At s p → nat_range_steps s (Some x) t → FoldTurn g p x q → At t q
  on x s t p q h y c =
      let e = turn s.start h.begin (omega (arith, h.end, y.1.0)) q.1 q.0 (rw (h.kept, y.1.1) at c) in
      record { begin = omega (arith, h.begin, y.1.2); inside = omega (arith, h.end, y.1); end = y.0 ∙ h.end; kept = rw y.1.2 (λ i. (e.0 i, e.1 i)) }

  along : (xs : List ℕ) (s t : Range ℕ) (p q : F × C) → At s p → Yields nat_range_steps s xs t → FoldsTo (FoldTurn g) p xs q → At t q
  along [] s t p q h y c = rw (y, c) at h
  along (x ∷ xs) s t p q h y c = along xs y.0 t c.0 q (on x s y.0 p c.0 h y.1 c.1) y.2 c.2

  pub range_callable : ((k : ℕ) → a ≤ k → k < b → Takes g f (part k, (k, tt))) → CallableInFold nat_range_steps g all f first
  range_callable may = record {
    at = λ xs t q x u y c e. let h = along xs all t (f, first) q at_start y c in rw (h.kept, e.1.1) (may t.start h.begin (omega (arith, h.end, e.1.0)));
  }

  pub range_fold : {r : C} → FoldsItems nat_range_steps g all f first r → r ≡ part b
  range_fold {r} d =
      let t = d.2.1 in
      let h = along d.0 all t.0 (f, first) (d.1, r) at_start t.1 d.3 in
      let e : t.0.start ≡ b = omega (arith, h.inside, h.end, t.2.1.0) in
      rw e at (ap (λ p. p.1) h.kept)
