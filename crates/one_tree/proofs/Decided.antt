-- The promise of the one-tree test holds in each of its three cases.
--   when_refused: for a refusal, if the gate refuses
--   when_tree: for yes, if the row is one tree
--   when_not: for no, if the row is not one tree
--   when_told: for the result of the test of a row that passes
-- Assumes nothing.
use mathlib.Core.Path.{◌≡◌, refl, sym, ◌∙◌}
use mathlib.Core.Bool.{Bool, true, false, true≢false}
use mathlib.Core.List.{List}
use Prim.Native.Nat.{ℕ}
use native.Mathlib.Omega.{arith}
use lib.ListN.{length}
use Rattle.row.specs.declared.refusal.Refusal.{Refusal}
use Rattle.std.specs.Prelude.{Option, Some, Result, Ok, Err, IfOk}
use Rattle.row.specs.Tree.{one_tree}
use Rattle.row.specs.declared.row.Row.{Row}
use Rattle.row.specs.Gates.{row_gate, gate_of}
use Rattle.row.specs.Parts.{HasBits}
use Rattle.std.proofs.lemmas.Result.{IfOk-at_ok}
use Rattle.row.proofs.Tree.{one_tree_true, one_tree_yes}
use Rattle.one_tree.specs.OneTree.{one_tree_answer, OneTreePromise}

module _ (ws : List ℕ) (n : ℕ) where
  pub when_refused : (a : Result (Option Bool) Refusal) (k : Refusal) → row_gate (length ws) n ≡ Err k → a ≡ Err k → OneTreePromise ws n a
  unfolding one_tree_answer
  when_refused a k g r = record {
    answer = rw (r, g);
    decides = record {
      yes = λ o t. cc;
      tree = λ e. let z : ◌≡◌ {A = ℕ} 0 1 = cc in absurd (omega arith);
      no = λ o t. cc;
    };
  }

  when_tree : row_gate (length ws) n ≡ (Ok tt) → one_tree ws n ≡ true → OneTreePromise ws n (Ok (Some true))
  unfolding one_tree_answer
  when_tree g b = record {
    answer = rw (g, b);
    decides = record {
      yes = λ o t. refl;
      tree = λ e. one_tree_true ws n b;
      no = λ o t. absurd (t (one_tree_true ws n b));
    };
  }

  when_not : row_gate (length ws) n ≡ (Ok tt) → one_tree ws n ≡ false → OneTreePromise ws n (Ok (Some false))
  unfolding one_tree_answer
  when_not g b = record {
    answer = rw (g, b);
    decides = record {
      yes = λ o t. absurd (true≢false (sym (one_tree_yes ws n t) ∙ b));
      tree = λ e. let z : ◌≡◌ {A = ℕ} 0 1 = cc in absurd (omega arith);
      no = λ o t. refl;
    };
  }

  when_passed : (t : Bool) → row_gate (length ws) n ≡ (Ok tt) → t ≡ one_tree ws n → OneTreePromise ws n (Ok (Some t))
  when_passed true g e = when_tree g (sym e)
  when_passed false g e = when_not g (sym e)

  pub when_told : {r : Result Row Refusal} → gate_of r ≡ row_gate (length ws) n → IfOk r (HasBits ws n) → {x : Row} → r ≡ Ok x
      → {t : Bool} → t ≡ one_tree x.words.now x.n → OneTreePromise ws n (Ok (Some t))
  when_told g p e {t} f = let q = IfOk-at_ok (HasBits ws n) e p in when_passed t (sym g ∙ rw e) (f ∙ rw (q.words, q.bits))
