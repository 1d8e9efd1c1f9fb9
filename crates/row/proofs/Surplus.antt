-- Bits from position n on and surplus words never change what a definition gives.
--   Same: two rows have the same first n bits
--   E_same: two such rows have the same E(k) for every k up to n
--   opens_same, closes_same: they have the same open (close) bits
--   fwd_same, bwd_same: a search answers the same on both
--   one_tree_same: the one-tree test says the same of both
--   bits_beyond: two rows that differ only in bits from n on have the same first n bits
--   words_beyond: a row, and the same row with words added at the end, have the same first n bits
-- Assumes nothing.
use mathlib.Core.Path.{◌≡◌, sym, ap, ◌∙◌}
use mathlib.Core.Bool.{◌&&◌}
use mathlib.Core.List.{List, ◌++◌}
use Prim.Native.Nat.{ℕ, suc, ◌*◌, ◌/◌, ◌%◌, ◌^◌, ◌≤◌, ◌<◌}
use native.Mathlib.Decide.{dec_lt}
use native.Mathlib.Omega.{arith}
use borrow.Author.Tests.{le-ltb}
use lib.Dec.{ltb, eqb}
use lib.IntN.{ℤ, ◌+ℤ◌}
use lib.ListN.{length, get_or, get_or-append}
use Rattle.row.specs.Bits.{digit, bit_at}
use Rattle.row.specs.Excess.{E}
use Rattle.row.specs.Search.{fwd, bwd}
use Rattle.row.specs.Tree.{opens, closes, OneTree, one_tree}
use Rattle.row.proofs.Bools.{same_test}
use Rattle.row.proofs.Digits.{digit_low}
use Rattle.row.proofs.Excess.{excess_ext}
use Rattle.row.proofs.Meaning.{Ahead, Behind, nearest_ext, fwd_is, fwd_only, bwd_is, bwd_only}
use Rattle.row.proofs.Tree.{one_tree_true, one_tree_yes}

-- The two rows have the same first n bits.
abbrev pub Same : List ℕ → List ℕ → ℕ → Type 0
Same ws vs n = (k : ℕ) → k < n → bit_at ws k ≡ bit_at vs k

module _ (ws vs : List ℕ) (n : ℕ) (h : Same ws vs n) where
  pub E_same : (k : ℕ) → k ≤ n → E ws k ≡ E vs k
  E_same k l = excess_ext (bit_at ws) (bit_at vs) k (λ j m. h j (omega arith))

  ahead : (i : ℕ) (r : ℤ) (k : ℕ) → Ahead ws n i r k → Ahead vs n i r k
  ahead i r k a = (a.0, a.1, sym (E_same (suc k) a.1) ∙ a.2 ∙ ap (λ (z : ℤ). z +ℤ r) (E_same (suc i) (omega arith)))

  behind : (i : ℕ) (r : ℤ) (k : ℕ) → Behind ws n i r k → Behind vs n i r k
  behind i r k a = (a.0, a.1, sym (E_same k (omega arith)) ∙ a.2 ∙ ap (λ (z : ℤ). z +ℤ r) (E_same i (omega arith)))

  tree : OneTree ws n → OneTree vs n
  tree t = record {
    two = t.two;
    closed = sym (E_same n (omega arith)) ∙ t.closed;
    above = λ k p q. rw (E_same k (omega arith)) at (t.above k p q);
  }

  bit_same : (i v : ℕ) → (ltb i n && eqb (bit_at ws i) v) ≡ (ltb i n && eqb (bit_at vs i) v)
  bit_same i v = elim (dec_lt i n) [ yes l ↦ rw (h i l) | no l ↦ rw (le-ltb i n (omega arith)) ]

  pub opens_same : (i : ℕ) → opens ws n i ≡ opens vs n i
  unfolding opens
  opens_same i = bit_same i 1

  pub closes_same : (i : ℕ) → closes ws n i ≡ closes vs n i
  unfolding closes
  closes_same i = bit_same i 0

module _ (ws vs : List ℕ) (n : ℕ) (h : Same ws vs n) where
  back : Same vs ws n
  back k l = sym (h k l)

  pub fwd_same : (i : ℕ) (r : ℤ) → fwd ws n i r ≡ fwd vs n i r
  fwd_same i r =
      fwd_only vs n i r (fwd ws n i r) (fwd vs n i r)
      (nearest_ext (λ k j. k < j) (Ahead ws n i r) (Ahead vs n i r) (ahead ws vs n h i r) (ahead vs ws n back i r) (fwd ws n i r) (fwd_is ws n i r))
      (fwd_is vs n i r)

  pub bwd_same : (i : ℕ) (r : ℤ) → bwd ws n i r ≡ bwd vs n i r
  bwd_same i r =
      bwd_only vs n i r (bwd ws n i r) (bwd vs n i r)
      (nearest_ext (λ k j. j < k) (Behind ws n i r) (Behind vs n i r) (behind ws vs n h i r) (behind vs ws n back i r) (bwd ws n i r) (bwd_is ws n i r))
      (bwd_is vs n i r)

  pub one_tree_same : one_tree ws n ≡ one_tree vs n
  one_tree_same =
      same_test (one_tree ws n) (one_tree vs n)
      (λ q. one_tree_yes vs n (tree ws vs n h (one_tree_true ws n q)))
      (λ q. one_tree_yes ws n (tree vs ws n back (one_tree_true vs n q)))

low_bit : (ws : List ℕ) (n k : ℕ) → k / 64 ≡ n / 64 → k % 64 < n % 64 → bit_at ws k ≡ digit (get_or ws (n / 64) 0 % 2 ^ (n % 64)) (k % 64)
low_bit ws n k q l = rw q (sym (digit_low (get_or ws (n / 64) 0) (n % 64) (k % 64) l))

-- The premises: all words before the word of bit n are equal, and in that word all bits before bit n are equal.
pub bits_beyond : (ws vs : List ℕ) (n : ℕ) → ((q : ℕ) → q < n / 64 → get_or ws q 0 ≡ get_or vs q 0)
    → get_or ws (n / 64) 0 % 2 ^ (n % 64) ≡ get_or vs (n / 64) 0 % 2 ^ (n % 64) → Same ws vs n
bits_beyond ws vs n f e k l = elim (dec_lt (k / 64) (n / 64)) [
  | yes m ↦ ap (λ (w : ℕ). digit w (k % 64)) (f (k / 64) m)
  | no m ↦
      let q : k / 64 ≡ n / 64 = omega arith in
      let s : k % 64 < n % 64 = omega arith in
      low_bit ws n k q s ∙ ap (λ (w : ℕ). digit w (k % 64)) e ∙ sym (low_bit vs n k q s)
]

pub words_beyond : (ws vs : List ℕ) (n : ℕ) → n ≤ 64 * length ws → Same ws (ws ++ vs) n
words_beyond ws vs n h k l = ap (λ (w : ℕ). digit w (k % 64)) (sym (get_or-append ws vs 0 (k / 64) (omega arith)))
