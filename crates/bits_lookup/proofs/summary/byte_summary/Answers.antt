-- `bits_lookup::byte_summary` returns the summary of a byte. The two parts of its table entry give back least and greatest. Assumes nothing.
use mathlib.Core.Path.{sym, ap, ◌∙◌}
use Prim.Native.Nat.{ℕ, ◌/◌, ◌%◌}
use lib.IntN.{pos, ◌-ℤ◌}
use mir.Syntax.{w64}
use mir.ValLaws.{to_z-of_z}
use Rattle.row.specs.Bits.{digit}
use Rattle.bits_stretch.specs.Summary.{summary_of}
use Rattle.bits_stretch.proofs.Full.{summary_size}
use Rattle.bits_lookup.proofs.Entries.{entry_least, entry_greatest, from_start}
use Rattle.bits_lookup.proofs.summary.byte_summary.Goals as goal

pub returns : goal.returns
returns c =
    let b = c.args.b in
    let x = summary_of (digit b) 0 8 in
    let z = summary_size (digit b) 0 8 in
    let e = c.entry-e.ensures in
    let p = to_z-of_z w64 _ (record { sfits = c.byte_total.type_inv }) ∙ c.byte_total.ensures ∙ sym (from_start (digit b) 8) in
    let q = to_z-of_z w64 _ (record { sfits = c.lowered.type_inv }) ∙ c.lowered.ensures ∙ ap (λ (k : ℕ). pos (k / 32) -ℤ pos 8) e ∙ entry_least x z in
    let r = to_z-of_z w64 _ (record { sfits = c.lowered-2.type_inv }) ∙ c.lowered-2.ensures ∙ ap (λ (k : ℕ). pos (k % 32) -ℤ pos 8) e ∙ entry_greatest x z in
    λ i. record { total = p i; least = q i; greatest = r i }
