-- The table of the byte lookup (SCOPE, The byte lookup).
-- Assumes nothing.
use Rattle.std.specs.Prelude.{◌≡◌, List, ℕ, ◌+◌, ◌*◌, ◌<◌, pos, nat_abs, ◌+ℤ◌, get_or}
use Rattle.row.specs.Bits.{digit}
use Rattle.bits_stretch.specs.declared.summary.Summary.{Summary}
use Rattle.bits_stretch.specs.Summary.{summary_of}

-- The entry for a summary is (least + 8)·32 + (greatest + 8).
unfoldable pub encoded : Summary → ℕ
encoded x = nat_abs (x.least +ℤ pos 8) * 32 + nat_abs (x.greatest +ℤ pos 8)

-- Each byte has the entry for the summary of its 8 bits, the first bit being the least significant one.
abbrev pub IsTable : List ℕ → Type 0
IsTable t = (b : ℕ) → b < 256 → get_or t b 0 ≡ encoded (summary_of (digit b) 0 8)
