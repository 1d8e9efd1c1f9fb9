-- `bits_scan::scan_in_word` scans bits of a row that lie in one word. It scans the bits of the word and moves the hit to its position in
-- the row. Assumes nothing.
use Rattle.std.proofs.Common.{sym, ◌∙◌, arith, w64}
use mir.ValLaws.{to_z-of_z}
use Rattle.bits_stretch.proofs.Steps.{scan_end}
use Rattle.bits_stretch.proofs.Meets.{hit_within}
use Rattle.bits_edge.proofs.Words.{edge_lies, word_scan}
use Rattle.bits_scan.proofs.scan_in_word.Goals as goal

pub returns-then-to-from : goal.returns-then-to-from
returns-then-to-from g c = rw (to_z-of_z w64 _ c.ranges.r) (scan_end _ _ _ _ _ (omega arith))

pub moved-requires : goal.moved-requires
moved-requires g c = λ j e. omega (arith, hit_within g.D.Direction.way _ _ _ _ (sym e ∙ c.scan_part-y.ensures))

pub returns : goal.returns
returns g c =
    c.moved.ensures ∙ rw (to_z-of_z w64 _ c.ranges.r) at (word_scan g.D.Direction.way c.args.words.now _ (edge_lies c.requires.bits) c.scan_part-y.ensures)
