-- Once the levels from this one on are put, all levels are on the page.
use Rattle.std.proofs.Common.{◌≡◌, ◌-◌}
use Rattle.app_page.specs.Page.{added}
use Rattle.app_levels.specs.Levels.{levels_lines}
use Rattle.app_levels.proofs.print.put_levels.Given as goal

abbrev pub invariant-loop-level : goal.invariant-loop-level
invariant-loop-level l =
    added l.page (levels_lines l.words l.n l.nodes l.level (l.n - l.level)) ≡ added l.fn.page (levels_lines l.words l.n l.nodes 0 l.n)
