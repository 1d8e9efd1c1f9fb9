-- Once the lines after the line of v are put, the whole level is on the page.
use Rattle.std.proofs.Common.{◌≡◌, ◌-◌}
use Rattle.app_page.specs.Page.{added}
use Rattle.app_levels.specs.Levels.{next_lines, level_lines}
use Rattle.app_levels.proofs.print.put_level.Given as goal

abbrev pub invariant-loop-step : goal.invariant-loop-step
invariant-loop-step l =
    added l.page (next_lines l.words l.n l.nodes l.level (l.n - l._step) l.v) ≡ added l.fn.page (level_lines l.words l.n l.nodes l.level l.fn.first)
