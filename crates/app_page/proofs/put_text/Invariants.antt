-- The page keeps its length, and the first bytes of the text, as many as were passed, are on it.
use Rattle.std.proofs.Common.{length, take, ◌≡◌}
use Rattle.app_page.specs.Page.{Adds}
use Rattle.app_page.proofs.put_text.Given as goal

abbrev pub invariant-loop-b : goal.invariant-loop-b
invariant-loop-b l = record {
  same_len : length l.page ≡ length l.fn.page;
  added : Adds l.fn.page l.fn.at (take l.b-index l.text) l.page l.at;
}
