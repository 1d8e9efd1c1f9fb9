-- The two numbers of the first line, then the levels.
use Rattle.app_levels.proofs.Lines.{tree_whole}
use Rattle.app_levels.proofs.print.put_tree.Goals as goal

pub returns : goal.returns
returns c = let e = tree_whole c.args.words.now c.args.n c.args.nodes.now c.args.page.now in cc
