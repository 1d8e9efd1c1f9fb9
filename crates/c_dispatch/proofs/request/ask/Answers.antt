-- `c_dispatch::ask` makes the call that the question names and returns its answer as one i64.
-- The proof has one case per arm; each cites the contract of the call and the bound on its answer. Assumes nothing.
use mathlib.Core.List.{[]}
use Rattle.bp_spec.specs.declared.question.Question.TheVariants.{FwdSearch, BwdSearch, Close, Open, Enclose, Root, Parent, FirstChild, LastChild, NextSibling, PreviousSibling, LevelAncestor, LevelNext, LevelPrev, LevelLeftmost, LevelRightmost}
use Rattle.c_dispatch.proofs.Small.{answer_small, small_as}
use Rattle.c_dispatch.proofs.request.ask.Goals as goal

pub found-requires : goal.found-requires
found-requires c = small_as c.fwd_search.ensures.answer (answer_small _ _ _ _ (FwdSearch _ _))

pub found-requires-in-BwdSearch : goal.found-requires-in-BwdSearch
found-requires-in-BwdSearch c = small_as c.bwd_search.ensures.answer (answer_small _ _ _ _ (BwdSearch _ _))

pub found-requires-in-Close : goal.found-requires-in-Close
found-requires-in-Close c = small_as c.close.ensures.answer (answer_small _ _ _ _ (Close _))

pub found-requires-in-Open : goal.found-requires-in-Open
found-requires-in-Open c = small_as c.open.ensures.answer (answer_small _ _ _ _ (Open _))

pub found-requires-in-Enclose : goal.found-requires-in-Enclose
found-requires-in-Enclose c = small_as c.enclose.ensures.answer (answer_small _ _ _ _ (Enclose _))

pub found-requires-in-Root : goal.found-requires-in-Root
found-requires-in-Root c = small_as c.root.ensures (answer_small c.args.words.now _ [] 0 Root)

pub found-requires-in-Parent : goal.found-requires-in-Parent
found-requires-in-Parent c = small_as c.parent.ensures.answer (answer_small _ _ _ _ (Parent _))

pub found-requires-in-FirstChild : goal.found-requires-in-FirstChild
found-requires-in-FirstChild c = small_as c.first_child.ensures (answer_small c.args.words.now _ [] 0 (FirstChild _))

pub found-requires-in-LastChild : goal.found-requires-in-LastChild
found-requires-in-LastChild c = small_as c.last_child.ensures.answer (answer_small _ _ _ _ (LastChild _))

pub found-requires-in-NextSibling : goal.found-requires-in-NextSibling
found-requires-in-NextSibling c = small_as c.next_sibling.ensures.answer (answer_small _ _ _ _ (NextSibling _))

pub found-requires-in-PreviousSibling : goal.found-requires-in-PreviousSibling
found-requires-in-PreviousSibling c = small_as c.previous_sibling.ensures.answer (answer_small _ _ _ _ (PreviousSibling _))

pub found-requires-in-LevelAncestor : goal.found-requires-in-LevelAncestor
found-requires-in-LevelAncestor c = small_as c.level_ancestor.ensures.answer (answer_small _ _ _ _ (LevelAncestor _ _))

pub found-requires-in-LevelNext : goal.found-requires-in-LevelNext
found-requires-in-LevelNext c = small_as c.level_next.ensures.answer (answer_small _ _ _ _ (LevelNext _))

pub found-requires-in-LevelPrev : goal.found-requires-in-LevelPrev
found-requires-in-LevelPrev c = small_as c.level_prev.ensures.answer (answer_small _ _ _ _ (LevelPrev _))

pub found-requires-in-LevelLeftmost : goal.found-requires-in-LevelLeftmost
found-requires-in-LevelLeftmost c = small_as c.level_leftmost.ensures.answer (answer_small _ _ _ _ (LevelLeftmost _))

pub found-requires-in-LevelRightmost : goal.found-requires-in-LevelRightmost
found-requires-in-LevelRightmost c = small_as c.level_rightmost.ensures.answer (answer_small _ _ _ _ (LevelRightmost _))
