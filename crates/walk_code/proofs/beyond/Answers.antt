-- `walk_code::beyond` makes the climb, the descent and the scan of the target block. Each return is one law of Answers.antt, which needs the
-- results of climb and descent. Assumes nothing.
use Rattle.std.proofs.Common.{rules}
use Rattle.walk_code.proofs.Answers.{climbs_at, descends_at, lost_answer, target_at, leaf_answer}
use Rattle.walk_code.proofs.beyond.Goals as goal

pub climb-requires : goal.climb-requires
climb-requires g c =
    let a = c.args in
    climbs_at g.D.Direction.way a.row.words.now _ a.row.nodes.now _ _ a.r a.row.fine c.requires c.ranges.r _ c.layout_of-lay.ensures

pub descend-requires : goal.descend-requires
descend-requires g c =
    let a = c.args in
    descends_at _ a.row.words.now _ a.row.nodes.now _ _ a.r a.row.fine c.requires c.ranges.r _ c.layout_of-lay.ensures
    c.climb.ensures c.in-Some.p (rw c.in-Some.is at c.in_ok-p.was)

pub returns-in_err-leaf : goal.returns-in_err-leaf
returns-in_err-leaf g c =
    let a = c.args in
    search (
      rules,
      lost_answer _ a.row.words.now _ a.row.nodes.now _ _ a.r a.row.fine c.requires c.ranges.r _ c.layout_of-lay.ensures
          c.climb.ensures c.in-Some.p (rw c.in-Some.is at c.in_ok-p.was) c.descend.ensures,
    )

pub target_block-requires : goal.target_block-requires
target_block-requires g c =
    let a = c.args in
    target_at _ a.row.words.now _ a.row.nodes.now _ _ a.r a.row.fine c.requires c.ranges.r _ c.layout_of-lay.ensures
    c.climb.ensures c.in-Some.p (rw c.in-Some.is at c.in_ok-p.was) c.descend.ensures c.in_ok-leaf.leaf c.in_ok-leaf.was

pub returns : goal.returns
returns g c =
    let a = c.args in
    leaf_answer _ a.row.words.now _ a.row.nodes.now _ _ a.r a.row.fine c.requires c.ranges.r _ c.layout_of-lay.ensures
    c.climb.ensures c.in-Some.p (rw c.in-Some.is at c.in_ok-p.was) c.descend.ensures c.in_ok-leaf.leaf c.in_ok-leaf.was c.target_block.ensures
