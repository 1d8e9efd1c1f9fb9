-- `wire::lists::read` decodes one value into each entry of `out`, each from its own chunk of eight bytes. Assumes nothing.
use Rattle.std.proofs.Common.{ap, ◌∙◌, ◌*◌, List, ℕ, [], arith}
use Rattle.wire.proofs.Runs.{more, all_made, chunk_at}
use Rattle.wire.proofs.lists.read.Goals as goal

pub loop-i-preserved : goal.loop-i-preserved
loop-i-preserved g c =
    let s = c.args.bytes.now in
    let i = c.loop-i.i in
    let at = g.T.EightBytes.value_at in
    let e = c.from_bytes.ensures
    ∙ ap (λ (b : List ℕ). at b 0) (chunk_at [] _ s i _ (omega arith) c.as_chunks.ensures.front)
    ∙ g.met.T.EightBytes.anywhere s (8 * i) in
    λ d. more c.loop-i.out d c.from_bytes.result (λ j. at s (8 * j)) i (omega arith) (c.loop-i.invariant d) e

pub returns : goal.returns
returns g c =
    let b = c.loop-i in
    all_made b.out (λ j. g.T.EightBytes.value_at c.args.bytes.now (8 * j)) _ b.auto.out (λ d j l. b.invariant d j (omega arith))
