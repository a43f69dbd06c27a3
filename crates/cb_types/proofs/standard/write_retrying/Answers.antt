use Rattle.cb_types.proofs.Written.{nothing_added}
use Rattle.cb_types.proofs.standard.write_retrying.Goals as goal

pub returns-in-Ok-eq0-clause-kept : goal.returns-in-Ok-eq0-clause-kept
returns-in-Ok-eq0-clause-kept g c =
    let contents = g.W.Write.contents in
    nothing_added (contents c.args.writer.now) (contents c.loop.writer) (contents c.write.new.self) c.loop.invariant (rw c.in-Ok-eq0.field-0-test at c.in-Ok-eq0.ensures.bytes)
