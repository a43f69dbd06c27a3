use Rattle.cb_shared.specs.Passes.{record_of}
use Rattle.cb_shared.proofs.Resting.{knows_glance}
use Rattle.cb_shared.proofs.WriteSteps.{from_gives}
use Rattle.cb_shared.proofs.runtime.Shared.write_here.Goals as goal

pub write_from-requires-clause-of : goal.write_from-requires-clause-of
write_from-requires-clause-of c = c.look-saw.ensures.of

pub write_from-requires-clause-knows : goal.write_from-requires-clause-knows
write_from-requires-clause-knows c = knows_glance c.args.h.n c.args.h.n c.look-saw.result
    c.args.pass.now.seat c.look-saw.new.pass.seat c.look-saw.ensures.look c.requires.knows

pub returns-clause-of : goal.returns-clause-of
returns-clause-of c = c.write_from.ensures.of

pub returns-clause-write : goal.returns-clause-write
returns-clause-write c = from_gives c.args.h.n c.look-saw.result c.args.at c.args.bytes.now
    c.write_from.result c.args.pass.now.seat c.look-saw.new.pass.seat c.look-saw.ensures.look
    (record_of c.write_from.new.pass) c.write_from.ensures.write
