use Rattle.cb_shared.specs.Passes.{record_of}
use Rattle.cb_shared.proofs.Laws.{turn_keeps}
use Rattle.cb_shared_bench.proofs.Plain.{plain_may}
use Rattle.cb_shared_bench.proofs.calls.asked.Goals as goal

pub turn-reply-requires-clause-job : goal.turn-reply-requires-clause-job
turn-reply-requires-clause-job g c = (plain_may c.args.shared.now.config
    (record_of c.args.pass.now) c.args.job.now c.requires.plain).0

pub turn-reply-requires-clause-alone : goal.turn-reply-requires-clause-alone
turn-reply-requires-clause-alone g c = (plain_may c.args.shared.now.config
    (record_of c.args.pass.now) c.args.job.now c.requires.plain).1

pub turn-reply-requires-clause-knows : goal.turn-reply-requires-clause-knows
turn-reply-requires-clause-knows g c = (plain_may c.args.shared.now.config
    (record_of c.args.pass.now) c.args.job.now c.requires.plain).2

pub returns : goal.returns
returns g c = record {
  caller = record {
    of = c.turn-reply.ensures.of;
    knows = turn_keeps c.args.shared.now.config c.args.job.now c.turn-reply.result _ _
        c.turn-reply.ensures.turn c.args.h.n c.requires.caller.knows;
  };
}
