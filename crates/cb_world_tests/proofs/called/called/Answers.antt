use Rattle.cb_types.specs.declared.job.Job.TheVariants as jobs
use Rattle.cb_world_tests.proofs.Calling.{caller_keeps}
use Rattle.cb_shared.proofs.Laws.{call_keeps, read_keeps, turns_keep, write_keeps}
use Rattle.cb_world_tests.proofs.called.called.Goals as goal

pub write_here-requires-clause-knows : goal.write_here-requires-clause-knows
write_here-requires-clause-knows g c = c.requires.among c.args.pass.now.seat.me.0 c.requires.caller.knows

pub read-requires-clause-knows : goal.read-requires-clause-knows
read-requires-clause-knows g c = c.requires.among c.args.pass.now.seat.me.0 c.requires.caller.knows

pub write-requires-clause-knows : goal.write-requires-clause-knows
write-requires-clause-knows g c = c.requires.among c.args.pass.now.seat.me.0 c.requires.caller.knows

pub free-requires-clause-knows : goal.free-requires-clause-knows
free-requires-clause-knows g c = c.requires.among c.args.pass.now.seat.me.0 c.requires.caller.knows

pub returns-in-WriteHere : goal.returns-in-WriteHere
returns-in-WriteHere g c = record {
  caller = caller_keeps c.args.shared.now c.args.objects.now c.args.pass.now c.write_here.new.pass
      c.requires.caller c.write_here.ensures.of
      (write_keeps c.args.h.n 0 c.args.bytes.now c.write_here.result _ _ c.write_here.ensures.write);
}

pub returns-in-Read : goal.returns-in-Read
returns-in-Read g c = record {
  caller = caller_keeps c.args.shared.now c.args.objects.now c.args.pass.now c.read.new.pass
      c.requires.caller c.read.ensures.of
      (read_keeps c.args.shared.now.config c.args.h.n c.read.result _ _ c.read.ensures.read c.read.ensures.error);
}

pub returns-in-Write : goal.returns-in-Write
returns-in-Write g c = record {
  caller = caller_keeps c.args.shared.now c.args.objects.now c.args.pass.now c.write.new.pass
      c.requires.caller c.write.ensures.of
      (call_keeps c.args.shared.now.config c.args.h.n 0 c.args.bytes.now c.write.result _ _
      c.write.ensures.write c.write.ensures.error);
}

pub returns-in-Free : goal.returns-in-Free
returns-in-Free g c = record {
  caller = caller_keeps c.args.shared.now c.args.objects.now c.args.pass.now c.free.new.pass
      c.requires.caller c.free.ensures.of
      (turns_keep c.args.shared.now.config (jobs.Free c.args.h) c.free.result _ _ c.free.ensures.free
      c.free.ensures.error);
}
