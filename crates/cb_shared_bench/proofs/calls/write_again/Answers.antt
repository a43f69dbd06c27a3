use Rattle.cb_shared.proofs.Laws.{call_keeps}
use Rattle.cb_shared_bench.proofs.calls.write_again.Goals as goal

pub returns : goal.returns
returns g c = let h = c.args.h.n in record {
  caller = record {
    of = c.write-reply.ensures.of;
    knows = call_keeps c.args.shared.now.config h 0 c.args.bytes.now c.write-reply.result _ _
        c.write-reply.ensures.write c.write-reply.ensures.error h c.requires.caller.knows;
  };
}
