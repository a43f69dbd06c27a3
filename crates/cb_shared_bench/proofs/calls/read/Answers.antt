use Rattle.cb_shared.proofs.Laws.{read_keeps}
use Rattle.cb_shared_bench.proofs.calls.read.Goals as goal

pub returns : goal.returns
returns g c = let h = c.args.h.n in record {
  caller = record {
    of = c.read-reply.ensures.of;
    knows = read_keeps c.args.shared.now.config h c.read-reply.result _ _
        c.read-reply.ensures.read c.read-reply.ensures.error h c.requires.caller.knows;
  };
}
