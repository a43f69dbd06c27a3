use Rattle.cb_shared.proofs.Laws.{write_keeps}
use Rattle.cb_shared_bench.proofs.calls.write.Goals as goal

pub returns : goal.returns
returns c = record {
  caller = record {
    of = c.write_here-answer.ensures.of;
    knows = write_keeps c.args.h.n 0 c.args.bytes.now c.write_here-answer.result _ _
        c.write_here-answer.ensures.write c.args.h.n c.requires.caller.knows;
  };
}
