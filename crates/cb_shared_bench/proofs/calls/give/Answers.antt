use Rattle.cb_shared.proofs.Laws.{unpin_keeps}
use Rattle.cb_shared_bench.proofs.calls.give.Goals as goal

pub returns : goal.returns
returns c = record {
  caller = record {
    of = c.unpin.ensures.of;
    knows = unpin_keeps c.args.pin.handle.n _ _ c.unpin.ensures.unpinned c.args.h.n
        c.requires.caller.knows;
  };
}
