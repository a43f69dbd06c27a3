use Rattle.cb_shared.proofs.Laws.{pin_keeps}
use Rattle.cb_shared_bench.proofs.Taken.{pinned_is}
use Rattle.cb_shared_bench.proofs.calls.take.Goals as goal

pub returns : goal.returns
returns c = record {
  caller = record {
    of = c.pin.ensures.of;
    knows = pin_keeps c.args.h.n c.pin.result _ _ c.pin.ensures.pin c.args.h.n
        c.requires.caller.knows;
  };
  pin = pinned_is c.args.h.n c.pin.result _ _ c.pin.ensures.pin;
}
