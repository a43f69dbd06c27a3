use Rattle.cb_shared.proofs.Laws.{peek_has, peek_keeps}
use Rattle.cb_shared_bench.proofs.calls.peek.Goals as goal

pub returns : goal.returns
returns c = let p = c.args.pin.now in record {
  caller = record {
    of = c.peek.ensures.of;
    knows = peek_keeps p.handle.n p.version c.args.index c.peek.result _ _ c.peek.ensures.peeked
        c.args.h.n c.requires.caller.knows;
  };
  pin = peek_has p p.handle.n p.version c.args.index c.peek.result _ _ c.peek.ensures.peeked
      c.requires.pin;
}
