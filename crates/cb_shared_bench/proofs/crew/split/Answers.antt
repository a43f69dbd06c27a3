use Rattle.std.proofs.Common.{arith}
use Rattle.cb_shared.proofs.Laws.{left_keeps, right_keeps}
use Rattle.cb_shared_bench.proofs.crew.split.Goals as goal

pub split-requires-clause-share : goal.split-requires-clause-share
split-requires-clause-share c = (omega arith, c.requires.share)

pub returns : goal.returns
returns c = record {
  of = c.split.ensures.of;
  left = record {
    of = c.split.ensures.of;
    knows = left_keeps 1 c.args.first.now.seat.me.0 _ c.split.ensures.left c.args.h.n
        c.requires.caller.knows;
  };
  caller = record {
    of = c.split.ensures.new;
    knows = right_keeps 1 c.args.first.now.seat.me.0 c.split.result.seat.me.0
        c.split.ensures.right c.args.h.n c.requires.caller.knows;
  };
}
