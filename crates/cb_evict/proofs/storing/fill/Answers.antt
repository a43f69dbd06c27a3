use Rattle.std.proofs.Common.{rules}
use Rattle.cb_evict.proofs.Filling.{all_filled, span_got}
use Rattle.cb_evict.proofs.storing.fill.Goals as goal

pub unwrap-requires : goal.unwrap-requires
unwrap-requires c = span_got _ c.args.spans.now _ c.get.result c.get.ensures.span
    (c.requires.there c.loop-p.p 0 c.loop-p-test.true)

pub returns : goal.returns
returns c = record {
  filled = all_filled c.args.spans.now c.args.frames.now c.loop-p.p c.args.set.now c.loop-p.set
      c.loop-p.invariant (search rules) c.requires.count;
}
