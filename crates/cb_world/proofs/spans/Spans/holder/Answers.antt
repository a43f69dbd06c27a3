use Rattle.std.proofs.Common.{rules, None, arith, inl, inr}
use Rattle.cb_world.proofs.Holding.{holder_found, holder_none, none_back}
use Rattle.cb_world.proofs.spans.Spans.holder.Goals as goal

pub loop-back-init : goal.loop-back-init
loop-back-init c = λ h to from. absurd (omega (arith, to, from))

pub loop-back-preserved : goal.loop-back-preserved
loop-back-preserved c =
    none_back c.args.self.now c.args.frame c.loop-back.back c.stands_at.result
    c.if-back-frame.false c.loop-back.invariant c.stands_at.ensures c.if-stands_at.false

pub returns-then-back-frame : goal.returns-then-back-frame
returns-then-back-frame c = record {
  holder = holder_none c.args.self.now c.args.frame c.loop-back.back None c.loop-back.invariant
      (inr c.if-back-frame.true);
}

pub returns-then-stands_at : goal.returns-then-stands_at
returns-then-stands_at c = record {
  holder = holder_found c.args.self.now c.args.frame c.loop-back.back c.stands_at.result
      c.if-back-frame.false c.loop-back.invariant c.stands_at.ensures c.if-stands_at.true;
}

pub returns : goal.returns
returns c = record {
  holder = holder_none c.args.self.now c.args.frame c.loop-back.back None c.loop-back.invariant
      (inl (search rules));
}
