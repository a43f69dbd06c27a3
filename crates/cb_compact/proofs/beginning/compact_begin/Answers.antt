use Rattle.std.proofs.Common.{sym, subst}
use Rattle.cb_compact.specs.Compaction.{reply_of}
use Rattle.cb_compact.specs.PairStep.{PairStep}
use Rattle.cb_types.specs.declared.reply.Reply.{Reply}
use Rattle.cb_compact.proofs.PairSound.{begin_given, begin_now}
use Rattle.cb_compact.proofs.beginning.compact_begin.Goals as goal

pub returns-clause-step : goal.returns-clause-step
returns-clause-step g c =
    subst (λ (r : Reply). PairStep c.args.far.now c.begin.new.far r) (sym c.reply.ensures)
    c.in_ok-begun.ensures.step

pub returns-clause-now : goal.returns-clause-now
returns-clause-now g c s h sound =
    begin_now s c.args.far.now c.begin.new.far (reply_of c.in_ok-begun.begun) h sound
    c.in_ok-begun.ensures.step

pub returns-clause-given : goal.returns-clause-given
returns-clause-given g c =
    begin_given c.args.far.now c.begin.new.far (reply_of c.in_ok-begun.begun)
    c.in_ok-begun.ensures.step
