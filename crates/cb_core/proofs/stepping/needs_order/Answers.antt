use Rattle.std.proofs.Common.{sym, true≢false}
use Rattle.cb_core.proofs.OrderEnds.{no_order}
use Rattle.cb_core.proofs.stepping.needs_order.Goals as goal

pub returns-in_default : goal.returns-in_default
returns-in_default c = record {
  yes = λ e. absurd (true≢false (sym e));
  other = λ e. no_order c.args.job.now c.in_default.not-Gather c.in_default.not-Install
      c.in_default.not-Fetch c.in_default.not-Land;
}
