use Rattle.std.proofs.Common.{inr, ⊎_elim}
use Rattle.cb_shared.specs.Calls.{IsLack, TellsOfIt}
use Rattle.cb_shared.proofs.CallSteps.{answers_no, answers_yes}
use Rattle.cb_shared.proofs.calling.is_answer.Goals as goal

pub returns-else-tells_of_it : goal.returns-else-tells_of_it
returns-else-tells_of_it c = record {
  yes = λ e. answers_yes c.args.again c.args.job.now c.args.reply.now (
    c.in_default.not-Swap,
    c.in_default.not-Fetch,
    c.in_default.not-Land,
    c.in_default.not-Read,
  ) (inr (c.is_lack-else-tells_of_it.ensures.yes e));
  no = λ e x. ⊎_elim
      (λ (a : TellsOfIt c.args.reply.now). c.tells_of_it.ensures.no c.if-tells_of_it.false a)
      (λ (b : IsLack c.args.again c.args.reply.now).
      c.is_lack-else-tells_of_it.ensures.no e b)
      (answers_no c.args.again c.args.job.now c.args.reply.now (
        c.in_default.not-Swap,
        c.in_default.not-Fetch,
        c.in_default.not-Land,
        c.in_default.not-Read,
      ) x);
}
