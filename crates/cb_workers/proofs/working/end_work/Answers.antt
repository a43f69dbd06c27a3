use Rattle.std.proofs.Common.{sym, ◌∙◌}
use Rattle.cb_workers.proofs.Quiet.{end_alone, end_owed}
use Rattle.cb_workers.proofs.Steps.{end_answered, is_end, none_ended}
use Rattle.cb_workers.proofs.working.end_work.Goals as goal

pub one_turn-reply-requires-clause-owed : goal.one_turn-reply-requires-clause-owed
one_turn-reply-requires-clause-owed g c = end_owed c.args.shared.now.config.handles c.in-Some.job
    (is_end c.args.due.now c.in-Some.job (sym c.end_of.ensures ∙ c.in-Some.is))

pub one_turn-reply-requires-clause-alone : goal.one_turn-reply-requires-clause-alone
one_turn-reply-requires-clause-alone g c = end_alone c.in-Some.job
    (is_end c.args.due.now c.in-Some.job (sym c.end_of.ensures ∙ c.in-Some.is))

pub returns-in-Some-clause-ends : goal.returns-in-Some-clause-ends
returns-in-Some-clause-ends g c = end_answered c.args.shared.now.config c.args.due.now c.in-Some.job c.one_turn-reply.result
    _ _ (sym c.end_of.ensures ∙ c.in-Some.is) c.one_turn-reply.ensures.memory
    c.one_turn-reply.ensures.adds

pub returns-clause-ends : goal.returns-clause-ends
returns-clause-ends g c = none_ended c.args.shared.now.config c.args.due.now _ (sym c.end_of.ensures ∙ c.in_default.is)
