use Rattle.std.proofs.Common.{sym}
use Rattle.cb_core.proofs.OrderEnds.{not_done, was_done}
use Rattle.cb_core.proofs.ordering.behind_install.Goals as goal

pub returns-then-is_done-clause-keeps : goal.returns-then-is_done-clause-keeps
returns-then-is_done-clause-keeps c = sym (was_done c.args.reply c.args.order
    (c.is_done.ensures.yes c.if-is_done.true))

pub returns-else-is_done-clause-keeps : goal.returns-else-is_done-clause-keeps
returns-else-is_done-clause-keeps c = sym (not_done c.args.reply c.args.order
    (c.is_done.ensures.other c.if-is_done.false))
