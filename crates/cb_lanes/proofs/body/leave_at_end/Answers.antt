use Rattle.std.proofs.Common.{◌∙◌}
use Rattle.cb_lanes.proofs.body.leave_at_end.Goals as goal

pub returns-clause-left : goal.returns-clause-left
returns-clause-left c = c.recall.ensures.same ∙ c.leave.ensures.left
