use Rattle.std.proofs.Common.{ap, ◌∙◌}
use Rattle.cb_gf256.specs.Rows.{row_at}
use Rattle.cb_local.specs.Delta.{DoneState}
use Rattle.cb_local.proofs.running.run_delta.Goals as goal

pub returns-in-Ok-clause-merged : goal.returns-in-Ok-clause-merged
returns-in-Ok-clause-merged c pages wa wb m x merged j l =
    ap (λ (d : DoneState). row_at d.parities j) c.of.ensures
    ∙ c.in-Ok.ensures.merged pages wa wb m x merged j l
