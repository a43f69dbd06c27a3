use Rattle.std.proofs.Common.{sym, ◌∙◌}
use Rattle.cb_local.proofs.PutStep.{if_some}
use Rattle.cb_local.proofs.rooms.full_at.Goals as goal

pub returns-clause-full : goal.returns-clause-full
returns-clause-full c =
    if_some _ _ c.full_beside.result (λ node is pair a b old fresh at.
    let y = is pair old fresh.was at in
    (sym (c.undone_at.ensures pair a b fresh) ∙ c.if-not-undone_at.false, y.0, y.1))
    c.full_beside.ensures.full
