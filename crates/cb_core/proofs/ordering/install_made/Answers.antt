use Rattle.std.proofs.Common.{refl, ap, ◌∙◌, Some}
use Rattle.cb_types.specs.declared.order.EncodeOrder.{EncodeOrder}
use Rattle.cb_types.specs.declared.order.Kept.TheVariants.{Encode}
use Rattle.cb_evict.specs.InstallRule.{kept_behind}
use Rattle.cb_core.proofs.OrderEnds.{installs_as}
use Rattle.cb_core.proofs.ordering.install_made.Goals as goal

pub returns-clause-ends : goal.returns-clause-ends
returns-clause-ends c = installs_as c.args.far.now c.install-reply.new.far
    (Some (Encode c.args.done.order)) _ _ c.install-reply.result _
    (c.behind_install.ensures.keeps ∙ ap (λ (o : EncodeOrder).
    kept_behind c.install-reply.result (Some (Encode o))) c.into_order.ensures)
    c.behind_install.ensures.answer
    (c.install-reply.ensures.turned (Some (Encode c.args.done.order)) refl)

pub returns-clause-leaves : goal.returns-clause-leaves
returns-clause-leaves c = c.install-reply.ensures.leaves
