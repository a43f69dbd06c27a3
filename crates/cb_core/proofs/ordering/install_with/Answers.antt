use Rattle.std.proofs.Common.{refl, sym, ap, ◌∙◌, subst, Option, Some}
use Rattle.cb_types.specs.declared.config.Config.{Config}
use Rattle.cb_types.specs.declared.order.Kept.{Kept}
use Rattle.cb_world.specs.Orders.{KeepsOrder}
use Rattle.cb_world.specs.World.{IsConfigured}
use Rattle.cb_core.specs.Ordered.{InstallEnds}
use Rattle.cb_core.specs.OrderLeaves.{InstallLeaves}
use Rattle.cb_core.specs.OrderParts.{encode_in}
use Rattle.cb_core.proofs.OrderEnds.{installs_as}
use Rattle.cb_core.proofs.ordering.install_with.Goals as goal

pub install_run-requires-clause-kept : goal.install_run-requires-clause-kept
install_run-requires-clause-kept c = let k = c.requires.kept in
    (k.0, k.1, subst (KeepsOrder k.0 c.args.far.now) (c.in-Some-Encode.is ∙ ap Some c.in-Some-Encode.field-0-is) k.2)

pub returns-in-Some-Encode-clause-ends : goal.returns-in-Some-Encode-clause-ends
returns-in-Some-Encode-clause-ends c = subst (λ (o : Option Kept). InstallEnds c.args.far.now o
    c.install_run.result.0 c.install_run.result.1 c.install_run.new.far) (sym (c.in-Some-Encode.is ∙ ap Some c.in-Some-Encode.field-0-is))
    c.install_run.ensures.ends

pub returns-in-Some-Encode-clause-leaves : goal.returns-in-Some-Encode-clause-leaves
returns-in-Some-Encode-clause-leaves c = subst (λ (o : Option Kept). (s : Config) → IsConfigured s c.args.far.now
    → InstallLeaves s c.args.far.now c.install_run.new.far (encode_in o)) (sym (c.in-Some-Encode.is ∙ ap Some c.in-Some-Encode.field-0-is))
    c.install_run.ensures.leaves

pub returns-in-Some-Decode-clause-ends : goal.returns-in-Some-Decode-clause-ends
returns-in-Some-Decode-clause-ends c = subst (λ (o : Option Kept). InstallEnds c.args.far.now o
    c.behind_install.result.0 c.behind_install.result.1 c.install-reply.new.far) (sym (c.in-Some-Decode.is ∙ ap Some c.in-Some-Decode.field-0-is))
    (installs_as c.args.far.now c.install-reply.new.far _ _ _ c.install-reply.result _
    c.behind_install.ensures.keeps c.behind_install.ensures.answer
    (c.install-reply.ensures.turned _ refl))

pub returns-in-Some-Decode-clause-leaves : goal.returns-in-Some-Decode-clause-leaves
returns-in-Some-Decode-clause-leaves c = subst (λ (o : Option Kept). (s : Config) → IsConfigured s c.args.far.now
    → InstallLeaves s c.args.far.now c.install-reply.new.far (encode_in o)) (sym (c.in-Some-Decode.is ∙ ap Some c.in-Some-Decode.field-0-is))
    c.install-reply.ensures.leaves

pub returns-in-None-clause-ends : goal.returns-in-None-clause-ends
returns-in-None-clause-ends c = subst (λ (o : Option Kept). InstallEnds c.args.far.now o
    c.behind_install-in-None.result.0 c.behind_install-in-None.result.1 c.install-reply-in-None.new.far) (sym c.in-None.is)
    (installs_as c.args.far.now c.install-reply-in-None.new.far _ _ _ c.install-reply-in-None.result _
    c.behind_install-in-None.ensures.keeps c.behind_install-in-None.ensures.answer
    (c.install-reply-in-None.ensures.turned _ refl))

pub returns-in-None-clause-leaves : goal.returns-in-None-clause-leaves
returns-in-None-clause-leaves c = subst (λ (o : Option Kept). (s : Config) → IsConfigured s c.args.far.now
    → InstallLeaves s c.args.far.now c.install-reply-in-None.new.far (encode_in o)) (sym c.in-None.is)
    c.install-reply-in-None.ensures.leaves
