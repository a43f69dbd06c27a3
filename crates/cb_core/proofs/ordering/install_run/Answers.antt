use Rattle.std.proofs.Common.{sym, ap, ◌∙◌, subst, Some}
use Rattle.cb_types.specs.declared.config.Config.{Config}
use Rattle.cb_types.specs.declared.job.Job.TheVariants.{Install}
use Rattle.cb_types.specs.declared.order.EncodeOrder.{EncodeOrder}
use Rattle.cb_types.specs.declared.order.Kept.TheVariants.{Encode}
use Rattle.cb_world.specs.Orders.{IsEncodeKept}
use Rattle.cb_world.specs.World.{IsConfigured}
use Rattle.cb_core.specs.Ordered.{InstallEnds}
use Rattle.cb_core.specs.OrderLeaves.{InstallLeaves}
use Rattle.cb_core.proofs.OrderEnds.{as_not_run, install_not_run, not_run_leaves}
use Rattle.cb_core.proofs.ordering.install_run.Goals as goal

pub run_encode-requires : goal.run_encode-requires
run_encode-requires c = c.requires.kept.2.fits

pub install_made-requires-clause-kept : goal.install_made-requires-clause-kept
install_made-requires-clause-kept c = let k = c.requires.kept in (
  k.0,
  k.1,
  subst (IsEncodeKept k.0 c.args.far.now) (sym (rw c.in-Ok.is at (c.run_encode.ensures.order))) k.2,
)

pub returns-in-Ok-clause-ends : goal.returns-in-Ok-clause-ends
returns-in-Ok-clause-ends c = subst (λ (o : EncodeOrder). InstallEnds c.args.far.now (Some (Encode o))
    c.install_made.result.0 c.install_made.result.1 c.install_made.new.far)
    (rw c.in-Ok.is at (c.run_encode.ensures.order)) c.install_made.ensures.ends

pub returns-in-Ok-clause-leaves : goal.returns-in-Ok-clause-leaves
returns-in-Ok-clause-leaves c = subst (λ (o : EncodeOrder). (s : Config) → IsConfigured s c.args.far.now
    → InstallLeaves s c.args.far.now c.install_made.new.far (Some (Encode o)))
    (rw c.in-Ok.is at (c.run_encode.ensures.order)) c.install_made.ensures.leaves

pub returns-in-Err-clause-ends : goal.returns-in-Err-clause-ends
returns-in-Err-clause-ends c = install_not_run c.args.far.now c.not_run.new.far c.args.order _ _
    (c.not_run.ensures.keeps ∙ ap (λ (o : EncodeOrder). Some (Encode o))
    (rw c.in-Err.is at (c.run_encode.ensures.back)))
    (as_not_run c.args.far.now Install c.not_run.result.1 c.not_run.new.far c.not_run.ensures.late
    c.not_run.ensures.lacks)

pub returns-in-Err-clause-leaves : goal.returns-in-Err-clause-leaves
returns-in-Err-clause-leaves c = λ s configured. not_run_leaves s c.args.far.now c.not_run.new.far _
    c.not_run.result.1 c.requires.counted
    (as_not_run c.args.far.now Install c.not_run.result.1 c.not_run.new.far c.not_run.ensures.late
    c.not_run.ensures.lacks) configured
