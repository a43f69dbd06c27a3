use Rattle.std.proofs.Common.{◌∙◌, ap, subst}
use Rattle.cb_types.specs.declared.job.Job.TheVariants.{Install}
use Rattle.cb_shared.specs.declared.asked.Outcome.{Outcome}
use Rattle.cb_shared.specs.Ordering.{keeps_of, told}
use Rattle.cb_shared.specs.Passes.{record_of}
use Rattle.cb_shared.specs.Turning.{TurnBy}
use Rattle.cb_shared.proofs.runtime.Shared.install.Goals as goal

pub ask-outcome-requires-clause-may : goal.ask-outcome-requires-clause-may
ask-outcome-requires-clause-may g c = c.requires.kept

pub into_installed-requires : goal.into_installed-requires
into_installed-requires g c = c.ask-outcome.ensures.kind

pub returns-clause-turn : goal.returns-clause-turn
returns-clause-turn g c = subst (λ (o : Outcome). TurnBy c.args.self.now.config Install (told o)
    (record_of c.args.pass.now) (record_of c.ask-outcome.new.pass)) c.into_installed.ensures
    c.ask-outcome.ensures.turn

pub returns-clause-keeps : goal.returns-clause-keeps
returns-clause-keeps g c = c.ask-outcome.ensures.keeps
    ∙ ap (λ (o : Outcome). keeps_of o (record_of c.args.pass.now).order)
    c.into_installed.ensures
