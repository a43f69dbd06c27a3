use Rattle.std.proofs.Common.{◌∙◌, ap, subst}
use Rattle.cb_types.specs.declared.job.Job.TheVariants.{Land}
use Rattle.cb_shared.specs.declared.asked.Outcome.{Outcome}
use Rattle.cb_shared.specs.Ordering.{keeps_of, told}
use Rattle.cb_shared.specs.Passes.{record_of}
use Rattle.cb_shared.specs.Turning.{TurnBy}
use Rattle.cb_shared.proofs.Handed.{land_frames}
use Rattle.cb_shared.proofs.runtime.Shared.land.Goals as goal

pub ask-outcome-requires-clause-may : goal.ask-outcome-requires-clause-may
ask-outcome-requires-clause-may g c = c.requires.kept

pub into_landed-requires : goal.into_landed-requires
into_landed-requires g c = c.ask-outcome.ensures.kind

pub returns-clause-no_frame : goal.returns-clause-no_frame
returns-clause-no_frame g c = land_frames c.ask-outcome.result c.into_landed.result
    c.into_landed.ensures c.ask-outcome.ensures.kind

pub returns-clause-turn : goal.returns-clause-turn
returns-clause-turn g c = subst (λ (o : Outcome). TurnBy c.args.self.now.config Land (told o)
    (record_of c.args.pass.now) (record_of c.ask-outcome.new.pass)) c.into_landed.ensures
    c.ask-outcome.ensures.turn

pub returns-clause-keeps : goal.returns-clause-keeps
returns-clause-keeps g c = c.ask-outcome.ensures.keeps
    ∙ ap (λ (o : Outcome). keeps_of o (record_of c.args.pass.now).order) c.into_landed.ensures
