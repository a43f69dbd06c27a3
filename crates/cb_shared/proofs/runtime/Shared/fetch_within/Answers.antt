use Rattle.std.proofs.Common.{◌∙◌, Option, ap, subst}
use Rattle.cb_types.specs.declared.job.Job.TheVariants.{Fetch}
use Rattle.cb_types.specs.declared.order.Kept.{Kept}
use Rattle.cb_shared.specs.declared.asked.Asked.TheVariants as asks
use Rattle.cb_shared.specs.declared.asked.Outcome.{Outcome}
use Rattle.cb_shared.specs.Ordering.{CanRun, IsAnswered, handed_by, keeps_of, told}
use Rattle.cb_shared.specs.Passes.{record_of}
use Rattle.cb_shared.specs.Turning.{TurnBy}
use Rattle.cb_shared.proofs.runtime.Shared.fetch_within.Goals as goal

pub ask-outcome-requires-clause-may : goal.ask-outcome-requires-clause-may
ask-outcome-requires-clause-may g c = c.requires.handle

pub into_fetching-requires : goal.into_fetching-requires
into_fetching-requires g c = c.ask-outcome.ensures.kind

pub returns-clause-turn : goal.returns-clause-turn
returns-clause-turn g c = subst (λ (o : Outcome). TurnBy c.args.self.now.config (Fetch c.args.h)
    (told o) (record_of c.args.pass.now) (record_of c.ask-outcome.new.pass))
    c.into_fetching.ensures c.ask-outcome.ensures.turn

pub returns-clause-keeps : goal.returns-clause-keeps
returns-clause-keeps g c = ◌∙◌ {A = Option Kept} c.ask-outcome.ensures.keeps
    (ap (λ (o : Outcome). keeps_of o (record_of c.args.pass.now).order) c.into_fetching.ensures)

pub returns-clause-plain : goal.returns-clause-plain
returns-clause-plain g c = (subst (IsAnswered (asks.Fetch c.args.h))
    c.into_fetching.ensures c.ask-outcome.ensures.kind).0

pub returns-clause-runs : goal.returns-clause-runs
returns-clause-runs g c = subst (λ (o : Outcome). CanRun (handed_by o)) c.into_fetching.ensures
    c.ask-outcome.ensures.runs
