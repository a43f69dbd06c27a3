use Rattle.std.proofs.lemmas.Result.{IfOk-from_err}
use Rattle.cb_evict.proofs.Composed.{any_err}
use Rattle.cb_evict.proofs.BeginParts.{forgets}
use Rattle.cb_world.specs.Sound.{Sound}
use Rattle.cb_evict.proofs.beginning.begin.Goals as goal

pub begin_with-requires-clause-config : goal.begin_with-requires-clause-config
begin_with-requires-clause-config g c = c.requires.config

pub begin_with-requires-clause-configured : goal.begin_with-requires-clause-configured
begin_with-requires-clause-configured g c = c.requires.configured

pub begin_with-requires-clause-counts : goal.begin_with-requires-clause-counts
begin_with-requires-clause-counts g c = c.requires.counts

pub begin_with-requires-clause-sound : goal.begin_with-requires-clause-sound
begin_with-requires-clause-sound g c = c.requires.sound

pub returns-in_err-begun-clause-begun : goal.returns-in_err-begun-clause-begun
returns-in_err-begun-clause-begun g c = IfOk-from_err _ _ c.from_residual.ensures.0

pub returns-in_err-begun-clause-error : goal.returns-in_err-begun-clause-error
returns-in_err-begun-clause-error g c = any_err _ _ c.in_err-begun.ensures.error

pub returns-in_err-begun-clause-unchanged : goal.returns-in_err-begun-clause-unchanged
returns-in_err-begun-clause-unchanged g c = any_err _ _ c.in_err-begun.ensures.unchanged

pub returns-in_err-begun-clause-none : goal.returns-in_err-begun-clause-none
returns-in_err-begun-clause-none g c = any_err _ _ c.in_err-begun.ensures.none

pub returns-clause-begun : goal.returns-clause-begun
returns-clause-begun g c =
    forgets c.args.far.now c.begin_with.new.far c.in_ok-begun.begun _
    (λ es. g.D.Desk.run c.args.desk.now es c.begin_with.new.desk)
    (λ s. g.D.Desk.shows c.args.desk.now s × Sound s c.args.far.now)
    (λ t. Sound t c.begin_with.new.far) c.into_reply.ensures c.in_ok-begun.ensures.begun

pub returns-clause-error : goal.returns-clause-error
returns-clause-error g c = tt

pub returns-clause-unchanged : goal.returns-clause-unchanged
returns-clause-unchanged g c = tt

pub returns-clause-none : goal.returns-clause-none
returns-clause-none g c = tt
