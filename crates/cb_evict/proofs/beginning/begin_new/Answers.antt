use Rattle.std.proofs.lemmas.Result.{IfOk-from_err}
use Rattle.std.proofs.Common.{List, sym, subst, refl}
use Rattle.cb_types.specs.Config.{IsAccepted}
use Rattle.cb_types.specs.declared.config.Config.{Config}
use Rattle.cb_world.specs.declared.access.Access.{Access}
use Rattle.cb_world.specs.declared.shown.Shown.{Shown}
use Rattle.cb_world.specs.FarState.{FarState}
use Rattle.cb_world.specs.Performs.{Performs}
use Rattle.cb_world.specs.Sound.{Sound}
use Rattle.cb_world.specs.Still.{IsStill}
use Rattle.cb_world.specs.World.{IsConfigured}
use Rattle.cb_evict.specs.declared.eviction.Eviction.TheVariants.{Refused}
use Rattle.cb_evict.specs.Evicting.{TouchesSpans}
use Rattle.cb_evict.specs.Taking.{AreLooseNow, Takes}
use Rattle.cb_evict.proofs.BeginParts.{begin_few, takes_begin}
use Rattle.cb_evict.proofs.Composed.{any_err, taken_as, taken_enough, takes_fail, tried_ready}
use Rattle.cb_evict.proofs.CallParts.{joins}
use Rattle.cb_evict.proofs.beginning.begin_new.Goals as goal

pub take_spans-requires-clause-config : goal.take_spans-requires-clause-config
take_spans-requires-clause-config g c = c.requires.config

pub take_spans-requires-clause-configured : goal.take_spans-requires-clause-configured
take_spans-requires-clause-configured g c = c.requires.configured

pub take_spans-requires-clause-sound : goal.take_spans-requires-clause-sound
take_spans-requires-clause-sound g c = c.requires.sound

pub returns-in_err-taken-clause-begun : goal.returns-in_err-taken-clause-begun
returns-in_err-taken-clause-begun g c = IfOk-from_err _ _ c.from_residual.ensures.0

pub returns-in_err-taken-clause-error : goal.returns-in_err-taken-clause-error
returns-in_err-taken-clause-error g c = any_err _ _ c.in_err-taken.ensures.error

pub returns-in_err-taken-clause-unchanged : goal.returns-in_err-taken-clause-unchanged
returns-in_err-taken-clause-unchanged g c = any_err _ _ refl

pub returns-in-Few-clause-begun : goal.returns-in-Few-clause-begun
returns-in-Few-clause-begun g c =
    let runs = λ (es : List Access). g.D.Desk.run c.args.desk.now es c.take_spans.new.desk in
    let shows = λ (s : Shown). g.D.Desk.shows c.args.desk.now s in
    begin_few c.args.far.now c.args.made c.refusal.result
    (Refused c.in-Few.lack c.in-Few.loose c.in-Few.nodes) runs shows c.requires.none c.refusal.ensures
    (subst (Takes runs shows c.args.far.now
    (AreLooseNow c.args.far.now)) c.in-Few.is c.in_ok-taken.ensures.taken)

pub returns-in-Few-clause-error : goal.returns-in-Few-clause-error
returns-in-Few-clause-error g c = tt

pub returns-in-Few-clause-unchanged : goal.returns-in-Few-clause-unchanged
returns-in-Few-clause-unchanged g c = tt

pub begin_claimed-requires-clause-config : goal.begin_claimed-requires-clause-config
begin_claimed-requires-clause-config g c =
    let taken = taken_enough _ _ _ _ _ _ _ c.in-Enough.is c.in_ok-taken.ensures.taken in
    let stays = g.met.D.Desk.stays _ _ taken.tries.events taken.tries.ran in
    subst IsAccepted (sym stays) c.requires.config

pub begin_claimed-requires-clause-configured : goal.begin_claimed-requires-clause-configured
begin_claimed-requires-clause-configured g c =
    let taken = taken_enough _ _ _ _ _ _ _ c.in-Enough.is c.in_ok-taken.ensures.taken in
    let stays = g.met.D.Desk.stays _ _ taken.tries.events taken.tries.ran in
    subst (λ (n : Config). IsConfigured n c.args.far.now) (sym stays) c.requires.configured

pub begin_claimed-requires-clause-counts : goal.begin_claimed-requires-clause-counts
begin_claimed-requires-clause-counts g c = c.requires.counts

pub begin_claimed-requires-clause-none : goal.begin_claimed-requires-clause-none
begin_claimed-requires-clause-none g c = c.requires.none

pub begin_claimed-requires-clause-taken : goal.begin_claimed-requires-clause-taken
begin_claimed-requires-clause-taken g c =
    let taken = taken_enough _ _ _ _ _ _ _ c.in-Enough.is c.in_ok-taken.ensures.taken in
    let stays = g.met.D.Desk.stays _ _ taken.tries.events taken.tries.ran in
    taken_as c.args.far.now _ _ _ _ refl refl taken.taken

pub begin_claimed-requires-clause-ready : goal.begin_claimed-requires-clause-ready
begin_claimed-requires-clause-ready g c =
    let taken = taken_enough _ _ _ _ _ _ _ c.in-Enough.is c.in_ok-taken.ensures.taken in
    let x = taken.tries in let s = c.requires.sound.0 in (
      x.events,
      s,
      tried_ready c.args.far.now c.in-Enough.formers.items (AreLooseNow c.args.far.now taken.loose) x s
          (g.met.D.Desk.follows _ _ x.events s x.ran c.requires.sound.1).1
          c.requires.sound.1 c.requires.sound.2,
    )

pub returns-in_err-order-in-Enough-clause-begun : goal.returns-in_err-order-in-Enough-clause-begun
returns-in_err-order-in-Enough-clause-begun g c = IfOk-from_err _ _ c.from_residual-in_err-order-in-Enough.ensures.0

pub returns-in_err-order-in-Enough-clause-error : goal.returns-in_err-order-in-Enough-clause-error
returns-in_err-order-in-Enough-clause-error g c =
    let taken = taken_enough _ _ _ _ _ _ _ c.in-Enough.is c.in_ok-taken.ensures.taken in
    any_err _ _ (subst (λ (far : FarState). Performs
    (λ es. g.D.Desk.run c.args.desk.now es c.begin_claimed.new.desk)
    (λ s. g.D.Desk.shows c.args.desk.now s × Sound s c.args.far.now) (TouchesSpans c.args.far.now)
    (λ t. Sound t far) IsStill) (sym c.in_err-order-in-Enough.ensures.unchanged)
    (takes_fail (joins (λ es fs a b. g.met.D.Desk.more _ _ _ _ _ a b)
    (λ es s ran a. (g.met.D.Desk.follows _ _ es s ran a).1)) taken
    c.in_err-order-in-Enough.ensures.error))

pub returns-in_err-order-in-Enough-clause-unchanged : goal.returns-in_err-order-in-Enough-clause-unchanged
returns-in_err-order-in-Enough-clause-unchanged g c =
    any_err _ _ c.in_err-order-in-Enough.ensures.unchanged

pub returns-in_ok-order-in-Enough-clause-begun : goal.returns-in_ok-order-in-Enough-clause-begun
returns-in_ok-order-in-Enough-clause-begun g c =
    let taken = taken_enough _ _ _ _ _ _ _ c.in-Enough.is c.in_ok-taken.ensures.taken in
    takes_begin (joins (λ es fs a b. g.met.D.Desk.more _ _ _ _ _ a b)
    (λ es s ran a. (g.met.D.Desk.follows _ _ es s ran a).1)) taken
    c.in_ok-order-in-Enough.ensures.begun c.requires.none c.requires.sound

pub returns-in_ok-order-in-Enough-clause-error : goal.returns-in_ok-order-in-Enough-clause-error
returns-in_ok-order-in-Enough-clause-error g c = tt

pub returns-in_ok-order-in-Enough-clause-unchanged : goal.returns-in_ok-order-in-Enough-clause-unchanged
returns-in_ok-order-in-Enough-clause-unchanged g c = tt
