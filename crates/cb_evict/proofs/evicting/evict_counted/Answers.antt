use Rattle.std.proofs.lemmas.Result.{IfOk-from_err}
use Rattle.std.proofs.Common.{List, sym, subst, refl}
use Rattle.cb_types.specs.Config.{IsAccepted}
use Rattle.cb_types.specs.declared.config.Config.{Config}
use Rattle.cb_world.specs.declared.access.Access.{Access}
use Rattle.cb_world.specs.declared.leaving.Former.{Former}
use Rattle.cb_world.specs.declared.shown.Shown.{Shown}
use Rattle.cb_world.specs.FarState.{FarState}
use Rattle.cb_world.specs.Performs.{Performs}
use Rattle.cb_world.specs.Sound.{Sound}
use Rattle.cb_world.specs.Still.{IsStill}
use Rattle.cb_world.specs.World.{IsConfigured}
use Rattle.cb_evict.specs.declared.eviction.Eviction.TheVariants.{Refused}
use Rattle.cb_evict.specs.Evicting.{IsReadyToEvict, TouchesSpans}
use Rattle.cb_evict.specs.Taking.{AreLooseNow, Takes}
use Rattle.cb_evict.proofs.Composed.{any_err, both_err, evicts_as, if_ok, leaves_as, on_err, taken_as, taken_enough, takes_evict, takes_fail, takes_few, tried_ready}
use Rattle.cb_evict.proofs.CallParts.{joins}
use Rattle.cb_evict.proofs.evicting.evict_counted.Goals as goal

pub take_spans-requires-clause-config : goal.take_spans-requires-clause-config
take_spans-requires-clause-config g c = c.requires.config

pub take_spans-requires-clause-configured : goal.take_spans-requires-clause-configured
take_spans-requires-clause-configured g c = c.requires.configured

pub take_spans-requires-clause-sound : goal.take_spans-requires-clause-sound
take_spans-requires-clause-sound g c = c.requires.sound

pub returns-in_err-taken-clause-evict : goal.returns-in_err-taken-clause-evict
returns-in_err-taken-clause-evict g c = IfOk-from_err _ _ c.from_residual.ensures.0

pub returns-in_err-taken-clause-error : goal.returns-in_err-taken-clause-error
returns-in_err-taken-clause-error g c = any_err _ _ c.in_err-taken.ensures.error

pub returns-in_err-taken-clause-unchanged : goal.returns-in_err-taken-clause-unchanged
returns-in_err-taken-clause-unchanged g c = any_err _ _ refl

pub returns-in-Few-clause-evict : goal.returns-in-Few-clause-evict
returns-in-Few-clause-evict g c =
    let runs = λ (es : List Access). g.D.Desk.run c.args.desk.now es c.take_spans.new.desk in
    let shows = λ (s : Shown). g.D.Desk.shows c.args.desk.now s in
    takes_few c.args.far.now
    (Refused c.in-Few.lack c.in-Few.loose c.in-Few.nodes) runs shows
    (subst (Takes runs shows c.args.far.now
    (AreLooseNow c.args.far.now)) c.in-Few.is c.in_ok-taken.ensures.taken)

pub returns-in-Few-clause-error : goal.returns-in-Few-clause-error
returns-in-Few-clause-error g c = tt

pub returns-in-Few-clause-unchanged : goal.returns-in-Few-clause-unchanged
returns-in-Few-clause-unchanged g c = tt

pub evict_claimed-requires-clause-config : goal.evict_claimed-requires-clause-config
evict_claimed-requires-clause-config g c =
    let taken = taken_enough _ _ _ _ _ _ _ c.in-Enough.is c.in_ok-taken.ensures.taken in
    let stays = g.met.D.Desk.stays _ _ taken.tries.events taken.tries.ran in
    subst IsAccepted (sym stays) c.requires.config

pub evict_claimed-requires-clause-configured : goal.evict_claimed-requires-clause-configured
evict_claimed-requires-clause-configured g c =
    let taken = taken_enough _ _ _ _ _ _ _ c.in-Enough.is c.in_ok-taken.ensures.taken in
    let stays = g.met.D.Desk.stays _ _ taken.tries.events taken.tries.ran in
    subst (λ (n : Config). IsConfigured n c.args.far.now) (sym stays) c.requires.configured

pub evict_claimed-requires-clause-counts : goal.evict_claimed-requires-clause-counts
evict_claimed-requires-clause-counts g c = c.requires.counts

pub evict_claimed-requires-clause-room : goal.evict_claimed-requires-clause-room
evict_claimed-requires-clause-room g c =
    let taken = taken_enough _ _ _ _ _ _ _ c.in-Enough.is c.in_ok-taken.ensures.taken in
    let stays = g.met.D.Desk.stays _ _ taken.tries.events taken.tries.ran in
    taken.room

pub evict_claimed-requires-clause-taken : goal.evict_claimed-requires-clause-taken
evict_claimed-requires-clause-taken g c =
    let taken = taken_enough _ _ _ _ _ _ _ c.in-Enough.is c.in_ok-taken.ensures.taken in
    let stays = g.met.D.Desk.stays _ _ taken.tries.events taken.tries.ran in
    taken_as c.args.far.now _ _ _ _ c.deref.ensures.value
    c.deref-in-Enough.ensures.value taken.taken

pub evict_claimed-requires-clause-ready : goal.evict_claimed-requires-clause-ready
evict_claimed-requires-clause-ready g c =
    let taken = taken_enough _ _ _ _ _ _ _ c.in-Enough.is c.in_ok-taken.ensures.taken in
    let x = taken.tries in let s = c.requires.sound.0 in (
      x.events,
      s,
      subst (λ (l : List Former). IsReadyToEvict (λ t. g.D.Desk.shows c.take_spans.new.desk t) c.args.far.now l x.events s)
          (sym c.deref-in-Enough.ensures.value)
          (tried_ready c.args.far.now c.in-Enough.formers.items (AreLooseNow c.args.far.now taken.loose) x s
          (g.met.D.Desk.follows _ _ x.events s x.ran c.requires.sound.1).1
          c.requires.sound.1 c.requires.sound.2),
    )

pub returns-in-Enough-clause-evict : goal.returns-in-Enough-clause-evict
returns-in-Enough-clause-evict g c =
    let taken = taken_enough _ _ _ _ _ _ _ c.in-Enough.is c.in_ok-taken.ensures.taken in
    let stays = g.met.D.Desk.stays _ _ taken.tries.events taken.tries.ran in
    if_ok _ _ _ c.evict_claimed.result c.evict_claimed.ensures.set c.evict_claimed.ensures.evict
    (λ e is y. takes_evict e (joins (λ es fs a b. g.met.D.Desk.more _ _ _ _ _ a b)
    (λ es s ran a. (g.met.D.Desk.follows _ _ es s ran a).1)) taken
    (evicts_as _ _ c.args.far.now c.evict_claimed.new.far _ _ _ _
    c.deref.ensures.value c.deref-in-Enough.ensures.value y)
    is c.requires.sound)

pub returns-in-Enough-clause-error : goal.returns-in-Enough-clause-error
returns-in-Enough-clause-error g c =
    let taken = taken_enough _ _ _ _ _ _ _ c.in-Enough.is c.in_ok-taken.ensures.taken in
    on_err _ _ c.evict_claimed.result
    (both_err _ _ c.evict_claimed.result c.evict_claimed.ensures.error c.evict_claimed.ensures.unchanged)
    (λ (y, same).
    subst (λ (far : FarState). Performs
    (λ es. g.D.Desk.run c.args.desk.now es c.evict_claimed.new.desk)
    (λ s. g.D.Desk.shows c.args.desk.now s × Sound s c.args.far.now) (TouchesSpans c.args.far.now)
    (λ t. Sound t far) IsStill) (sym same)
    (takes_fail (joins (λ es fs a b. g.met.D.Desk.more _ _ _ _ _ a b)
    (λ es s ran a. (g.met.D.Desk.follows _ _ es s ran a).1)) taken
    (leaves_as _ _ c.args.far.now _ _ _ _ c.deref.ensures.value c.deref-in-Enough.ensures.value y)))

pub returns-in-Enough-clause-unchanged : goal.returns-in-Enough-clause-unchanged
returns-in-Enough-clause-unchanged g c = c.evict_claimed.ensures.unchanged
