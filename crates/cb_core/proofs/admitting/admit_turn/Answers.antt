use Rattle.std.proofs.Common.{refl, sym, subst}
use Rattle.cb_world.specs.World.{IsSoundWorld}
use Rattle.cb_core.specs.Admitting.{all_counted, other_holds}
use Rattle.cb_core.proofs.Admitted.{admitted_sound}
use Rattle.cb_core.proofs.admitting.admit_turn.Goals as goal

pub returns-in-Some-clause-refused : goal.returns-in-Some-clause-refused
returns-in-Some-clause-refused c =
    other_holds c.in-Some.holder c.in-Some.ensures.found.0 c.in-Some.ensures.found.1 refl

pub returns-then-counts-clause-admitted : goal.returns-then-counts-clause-admitted
returns-then-counts-clause-admitted c =
    let done = c.counts.ensures.done c.if-counts.true in record {
      few = done.0;
      free = c.in-None.ensures.none;
      state = done.1;
    }

pub returns-then-counts-clause-sound : goal.returns-then-counts-clause-sound
returns-then-counts-clause-sound c =
    let done = c.counts.ensures.done c.if-counts.true in
    subst IsSoundWorld (sym done.1)
    (admitted_sound c.args.world.now c.args.job.now c.requires.sound done.0)

pub returns-else-counts-clause-refused : goal.returns-else-counts-clause-refused
returns-else-counts-clause-refused c = all_counted c.in-None.ensures.none
    (c.counts.ensures.worn c.if-counts.false).0 refl

pub returns-else-counts-clause-same : goal.returns-else-counts-clause-same
returns-else-counts-clause-same c = (c.counts.ensures.worn c.if-counts.false).1

pub returns-else-counts-clause-sound : goal.returns-else-counts-clause-sound
returns-else-counts-clause-sound c =
    subst IsSoundWorld (sym (c.counts.ensures.worn c.if-counts.false).1) c.requires.sound
