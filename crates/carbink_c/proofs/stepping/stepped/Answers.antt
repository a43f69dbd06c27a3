use Rattle.std.proofs.Common.{ap, sym, subst}
use Rattle.cb_world.specs.World.{IsSoundWorld}
use Rattle.carbink_c.proofs.Worlds.{sound_kept, sound_left, step_ended}
use Rattle.carbink_c.proofs.stepping.stepped.Goals as goal

pub taken-outcome-requires : goal.taken-outcome-requires
taken-outcome-requires c =
    record {
      sound = subst IsSoundWorld (sym (ap (λ held. held.world) c.deref_mut.ensures.value))
          (sound_kept c.args.world.now.kept.world c.in-Some.held.value (sym (rw c.in-Some.is at c.take.ensures.world)) c.requires.sound);
    }

pub returns-in-Some-clause-ends : goal.returns-in-Some-clause-ends
returns-in-Some-clause-ends c =
    step_ended c.args.asked.now c.args.bytes.now c.args.world.now.kept.world c.put.new.self.kept.world c.in-Some.held.value (record { world = c.taken-outcome.new.world })
    (record { reply = c.args.reply.now; room = c.args.room.now }) (record { reply = c.taken-outcome.new.reply; room = c.taken-outcome.new.room }) c.taken-outcome.result
    (sym (rw c.in-Some.is at c.take.ensures.world)) c.put.ensures
    (rw c.deref_mut.ensures.value at c.taken-outcome.ensures.ends)

pub returns-in-Some-clause-sound : goal.returns-in-Some-clause-sound
returns-in-Some-clause-sound c = sound_left c.put.new.self.kept.world (record { world = c.taken-outcome.new.world }) c.put.ensures c.taken-outcome.ensures.sound
