use Rattle.std.proofs.Common.{inl, refl, sym, subst}
use Rattle.cb_types.specs.Config.{IsAccepted}
use Rattle.cb_core.specs.Events.{IsEvent}
use Rattle.carbink_c.specs.Asked.{event_by}
use Rattle.carbink_c.proofs.Worlds.{event_ended}
use Rattle.carbink_c.proofs.stepping.come.Goals as goal

pub event_of-requires-clause-accepted : goal.event_of-requires-clause-accepted
event_of-requires-clause-accepted c = subst IsAccepted (sym c.requires.settings) c.requires.sound.config

pub answered-requires-clause-event : goal.answered-requires-clause-event
answered-requires-clause-event c =
    subst (IsEvent c.args.world.now.desk.settings) (sym c.in-Ok.ensures)
    (subst (λ s. IsEvent s (event_by c.args.verb c.args.asked.now c.args.bytes.now)) c.requires.settings c.requires.may)

pub returns-in-Ok-clause-ends : goal.returns-in-Ok-clause-ends
returns-in-Ok-clause-ends c =
    event_ended c.args.verb c.args.asked.now c.args.bytes.now c.args.world.now c.answered.new.world (record { reply = c.args.reply.now; room = c.args.room.now })
    (record { reply = c.answered.new.reply; room = c.answered.new.room }) c.in-Ok.event c.answered.result
    (record { asked = c.requires.asked; may = subst (λ s. IsEvent s (event_by c.args.verb c.args.asked.now c.args.bytes.now)) c.requires.settings c.requires.may; large = c.requires.large })
    c.in-Ok.ensures c.answered.ensures.ends

pub returns-in-Err-clause-ends : goal.returns-in-Err-clause-ends
returns-in-Err-clause-ends c =
    (c.args.verb, c.requires.asked, subst (λ s. IsEvent s (event_by c.args.verb c.args.asked.now c.args.bytes.now)) c.requires.settings c.requires.may, c.requires.large, inl (refl, refl))
