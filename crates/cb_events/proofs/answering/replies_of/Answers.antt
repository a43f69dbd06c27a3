use Rattle.std.proofs.Common.{sym, subst}
use Rattle.std.specs.List.{AllByRecursion}
use Rattle.cb_world.specs.World.{WorldState, IsSoundWorld}
use Rattle.cb_world.proofs.Laws.{empty_world_sound}
use Rattle.cb_core.specs.Events.{IsEvent}
use Rattle.cb_events.proofs.Replied.{from_empty}
use Rattle.cb_events.proofs.answering.replies_of.Goals as goal

pub run-replies-requires-clause-sound : goal.run-replies-requires-clause-sound
run-replies-requires-clause-sound c = subst IsSoundWorld (sym c.in_ok-world.ensures.empty)
    (empty_world_sound c.args.config c.requires.accepted)

pub run-replies-requires-clause-events : goal.run-replies-requires-clause-events
run-replies-requires-clause-events c =
    subst (λ (w : WorldState). AllByRecursion (IsEvent w.desk.settings) c.args.events.now)
    (sym c.in_ok-world.ensures.empty) c.requires.events

pub returns : goal.returns
returns c = from_empty c.run-replies.result c.args.config c.in_ok-world.world c.run-replies.new.world
    c.args.events.now c.in_ok-world.ensures.empty c.run-replies.ensures.leads
