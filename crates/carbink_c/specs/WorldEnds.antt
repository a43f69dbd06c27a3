-- How the calls on a world end, and what each leaves.
use Rattle.std.specs.Prelude.{◌≡◌, ◌⊎◌, ℕ, ◌<◌, ◌≤◌, List, ◌++◌, length, drop, Option, None, Some, IsSome}
use Rattle.cb_types.specs.Config.{IsAccepted, IsFirstOutOfRange, most_bytes}
use Rattle.cb_types.specs.declared.config.Config.{Config}
use Rattle.cb_types.specs.declared.reply.Reply.{Reply}
use Rattle.cb_world.specs.World.{WorldState, empty_world}
use Rattle.cb_core.specs.declared.event.Event.{Event}
use Rattle.cb_core.specs.Events.{IsEvent}
use Rattle.cb_core.specs.Run.{LeavesAsBefore}
use Rattle.cb_core.specs.Step.{Step, EventStops}
use Rattle.cb_core.specs.Unavailable.{TellsUnavailable}
use Rattle.carbink_c.specs.declared.beginning.CarbinkConfig.{CarbinkConfig}
use Rattle.carbink_c.specs.declared.event.CarbinkEvent.{CarbinkEvent}
use Rattle.carbink_c.specs.declared.event.Verb.{Verb}
use Rattle.carbink_c.specs.declared.outcome.Outcome.{Outcome}
use Rattle.carbink_c.specs.declared.outcome.Outcome.TheVariants.{Done, BadBuffer, NoMemory, NoWorld, HasWorld, BadVerb, BadSeat, BadArgument, BadSize}
use Rattle.carbink_c.specs.declared.reply.CarbinkReply.{CarbinkReply}
use Rattle.carbink_c.specs.Asked.{verb_number, event_by}
use Rattle.carbink_c.specs.Told.{bytes_of, told_reply}

-- the configuration of these sizes, without workers
abbrev pub config_of : CarbinkConfig → Config
config_of c = record {
  k = c.k;
  r = c.r;
  nodes = c.nodes;
  frames = c.frames;
  room = c.room;
  handles = c.handles;
  turns = 0;
}

-- A world is made where there was none: it is the empty one of the configuration. A handle with a
-- world, then the first size that is out of its range, then running out of memory are told, and all
-- stays.
abbrev pub NewEnds : Config → Option WorldState → Option WorldState → Outcome → Type 0
NewEnds c old new Done = (old ≡ None) × IsAccepted c × (new ≡ Some (empty_world c))
NewEnds c old new HasWorld = IsSome old × (new ≡ old)
NewEnds c old new (BadSize field) = (old ≡ None) × IsFirstOutOfRange c field × (new ≡ old)
NewEnds c old new NoMemory = (old ≡ None) × IsAccepted c × (new ≡ old)
NewEnds c old new outcome = ⊥

-- how many rows the nodes have given out is told of a world
abbrev pub GivenEnds : Option WorldState → ℕ → ℕ → Outcome → Type 0
GivenEnds world old new Done = (w : WorldState) × (world ≡ Some w) × (new ≡ w.far.nodes.given)
GivenEnds world old new NoWorld = (world ≡ None) × (new ≡ old)
GivenEnds world old new outcome = ⊥

-- where a caller is told a reply: its kind and numbers, and its bytes
pub record Place : Type 0 where
  pub reply : CarbinkReply
  pub room : List ℕ

-- the reply is told, with its bytes at the front of the room and the rest as it was
abbrev pub TellsReply : Reply → Place → Place → Type 0
TellsReply r old new = (new.reply ≡ told_reply r)
    × (new.room ≡ bytes_of r ++ drop (length (bytes_of r)) old.room)

-- the event takes place, with this reply, which tells exactly where an object is lost
pub record TakesPlace (w : WorldState) (e : Event) (r : Reply) (v : WorldState) : Type 0 where
  pub step : Step w e r v
  pub unavailable : TellsUnavailable w e r

-- An event that may come takes place, and its reply is told; or it finds no memory, what each
-- object holds is as before, and nothing is told.
abbrev pub AnswerEnds : Event → WorldState → WorldState → Place → Place → Outcome → Type 0
AnswerEnds e w v old new Done = (r : Reply) × TakesPlace w e r v × TellsReply r old new
AnswerEnds e w v old new NoMemory = EventStops w e v × LeavesAsBefore w e v × (new ≡ old)
AnswerEnds e w v old new outcome = ⊥

-- an event is asked for that the seat may have
abbrev pub IsAsked : Verb → CarbinkEvent → Type 0
IsAsked verb a = (a.verb ≡ verb_number verb) × (a.seat < 64)

-- An event with these numbers and bytes: a verb that there is none of, a seat that there is none
-- of, an argument that the verb does not take and a room of fewer bytes than an object may have
-- are told, the first of them, and nothing changes. Else the event may come.
abbrev pub EventEnds : CarbinkEvent → List ℕ → WorldState → WorldState → Place → Place → Outcome
    → Type 0
EventEnds a bytes w v old new BadVerb =
    ((verb : Verb) → a.verb ≡ verb_number verb → ⊥) × (v ≡ w) × (new ≡ old)
EventEnds a bytes w v old new BadSeat =
    ((verb : Verb) × (a.verb ≡ verb_number verb)) × (64 ≤ a.seat) × (v ≡ w) × (new ≡ old)
EventEnds a bytes w v old new BadArgument = ((verb : Verb) × IsAsked verb a
    × ¬ (IsEvent w.desk.settings (event_by verb a bytes))) × (v ≡ w) × (new ≡ old)
EventEnds a bytes w v old new BadBuffer = ((verb : Verb) × IsAsked verb a
    × IsEvent w.desk.settings (event_by verb a bytes)) × (length old.room < most_bytes) × (v ≡ w)
    × (new ≡ old)
EventEnds a bytes w v old new NoMemory = (verb : Verb) × IsAsked verb a
    × IsEvent w.desk.settings (event_by verb a bytes) × (most_bytes ≤ length old.room)
    × (((v ≡ w) × (new ≡ old)) ⊎ AnswerEnds (event_by verb a bytes) w v old new NoMemory)
EventEnds a bytes w v old new outcome = (verb : Verb) × IsAsked verb a
    × IsEvent w.desk.settings (event_by verb a bytes) × (most_bytes ≤ length old.room)
    × AnswerEnds (event_by verb a bytes) w v old new outcome

-- a handle without a world is told before all else
abbrev pub StepEnds : CarbinkEvent → List ℕ → Option WorldState → Option WorldState → Place → Place
    → Outcome → Type 0
StepEnds a bytes world left old new NoWorld = (world ≡ None) × (left ≡ None) × (new ≡ old)
StepEnds a bytes world left old new outcome = (w v : WorldState) × (world ≡ Some w)
    × (left ≡ Some v) × EventEnds a bytes w v old new outcome
