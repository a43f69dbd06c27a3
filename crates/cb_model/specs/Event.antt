-- What the answer to a line tells of the map.
use Rattle.std.specs.Prelude.{ℕ, List, [], ◌∷◌, Option, Some, None}
use Rattle.cb_types.specs.declared.request.Request.{Request}
use Rattle.cb_types.specs.declared.request.Request.TheVariants.{Make, Read, Write, Free, Pin, Peek, Unpin, Filter}
use Rattle.cb_types.specs.declared.reply.Reply.{Reply}
use Rattle.cb_types.specs.declared.reply.Reply.TheVariants as reply
use Rattle.cb_model.specs.Now.{Change}
use Rattle.cb_model.specs.Now.Change.{Create, Overwrite, Remove}

-- what a line is about: a new object, the contents of an object, an object in another way, or none
pub data Subject : Type 0 where
  NewObject : Subject
  Contents : Subject
  Other : Subject
  Nothing : Subject

-- What was answered: a reply of the map, another refusal, or a reply that such a line never has.
pub data Event : Type 0 where
  Makes : (bytes : List ℕ) → (version : ℕ) → Event
  Shows : (version : ℕ) → (bytes : List ℕ) → Event
  Pins : (version : ℕ) → Event
  Writes : (at : ℕ) → (bytes : List ℕ) → (version : ℕ) → Event
  Frees : (version : ℕ) → Event
  FindsFull : (handles : ℕ) → Event
  FindsUnmade : Event
  FindsFreed : Event
  FindsEnd : (at : ℕ) → (bytes : List ℕ) → (len : ℕ) → Event
  Refused : Subject → Event
  Wrong : Event

abbrev pub subject_of : Request → Subject
subject_of (Make name bytes) = NewObject
subject_of (Read name) = Contents
subject_of (Write name at bytes) = Contents
subject_of (Free name) = Contents
subject_of (Pin name) = Contents
subject_of (Peek name) = Other
subject_of (Unpin name) = Other
subject_of (Filter name) = Other
subject_of request = Nothing

-- a refusal, or a reply that no line about this has
abbrev pub refusal : Subject → Reply → Event
refusal Contents reply.Freed = FindsFreed
refusal Contents reply.Unmade = FindsUnmade
refusal Other reply.Unmade = FindsUnmade
refusal subject reply.Freed = Wrong
refusal subject reply.Unmade = Wrong
refusal subject (reply.Made handle version) = Wrong
refusal subject (reply.Version version) = Wrong
refusal subject (reply.Bytes version bytes) = Wrong
refusal subject (reply.Range len) = Wrong
refusal subject (reply.Full handles) = Wrong
refusal subject reply = Refused subject

abbrev pub event_of : Request → Reply → Event
event_of (Make name bytes) (reply.Made handle version) = Makes bytes version
event_of (Make name bytes) (reply.Full handles) = FindsFull handles
event_of (Read name) (reply.Bytes version bytes) = Shows version bytes
event_of (Peek name) (reply.Bytes version bytes) = Shows version bytes
event_of (Pin name) (reply.Version version) = Pins version
-- that a lane's scope is full says nothing of the object, which may be freed
event_of (Pin name) reply.ScopeFull = Refused Other
event_of (Write name at bytes) (reply.Version version) = Writes at bytes version
event_of (Write name at bytes) (reply.Range len) = FindsEnd at bytes len
event_of (Free name) (reply.Version version) = Frees version
event_of request reply = refusal (subject_of request) reply

-- the reply is one that the map gives
abbrev pub IsOfMap : Reply → Type 0
IsOfMap (reply.Made handle version) = Unit {0}
IsOfMap (reply.Version version) = Unit {0}
IsOfMap (reply.Bytes version bytes) = Unit {0}
IsOfMap (reply.Full handles) = Unit {0}
IsOfMap reply.Unmade = Unit {0}
IsOfMap reply.Freed = Unit {0}
IsOfMap (reply.Range len) = Unit {0}
IsOfMap reply = ⊥

-- the change that an answered call made, with the version that it answered
abbrev pub change_of : Event → List (ℕ × Change)
change_of (Makes bytes version) = (version, Create bytes) ∷ []
change_of (Writes at bytes version) = (version, Overwrite at bytes) ∷ []
change_of (Frees version) = (version, Remove) ∷ []
change_of event = []

-- the version that was answered
abbrev pub version_of : Event → Option ℕ
version_of (Makes bytes version) = Some version
version_of (Shows version bytes) = Some version
version_of (Pins version) = Some version
version_of (Writes at bytes version) = Some version
version_of (Frees version) = Some version
version_of event = None
