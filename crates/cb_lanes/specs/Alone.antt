-- What a lane's own lines are answered where no other lane has a part in it.
use Rattle.std.specs.Prelude.{◌≡◌, ℕ, ◌+◌, ◌≤◌, nat_eq, nat_le, Bool, true, false, ◌&&◌, ◌||◌, List}
use Rattle.std.specs.Prelude.{[], ◌∷◌, length, Option, None, Some, if◌then◌else◌}
use Rattle.std.specs.List.{fold, list_any}
use Rattle.std.specs.Str.{bytes_eq}
use Rattle.cb_types.specs.declared.answer.Answer.{Answer}
use Rattle.cb_types.specs.declared.handle.Handle.{Handle}
use Rattle.cb_types.specs.declared.request.Request.{Request}
use Rattle.cb_types.specs.declared.request.Request.TheVariants.{Make, Read, Write, Free, Pin, Peek}
use Rattle.cb_types.specs.declared.request.Request.TheVariants.{Unpin, Filter, Leave}
use Rattle.cb_types.specs.declared.reply.Reply.{Reply}
use Rattle.cb_types.specs.declared.reply.Reply.TheVariants as answer
use Rattle.cb_types.specs.Requests.{name_of}
use Rattle.cb_model.specs.declared.object.Object.{Object}
use Rattle.cb_model.specs.declared.object.Object.TheVariants.{Held, Freed}
use Rattle.cb_model.specs.Now.{MapNow, changed}
use Rattle.cb_model.specs.Event.{event_of, change_of}
use Rattle.cb_script.specs.declared.script.Line.{Line}
use Rattle.cb_lanes.specs.Scopes.{Scope, named_on, newest_on, scope_after}

-- ---- whose a line is

-- whether the request makes an object of this name
abbrev pub makes_named : List ℕ → Request → Bool
makes_named name (Make made bytes) = bytes_eq made name
makes_named name request = false

-- whether the lane makes the name
abbrev pub is_maker : List Line → ℕ → List ℕ → Bool
is_maker lines lane name = list_any (λ l. nat_eq l.lane.n lane && makes_named name l.request) lines

-- whether the lane makes the name, where there is one
abbrev pub is_maker_of : List Line → ℕ → Option (List ℕ) → Bool
is_maker_of lines lane None = false
is_maker_of lines lane (Some name) = is_maker lines lane name

-- the name of a line that is answered by the map and the scope alone; a filter tells of spans
abbrev pub own_name : Request → Option (List ℕ)
own_name (Filter name) = None
own_name request = name_of request

-- whether the answer is to one of the lane's own lines: about an object that the lane itself makes
abbrev pub is_own : List Line → ℕ → Answer → Bool
is_own lines lane a = nat_eq a.lane.n lane && is_maker_of lines lane (own_name a.request)

-- whether the request leaves the scope
abbrev pub is_leave : Request → Bool
is_leave Leave = true
is_leave request = false

-- whether the lane leaves its scope there
abbrev pub leaves : ℕ → Answer → Bool
leaves lane a = nat_eq a.lane.n lane && is_leave a.request

-- whether the request pins an object that lane 0 makes
abbrev pub pins_shared : List Line → Request → Bool
pins_shared lines (Pin name) = is_maker lines 0 name
pins_shared lines request = false

-- The lane has lines of its own: it is not lane 0, whose names are shared, and pins no shared name.
pub record HasOwnLines (lines : List Line) (lane : ℕ) : Type 0 where
  pub from_one : 1 ≤ lane
  pub pins : list_any (λ l. nat_eq l.lane.n lane && pins_shared lines l.request) lines ≡ false

-- ---- what a lane has by itself

-- what the map has under a name
pub record NamedNow : Type 0 where
  pub name : List ℕ
  pub now : MapNow

-- what the map has under the lane's names, the last change first, and its scope
pub record LaneState : Type 0 where
  pub objects : List NamedNow
  pub scope : Scope

-- a lane before its first line
abbrev pub fresh_lane : LaneState
fresh_lane = record { objects = []; scope = [] }

-- what the map has under a name, by the last change
abbrev pub now_named : List ℕ → List NamedNow → MapNow
now_named name [] = None
now_named name (o ∷ older) = if bytes_eq o.name name then o.now else now_named name older

-- what a completed call makes of what the map has
abbrev pub now_after : MapNow → Request → Reply → MapNow
now_after now request r = fold changed now (change_of (event_of request r))

-- the objects after a completed call on this name, where there is one
abbrev pub named_objects_after : List NamedNow → Option (List ℕ) → Request → Reply → List NamedNow
named_objects_after objects None request r = objects
named_objects_after objects (Some name) request r =
    record { name = name; now = now_after (now_named name objects) request r } ∷ objects

-- the lane after one of its own lines, or a leave
abbrev pub alone_after : LaneState → Request → Reply → LaneState
alone_after lane request r = record {
  objects = named_objects_after lane.objects (name_of request) request r;
  scope = scope_after lane.scope request r;
}

-- ---- what it is answered

-- a read, by what the map has
abbrev pub read_alone : MapNow → Reply
read_alone None = answer.Unmade
read_alone (Some (Held version bytes)) = answer.Bytes version bytes
read_alone (Some (Freed version)) = answer.Freed

-- a change of an object at this version on which the scope has so many pins
abbrev pub change_alone : ℕ → ℕ → Reply
change_alone version pins =
    if nat_eq pins 0 then answer.Version (version + 1) else answer.Pinned pins

-- a write of so many bytes, by what the map has and the pins on it
abbrev pub write_alone : MapNow → ℕ → ℕ → ℕ → Reply
write_alone None pins at count = answer.Unmade
write_alone (Some (Held version bytes)) pins at count =
    if nat_le (at + count) (length bytes) then change_alone version pins
    else answer.Range (length bytes)
write_alone (Some (Freed version)) pins at count = answer.Freed

-- a free, by what the map has and the pins on it
abbrev pub free_alone : MapNow → ℕ → Reply
free_alone None pins = answer.Unmade
free_alone (Some (Held version bytes)) pins = change_alone version pins
free_alone (Some (Freed version)) pins = answer.Freed

-- a pin of an object for which the scope has room
abbrev pub pin_object : Object → Reply
pin_object (Held version bytes) = answer.Version version
pin_object (Freed version) = answer.Freed

-- a pin, by what the map has and how many pins the scope has
abbrev pub pin_alone : MapNow → ℕ → Reply
pin_alone None pins = answer.Unmade
pin_alone (Some object) pins = if nat_eq pins 16 then answer.ScopeFull else pin_object object

-- a peek, by what the map has and the version of the newest pin on it
abbrev pub peek_alone : MapNow → Option ℕ → Reply
peek_alone None pinned = answer.Unmade
peek_alone (Some (Held version bytes)) (Some pinned) = answer.Bytes pinned bytes
peek_alone (Some object) pinned = answer.NotPinned

-- an unpin, by what the map has and the version of the newest pin on it
abbrev pub unpin_alone : MapNow → Option ℕ → Reply
unpin_alone None pinned = answer.Unmade
unpin_alone (Some object) None = answer.NotPinned
unpin_alone (Some object) (Some pinned) = answer.Done

-- What one of the lane's own lines is answered: by the map on its own names and by its scope. Which
-- handle a make is given hangs on the makes of other lanes, and is not said.
abbrev pub AloneSays : LaneState → Request → Reply → Type 0
AloneSays lane (Make name bytes) r = (handle : Handle) × (r ≡ answer.Made handle 1)
AloneSays lane (Read name) r = r ≡ read_alone (now_named name lane.objects)
AloneSays lane (Write name at bytes) r =
    r ≡ write_alone (now_named name lane.objects) (named_on name lane.scope) at (length bytes)
AloneSays lane (Free name) r =
    r ≡ free_alone (now_named name lane.objects) (named_on name lane.scope)
AloneSays lane (Pin name) r = r ≡ pin_alone (now_named name lane.objects) (length lane.scope)
AloneSays lane (Peek name) r =
    r ≡ peek_alone (now_named name lane.objects) (newest_on name lane.scope)
AloneSays lane (Unpin name) r =
    r ≡ unpin_alone (now_named name lane.objects) (newest_on name lane.scope)
AloneSays lane request r = Unit {0}

-- the lane after an answer: its own lines and those by which it leaves its scope move it
abbrev pub alone_more : List Line → ℕ → LaneState → Answer → LaneState
alone_more lines lane state a = if is_own lines lane a || leaves lane a
    then alone_after state a.request a.reply else state

-- Of these answers, those to the lane's own lines are what the lane is answered by itself.
abbrev pub KeepAlone : List Line → ℕ → LaneState → List Answer → Type 0
KeepAlone lines lane state [] = Unit {0}
KeepAlone lines lane state (a ∷ after) =
    (is_own lines lane a ≡ true → AloneSays state a.request a.reply)
    × KeepAlone lines lane (alone_more lines lane state a) after

-- ---- replies that no line has at ease

-- the reply tells of no lack of room, no loss, no move and no number at its end
abbrev pub IsCalmReply : Reply → Type 0
IsCalmReply (answer.NoRoom frames loose nodes) = ⊥
IsCalmReply (answer.Unavailable set lost) = ⊥
IsCalmReply (answer.Full handles) = ⊥
IsCalmReply answer.Worn = ⊥
IsCalmReply answer.Moving = ⊥
IsCalmReply r = Unit {0}
