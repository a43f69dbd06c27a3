-- The map, and what a call makes of it.
use Rattle.std.specs.Prelude.{◌≡◌, ℕ, ◌-◌, ◌^◌, ◌<◌, List, [], ◌∷◌, ◌++◌, length, slice_get, slice_set, Option, Some, None}
use Rattle.cb_model.specs.declared.object.Object.{Object}
use Rattle.cb_model.specs.declared.object.Object.TheVariants.{Held, Freed}
use Rattle.cb_model.specs.declared.call.Call.{Call}
use Rattle.cb_model.specs.declared.call.Call.TheVariants.{Make, Read, Write, Free}
use Rattle.cb_model.specs.declared.call.MapReply.{MapReply}
use Rattle.cb_model.specs.declared.call.MapReply.TheVariants as reply
use Rattle.cb_types.specs.declared.reply.Reply.{Reply}
use Rattle.cb_types.specs.declared.reply.Reply.TheVariants as lines
use Rattle.cb_model.specs.Now.{MapNow, overwritten}
use Rattle.cb_model.specs.Event.{Event}
use Rattle.cb_model.specs.Event.Event.{Makes, Shows, Writes, Frees, FindsFull, FindsUnmade, FindsFreed, FindsEnd, Wrong}
use Rattle.cb_model.specs.Replies.{MapReplies}

-- how many handles there are to give, and the objects made, the one with handle 0 first
pub record Map : Type 0 where
  pub handles : ℕ
  pub objects : List Object

-- the reply of a line for a reply of the map
abbrev pub line_reply : MapReply → Reply
line_reply (reply.Made handle version) = lines.Made handle version
line_reply (reply.Bytes version bytes) = lines.Bytes version bytes
line_reply (reply.Version version) = lines.Version version
line_reply reply.Freed = lines.Freed
line_reply (reply.Range len) = lines.Range len
line_reply reply.Unmade = lines.Unmade
line_reply (reply.Full handles) = lines.Full handles

-- the number of bytes fits 32 bits
abbrev pub IsSmall : Object → Type 0
IsSmall (Held version bytes) = length bytes < 2 ^ 32
IsSmall (Freed version) = Unit {0}

-- what the map has at a handle, where there is one
abbrev pub now_at : Map → Option ℕ → MapNow
now_at map None = None
now_at map (Some handle) = slice_get map.objects handle

-- there is a version above that of what is held
abbrev pub HasNext : MapNow → Type 0
HasNext (Some (Held version bytes)) = version < 2 ^ 64 - 1
HasNext now = Unit {0}

-- a handle is below the number of handles, and where it is written or freed, there is a next version
abbrev pub IsPossible : Map → Call → Type 0
IsPossible map (Make bytes) = Unit {0}
IsPossible map (Read handle) = handle.n < map.handles
IsPossible map (Write handle at bytes) =
    (handle.n < map.handles) × HasNext (slice_get map.objects handle.n)
IsPossible map (Free handle) = (handle.n < map.handles) × HasNext (slice_get map.objects handle.n)

-- the handle that an answered call is about
abbrev pub call_handle : Call → MapReply → Option ℕ
call_handle (Make bytes) (reply.Made handle version) = Some handle.n
call_handle (Make bytes) reply = None
call_handle (Read handle) reply = Some handle.n
call_handle (Write handle at bytes) reply = Some handle.n
call_handle (Free handle) reply = Some handle.n

-- what a refusal tells that each call on a handle has
abbrev pub refusal_event : MapReply → Event
refusal_event reply.Freed = FindsFreed
refusal_event reply.Unmade = FindsUnmade
refusal_event reply = Wrong

-- what the answer to a read tells
abbrev pub read_event : MapReply → Event
read_event (reply.Bytes version bytes) = Shows version bytes
read_event reply = refusal_event reply

-- what the answer to a write tells
abbrev pub write_event : ℕ → List ℕ → MapReply → Event
write_event at bytes (reply.Version version) = Writes at bytes version
write_event at bytes (reply.Range len) = FindsEnd at bytes len
write_event at bytes reply = refusal_event reply

-- what the answer to a free tells
abbrev pub free_event : MapReply → Event
free_event (reply.Version version) = Frees version
free_event reply = refusal_event reply

-- what the answer to a call tells
abbrev pub call_event : Call → MapReply → Event
call_event (Make bytes) (reply.Made handle version) = Makes bytes version
call_event (Make bytes) (reply.Full handles) = FindsFull handles
call_event (Make bytes) reply = Wrong
call_event (Read handle) reply = read_event reply
call_event (Write handle at bytes) reply = write_event at bytes reply
call_event (Free handle) reply = free_event reply

-- an object after a call on it
abbrev pub object_after : Object → Event → Object
object_after (Held version bytes) (Writes at new next) = Held next (overwritten bytes at new)
object_after object (Frees next) = Freed next
object_after object event = object

-- the objects after a call on this handle, where the map has `now`
abbrev pub objects_after : List Object → ℕ → MapNow → Event → List Object
objects_after objects handle now (Makes bytes version) = objects ++ Held version bytes ∷ []
objects_after objects handle (Some object) event =
    slice_set objects handle (object_after object event)
objects_after objects handle None event = objects

-- the map after a call on this handle, where there is one
abbrev pub map_after : Map → Option ℕ → Event → Map
map_after map None event = map
map_after map (Some handle) event = record {
  handles = map.handles;
  objects = objects_after map.objects handle (slice_get map.objects handle) event;
}

-- The map's reply to a call, with first versions of 1, and the map afterwards.
pub record Replies (old : Map) (call : Call) (reply : MapReply) (new : Map) : Type 0 where
  pub answer : MapReplies 1 old.handles (length old.objects) (call_handle call reply)
      (now_at old (call_handle call reply)) (call_event call reply)
  pub effect : new ≡ map_after old (call_handle call reply) (call_event call reply)
