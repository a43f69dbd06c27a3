-- Answers as calls on handles.
use Rattle.std.specs.Prelude.{ℕ, ◌+◌, nat_eq, Bool, false, if◌then◌else◌, List, [], ◌∷◌, ◌++◌, Option, Some, None}
use Rattle.std.specs.List.{flat_map}
use Rattle.std.specs.Str.{bytes_eq}
use Rattle.cb_types.specs.declared.answer.Answer.{Answer}
use Rattle.cb_types.specs.declared.request.Request.{Request}
use Rattle.cb_types.specs.declared.request.Request.TheVariants.{Make}
use Rattle.cb_types.specs.declared.reply.Reply.{Reply}
use Rattle.cb_types.specs.declared.reply.Reply.TheVariants.{Made}
use Rattle.cb_types.specs.Requests.{name_of}
use Rattle.cb_model.specs.Now.{MapNow, Change}
use Rattle.cb_model.specs.Event.{Event, event_of, change_of}
use Rattle.cb_model.specs.Event.Event.{Makes}
use Rattle.cb_model.specs.History.{left_by, by_version}

-- An answered call: who called, the handle that it was about where there is one, and what was answered.
pub record Called : Type 0 where
  pub lane : ℕ
  pub handle : Option ℕ
  pub event : Event

-- the first that there is
abbrev pub first_of : Option ℕ → Option ℕ → Option ℕ
first_of (Some h) later = Some h
first_of None later = later

-- the handle that a make of this name was answered
abbrev pub handle_made : List ℕ → Request → Reply → Option ℕ
handle_made name (Make made bytes) (Made handle version) =
    if bytes_eq made name then Some handle.n else None
handle_made name request reply = None

-- the handle of a name, by the last answer to its make
abbrev pub handle_of : List Answer → List ℕ → Option ℕ
handle_of [] name = None
handle_of (a ∷ later) name = first_of (handle_of later name) (handle_made name a.request a.reply)

-- the handle of a name, where there is a name
abbrev pub handle_named : List Answer → Option (List ℕ) → Option ℕ
handle_named answers None = None
handle_named answers (Some name) = handle_of answers name

-- the handle that an answer is about: a make's is in its reply, and every other's is that of its name
abbrev pub handle_for : List Answer → Request → Reply → Option ℕ
handle_for before (Make name bytes) (Made handle version) = Some handle.n
handle_for before (Make name bytes) reply = None
handle_for before request reply = handle_named before (name_of request)

-- an answer as a call, after the answers before it
abbrev pub called : List Answer → Answer → Called
called before a = record {
  lane = a.lane.n;
  handle = handle_for before a.request a.reply;
  event = event_of a.request a.reply;
}

-- answers as calls, after those before them
abbrev pub calls_behind : List Answer → List Answer → List Called
calls_behind before [] = []
calls_behind before (a ∷ after) = called before a ∷ calls_behind (before ++ a ∷ []) after

abbrev pub calls_of : List Answer → List Called
calls_of answers = calls_behind [] answers

-- whether a call is about this handle
abbrev pub is_about : ℕ → Option ℕ → Bool
is_about h None = false
is_about h (Some handle) = nat_eq h handle

-- what a call changed at a handle
abbrev pub change_to : ℕ → Called → List (ℕ × Change)
change_to h call = if is_about h call.handle then change_of call.event else []

-- the changes at a handle, in the order of the calls
abbrev pub changes_to : ℕ → List Called → List (ℕ × Change)
changes_to h calls = flat_map (change_to h) calls

-- what the map has at a handle after these calls, one after the other
abbrev pub value : List Called → ℕ → MapNow
value calls h = left_by (changes_to h calls)

abbrev pub value_at : List Called → Option ℕ → MapNow
value_at calls None = None
value_at calls (Some h) = value calls h

-- the history of a handle
abbrev pub history : List Called → ℕ → List (ℕ × Change)
history calls h = by_version (changes_to h calls)

-- how many makes were answered a handle
abbrev pub made_by : Event → ℕ
made_by (Makes bytes version) = 1
made_by event = 0

abbrev pub makes : List Called → ℕ
makes [] = 0
makes (call ∷ calls) = made_by call.event + makes calls
