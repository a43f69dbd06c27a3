-- One history of the changes of all objects, the oldest first, and the calls that it shows.
use Rattle.std.specs.Prelude.{◌≡◌, ℕ, ◌≤◌, ◌⊎◌, nat_eq, if◌then◌else◌, Bool, true, false}
use Rattle.std.specs.Prelude.{List, [], ◌∷◌, ◌++◌, length, filter, map, take, drop, Option, Some, None}
use Rattle.std.specs.List.{flat_map, sum_by}
use Rattle.std.specs.Str.{bytes_eq}
use Rattle.cb_types.specs.declared.answer.Answer.{Answer}
use Rattle.cb_types.specs.declared.request.Request.{Request}
use Rattle.cb_types.specs.declared.request.Request.TheVariants.{Make}
use Rattle.cb_types.specs.Requests.{name_of}
use Rattle.cb_model.specs.Now.{MapNow, Change}
use Rattle.cb_model.specs.Now.Change.{Create}
use Rattle.cb_model.specs.Event.{change_of}
use Rattle.cb_model.specs.History.{left_by}
use Rattle.cb_model.specs.Called.{Called, called}
use Rattle.cb_model.specs.Replies.{MapReplies}
use Rattle.cb_model.specs.Legal.{IsUnmadeRight, WasTold}
use Rattle.cb_model.specs.Times.{Timed, AreInProgramOrder, IsZeroFirst, changes_at, is_change, untimed}

-- a change at a handle, with its version
pub record HandleChange : Type 0 where
  pub handle : ℕ
  pub change : ℕ × Change

-- the changes at a handle
abbrev pub change_at : ℕ → HandleChange → List (ℕ × Change)
change_at h s = if nat_eq h s.handle then s.change ∷ [] else []

abbrev pub changes_of : ℕ → List HandleChange → List (ℕ × Change)
changes_of h history = flat_map (change_at h) history

-- what the changes leave at a handle, where there is one
abbrev pub left_at : List HandleChange → Option ℕ → MapNow
left_at history None = None
left_at history (Some h) = left_by (changes_of h history)

-- how many objects a change made; all changes of a history
abbrev pub made_in : ℕ × Change → ℕ
made_in (version, Create bytes) = 1
made_in change = 0

abbrev pub objects_made : List HandleChange → ℕ
objects_made history = sum_by (λ s. made_in s.change) history

-- the change with this number in a history, counted from 0, where there is one
abbrev pub next_of : ℕ → List HandleChange → List HandleChange
next_of n history = take 1 (drop n history)

-- what an answered call changed, as part of a history
abbrev pub settled_at_handle : Option ℕ → List (ℕ × Change) → List HandleChange
settled_at_handle None changes = []
settled_at_handle (Some h) changes = map (λ c. record { handle = h; change = c }) changes

abbrev pub settled_by_call : Called → List HandleChange
settled_by_call call = settled_at_handle call.handle (change_of call.event)

-- A history shows a call at a time: the call was answered what the map answers after that many
-- changes, and a change that it made is the next one of the history.
pub record ShowsCall (first handles : ℕ) (history : List HandleChange) (time : ℕ) (call : Called)
    : Type 0 where
  pub reply : MapReplies first handles (objects_made (take time history)) call.handle
      (left_at (take time history) call.handle) call.event
  pub unmade : IsUnmadeRight call.handle call.event
  pub next : is_change call.event ≡ true → settled_by_call call ≡ next_of time history

-- each call has the property at its time, with the handle of its name by the answers before it
abbrev pub EachCallHolds : (ℕ → Called → Type 0) → List Answer → List Timed → Type 0
EachCallHolds holds before [] = Unit {0}
EachCallHolds holds before (t ∷ ts) =
    holds t.time (called before t.answer) × EachCallHolds holds (before ++ t.answer ∷ []) ts

-- each call is shown
abbrev pub AreShown : (first handles : ℕ) → List HandleChange → List Answer → List Timed → Type 0
AreShown first handles history before ts = EachCallHolds (ShowsCall first handles history) before ts

-- the request makes an object of this name
abbrev pub makes_name : List ℕ → Request → Bool
makes_name name (Make made bytes) = bytes_eq made name
makes_name name request = false

-- the lane itself or lane 0 made the name on a line before
abbrev pub IsMadeBefore : List Answer → ℕ → List ℕ → Type 0
IsMadeBefore [] lane name = ⊥
IsMadeBefore (m ∷ before) lane name =
    ((makes_name name m.request ≡ true) × WasTold m.lane.n lane) ⊎ IsMadeBefore before lane name

-- the name of the object that a request is about, where it is no make
abbrev pub name_used : Request → Option (List ℕ)
name_used (Make name bytes) = None
name_used request = name_of request

-- each line is about a name that was made before
abbrev pub KnowNames : List Answer → List Answer → Type 0
KnowNames before [] = Unit {0}
KnowNames before (a ∷ after) =
    ((name : List ℕ) → name_used a.request ≡ Some name → IsMadeBefore before a.lane.n name)
    × KnowNames (before ++ a ∷ []) after

-- At most one line makes a name. After it the lane of that line may use the name, and all lanes may
-- where that is lane 0.
pub record HaveKnownNames (answers : List Answer) : Type 0 where
  pub once : (name : List ℕ) → length (filter (λ a. makes_name name a.request) answers) ≤ 1
  pub known : KnowNames [] answers

-- Each change of the history was made by one of these calls, at its time, and there are no others.
abbrev pub MakeHistory : List HandleChange → List Timed → Type 0
MakeHistory history ts = (n : ℕ) → length (filter (changes_at n) ts) ≡ length (next_of n history)

-- The history shows the answers at their times: each of its changes was made by one of these calls,
-- each call is shown, the calls of a lane took effect one after the other, and those of lane 0
-- before all others.
pub record AreShownBy (first handles : ℕ) (history : List HandleChange) (ts : List Timed)
    : Type 0 where
  pub each : MakeHistory history ts
  pub shown : AreShown first handles history [] ts
  pub in_program_order : AreInProgramOrder ts
  pub zero_first : IsZeroFirst ts
  pub names : HaveKnownNames (untimed ts)
