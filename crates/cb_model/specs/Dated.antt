-- What the times of legal answers have to tell so that there is one order: versions, and no bytes.
use Rattle.std.specs.Prelude.{◌≡◌, ℕ, ◌+◌, ◌<◌, List, [], ◌∷◌, take, true, Option, Some, None}
use Rattle.cb_model.specs.Now.{Change}
use Rattle.cb_model.specs.Now.Change.{Remove}
use Rattle.cb_model.specs.Event.{Event}
use Rattle.cb_model.specs.Event.Subject.{NewObject, Contents, Other, Nothing}
use Rattle.cb_model.specs.Event.Event.{Makes, Shows, Pins, Writes, Frees, FindsFull, FindsUnmade, FindsFreed, FindsEnd, Refused, Wrong}
use Rattle.cb_model.specs.Called.{Called}
use Rattle.cb_model.specs.Legal.{IsLegal}
use Rattle.cb_model.specs.Times.{Timed, AreInProgramOrder, IsZeroFirst, is_change, untimed}
use Rattle.cb_model.specs.Shown.{HandleChange, HaveKnownNames, EachCallHolds, MakeHistory, changes_of, next_of, objects_made, settled_by_call}

-- the newest of these changes, of which the oldest stands first; that at a handle
abbrev pub newer : ℕ × Change → Option (ℕ × Change) → Option (ℕ × Change)
newer c None = Some c
newer c (Some d) = Some d

abbrev pub newest : List (ℕ × Change) → Option (ℕ × Change)
newest [] = None
newest (c ∷ cs) = newer c (newest cs)

abbrev pub newest_at : List HandleChange → Option ℕ → Option (ℕ × Change)
newest_at history None = None
newest_at history (Some h) = newest (changes_of h history)

-- a newest change has this version; it leaves an object that is not freed; it frees the object
abbrev pub HasVersion : ℕ → Option (ℕ × Change) → Type 0
HasVersion version None = ⊥
HasVersion version (Some c) = c.0 ≡ version

abbrev pub IsLive : Option (ℕ × Change) → Type 0
IsLive None = ⊥
IsLive (Some (version, Remove)) = ⊥
IsLive (Some c) = Unit {0}

abbrev pub IsRemoval : Option (ℕ × Change) → Type 0
IsRemoval (Some (version, Remove)) = Unit {0}
IsRemoval c = ⊥

-- What the event of a call says of its time, where that many objects had been made by then and this
-- was the newest change of its object: a make gives the next handle, of an object never made; what
-- was read or pinned is the newest version, and a write or a free is the next one; Freed comes
-- where the object was freed, and Range or a refusal where it was not; Full comes where all objects
-- were made, and the refusal of a make where not all were. Unmade follows from the names alone.
abbrev pub TellsTime : (handles made : ℕ) → Option ℕ → Option (ℕ × Change) → Event → Type 0
TellsTime handles made handle last (Makes bytes version) = (handle ≡ Some made) × (last ≡ None)
TellsTime handles made handle last (Shows version bytes) = HasVersion version last
TellsTime handles made handle last (Pins version) = HasVersion version last
TellsTime handles made handle last (Writes at bytes version) =
    (w : ℕ) × HasVersion w last × (version ≡ w + 1)
TellsTime handles made handle last (Frees version) = (w : ℕ) × HasVersion w last × (version ≡ w + 1)
TellsTime handles made handle last (FindsFull number) = made ≡ handles
TellsTime handles made handle last FindsUnmade = Unit {0}
TellsTime handles made handle last FindsFreed = IsRemoval last
TellsTime handles made handle last (FindsEnd at bytes len) = IsLive last
TellsTime handles made handle last (Refused NewObject) = made < handles
TellsTime handles made handle last (Refused Contents) = IsLive last
TellsTime handles made handle last (Refused Other) = Unit {0}
TellsTime handles made handle last (Refused Nothing) = Unit {0}
TellsTime handles made handle last Wrong = Unit {0}

-- the call agrees with the history at this time, and a change that it made is the next one
pub record IsDated (handles : ℕ) (history : List HandleChange) (time : ℕ) (call : Called)
    : Type 0 where
  pub tells : TellsTime handles (objects_made (take time history)) call.handle
      (newest_at (take time history) call.handle) call.event
  pub next : is_change call.event ≡ true → settled_by_call call ≡ next_of time history

-- Legal answers with times: each change of the history was made by one of these calls, each call
-- agrees with the history at its time, the calls of a lane took effect one after the other, and
-- those of lane 0 before all others.
pub record AreDated (first handles : ℕ) (history : List HandleChange) (ts : List Timed)
    : Type 0 where
  pub legal : IsLegal first handles (untimed ts)
  pub each : MakeHistory history ts
  pub dated : EachCallHolds (IsDated handles history) [] ts
  pub in_program_order : AreInProgramOrder ts
  pub zero_first : IsZeroFirst ts
  pub names : HaveKnownNames (untimed ts)
