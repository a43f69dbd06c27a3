-- Which lists of answers are legal.
use Rattle.std.specs.Prelude.{◌≡◌, ℕ, ◌+◌, ◌<◌, ◌≤◌, ◌⊎◌, List, [], ◌∷◌, ◌++◌, length, Option, Some, None}
use Rattle.std.specs.List.{AllByRecursion}
use Rattle.cb_types.specs.declared.answer.Answer.{Answer}
use Rattle.cb_model.specs.declared.object.Object.TheVariants.{Held, Freed}
use Rattle.cb_model.specs.Now.{Change}
use Rattle.cb_model.specs.Event.{Event, version_of}
use Rattle.cb_model.specs.Event.Subject.{NewObject, Nothing}
use Rattle.cb_model.specs.Event.Event.{Makes, Shows, Pins, Writes, Frees, FindsFull, FindsUnmade, FindsFreed, FindsEnd, Refused}
use Rattle.cb_model.specs.History.{IsHistory, IsMadeWith, at_version, left_by}
use Rattle.cb_model.specs.Replies.{MapReplies}
use Rattle.cb_model.specs.Called.{Called, calls_of, value_at, history, makes}

-- What an answer on an object says of the object's history. What was written or freed stands in it; what
-- was read or pinned was held at that version; a write was past the end of the bytes of the make.
abbrev pub TellsHistory : List (ℕ × Change) → Event → Type 0
TellsHistory history (Shows version bytes) = at_version history version ≡ Some (Held version bytes)
TellsHistory history (Pins version) =
    (bytes : List ℕ) × (at_version history version ≡ Some (Held version bytes))
TellsHistory history (Writes at bytes version) = Unit {0}
TellsHistory history (Frees version) = Unit {0}
TellsHistory history (FindsEnd at bytes len) = IsMadeWith history len × (len < at + length bytes)
TellsHistory history FindsFreed = (version : ℕ) × (left_by history ≡ Some (Freed version))
TellsHistory history (Refused subject) = Unit {0}
TellsHistory history event = ⊥

-- What an answer says of all calls: a handle is one of those that there are, full is told with their
-- number where as many were made, and unmade exactly where the name has no handle.
abbrev pub IsTrueOf : (handles : ℕ) → List Called → Option ℕ → Event → Type 0
IsTrueOf handles calls (Some h) (Makes bytes version) = h < handles
IsTrueOf handles calls handle (FindsFull number) = (makes calls ≡ handles) × (number ≡ handles)
IsTrueOf handles calls handle (Refused NewObject) = Unit {0}
IsTrueOf handles calls handle (Refused Nothing) = Unit {0}
IsTrueOf handles calls None FindsUnmade = Unit {0}
IsTrueOf handles calls (Some h) event = TellsHistory (history calls h) event
IsTrueOf handles calls None event = ⊥

-- a version that is answered later does not fall, and that of a write or a free is above
abbrev pub IsNotBelow : ℕ → Event → Type 0
IsNotBelow version (Makes bytes later) = version ≤ later
IsNotBelow version (Shows later bytes) = version ≤ later
IsNotBelow version (Pins later) = version ≤ later
IsNotBelow version (Writes at bytes later) = version < later
IsNotBelow version (Frees later) = version < later
IsNotBelow version event = Unit {0}

-- what may be answered later: after a version none below it, and after freed no version at all
abbrev pub MayComeLater : Event → Event → Type 0
MayComeLater FindsFreed later = version_of later ≡ None
MayComeLater earlier later =
    (version : ℕ) → version_of earlier ≡ Some version → IsNotBelow version later

-- the answer was given to this lane before: to itself, or to lane 0
abbrev pub WasTold : (teller lane : ℕ) → Type 0
WasTold teller lane = (teller ≡ lane) ⊎ (teller ≡ 0)

-- of two calls on one handle, the later may follow what its lane was told before
abbrev pub NeverFalls : Called → Called → Type 0
NeverFalls earlier later =
    (h : ℕ) → WasTold earlier.lane later.lane → earlier.handle ≡ Some h → later.handle ≡ Some h
    → MayComeLater earlier.event later.event

-- so of each call and each later one
abbrev pub Rising : List Called → Type 0
Rising [] = Unit {0}
Rising (call ∷ later) = AllByRecursion (NeverFalls call) later × Rising later

-- What holds of calls that are legal, in whatever order they took effect.
pub record AreLegal (first handles : ℕ) (calls : List Called) : Type 0 where
  pub histories : (h : ℕ) → IsHistory first (history calls h)
  pub told : AllByRecursion (λ call. IsTrueOf handles calls call.handle call.event) calls
  pub rising : Rising calls

-- a name that has a handle is not answered unmade
abbrev pub IsUnmadeRight : Option ℕ → Event → Type 0
IsUnmadeRight (Some h) FindsUnmade = ⊥
IsUnmadeRight handle event = Unit {0}

-- The map's reply after the calls before it.
pub record IsMapReply (first handles : ℕ) (before : List Called) (call : Called) : Type 0 where
  pub reply : MapReplies first handles (makes before) call.handle
      (value_at before call.handle) call.event
  pub unmade : IsUnmadeRight call.handle call.event

-- each call is answered as the map answers it after the calls before it
abbrev pub Follow : (first handles : ℕ) → List Called → List Called → Type 0
Follow first handles before [] = Unit {0}
Follow first handles before (call ∷ after) =
    IsMapReply first handles before call × Follow first handles (before ++ call ∷ []) after

-- Legal answers: a fact about the answers alone, for a first version and a number of handles.
abbrev pub IsLegal : (first handles : ℕ) → List Answer → Type 0
IsLegal first handles answers = AreLegal first handles (calls_of answers)

-- Legal answers, each of them the map's reply after all answers before it.
pub record IsLegalInOrder (first handles : ℕ) (answers : List Answer) : Type 0 where
  pub legal : IsLegal first handles answers
  pub in_order : Follow first handles [] (calls_of answers)
