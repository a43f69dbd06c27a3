-- Versions that a caller is answered never fall: they are at least all that its record has.
use Rattle.std.specs.Prelude.{◌≡◌, ◌≢◌, ◌⊎◌, ℕ, Bool, true, false, List, [], ◌∷◌, None, Some}
use Rattle.std.specs.List.{AllByRecursion}
use Rattle.cb_rule.specs.declared.view.View.{View}
pub use Rattle.cb_rule.specs.RecordStands.{HasVersion}
use Rattle.cb_model.specs.Called.{Called}
use Rattle.cb_model.specs.Event.{Event, version_of}
use Rattle.cb_model.specs.Event.Event.{FindsFreed}
use Rattle.cb_model.specs.Legal.{IsNotBelow, Rising}

-- what may be answered after a version: none below it, and after the freed one no version at all
abbrev pub MayFollowVersion : ℕ → Bool → Event → Type 0
MayFollowVersion version true event = version_of event ≡ None
MayFollowVersion version false event = IsNotBelow version event

-- a call is answered as after all that the record has
abbrev pub IsBehind : View → Called → Type 0
IsBehind v call = (h version : ℕ) (freed : Bool) → call.handle ≡ Some h
    → HasVersion v h version freed → MayFollowVersion version freed call.event

-- The calls of one caller, whose record was this before them: each is answered as after all that
-- the record has, and as after those before it.
pub record RisesFrom (v : View) (calls : List Called) : Type 0 where
  pub behind : AllByRecursion (IsBehind v) calls
  pub rising : Rising calls

-- what an event told of an object stands in the record: its version, and after freed a freed one
abbrev pub IsKnownTo : View → ℕ → Event → Type 0
IsKnownTo v h FindsFreed = (version : ℕ) × HasVersion v h version true
IsKnownTo v h event = (version : ℕ) → version_of event ≡ Some version
    → (freed : Bool) × HasVersion v h version freed

-- so of what a call was answered
abbrev pub IsOnRecord : View → Called → Type 0
IsOnRecord v call = (h : ℕ) → call.handle ≡ Some h → IsKnownTo v h call.event

-- the second record has all versions of the first, written or read
abbrev pub HasAllOf : View → View → Type 0
HasAllOf v w = (h version : ℕ) (freed : Bool) → HasVersion v h version freed
    → HasVersion w h version freed

-- The calls of a lane, and the record from which it started.
pub record LaneCalls : Type 0 where
  pub number : ℕ
  pub start : View
  pub calls : List Called

-- each call is the lane's own, and they rise from its start
pub record RisesAlone (lane : LaneCalls) : Type 0 where
  pub own : AllByRecursion (λ (call : Called). call.lane ≡ lane.number) lane.calls
  pub rises : RisesFrom lane.start lane.calls

-- a call of another lane from 1 on, or one on the record from which the lane started
abbrev pub MayPrecede : LaneCalls → Called → Type 0
MayPrecede lane call = ((call.lane ≢ lane.number) × (call.lane ≢ 0)) ⊎ IsOnRecord lane.start call

-- lanes from 1 on, no two of one number, each of which starts from all that this record has
abbrev pub RiseTogether : View → List LaneCalls → Type 0
RiseTogether first [] = Unit {0}
RiseTogether first (lane ∷ lanes) = RisesAlone lane × (lane.number ≢ 0) × HasAllOf first lane.start
    × AllByRecursion (λ (other : LaneCalls). lane.number ≢ other.number) lanes
    × RiseTogether first lanes
