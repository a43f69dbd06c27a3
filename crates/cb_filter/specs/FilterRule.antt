-- The rule of a filter: its reply, and the far state after it.
use Rattle.std.specs.Prelude.{◌≡◌, ◌≢◌, ◌⊎◌, ℕ, zero, suc, ◌≤◌, List, [], ◌∷◌}
use Rattle.cb_ptr.specs.declared.word.State.{State}
use Rattle.cb_ptr.specs.declared.word.State.TheVariants as word
use Rattle.cb_ptr.specs.Word.{state_of, hot_of, pins_of}
use Rattle.cb_span.specs.declared.temp.Temp.{Temp}
use Rattle.cb_types.specs.declared.reply.Reply.{Reply}
use Rattle.cb_types.specs.declared.reply.Reply.TheVariants as answer
use Rattle.cb_world.specs.declared.access.Access.{Access}
use Rattle.cb_world.specs.declared.access.Access.TheVariants.{Looked, Told, Loaded}
use Rattle.cb_world.specs.Looks.{IsFound, IsTaken, IsTold}
use Rattle.cb_world.specs.Touches.{SettlesLast}
use Rattle.cb_world.specs.FarState.{FarState}
use Rattle.cb_world.specs.Placed.{Slot, IsChosen, IsCrammed, NeedsSpan}
use Rattle.cb_filter.specs.Seats.{Seat, IsSeatOf, temp_for, with_moved}

-- an object with an empty word: never made at version 0, and else freed
abbrev pub EmptyToFilter : ℕ → Reply → Type 0
EmptyToFilter zero r = r ≡ answer.Unmade
EmptyToFilter (suc v) r = r ≡ answer.NotHere

-- an object that is not here, by the state of its word
abbrev pub AbsentToFilter : State → ℕ → List Access → Reply → Type 0
AbsentToFilter word.Empty h es r = (v : ℕ) × IsTold h v es × EmptyToFilter v r
AbsentToFilter word.Far h es r = r ≡ answer.NotHere
AbsentToFilter word.Here h es r = ⊥
AbsentToFilter word.Moving h es r = r ≡ answer.Moving

-- the object's span has its temperature
pub record IsInPlace (far new : FarState) (temp : Temp) (seat : Seat) (r : Reply) : Type 0 where
  pub same : seat.span.temp ≡ temp
  pub reply : r ≡ answer.Same
  pub state : new ≡ far

-- the object's span has the other temperature, and for it there is neither a slot nor a run of free
-- frames for a new span
pub record HasNoSlot (frames : ℕ) (far new : FarState) (temp : Temp) (seat : Seat) (r : Reply)
    : Type 0 where
  pub other : seat.span.temp ≢ temp
  pub crammed : IsCrammed far seat.span.class temp
  pub reply : r ≡ answer.NoSlot frames
  pub state : new ≡ far

-- the object's span has the other temperature, and it gets a slot in a span of its own
pub record GetsSlot (far new : FarState) (temp : Temp) (seat : Seat) (h : ℕ) (slot : Slot)
    (r : Reply) : Type 0 where
  pub other : seat.span.temp ≢ temp
  pub chosen : IsChosen far seat.span.class temp slot
  pub reply : r ≡ answer.Moved
  pub state : new ≡ with_moved far seat slot h

-- the object stays where it is, has no slot in a span of its temperature, or moves there
abbrev pub FilterSeated : ℕ → FarState → FarState → Temp → ℕ → Seat → Reply → Type 0
FilterSeated frames far new temp h seat r = IsInPlace far new temp seat r
    ⊎ (HasNoSlot frames far new temp seat r
    ⊎ ((slot : Slot) × GetsSlot far new temp seat h slot r))

-- the object was claimed
abbrev pub WasClaimed : ℕ → ℕ → List Access → Type 0
WasClaimed h w es = (pins_of w ≡ 0) × ((v : ℕ) × (words : List ℕ) × IsTaken h v words es)

-- an object that is here: pinned; or claimed, and it belongs in a hot span where its word was hot
abbrev pub FilterHere : ℕ → ℕ → ℕ → FarState → FarState → Reply → List Access → Type 0
FilterHere frames h w far new r es =
    ((1 ≤ pins_of w) × (r ≡ answer.Pinned (pins_of w)) × (new ≡ far))
    ⊎ (WasClaimed h w es × ((seat : Seat) × IsSeatOf far h seat
    × FilterSeated frames far new (temp_for (hot_of w)) h seat r))

-- by the state of the word; an object that is not here is refused
abbrev pub FilterAs : State → ℕ → ℕ → ℕ → FarState → FarState → Reply → List Access → Type 0
FilterAs word.Here frames h w far new r es = FilterHere frames h w far new r es
FilterAs state frames h w far new r es = AbsentToFilter state h es r × (new ≡ far)

-- every event tells of a word, and nothing else is done
abbrev pub OnlyTell : List Access → Type 0
OnlyTell [] = Unit {0}
OnlyTell (Looked k w ∷ es) = OnlyTell es
OnlyTell (Told k v ∷ es) = OnlyTell es
OnlyTell (Loaded p x ∷ es) = OnlyTell es
OnlyTell (e ∷ es) = ⊥

-- The reply of a filter, and the far state after it, by the word that the last look at the object
-- found, where there are so many frames. Its pointer word is stored last. An object that is told as
-- never made is looked at alone.
pub record FilterRule (frames h : ℕ) (far new : FarState) (r : Reply) (es : List Access)
    : Type 0 where
  pub word : ℕ
  pub found : IsFound h word es
  pub settles_last : SettlesLast es
  pub unmade : r ≡ answer.Unmade → OnlyTell es
  pub answer : FilterAs (state_of word) frames h word far new r es

-- The object was claimed and needs a new span, for which there was no memory. The far state stays.
pub record NeedsMemory (h : ℕ) (far new : FarState) (es : List Access) : Type 0 where
  pub word : ℕ
  pub found : IsFound h word es
  pub claimed : WasClaimed h word es
  pub seat : Seat
  pub stands : IsSeatOf far h seat
  pub other : seat.span.temp ≢ temp_for (hot_of word)
  pub needs : NeedsSpan far seat.span.class (temp_for (hot_of word))
  pub state : new ≡ far
