-- What a filter does.
use Rattle.std.specs.Prelude.{◌≡◌, ◌≢◌, ℕ, false, List, [], slice_set}
use Rattle.cb_ptr.specs.Word.{hot_of, len_of}
use Rattle.cb_types.specs.declared.reply.Reply.{Reply}
use Rattle.cb_types.specs.declared.reply.Reply.TheVariants as answer
use Rattle.cb_world.specs.declared.object.Object.TheVariants as is
use Rattle.cb_world.specs.declared.access.Access.{Access}
use Rattle.cb_world.specs.declared.shown.Shown.{Shown}
use Rattle.cb_world.specs.Memory.{put}
use Rattle.cb_world.specs.Looks.{IsFound, IsTaken, told_by}
use Rattle.cb_world.specs.Written.{Writes}
use Rattle.cb_world.specs.Still.{IsStill}
use Rattle.cb_world.specs.FarState.{FarState}
use Rattle.cb_world.specs.Now.{now}
use Rattle.cb_world.specs.Placed.{Slot, IsChosen, place_in}
use Rattle.cb_filter.specs.Seats.{Seat, IsSeatOf, temp_for, with_moved}

-- the object is not hot, all else is as it was, and no version is written
pub record IsCooled (h : ℕ) (es : List Access) (s t : Shown) : Type 0 where
  pub objects : t.objects ≡ s.objects
  pub hots : t.hots ≡ slice_set (told_by es s).hots h false
  pub versions : t.versions ≡ (told_by es s).versions
  pub memory : t.memory ≡ (told_by es s).memory
  pub nothing : Writes es s []

-- the object is here with its length in the slot that it gets, and not hot, and the words that its
-- claim told stand there; all else is as it was, and no version is written
pub record IsMoved (h : ℕ) (far new : FarState) (es : List Access) (s t : Shown) : Type 0 where
  pub word : ℕ
  pub version : ℕ
  pub words : List ℕ
  pub seat : Seat
  pub slot : Slot
  pub found : IsFound h word es
  pub taken : IsTaken h version words es
  pub stood : IsSeatOf far h seat
  pub other : seat.span.temp ≢ temp_for (hot_of word)
  pub chosen : IsChosen far seat.span.class (temp_for (hot_of word)) slot
  pub state : new ≡ with_moved far seat slot h
  pub objects : t.objects ≡ slice_set s.objects h (is.Here (len_of word) (place_in slot))
  pub hots : t.hots ≡ slice_set (told_by es s).hots h false
  pub versions : t.versions ≡ (told_by es s).versions
  pub memory : t.memory ≡ put (told_by es s).memory (place_in slot) words
  pub nothing : Writes es s []

-- what a filter with this reply changes; a refusal changes nothing
abbrev pub FilterChange : ℕ → FarState → FarState → Reply → List Access → Shown → Shown → Type 0
FilterChange h far new answer.Moved es s t = IsMoved h far new es s t
FilterChange h far new answer.Same es s t = IsCooled h es s t
FilterChange h far new r es s t = IsStill es s t

-- The change by the reply; and the last complete contents of every object stay.
pub record FilterEffect (h : ℕ) (far new : FarState) (r : Reply) (es : List Access) (s t : Shown)
    : Type 0 where
  pub change : FilterChange h far new r es s t
  pub same_now : (k : ℕ) → now t new k ≡ now (told_by es s) far k
