-- Where an object is placed in local memory, and the far state then.
use Rattle.std.specs.Prelude.{◌≡◌, ◌⊎◌, ℕ, ◌<◌, Bool, List, [], Option, None, Some, slice_set}
use Rattle.cb_class.specs.declared.class.Class.{Class}
use Rattle.cb_class.specs.Class.{pages_of}
use Rattle.cb_frame.specs.FreeFrames.{with_run_taken}
use Rattle.cb_frame.specs.Runs.{least_run}
use Rattle.cb_span.specs.declared.temp.Temp.{Temp}
use Rattle.cb_span.specs.Contents.{Contents, least_empty, new_span, with_placed}
use Rattle.cb_span.specs.Places.{slot_place}
use Rattle.cb_world.specs.Leaving.{LeavingState}
use Rattle.cb_world.specs.FarState.{FarState, span_in}
use Rattle.cb_world.specs.OpenSpans.{MayTake}

-- the frames of the batch that is leaving
abbrev pub leaving_frames : Option LeavingState → List ℕ
leaving_frames None = []
leaving_frames (Some batch) = batch.frames

-- the span in the frame has the class, the temperature and an empty slot, and is not leaving
abbrev pub HasRoom : FarState → Class → Temp → ℕ → Type 0
HasRoom far class temp f = MayTake far.spans class temp (leaving_frames far.leaving) f

-- a slot for an object: the first frame of its span and its number there, the span before the
-- object is in it, and the frames that are free then
pub record Slot : Type 0 where
  pub frame : ℕ
  pub number : ℕ
  pub span : Contents
  pub free : List Bool

-- the place of the slot
abbrev pub place_in : Slot → ℕ
place_in slot = slot_place slot.span.class slot.frame slot.number

-- the least empty slot of the span in the least frame with room
pub record IsInSpan (far : FarState) (class : Class) (temp : Temp) (slot : Slot) : Type 0 where
  pub there : span_in far.spans slot.frame ≡ Some slot.span
  pub room : HasRoom far class temp slot.frame
  pub least : (f : ℕ) → f < slot.frame → ¬ (HasRoom far class temp f)
  pub number : least_empty slot.span ≡ Some slot.number
  pub of_class : slot.span.class ≡ class
  pub of_temp : slot.span.temp ≡ temp
  pub free : slot.free ≡ far.frames

-- the first slot of a new span in the least run of free frames that it fits, where no span has room
pub record IsInNew (far : FarState) (class : Class) (temp : Temp) (slot : Slot) : Type 0 where
  pub full : (f : ℕ) → ¬ (HasRoom far class temp f)
  pub frame : least_run far.frames (pages_of class) ≡ Some slot.frame
  pub number : slot.number ≡ 0
  pub span : slot.span ≡ new_span class temp
  pub free : slot.free ≡ with_run_taken far.frames slot.frame (pages_of class)

-- the slot that an object of the class and temperature gets
abbrev pub IsChosen : FarState → Class → Temp → Slot → Type 0
IsChosen far class temp slot = IsInSpan far class temp slot ⊎ IsInNew far class temp slot

-- no span has room, and no run of frames is free that a new one would fit
pub record IsCrammed (far : FarState) (class : Class) (temp : Temp) : Type 0 where
  pub full : (f : ℕ) → ¬ (HasRoom far class temp f)
  pub taken : least_run far.frames (pages_of class) ≡ None

-- no span has room, and a run of frames is free that a new one fits: the object needs a new span
pub record NeedsSpan (far : FarState) (class : Class) (temp : Temp) : Type 0 where
  pub full : (f : ℕ) → ¬ (HasRoom far class temp f)
  pub first : ℕ
  pub some_free : least_run far.frames (pages_of class) ≡ Some first

-- the far state with the object in the slot
abbrev pub with_object : FarState → Slot → ℕ → FarState
with_object far slot h = record far {
  frames = slot.free;
  spans = slice_set far.spans slot.frame (Some (with_placed slot.span slot.number h));
}

-- the object was placed in the slot that it gets, at this place
pub record IsPlaced (far : FarState) (class : Class) (temp : Temp) (h : ℕ) (new : FarState)
    (at : ℕ) : Type 0 where
  pub slot : Slot
  pub chosen : IsChosen far class temp slot
  pub left : new ≡ with_object far slot h
  pub place : at ≡ place_in slot

-- the place of an object that was placed, or None where there is neither a slot nor a free run
abbrev pub Places : FarState → Class → Temp → ℕ → FarState → Option ℕ → Type 0
Places far class temp h new None = IsCrammed far class temp × (new ≡ far)
Places far class temp h new (Some at) = IsPlaced far class temp h new at
