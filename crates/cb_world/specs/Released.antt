-- Spans and free frames once the object in a slot is gone.
use Rattle.std.specs.Prelude.{◌≡◌, ℕ, Bool, ◌+◌, ◌<◌, ◌≤◌, ◌==◌, List, Option, None, Some, length, slice_set, if◌then◌else◌}
use Rattle.cb_class.specs.Class.{pages_of}
use Rattle.cb_frame.specs.FreeFrames.{IsFreeFrame, with_run_given}
use Rattle.cb_span.specs.Contents.{Contents, IsSpan, with_cleared, live_count}
use Rattle.cb_span.specs.Places.{slot_place}
use Rattle.cb_world.specs.FarState.{FarState, span_in}

-- whether the slot has the last object of the span
abbrev pub is_last : Contents → ℕ → Bool
is_last span slot = live_count (with_cleared span slot) == 0

-- the spans without the object; a span whose last object went is taken out
abbrev pub spans_without : List (Option Contents) → ℕ → ℕ → Contents → List (Option Contents)
spans_without spans f slot span =
    slice_set spans f (if is_last span slot then None else Some (with_cleared span slot))

-- the free frames then: such a span gives its frames back
abbrev pub frames_without : List Bool → ℕ → ℕ → Contents → List Bool
frames_without frames f slot span =
    if is_last span slot then with_run_given frames f (pages_of span.class) else frames

-- the far state without the object
abbrev pub with_released : FarState → ℕ → ℕ → Contents → FarState
with_released far f slot span = record far {
  frames = frames_without far.frames f slot span;
  spans = spans_without far.spans f slot span;
}

-- the place is that of a slot of the span at a frame, whose frames it alone has
pub record IsSlotAt (frames : List Bool) (spans : List (Option Contents)) (place f slot : ℕ)
    (span : Contents) : Type 0 where
  pub there : span_in spans f ≡ Some span
  pub at : place ≡ slot_place span.class f slot
  pub inside : slot < length span.slots
  pub valid : IsSpan span
  pub within : f < length spans
  pub counted : f + pages_of span.class ≤ length frames
  pub alone : (h : ℕ) → f < h → h < f + pages_of span.class → span_in spans h ≡ None
  pub busy : (g : ℕ) → f ≤ g → g < f + pages_of span.class → ¬ (IsFreeFrame frames g)
