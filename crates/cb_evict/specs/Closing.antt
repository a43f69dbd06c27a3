-- Spans that are gone from local memory.
use Rattle.std.specs.Prelude.{◌≡◌, ℕ, Bool, List, [], ◌∷◌, Option, None, Some, length, slice_get, slice_set}
use Rattle.std.specs.List.{Contains}
use Rattle.cb_frame.specs.FreeFrames.{with_run_given}
use Rattle.cb_span.specs.Contents.{Contents}
use Rattle.cb_world.specs.declared.homes.Home.{Home}
use Rattle.cb_world.specs.Homes.{HasHomes, home_at}
use Rattle.cb_world.specs.FarState.{FarState, pages_at, span_in, resident}
use Rattle.cb_world.specs.Reserved.{table_of}
use Rattle.cb_evict.specs.Candidates.{SpanNames}

-- the frames that are free once those of the spans that stand at these frames are given back
abbrev pub all_given : List Bool → List (Option Contents) → List ℕ → List Bool
all_given free spans [] = free
all_given free spans (f ∷ frames) =
    all_given (with_run_given free f (pages_at spans f)) (slice_set spans f None) frames

-- the spans once those at these frames are taken out
abbrev pub all_closed : List (Option Contents) → List ℕ → List (Option Contents)
all_closed spans [] = spans
all_closed spans (f ∷ frames) = all_closed (slice_set spans f None) frames

-- each object of a span in these frames has its home at its slot, the position being the frame's
-- place; every other home is as it was
pub record HaveHomes (spans : List (Option Contents)) (frames : List ℕ) (set : ℕ)
    (old new : List (Option Home)) : Type 0 where
  pub count : length new ≡ length old
  pub here : (p f slot h : ℕ) → slice_get frames p ≡ Some f → resident spans f slot ≡ Some h
      → home_at new h ≡ Some (record { set = set; position = p; slot = slot })
  pub others : (h : ℕ) → ((f : ℕ) → Contains frames f → SpanNames spans f h → ⊥)
      → home_at new h ≡ home_at old h

-- the far state with these homes, without the spans at these frames, whose frames are given back
abbrev pub with_homes : FarState → List ℕ → List (Option Home) → FarState
with_homes far frames homes = record far {
  frames = all_given far.frames far.spans frames;
  spans = all_closed far.spans frames;
  homes = homes;
}

-- the span at a frame is gone: its objects have their homes at a position of a set
pub record ClosesSpan (far new : FarState) (set position f : ℕ) : Type 0 where
  pub state : new ≡ record far {
    frames = with_run_given far.frames f (pages_at far.spans f);
    spans = slice_set far.spans f None;
    homes = new.homes;
  }
  pub homes : HasHomes (table_of (span_in far.spans f)) set position far.homes new.homes
