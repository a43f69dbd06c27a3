-- Which frames hold a span with an empty slot, by class and temperature.
use Rattle.std.specs.Prelude.{◌≡◌, ℕ, ◌+◌, ◌*◌, ◌<◌, Bool, true, false, nat_eq, List, [], Option, None, Some, length, slice_index_or, slice_set}
use Rattle.std.specs.List.{Contains}
use Rattle.cb_class.specs.declared.class.Class.{Class}
use Rattle.cb_class.specs.Class.{sizes}
use Rattle.cb_frame.specs.FrameSet.{contains}
use Rattle.cb_span.specs.declared.temp.Temp.{Temp}
use Rattle.cb_span.specs.declared.temp.Temp.TheVariants.{Hot, Cold}
use Rattle.cb_span.specs.Contents.{Contents, least_empty}
use Rattle.cb_world.specs.FarState.{span_in}

abbrev pub temp_index : Temp → ℕ
temp_index Hot = 0
temp_index Cold = 1

-- how many classes there are, each hot and cold
abbrev pub kinds : ℕ
kinds = 2 * length sizes

-- the number of a class and a temperature, below `kinds`
abbrev pub kind_of : Class → Temp → ℕ
kind_of class temp = 2 * class.index + temp_index temp

abbrev pub kind_if : Contents → Option ℕ → Option ℕ
kind_if span None = None
kind_if span (Some slot) = Some (kind_of span.class span.temp)

-- the class and temperature of a span that has an empty slot
abbrev pub open_kind : Option Contents → Option ℕ
open_kind None = None
open_kind (Some span) = kind_if span (least_empty span)

-- the span in the frame has this class and temperature and an empty slot
abbrev pub IsOpenSpan : List (Option Contents) → Class → Temp → ℕ → Type 0
IsOpenSpan spans class temp f = open_kind (span_in spans f) ≡ Some (kind_of class temp)

-- an object of the class and temperature can be placed in the frame, which is not passed over
abbrev pub MayTake : List (Option Contents) → Class → Temp → List ℕ → ℕ → Type 0
MayTake spans class temp except f = IsOpenSpan spans class temp f × ¬ (Contains except f)

-- the set of frames of a number
abbrev pub frames_of : List (List Bool) → ℕ → List Bool
frames_of sets kind = slice_index_or sets kind []

-- the sets where the frame is in that of a kind, or is not, and all else as before
abbrev pub with_flag : List (List Bool) → ℕ → Option ℕ → Bool → List (List Bool)
with_flag sets f None bit = sets
with_flag sets f (Some kind) bit = slice_set sets kind (slice_set (frames_of sets kind) f bit)

-- the sets once the span in a frame was of one kind and is of another
abbrev pub retold : List (List Bool) → ℕ → Option ℕ → Option ℕ → List (List Bool)
retold sets f before after = with_flag (with_flag sets f before false) f after true

abbrev pub is_kind : Option ℕ → ℕ → Bool
is_kind None k = false
is_kind (Some a) k = nat_eq a k

-- each set has the frames of the open spans of its kind
pub record IsIndex (spans : List (Option Contents)) (sets : List (List Bool)) : Type 0 where
  pub count : length sets ≡ kinds
  pub sized : (k : ℕ) → k < kinds → length (frames_of sets k) ≡ length spans
  pub exact : (k f : ℕ) → k < kinds
      → contains (frames_of sets k) f ≡ is_kind (open_kind (span_in spans f)) k
