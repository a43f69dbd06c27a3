-- The spans that may leave, and which of them are loose.
use Rattle.std.specs.Prelude.{◌≡◌, ◌⊎◌, ℕ, ◌<◌, Bool, true, false, nat_eq, not, ◌&&◌, ◌++◌, List, [], ◌∷◌, Option, None, Some, filter, length, slice_index_or}
use Rattle.std.specs.List.{list_any, range_with_len}
use Rattle.cb_span.specs.declared.temp.Temp.{Temp}
use Rattle.cb_span.specs.declared.temp.Temp.TheVariants.{Hot, Cold}
use Rattle.cb_span.specs.Contents.{Contents}
use Rattle.cb_world.specs.declared.access.Access.{Access}
use Rattle.cb_world.specs.Placed.{leaving_frames}
use Rattle.cb_world.specs.FarState.{FarState, span_in, resident}
use Rattle.cb_world.specs.Looks.{IsFound}
use Rattle.cb_world.specs.Grasped.{IsFree}

-- whether the frame is one of these
abbrev pub is_among : List ℕ → ℕ → Bool
is_among frames f = list_any (λ g. nat_eq g f) frames

abbrev pub same_temp : Temp → Temp → Bool
same_temp Hot Hot = true
same_temp Hot Cold = false
same_temp Cold Hot = false
same_temp Cold Cold = true

-- whether there is a span of this temperature
abbrev pub has_temp : Temp → Option Contents → Bool
has_temp temp None = false
has_temp temp (Some span) = same_temp temp span.temp

-- whether the frame holds a span of this temperature and is not leaving
abbrev pub may_leave : List (Option Contents) → List ℕ → Temp → ℕ → Bool
may_leave spans leaving temp f = has_temp temp (span_in spans f) && not (is_among leaving f)

-- for each of so many frames whether it is one of these
pub record AreFlags (frames : List ℕ) (count : ℕ) (flags : List Bool) : Type 0 where
  pub counted : length flags ≡ count
  pub each : (f : ℕ) → f < count → slice_index_or flags f false ≡ is_among frames f

-- so by flags of the frames that are leaving
abbrev pub may_leave_by : List (Option Contents) → List Bool → Temp → ℕ → Bool
may_leave_by spans leaving temp f = has_temp temp (span_in spans f) && not (slice_index_or leaving f false)

-- the frames that do, by number
abbrev pub frames_with : List (Option Contents) → List ℕ → Temp → List ℕ
frames_with spans leaving temp =
    filter (may_leave spans leaving temp) (range_with_len 0 (length spans))

-- the frames whose spans may leave, in the order in which they are taken: the cold spans by number,
-- and then the hot ones
abbrev pub candidates_of : List (Option Contents) → List ℕ → List ℕ
candidates_of spans leaving = frames_with spans leaving Cold ++ frames_with spans leaving Hot

abbrev pub candidates : FarState → List ℕ
candidates far = candidates_of far.spans (leaving_frames far.leaving)

-- a slot of the frame's span has the object of h
abbrev pub SpanNames : List (Option Contents) → ℕ → ℕ → Type 0
SpanNames spans f h = (slot : ℕ) × (resident spans f slot ≡ Some h)

-- the span in the frame is loose by the last looks: each of its objects was found at a word at
-- which it can be claimed, so neither pinned nor claimed
abbrev pub IsLoose : List Access → List (Option Contents) → ℕ → Type 0
IsLoose es spans f = (h : ℕ) → SpanNames spans f h → (w : ℕ) × IsFound h w es × IsFree w

-- each of its objects was looked at
abbrev pub IsSeen : List Access → List (Option Contents) → ℕ → Type 0
IsSeen es spans f = (h : ℕ) → SpanNames spans f h → (w : ℕ) × IsFound h w es

-- one of its objects was found at a word at which it can't be claimed
abbrev pub IsBarred : List Access → List (Option Contents) → ℕ → Type 0
IsBarred es spans f = (h w : ℕ) × SpanNames spans f h × IsFound h w es × ¬ (IsFree w)

-- the span in the frame is held up by the last looks: each of its objects was looked at, and one of
-- them can't be claimed
pub record IsHeldUp (es : List Access) (spans : List (Option Contents)) (f : ℕ) : Type 0 where
  pub seen : IsSeen es spans f
  pub barred : IsBarred es spans f

-- of some frames in order these are the loose ones; each other one is held up
abbrev pub AreLoose : List Access → List (Option Contents) → List ℕ → List ℕ → Type 0
AreLoose es spans [] [] = Unit {0}
AreLoose es spans [] (g ∷ loose) = ⊥
AreLoose es spans (f ∷ frames) [] = IsHeldUp es spans f × AreLoose es spans frames []
AreLoose es spans (f ∷ frames) (g ∷ loose) =
    (IsHeldUp es spans f × AreLoose es spans frames (g ∷ loose))
    ⊎ (IsLoose es spans f × (g ≡ f) × AreLoose es spans frames loose)

-- an object has one slot of one span at most, and its handle is below so many
pub record AreUnique (spans : List (Option Contents)) (handles : ℕ) : Type 0 where
  pub below : (f h : ℕ) → SpanNames spans f h → h < handles
  pub one_frame : (f g h : ℕ) → SpanNames spans f h → SpanNames spans g h → f ≡ g
  pub one_slot : (f i j h : ℕ) → resident spans f i ≡ Some h → resident spans f j ≡ Some h → i ≡ j
