-- Looks at the spans that may leave.
use Rattle.std.specs.Prelude.{◌≡◌, ◌⊎◌, ℕ, Bool, true, false, ◌++◌, List, [], ◌∷◌, Option, Some}
use Rattle.std.specs.List.{Contains}
use Rattle.cb_span.specs.Contents.{Contents, handle_at}
use Rattle.cb_world.specs.declared.access.Access.{Access}
use Rattle.cb_world.specs.Looks.{IsFound}
use Rattle.cb_world.specs.Grasped.{IsFree}
use Rattle.cb_evict.specs.Candidates.{SpanNames, IsLoose, IsHeldUp, AreLoose}
use Rattle.cb_evict.specs.CallPart.{LooksAt}

-- the object in a slot was found at a word at which it can be claimed, or there is none
abbrev pub IsSlotLoose : List Access → Option ℕ → Type 0
IsSlotLoose es slot = (h : ℕ) → slot ≡ Some h → (w : ℕ) × IsFound h w es × IsFree w

-- the object in a slot was found at a word at which it can't be claimed
abbrev pub IsSlotHeldUp : List Access → Option ℕ → Type 0
IsSlotHeldUp es slot = (h w : ℕ) × (slot ≡ Some h) × IsFound h w es × ¬ (IsFree w)

-- by the answer
abbrev pub SlotFinds : Bool → List Access → Option ℕ → Type 0
SlotFinds true es slot = IsSlotLoose es slot
SlotFinds false es slot = IsSlotHeldUp es slot

-- one look, if the slot is taken
abbrev pub LooksAtSlot : (List Access → Type 0) → Option ℕ → Bool → Type 0
LooksAtSlot runs slot loose =
    LooksAt runs (λ h. slot ≡ Some h) (λ es. SlotFinds loose es slot)

-- a slot of the span has the object
abbrev pub SpanHas : Contents → ℕ → Type 0
SpanHas span h = (slot : ℕ) × (handle_at span slot ≡ Some h)

-- by the answer: each object of the span was found at a word at which it can be claimed, or one was
-- not
abbrev pub SpanFinds : Bool → List Access → Contents → Type 0
SpanFinds true es span = (h : ℕ) → SpanHas span h → (w : ℕ) × IsFound h w es × IsFree w
SpanFinds false es span = (h w : ℕ) × SpanHas span h × IsFound h w es × ¬ (IsFree w)

-- looks at each object of a span
abbrev pub LooksAtSpan : (List Access → Type 0) → Contents → Bool → Type 0
LooksAtSpan runs span loose = LooksAt runs (SpanHas span) (λ es.
    ((h : ℕ) → SpanHas span h → (w : ℕ) × IsFound h w es) × SpanFinds loose es span)

-- looks at each object of the span in a frame, which is added to the loose ones if it is one
abbrev pub LooksAtFrame : (List Access → Type 0) → List (Option Contents) → ℕ → List ℕ → List ℕ
    → Type 0
LooksAtFrame runs spans f old new = LooksAt runs (SpanNames spans f) (λ es.
    (IsLoose es spans f × (new ≡ old ++ f ∷ [])) ⊎ (IsHeldUp es spans f × (new ≡ old)))

-- an object of the span in one of the frames
abbrev pub IsIn : List (Option Contents) → List ℕ → ℕ → Type 0
IsIn spans frames h = (f : ℕ) × Contains frames f × SpanNames spans f h

-- looks at each object of the spans in some frames, of which these are loose
abbrev pub LooksOver : (List Access → Type 0) → List (Option Contents) → List ℕ → List ℕ → Type 0
LooksOver runs spans frames loose =
    LooksAt runs (IsIn spans frames) (λ es. AreLoose es spans frames loose)
