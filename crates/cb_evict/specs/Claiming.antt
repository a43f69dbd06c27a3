-- The claims of spans.
use Rattle.std.specs.Prelude.{◌≡◌, ◌≢◌, ◌⊎◌, ℕ, ◌≤◌, Bool, true, false, ◌++◌, List, [], ◌∷◌, Option, None, Some, All, length}
use Rattle.std.specs.List.{Contains, AllPairs}
use Rattle.cb_span.specs.Contents.{Contents}
use Rattle.cb_world.specs.declared.access.Access.{Access}
use Rattle.cb_world.specs.declared.leaving.Former.{Former}
use Rattle.cb_world.specs.declared.shown.Shown.{Shown}
use Rattle.cb_world.specs.Played.{played}
use Rattle.cb_world.specs.FarState.{FarState, pages_at, span_in}
use Rattle.cb_world.specs.LocalSound.{LocalSound}
use Rattle.cb_world.specs.Reserved.{table_of}
use Rattle.cb_evict.specs.Candidates.{SpanNames, IsLoose, AreLoose, IsBarred}
use Rattle.cb_evict.specs.Looking.{IsIn, IsSlotHeldUp, SpanFinds, SpanHas}
use Rattle.cb_evict.specs.CallPart.{CallPart, Settles}
use Rattle.cb_evict.specs.Events.{AreSteady}
use Rattle.cb_evict.specs.Claims.{AreClaimed, AreBack, AreApart, IsHeldAt}
use Rattle.cb_evict.specs.Lengths.{loose_of, without}
use Rattle.cb_evict.specs.Order.{noted_of, objects_in, objects_of}

-- one of these objects
abbrev pub IsOne : List Former → ℕ → Type 0
IsOne formers h = (former : Former) × Contains formers former × (former.handle ≡ h)

-- what claims do, for all knowledge that the desk shows and of which the local part is sound: these
-- objects are claimed, and the events are allowed and write no version
abbrev pub ClaimsObjects : (Shown → Type 0) → FarState → List Access → List Former → Type 0
ClaimsObjects shows far es formers = (s : Shown) → shows s → LocalSound s far
    → AreClaimed es s (played es s) formers × LocalSound (played es s) far × AreSteady es s

-- claimed objects are settled at the words that are noted
abbrev pub GivesBack : (List Access → Type 0) → (Shown → Type 0) → List Former → Type 0
GivesBack runs shows formers = Settles runs (IsOne formers) (λ p. ⊥) (λ es. (s : Shown)
    (far : FarState) → shows s → LocalSound s far → All (IsHeldAt s) formers
    → AreBack s (played es s) formers × LocalSound (played es s) far × AreSteady es s)

-- these objects are claimed, and this is found
abbrev pub ClaimsThese : (List Access → Type 0) → (Shown → Type 0) → (ℕ → Type 0) → (ℕ → Type 0)
    → (List Access → Type 0) → List Former → Type 0
ClaimsThese runs shows objects words finds formers = CallPart runs objects words (λ es.
    finds es × ((far : FarState) → ClaimsObjects shows far es formers))

-- what came of the claim of the object in a slot, if there is one: it is noted, or it was found at
-- a word at which it can't be claimed
abbrev pub SlotNotes : Bool → List Access → Option ℕ → List Former → Type 0
SlotNotes true es None more = more ≡ []
SlotNotes true es (Some h) more = (w : ℕ) × (more ≡ (record { handle = h; word = w }) ∷ [])
SlotNotes false es slot more = (more ≡ []) × IsSlotHeldUp es slot

-- the claim of the object in a slot
pub record ClaimsSlot (runs : List Access → Type 0) (shows : Shown → Type 0) (slot : Option ℕ)
    (claimed : Bool) (old new : List Former) : Type 0 where
  pub more : List Former
  pub noted : new ≡ old ++ more
  pub part : ClaimsThese runs shows (λ h. slot ≡ Some h) (λ p. ⊥)
      (λ es. SlotNotes claimed es slot more) more

-- the objects of the span are those that are noted
pub record AreOf (has : ℕ → Type 0) (formers : List Former) : Type 0 where
  pub all : (h : ℕ) → has h → IsOne formers h
  pub only : All (λ former. has former.handle) formers

abbrev pub SpanNotes : Bool → List Access → Contents → List Former → Type 0
SpanNotes true es span more = AreOf (SpanHas span) more × (noted_of more ≡ objects_in span.slots)
SpanNotes false es span more = (more ≡ []) × SpanFinds false es span

-- the claim of all objects of a span, or of none
pub record ClaimsSpan (runs : List Access → Type 0) (shows : Shown → Type 0) (span : Contents)
    (claimed : Bool) (old new : List Former) : Type 0 where
  pub more : List Former
  pub noted : new ≡ old ++ more
  pub each_once : AreApart more
  pub part : ClaimsThese runs shows (SpanHas span) (λ p. ⊥) (λ es. SpanNotes claimed es span more)
      more

-- the claim of the span in a frame, which is added if all its objects are claimed
pub record ClaimsFrame (runs : List Access → Type 0) (shows : Shown → Type 0)
    (spans : List (Option Contents)) (f : ℕ) (old new : List ℕ) (before after : List Former)
    : Type 0 where
  pub more : List Former
  pub noted : after ≡ before ++ more
  pub each_once : AreApart more
  pub part : ClaimsThese runs shows (SpanNames spans f) (λ p. ⊥) (λ es.
      (AreOf (SpanNames spans f) more × (new ≡ old ++ f ∷ []) × IsLoose es spans f
      × (noted_of more ≡ objects_in (table_of (span_in spans f))))
      ⊎ ((more ≡ []) × (new ≡ old) × IsBarred es spans f)) more

-- the claims of the spans of a length in some frames, one after another, until k of them are claimed:
-- the spans in these frames are, and the objects that are noted are theirs, in order of frame and
-- slot. Those that could not be claimed are lost, and not loose any more; spans of another length are
-- passed over.
pub record ClaimsSpans (runs : List Access → Type 0) (shows : Shown → Type 0)
    (spans : List (Option Contents)) (loose : List ℕ) (pages k : ℕ) (frames : List ℕ)
    (formers : List Former) : Type 0 where
  pub lost : ℕ → Bool
  pub rest : List ℕ
  pub few : length frames ≤ k
  pub stops : (length frames ≡ k) ⊎ (rest ≡ [])
  pub chosen : loose_of spans pages (without lost loose) ≡ frames ++ rest
  pub long : (f : ℕ) → lost f ≡ true → pages_at spans f ≡ pages
  pub among : All (Contains loose) frames
  pub apart : AllPairs (λ f g. f ≢ g) frames
  pub of : AreOf (IsIn spans frames) formers
  pub order : noted_of formers ≡ objects_of spans frames
  pub each_once : AreApart formers
  pub part : ClaimsThese runs shows (IsIn spans (loose_of spans pages loose)) (λ p. ⊥)
      (λ es. (before : List Access) (all was : List ℕ) → AllPairs (λ f g. f ≢ g) all
      → loose_of spans pages was ≡ loose_of spans pages loose → AreLoose before spans all was
      → AreLoose (before ++ es) spans all (without lost was)) formers
