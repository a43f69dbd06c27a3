-- What bringing objects in does.
use Rattle.std.specs.Prelude.{◌≡◌, ℕ, false, ◌*◌, ◌<◌, List, [], ◌∷◌, Option, None, Some, length, slice_set}
use Rattle.cb_class.specs.declared.class.Class.{Class}
use Rattle.cb_ptr.specs.Word.{len_of}
use Rattle.cb_span.specs.Places.{slot_place}
use Rattle.cb_world.specs.declared.access.Access.{Access}
use Rattle.cb_world.specs.declared.access.Access.TheVariants.{Looked, Settled}
use Rattle.cb_world.specs.declared.homes.Home.{Home}
use Rattle.cb_world.specs.declared.object.Object.TheVariants as is
use Rattle.cb_world.specs.declared.shown.Shown.{Shown}
use Rattle.cb_world.specs.Memory.{put}
use Rattle.cb_world.specs.Shown.{object_at, hot_at}
use Rattle.cb_world.specs.RowWords.{words_in}
use Rattle.cb_world.specs.Played.{after, played}
use Rattle.cb_world.specs.Looks.{LooksFirst}
use Rattle.cb_world.specs.Allowed.{Allowed}
use Rattle.cb_world.specs.Written.{Writes}
use Rattle.cb_world.specs.Settling.{MaySettle}
use Rattle.cb_swapin.specs.Named.{NamesHandle, IsNamed}
use Rattle.cb_swapin.specs.Waiting.{IsReady}

-- the object that was far is here in the slot, with its length, and not hot
pub record IsBrought (s t : Shown) (class : Class) (f slot h : ℕ) : Type 0 where
  pub len : ℕ
  pub version : ℕ
  pub words : List ℕ
  pub was : object_at s h ≡ is.Far len version words
  pub here : object_at t h ≡ is.Here len (slot_place class f slot)
  pub hot : hot_at t h ≡ false

-- the object and its hot bit are as they were
pub record IsAsBefore (s t : Shown) (h : ℕ) : Type 0 where
  pub object : object_at t h ≡ object_at s h
  pub hot : hot_at t h ≡ hot_at s h

-- The objects that the first n slots name are here, each in its slot, and all others are as they
-- were; the version words and the memory stay.
pub record AreBrought (n : ℕ) (slots : List (Option ℕ)) (class : Class) (f : ℕ) (s t : Shown)
    : Type 0 where
  pub first : t.first ≡ s.first
  pub versions : t.versions ≡ s.versions
  pub memory : t.memory ≡ s.memory
  pub objects : length t.objects ≡ length s.objects
  pub hots : length t.hots ≡ length s.hots
  pub brought : (slot h : ℕ) → slot < n → NamesHandle slots slot h → IsBrought s t class f slot h
  pub others : (h : ℕ) → ((slot : ℕ) → slot < n → NamesHandle slots slot h → ⊥) → IsAsBefore s t h

-- the words of the row stand in the frames from this one on, and the objects of all slots are here
pub record IsSpanBrought (slots : List (Option ℕ)) (class : Class) (f : ℕ) (row : List ℕ)
    (s t : Shown) : Type 0 where
  pub first : t.first ≡ s.first
  pub versions : t.versions ≡ s.versions
  pub memory : t.memory ≡ put s.memory (512 * f) (words_in row)
  pub objects : length t.objects ≡ length s.objects
  pub hots : length t.hots ≡ length s.hots
  pub brought : (slot h : ℕ) → NamesHandle slots slot h → IsBrought s t class f slot h
  pub others : (h : ℕ) → (IsNamed slots h → ⊥) → IsAsBefore s t h

-- the object is here at the place, and not hot
abbrev pub with_here : Shown → ℕ → ℕ → ℕ → Shown
with_here s h len place = record s {
  objects = slice_set s.objects h (is.Here len place);
  hots = slice_set s.hots h false;
}

-- how one object was brought: its word was looked at, and settled as this one
pub record BringsOne (s : Shown) (h place w x : ℕ) : Type 0 where
  pub may : MaySettle (after (Looked h w) s) h x
  pub len : (n v : ℕ) (words : List ℕ) → object_at s h ≡ is.Far n v words → len_of w ≡ n
  pub settled : played (Looked h w ∷ Settled h x ∷ []) s ≡ with_here s h (len_of w) place
  pub nothing : Writes (Looked h w ∷ Settled h x ∷ []) s []

-- the object of a slot, if it has one, is brought to the place and loses its home
abbrev pub BringsSlot : (List Access → Type 0) → (Shown → Type 0) → List (Option Home) → List (Option Home) → ℕ
    → Option ℕ → Type 0
BringsSlot runs shows homes new place None = runs [] × (new ≡ homes)
BringsSlot runs shows homes new place (Some h) = (w x : ℕ)
    × runs (Looked h w ∷ Settled h x ∷ []) × (new ≡ slice_set homes h None)
    × ((s : Shown) → shows s → IsReady s h place → BringsOne s h place w x)

-- A part of a swap-in: its events, which the desk ran, and of which this is said. And for all that
-- is known and fits: the events are allowed, write no version, and do this.
pub record Brought (runs : List Access → Type 0) (knows : Shown → Type 0)
    (told : List Access → Type 0) (does : Shown → Shown → Type 0) : Type 0 where
  pub events : List Access
  pub ran : runs events
  pub tells : told events
  pub looks_first : LooksFirst events
  pub allowed : (s : Shown) → knows s → Allowed s events
  pub nothing : (s : Shown) → knows s → Writes events s []
  pub effect : (s : Shown) → knows s → does s (played events s)
