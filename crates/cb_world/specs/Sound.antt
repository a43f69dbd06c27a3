-- The sound world, over what the holder of the far lock knows and the far state.
use Rattle.std.specs.Prelude.{◌≡◌, ◌≢◌, ℕ, ◌^◌, ◌<◌, All, List, Some, Contains}
use Rattle.std.specs.List.{AllPairs}
use Rattle.cb_class.specs.Class.{pages_of}
use Rattle.cb_ptr.specs.Word.{len_of, place_of}
use Rattle.cb_span.specs.Contents.{Contents, handle_at}
use Rattle.cb_world.specs.declared.leaving.Former.{Former}
use Rattle.cb_world.specs.declared.object.Object.TheVariants as is
use Rattle.cb_world.specs.declared.shown.Shown.{Shown}
use Rattle.cb_world.specs.Shown.{object_at}
use Rattle.cb_world.specs.Grasped.{IsFree}
use Rattle.cb_world.specs.Leaving.{LeavingState}
use Rattle.cb_world.specs.FarState.{FarState, span_in, resident}
use Rattle.cb_world.specs.Memory.{window, words_for}
use Rattle.cb_world.specs.LocalSound.{HasSlot, LocalSound}
use Rattle.cb_world.specs.FarSound.{FarSound}
use Rattle.cb_world.specs.Reserved.{IsReserved}

-- the object is claimed at the word that it had before the begin, which is noted, and each of its
-- words is one of 64 bits
pub record IsNoted (s : Shown) (batch : LeavingState) (h : ℕ) : Type 0 where
  pub former : Former
  pub noted : Contains batch.words former
  pub handle : former.handle ≡ h
  pub free : IsFree former.word
  pub below : former.word < 2 ^ 53
  pub version : ℕ
  pub words : List ℕ
  pub claimed : object_at s h
      ≡ is.Claimed (len_of former.word) (place_of former.word) version words
  pub small : All (λ w. w < 2 ^ 64) words

-- a slot of a span that is leaving has the object
abbrev pub Leaves : FarState → LeavingState → ℕ → Type 0
Leaves far batch h = (f slot : ℕ) × Contains batch.frames f × (resident far.spans f slot ≡ Some h)

-- The frames that are leaving are different, and in each begins a span of the batch's length. Each
-- object there is claimed, and the noted words are those of these objects, one of each. The set
-- that they will be is kept.
pub record AreNoted (s : Shown) (far : FarState) (batch : LeavingState) : Type 0 where
  pub apart : AllPairs (λ f g. f ≢ g) batch.frames
  pub held : (f : ℕ) → Contains batch.frames f → (span : Contents)
      × (span_in far.spans f ≡ Some span) × (pages_of span.class ≡ batch.pages)
  pub each : (f slot h : ℕ) (span : Contents) → Contains batch.frames f
      → span_in far.spans f ≡ Some span → handle_at span slot ≡ Some h → IsNoted s batch h
  pub only : All (λ former. Leaves far batch former.handle) batch.words
  pub each_once : AllPairs (λ a b. a.handle ≢ b.handle) batch.words
  pub reserved : IsReserved far batch

-- a claimed object stands in a frame that is leaving, and its words are those of the memory there
pub record IsLeaving (s : Shown) (far : FarState) (h len place : ℕ) (words : List ℕ) : Type 0 where
  pub batch : LeavingState
  pub there : far.leaving ≡ Some batch
  pub slot : HasSlot far.spans h len place
  pub leaves : Contains batch.frames slot.frame
  pub contents : words ≡ window s.memory place (words_for len)

-- The part of local memory, the batch that is leaving, whose objects alone are claimed, and the
-- far part.
pub record Sound (s : Shown) (far : FarState) : Type 0 where
  pub here : LocalSound s far
  pub noted : (batch : LeavingState) → far.leaving ≡ Some batch → AreNoted s far batch
  pub claimed : (h len place v : ℕ) (words : List ℕ)
      → object_at s h ≡ is.Claimed len place v words → IsLeaving s far h len place words
  pub away : FarSound s far
