-- What a begin does.
use Rattle.std.specs.Prelude.{◌≡◌, ℕ, List, [], length}
use Rattle.cb_ptr.specs.Word.{len_of, place_of}
use Rattle.cb_types.specs.declared.handle.SetId.{SetId}
use Rattle.cb_types.specs.declared.reply.Reply.{Reply}
use Rattle.cb_types.specs.declared.reply.Reply.TheVariants as answer
use Rattle.cb_world.specs.declared.object.Object.TheVariants as is
use Rattle.cb_world.specs.declared.access.Access.{Access}
use Rattle.cb_world.specs.declared.shown.Shown.{Shown}
use Rattle.cb_world.specs.Shown.{object_at}
use Rattle.cb_world.specs.Looks.{IsFound, IsTaken, told_by}
use Rattle.cb_world.specs.Written.{Writes}
use Rattle.cb_world.specs.Still.{IsStill}
use Rattle.cb_world.specs.FarState.{FarState}
use Rattle.cb_world.specs.Now.{now}
use Rattle.cb_world.specs.Placed.{leaving_frames}
use Rattle.cb_evict.specs.Looking.{IsIn}

-- the object is in a span that is leaving
abbrev pub IsInLeavingSpan : FarState → ℕ → Type 0
IsInLeavingSpan far h = IsIn far.spans (leaving_frames far.leaving) h

-- the object was here and is claimed at its place, with the version and the words that its claim
-- told
pub record IsClaimedThere (es : List Access) (s t : Shown) (h : ℕ) : Type 0 where
  pub word : ℕ
  pub version : ℕ
  pub words : List ℕ
  pub found : IsFound h word es
  pub told : IsTaken h version words es
  pub was : object_at s h ≡ is.Here (len_of word) (place_of word)
  pub object : object_at t h ≡ is.Claimed (len_of word) (place_of word) version words

-- The objects of the spans that are leaving are claimed, every other object is as it was, words and
-- hot bits are as the events told of them, and no version is written. So the last complete contents
-- of every object stay.
pub record IsBatchBegun (far new : FarState) (es : List Access) (s t : Shown) : Type 0 where
  pub claimed : (h : ℕ) → IsInLeavingSpan new h → IsClaimedThere es s t h
  pub others : (h : ℕ) → ¬ (IsInLeavingSpan new h) → object_at t h ≡ object_at s h
  pub hots : t.hots ≡ (told_by es s).hots
  pub first : t.first ≡ s.first
  pub objects : length t.objects ≡ length s.objects
  pub versions : t.versions ≡ (told_by es s).versions
  pub memory : t.memory ≡ (told_by es s).memory
  pub nothing : Writes es s []
  pub same_now : (h : ℕ) → now t new h ≡ now (told_by es s) far h

-- by the reply; a refusal changes nothing
pub record BeginEffect (far new : FarState) (r : Reply) (es : List Access) (s t : Shown)
    : Type 0 where
  pub begun : (id : SetId) → r ≡ answer.Batch id → IsBatchBegun far new es s t
  pub left : ((id : SetId) → r ≡ answer.Batch id → ⊥) → IsStill es s t
