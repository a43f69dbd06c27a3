-- Claimed objects that are here again, as they were before the claim.
use Rattle.std.specs.Prelude.{◌≡◌, ℕ, ◌^◌, ◌<◌, List, [], length, All}
use Rattle.cb_ptr.specs.Word.{hot_of, len_of, place_of}
use Rattle.cb_world.specs.declared.leaving.Former.{Former}
use Rattle.cb_world.specs.declared.object.Object.TheVariants as is
use Rattle.cb_world.specs.declared.access.Access.{Access}
use Rattle.cb_world.specs.declared.shown.Shown.{Shown}
use Rattle.cb_world.specs.Shown.{object_at, hot_at}
use Rattle.cb_world.specs.Memory.{window, words_for}
use Rattle.cb_world.specs.Grasped.{IsFree}
use Rattle.cb_world.specs.Played.{played}
use Rattle.cb_world.specs.Allowed.{Allowed}
use Rattle.cb_world.specs.Written.{Writes}
use Rattle.cb_world.specs.FarState.{FarState}
use Rattle.cb_world.specs.LocalSound.{LocalSound}
use Rattle.cb_evict.specs.CallPart.{Settles}
use Rattle.cb_evict.specs.ChangesObjects.{ChangesObjects}
use Rattle.cb_evict.specs.Claiming.{IsOne}

-- The object is claimed with the words that stand at its place, and this was its word. Of its hot
-- bit nothing is known.
pub record IsClaimedFrom (s : Shown) (former : Former) : Type 0 where
  pub version : ℕ
  pub words : List ℕ
  pub object : object_at s former.handle
      ≡ is.Claimed (len_of former.word) (place_of former.word) version words
  pub free : IsFree former.word
  pub below : former.word < 2 ^ 53
  pub contents : window s.memory (place_of former.word) (words_for (len_of former.word)) ≡ words
  pub handle : former.handle < length s.objects
  pub warm : former.handle < length s.hots

-- the object is here as the word says, at its length and its place, and as hot
pub record IsHereAt (t : Shown) (former : Former) : Type 0 where
  pub object : object_at t former.handle
      ≡ is.Here (len_of former.word) (place_of former.word)
  pub hot : hot_at t former.handle ≡ hot_of former.word

-- so are these objects
abbrev pub AreRestored : Shown → Shown → List Former → Type 0
AreRestored s t formers = ChangesObjects s t formers (IsHereAt t)

-- what is known, once the events settled these objects
pub record IsRestoring (far : FarState) (es : List Access) (s : Shown) (formers : List Former)
    : Type 0 where
  pub restored : AreRestored s (played es s) formers
  pub sound : LocalSound (played es s) far
  pub allowed : Allowed s es
  pub nothing : Writes es s []

-- claimed objects are settled at the words that are noted
abbrev pub RestoresClaims : (List Access → Type 0) → (Shown → Type 0) → List Former → Type 0
RestoresClaims runs shows formers = Settles runs (IsOne formers) (λ p. ⊥)
    (λ es. (s : Shown) (far : FarState) → shows s → LocalSound s far → All (IsClaimedFrom s) formers
    → IsRestoring far es s formers)
