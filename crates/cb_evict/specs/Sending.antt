-- Claimed objects that are put away.
use Rattle.std.specs.Prelude.{◌≡◌, ℕ, ◌<◌, false, List, [], length, All}
use Rattle.cb_ptr.specs.Word.{len_of, place_of}
use Rattle.cb_world.specs.declared.leaving.Former.{Former}
use Rattle.cb_world.specs.declared.object.Object.TheVariants as is
use Rattle.cb_world.specs.declared.access.Access.{Access}
use Rattle.cb_world.specs.declared.shown.Shown.{Shown}
use Rattle.cb_world.specs.Shown.{object_at, version_at, hot_at}
use Rattle.cb_world.specs.Played.{played}
use Rattle.cb_world.specs.Allowed.{Allowed}
use Rattle.cb_world.specs.Written.{Writes}
use Rattle.cb_evict.specs.CallPart.{Settles}
use Rattle.cb_evict.specs.ChangesObjects.{ChangesObjects}
use Rattle.cb_evict.specs.Claiming.{IsOne}

-- the object is claimed at the word that is noted, and its version word is its last complete
-- version
pub record IsFormerTold (s : Shown) (former : Former) : Type 0 where
  pub version : ℕ
  pub words : List ℕ
  pub object : object_at s former.handle
      ≡ is.Claimed (len_of former.word) (place_of former.word) version words
  pub stamp : version_at s former.handle ≡ version
  pub handle : former.handle < length s.objects
  pub warm : former.handle < length s.hots

-- the object was claimed and is away, cold, with its version and its words
pub record IsSent (s t : Shown) (former : Former) : Type 0 where
  pub version : ℕ
  pub words : List ℕ
  pub before : object_at s former.handle
      ≡ is.Claimed (len_of former.word) (place_of former.word) version words
  pub after : object_at t former.handle ≡ is.Far (len_of former.word) version words
  pub cold : hot_at t former.handle ≡ false

-- so are these objects
abbrev pub AreSent : Shown → Shown → List Former → Type 0
AreSent s t formers = ChangesObjects s t formers (IsSent s t)

-- what is known, once the events put these objects away
pub record IsSending (es : List Access) (s : Shown) (formers : List Former) : Type 0 where
  pub sent : AreSent s (played es s) formers
  pub allowed : Allowed s es
  pub nothing : Writes es s []

-- claimed objects are settled as away
abbrev pub Sends : (List Access → Type 0) → (Shown → Type 0) → List Former → Type 0
Sends runs shows formers = Settles runs (IsOne formers) (λ p. ⊥)
    (λ es. (s : Shown) → shows s → All (IsFormerTold s) formers → IsSending es s formers)
