-- Objects that are claimed one after another, and given back.
use Rattle.std.specs.Prelude.{◌≡◌, ◌≢◌, ℕ, ◌^◌, ◌<◌, ◌≤◌, List, length, slice_index, All}
use Rattle.std.specs.List.{AllPairs}
use Rattle.cb_ptr.specs.Word.{hot_of, len_of, place_of}
use Rattle.cb_world.specs.declared.leaving.Former.{Former}
use Rattle.cb_world.specs.declared.object.Object.TheVariants as is
use Rattle.cb_world.specs.declared.access.Access.{Access}
use Rattle.cb_world.specs.declared.shown.Shown.{Shown}
use Rattle.cb_world.specs.Shown.{Owns, IsHeld, object_at, version_at, hot_at}
use Rattle.cb_world.specs.Memory.{window, words_for}
use Rattle.cb_world.specs.Grasped.{IsFree}
use Rattle.cb_world.specs.Looks.{NoLook, IsFound, IsTaken}

-- the version words and the memory words that the caller may read are as they were, and no version
-- falls
pub record Keeps (s t : Shown) : Type 0 where
  pub first : t.first ≡ s.first
  pub objects : length t.objects ≡ length s.objects
  pub hots : length t.hots ≡ length s.hots
  pub versions : length t.versions ≡ length s.versions
  pub memory : length t.memory ≡ length s.memory
  pub held : (h : ℕ) → IsHeld (object_at s h) → IsHeld (object_at t h)
  pub owns : (p : ℕ) → Owns s p → Owns t p
  pub stamps : (h : ℕ) → IsHeld (object_at s h) → version_at t h ≡ version_at s h
  pub risen : (h : ℕ) → version_at s h ≤ version_at t h
  pub words : (p : ℕ) → Owns s p → slice_index t.memory p ≡ slice_index s.memory p

-- the object is claimed, and this was its word
pub record IsHeldAt (t : Shown) (former : Former) : Type 0 where
  pub version : ℕ
  pub words : List ℕ
  pub object : object_at t former.handle
      ≡ is.Claimed (len_of former.word) (place_of former.word) version words
  pub free : IsFree former.word
  pub below : former.word < 2 ^ 53
  pub contents : window t.memory (place_of former.word) (words_for (len_of former.word)) ≡ words
  pub hot : hot_at t former.handle ≡ hot_of former.word
  pub handle : former.handle < length t.objects

-- it was claimed by these events, which told its version and its words
pub record IsClaimedBy (es : List Access) (t : Shown) (former : Former) : Type 0 where
  pub at : IsHeldAt t former
  pub found : IsFound former.handle former.word es
  pub told : IsTaken former.handle at.version at.words es

-- the object was here, at the word that is noted
abbrev pub WasHere : Shown → Former → Type 0
WasHere s former = object_at s former.handle
    ≡ is.Here (len_of former.word) (place_of former.word)

-- the object is none of these
abbrev pub IsNone : List Former → ℕ → Type 0
IsNone formers h = All (λ former. former.handle ≢ h) formers

-- these objects were claimed by the events, and all else is as it was
pub record AreClaimed (es : List Access) (s t : Shown) (formers : List Former) : Type 0 where
  pub taken : All (IsClaimedBy es t) formers
  pub were : All (WasHere s) formers
  pub others : (h : ℕ) → IsNone formers h → object_at t h ≡ object_at s h
  pub cool : (h : ℕ) → NoLook h es → hot_at t h ≡ hot_at s h
  pub keeps : Keeps s t

-- these objects are here again, and all else is as it was
pub record AreBack (s t : Shown) (formers : List Former) : Type 0 where
  pub back : All (WasHere t) formers
  pub others : (h : ℕ) → IsNone formers h → object_at t h ≡ object_at s h
  pub objects : length t.objects ≡ length s.objects
  pub hots : t.hots ≡ s.hots
  pub versions : t.versions ≡ s.versions
  pub memory : t.memory ≡ s.memory
  pub first : t.first ≡ s.first

-- no object stands in two places of the list
abbrev pub AreApart : List Former → Type 0
AreApart formers = AllPairs (λ a b. a.handle ≢ b.handle) formers
