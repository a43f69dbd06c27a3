-- What the holder of the far lock knows of the objects, the version words and the memory words.
-- A version word is known where the object is not here, a memory word where the holder owns it.
use Rattle.std.specs.Prelude.{◌≡◌, ◌≢◌, ◌⊎◌, ℕ, Bool, false, ◌+◌, ◌*◌, ◌^◌, ◌<◌, ◌≤◌, length, slice_index, slice_index_or}
use Rattle.cb_ptr.specs.declared.word.State.TheVariants as word
use Rattle.cb_ptr.specs.Word.{state_of, len_of, place_of, pins_of}
use Rattle.cb_world.specs.declared.object.Object.{Object}
use Rattle.cb_world.specs.declared.object.Object.TheVariants as is
use Rattle.cb_world.specs.declared.shown.Shown.{Shown}
use Rattle.cb_world.specs.Memory.{words_for}

-- an object that was never made
abbrev pub never : Object
never = is.Empty 0

-- what is known of the object of a handle
abbrev pub object_at : Shown → ℕ → Object
object_at s h = slice_index_or s.objects h never

-- whether its word was seen hot
abbrev pub hot_at : Shown → ℕ → Bool
hot_at s h = slice_index_or s.hots h false

-- its version word
abbrev pub version_at : Shown → ℕ → ℕ
version_at s h = slice_index s.versions h

-- the word p is one of those that hold len bytes from the place on
abbrev pub Covers : ℕ → ℕ → ℕ → Type 0
Covers place len p = (place ≤ p) × (p < place + words_for len)

-- no object that others may change lies at this word
abbrev pub Spares : ℕ → Object → Type 0
Spares p (is.Here len place) = Covers place len p → ⊥
Spares p _ = Unit {0}

-- the holder owns the word p: no object that others may change lies there
abbrev pub Owns : Shown → ℕ → Type 0
Owns s p = (p < length s.memory) × ((h : ℕ) → Spares p (object_at s h))

-- the object does not lie at this word
abbrev pub Avoids : ℕ → Object → Type 0
Avoids p (is.Here len place) = Covers place len p → ⊥
Avoids p (is.Claimed len place v words) = Covers place len p → ⊥
Avoids p _ = Unit {0}

-- the object of h may lie at the word p: no other object does
abbrev pub MayLie : Shown → ℕ → ℕ → Type 0
MayLie s h p = (p < length s.memory) × ((k : ℕ) → k ≢ h → Avoids p (object_at s k))

-- no one else changes the pointer word and the version word of the object
abbrev pub IsHeld : Object → Type 0
IsHeld (is.Here len place) = ⊥
IsHeld _ = Unit {0}

-- the pointer word w is one that the object has
abbrev pub Fits : Object → ℕ → Type 0
Fits (is.Empty v) w = w ≡ 0
Fits (is.Far len v words) w = (w ≡ 1 + len_of w * 8192) × (len_of w ≡ len)
Fits (is.Here len place) w = (w < 2 ^ 53) × (len_of w ≡ len) × (place_of w ≡ place)
    × ((state_of w ≡ word.Here) ⊎ (state_of w ≡ word.Moving))
Fits (is.Claimed len place v words) w = (w < 2 ^ 53) × (len_of w ≡ len) × (place_of w ≡ place)
    × (pins_of w ≡ 0) × (state_of w ≡ word.Moving)
