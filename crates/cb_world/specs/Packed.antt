-- What holds of the words and the version of each object, where all is known of a desk.
use Rattle.std.specs.Prelude.{◌≡◌, ℕ, zero, suc, ◌<◌, length}
use Rattle.cb_ptr.specs.declared.word.State.TheVariants as word
use Rattle.cb_ptr.specs.Word.{state_of}
use Rattle.cb_world.specs.declared.object.Object.{Object}
use Rattle.cb_world.specs.declared.object.Object.TheVariants as is
use Rattle.cb_world.specs.declared.shown.Shown.{Shown}
use Rattle.cb_world.specs.Memory.{window, words_for, IsPacked}
use Rattle.cb_world.specs.Plain.{Words, word_at}
use Rattle.cb_world.specs.Shown.{object_at}

-- the bytes past the object's length are 0: in memory, where its word is Here, in the row of its
-- set, and in its claim
abbrev pub IsPackedAs : Shown → ℕ → Object → Type 0
IsPackedAs s w (is.Empty v) = Unit {0}
IsPackedAs s w (is.Far len v words) = IsPacked len words
IsPackedAs s w (is.Here len place) =
    state_of w ≡ word.Here → IsPacked len (window s.memory place (words_for len))
IsPackedAs s w (is.Claimed len place v words) = IsPacked len words

-- so of each object
abbrev pub ArePacked : Words → Shown → Type 0
ArePacked desk s =
    (h : ℕ) → h < length desk.words → IsPackedAs s (word_at desk h) (object_at s h)

-- the version of an object that is freed is above the first one: a make comes before its free
abbrev pub IsFreedLater : ℕ → Object → Type 0
IsFreedLater first (is.Empty zero) = Unit {0}
IsFreedLater first (is.Empty (suc v)) = first < suc v
IsFreedLater first (is.Far len v words) = Unit {0}
IsFreedLater first (is.Here len place) = Unit {0}
IsFreedLater first (is.Claimed len place v words) = Unit {0}

abbrev pub AreFreedLater : Shown → Type 0
AreFreedLater s = (h : ℕ) → IsFreedLater s.first (object_at s h)
