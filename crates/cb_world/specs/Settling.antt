-- How the pointer word of an object may be settled.
use Rattle.std.specs.Prelude.{◌≡◌, ◌⊎◌, ℕ, ◌+◌, ◌*◌, ◌^◌, ◌<◌, ◌≤◌, List, length}
use Rattle.cb_ptr.specs.declared.word.State.{State}
use Rattle.cb_ptr.specs.declared.word.State.TheVariants as word
use Rattle.cb_ptr.specs.Word.{state_of, len_of, place_of, pins_of}
use Rattle.cb_world.specs.declared.object.Object.{Object}
use Rattle.cb_world.specs.declared.object.Object.TheVariants as is
use Rattle.cb_world.specs.declared.shown.Shown.{Shown}
use Rattle.cb_world.specs.Memory.{window, words_for, IsPacked}
use Rattle.cb_world.specs.Shown.{object_at, version_at, Covers, MayLie}
use Rattle.cb_world.specs.Write.{IsWrite}

-- the words that a pointer word names
abbrev pub settled_words : Shown → ℕ → List ℕ
settled_words s w = window s.memory (place_of w) (words_for (len_of w))

-- it is freed: its version word is one above its last complete version
abbrev pub MayFree : Shown → ℕ → Object → Type 0
MayFree s h (is.Far len v words) = version_at s h ≡ v + 1
MayFree s h (is.Claimed len place v words) = version_at s h ≡ v + 1
MayFree s h _ = ⊥

-- it is put away: its length alone stands in the word, and its version word is the last complete
-- one
abbrev pub IsPutAway : Shown → ℕ → ℕ → ℕ → ℕ → Type 0
IsPutAway s h w len v = (w ≡ 1 + len_of w * 8192) × (len_of w ≡ len) × (version_at s h ≡ v)

abbrev pub MayPutAway : Shown → ℕ → ℕ → Object → Type 0
MayPutAway s h w (is.Far len v words) = IsPutAway s h w len v
MayPutAway s h w (is.Claimed len place v words) = IsPutAway s h w len v
MayPutAway s h w _ = ⊥

-- the words at the word's place are the last complete ones, or these with one write
abbrev pub HasContents : Shown → ℕ → ℕ → ℕ → ℕ → List ℕ → Type 0
HasContents s h w len v words = (len_of w ≡ len)
    × (((version_at s h ≡ v) × (window s.memory (place_of w) (words_for len) ≡ words))
    ⊎ ((version_at s h ≡ v + 1) × ((at : ℕ) × (bytes : List ℕ) × (at + length bytes ≤ len)
    × IsWrite words at bytes (window s.memory (place_of w) (words_for len)))))

-- it is brought to a place: a new object with packed words at the first version, or one with its
-- contents
abbrev pub MayBring : Shown → ℕ → ℕ → Object → Type 0
MayBring s h w (is.Empty v) = (v ≡ 0) × (version_at s h ≡ s.first)
    × IsPacked (len_of w) (window s.memory (place_of w) (words_for (len_of w)))
MayBring s h w (is.Far len v words) = HasContents s h w len v words
MayBring s h w (is.Here len place) = ⊥
MayBring s h w (is.Claimed len place v words) = HasContents s h w len v words

-- by the state of the new word
abbrev pub MaySettleAs : State → Shown → ℕ → ℕ → Type 0
MaySettleAs word.Empty s h w = (w ≡ 0) × MayFree s h (object_at s h)
MaySettleAs word.Far s h w = MayPutAway s h w (object_at s h)
MaySettleAs word.Here s h w = (w < 2 ^ 53) × (pins_of w ≡ 0)
    × ((p : ℕ) → Covers (place_of w) (len_of w) p → MayLie s h p)
    × MayBring s h w (object_at s h)
MaySettleAs word.Moving s h w = ⊥

-- the pointer word of h may be settled as w
abbrev pub MaySettle : Shown → ℕ → ℕ → Type 0
MaySettle s h w = MaySettleAs (state_of w) s h w
