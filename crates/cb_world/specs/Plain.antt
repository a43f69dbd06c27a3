-- The words of a desk that no one else changes, and what each event does to them.
use Rattle.std.specs.Prelude.{◌≡◌, ℕ, true, ◌+◌, ◌*◌, ◌^◌, ◌<◌, List, [], ◌∷◌, length, slice_index, slice_set}
use Rattle.cb_types.specs.declared.config.Config.{Config}
use Rattle.cb_ptr.specs.declared.word.State.{State}
use Rattle.cb_ptr.specs.declared.word.State.TheVariants as word
use Rattle.cb_ptr.specs.Word.{state_of, hot_of, len_of, place_of, pins_of}
use Rattle.cb_world.specs.declared.access.Access.{Access}
use Rattle.cb_world.specs.declared.access.Access.TheVariants.{Looked, Claimed, Told, Loaded, Stored, Stamped, Settled}
use Rattle.cb_world.specs.declared.shown.Shown.{Shown}
use Rattle.cb_world.specs.Memory.{window, words_for}
use Rattle.cb_world.specs.Shown.{Fits, object_at, hot_at}

-- the configuration; of each handle its pointer word and its version word; the memory words
pub record Words : Type 0 where
  pub settings : Config
  pub words : List ℕ
  pub versions : List ℕ
  pub memory : List ℕ

-- as many words as the configuration says; a frame has 512
pub record IsSized (x : Words) : Type 0 where
  pub words : length x.words ≡ x.settings.handles
  pub versions : length x.versions ≡ x.settings.handles
  pub memory : length x.memory ≡ 512 * x.settings.frames

-- the pointer word of a handle, its version word, and the memory words of the object that its
-- pointer word names
abbrev pub word_at : Words → ℕ → ℕ
word_at desk h = slice_index desk.words h

abbrev pub stamp_at : Words → ℕ → ℕ
stamp_at desk h = slice_index desk.versions h

abbrev pub contents_at : Words → ℕ → List ℕ
contents_at desk h =
    window desk.memory (place_of (word_at desk h)) (words_for (len_of (word_at desk h)))

-- a word that is settled: 0, that of a far object with its length alone, or one that is here
abbrev pub IsSettledAs : State → ℕ → Type 0
IsSettledAs word.Empty w = w ≡ 0
IsSettledAs word.Far w = w ≡ 1 + len_of w * 8192
IsSettledAs word.Here w = w < 2 ^ 53
IsSettledAs word.Moving w = ⊥

-- a word is claimed where it is here and has no pins; the claim tells the object's version and
-- words
pub record IsClaim (x : Words) (h w v : ℕ) (words : List ℕ) : Type 0 where
  pub found : slice_index x.words h ≡ w
  pub within : h < length x.words
  pub here : state_of w ≡ word.Here
  pub no_pins : pins_of w ≡ 0
  pub version : slice_index x.versions h ≡ v
  pub contents : words ≡ window x.memory (place_of w) (words_for (len_of w))

-- the events lead from the first words to the last
abbrev pub Plain : Words → List Access → Words → Type 0
Plain x [] y = y ≡ x
Plain x (Looked h w ∷ es) y =
    ((slice_index x.words h ≡ w) × (h < length x.words)) × Plain x es y
Plain x (Claimed h w v xs ∷ es) y =
    IsClaim x h w v xs × Plain (record x { words = slice_set x.words h (w + 1) }) es y
Plain x (Told h v ∷ es) y = (slice_index x.versions h ≡ v) × Plain x es y
Plain x (Loaded p w ∷ es) y = (slice_index x.memory p ≡ w) × Plain x es y
Plain x (Stored p w ∷ es) y = Plain (record x { memory = slice_set x.memory p w }) es y
Plain x (Stamped h v ∷ es) y = Plain (record x { versions = slice_set x.versions h v }) es y
Plain x (Settled h w ∷ es) y = ((h < length x.words) × IsSettledAs (state_of w) w)
    × Plain (record x { words = slice_set x.words h w }) es y

-- the words are as is known of them
pub record Shows (x : Words) (s : Shown) : Type 0 where
  pub objects : length s.objects ≡ length x.words
  pub versions : s.versions ≡ x.versions
  pub hots : length s.hots ≡ length x.words
  pub hot : (h : ℕ) → h < length x.words → hot_at s h ≡ true
      → hot_of (slice_index x.words h) ≡ true
  pub memory : s.memory ≡ x.memory
  pub fit : (h : ℕ) → h < length x.words → Fits (object_at s h) (slice_index x.words h)
