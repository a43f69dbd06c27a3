-- The rule of a read, and what it does.
use Rattle.std.specs.Prelude.{◌≡◌, ◌⊎◌, ℕ, true, ◌+◌, ◌<◌, ◌≤◌, List, [], ◌∷◌, length, slice_index, slice_set}
use Rattle.cb_ptr.specs.declared.word.State.TheVariants as state
use Rattle.cb_ptr.specs.Word.{state_of, len_of, place_of, pins_of}
use Rattle.cb_types.specs.declared.reply.Reply.{Reply}
use Rattle.cb_types.specs.declared.reply.Reply.TheVariants as answer
use Rattle.cb_world.specs.declared.access.Access.{Access}
use Rattle.cb_world.specs.declared.access.Access.TheVariants.{Looked, Loaded}
use Rattle.cb_world.specs.declared.shown.Shown.{Shown}
use Rattle.cb_world.specs.Memory.{words_for, bytes_in}
use Rattle.cb_world.specs.Looks.{IsFound, IsTaken, IsTold, told_by}
use Rattle.cb_world.specs.Still.{IsStill}
use Rattle.cb_world.specs.Written.{Writes}
use Rattle.cb_mutate.specs.Answered.{Answered}

-- a memory word was read at the place, and was this one
abbrev pub IsLoaded : ℕ → ℕ → List Access → Type 0
IsLoaded p x [] = ⊥
IsLoaded p x (Loaded q y ∷ es) = IsLoaded p x es ⊎ ((q ≡ p) × (y ≡ x))
IsLoaded p x (e ∷ es) = IsLoaded p x es

-- so at each place from this one on
abbrev pub AreLoaded : ℕ → List ℕ → List Access → Type 0
AreLoaded place words es =
    (i : ℕ) → i < length words → IsLoaded (place + i) (slice_index words i) es

-- an object that was claimed shows the contents that the claim told
abbrev pub ShowsClaimed : ℕ → List Access → Reply → ℕ → Type 0
ShowsClaimed h es r w = (v : ℕ) × (words : List ℕ) × IsTaken h v words es
    × (r ≡ answer.Bytes v (bytes_in words (len_of w)))

-- an object with pins shows the version and the words that were read
abbrev pub ShowsPinned : ℕ → List Access → Reply → ℕ → Type 0
ShowsPinned h es r w = (v : ℕ) × (words : List ℕ) × IsTold h v es
    × (length words ≡ words_for (len_of w)) × AreLoaded (place_of w) words es
    × (r ≡ answer.Bytes v (bytes_in words (len_of w)))

-- an object that is here, by whether it has pins
abbrev pub ReadHere : ℕ → List Access → Reply → ℕ → Type 0
ReadHere h es r w = ((pins_of w ≡ 0) × ShowsClaimed h es r w)
    ⊎ ((1 ≤ pins_of w) × ShowsPinned h es r w)

-- the reply of a read
abbrev pub ReadRule : ℕ → Reply → List Access → Type 0
ReadRule h r es = Answered (ReadHere h es r) h es r

-- nothing changes but that a word without pins, which was claimed, is hot
pub record IsShown (h : ℕ) (es : List Access) (s t : Shown) : Type 0 where
  pub word : ℕ
  pub found : IsFound h word es
  pub hot : pins_of word ≡ 0 → t.hots ≡ slice_set (told_by es s).hots h true
  pub pinned : 1 ≤ pins_of word → t.hots ≡ (told_by es s).hots
  pub objects : t.objects ≡ s.objects
  pub versions : t.versions ≡ (told_by es s).versions
  pub memory : t.memory ≡ (told_by es s).memory
  pub nothing : Writes es s []

-- the object was looked at and found here, and nothing else was done
abbrev pub IsSeenHere : ℕ → List Access → Type 0
IsSeenHere h es = (w : ℕ) × (es ≡ Looked h w ∷ []) × (state_of w ≡ state.Here)

-- what a read with this reply does; a refusal changes nothing
abbrev pub ReadEffect : ℕ → Reply → List Access → Shown → Shown → Type 0
ReadEffect h (answer.Bytes v bytes) es s t = IsShown h es s t
ReadEffect h _ es s t = IsStill es s t
