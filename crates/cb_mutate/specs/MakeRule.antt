-- The rule of a make, and what it does.
use Rattle.std.specs.Prelude.{◌≡◌, ℕ, ◌+◌, ◌<◌, false, List, [], ◌∷◌, ◌++◌, length, slice_set}
use Rattle.cb_class.specs.declared.class.Class.{Class}
use Rattle.cb_class.specs.Class.{IsClassOf}
use Rattle.cb_ptr.specs.declared.word.State.TheVariants as state
use Rattle.cb_ptr.specs.Word.{word_of}
use Rattle.cb_span.specs.declared.temp.Temp.TheVariants.{Hot}
use Rattle.cb_types.specs.declared.reply.Reply.{Reply}
use Rattle.cb_types.specs.declared.reply.Reply.TheVariants as answer
use Rattle.cb_world.specs.declared.access.Access.{Access}
use Rattle.cb_world.specs.declared.access.Access.TheVariants.{Stamped, Settled}
use Rattle.cb_world.specs.declared.object.Object.TheVariants as is
use Rattle.cb_world.specs.declared.shown.Shown.{Shown}
use Rattle.cb_world.specs.Memory.{put}
use Rattle.cb_world.specs.FarState.{FarState}
use Rattle.cb_world.specs.Placed.{Slot, IsChosen, IsCrammed, NeedsSpan, place_in, with_object}
use Rattle.cb_world.specs.Still.{IsStill}
use Rattle.cb_world.specs.Written.{Writes, entry}
use Rattle.cb_mutate.specs.Stores.{stores_from}
use Rattle.cb_mutate.specs.WordsOf.{AreWordsOf}

-- the word of a new object: here, not hot and without pins, with its length and place
abbrev pub new_word : ℕ → ℕ → ℕ
new_word len place = word_of (record {
  state = state.Here;
  hot = false;
  pins = 0;
  len = len;
  place = place;
})

-- each word of the object is stored once, then its version word, then its pointer word
abbrev pub make_events : ℕ → ℕ → ℕ → ℕ → List ℕ → List Access
make_events h version len place words =
    stores_from place words ++ Stamped h version ∷ Settled h (new_word len place) ∷ []

-- the far state with one handle more, whose object is in the slot
abbrev pub with_made : FarState → Slot → FarState
with_made far slot = record (with_object far slot far.made) { made = far.made + 1 }

-- the next handle has the bytes, at the first version, in the slot that they get in a hot span
pub record IsMake (h version : ℕ) (bytes : List ℕ) (far new : FarState) (es : List Access)
    : Type 0 where
  pub class : Class
  pub slot : Slot
  pub words : List ℕ
  pub next : h ≡ far.made
  pub first : version ≡ far.first
  pub fits : IsClassOf (length bytes) class
  pub chosen : IsChosen far class Hot slot
  pub state : new ≡ with_made far slot
  pub packed : AreWordsOf bytes words
  pub done : es ≡ make_events h version (length bytes) (place_in slot) words

-- for an object of so many bytes there is neither a slot in a hot span nor a run of free frames for
-- a new one
abbrev pub HasNoPlace : ℕ → FarState → Type 0
HasNoPlace len far = (class : Class) × IsClassOf len class × IsCrammed far class Hot

-- not all of so many handles were made, and the object needs a new span
abbrev pub NeedsNewSpan : ℕ → ℕ → FarState → Type 0
NeedsNewSpan handles len far =
    (far.made < handles) × ((class : Class) × IsClassOf len class × NeedsSpan far class Hot)

-- nothing is done, and the far state stays
abbrev pub IsRefused : FarState → FarState → List Access → Type 0
IsRefused far new es = (new ≡ far) × (es ≡ [])

-- the reply of a make, and the far state after it: Full where all of so many handles were made,
-- then NoFrame where there is no place, else Made
abbrev pub MakeRule : ℕ → List ℕ → FarState → FarState → Reply → List Access → Type 0
MakeRule handles bytes far new (answer.Full n) es =
    (far.made ≡ handles) × (n ≡ handles) × IsRefused far new es
MakeRule handles bytes far new answer.NoFrame es =
    (far.made < handles) × HasNoPlace (length bytes) far × IsRefused far new es
MakeRule handles bytes far new (answer.Made h version) es =
    (far.made < handles) × IsMake h.n version bytes far new es
MakeRule handles bytes far new r es = ⊥

-- the object is here in its slot with the words of its bytes at the first version, and not hot;
-- that version is written; and all else is as it was
pub record IsMade (h version : ℕ) (bytes : List ℕ) (far new : FarState) (es : List Access)
    (s t : Shown) : Type 0 where
  pub make : IsMake h version bytes far new es
  pub objects : t.objects ≡ slice_set s.objects h (is.Here (length bytes) (place_in make.slot))
  pub hots : t.hots ≡ slice_set s.hots h false
  pub versions : t.versions ≡ slice_set s.versions h version
  pub memory : t.memory ≡ put s.memory (place_in make.slot) make.words
  pub one : Writes es s (entry h version (length bytes) [] make.words ∷ [])

-- what a make with this reply does; a refusal changes nothing
abbrev pub MakeEffect : List ℕ → FarState → FarState → Reply → List Access → Shown → Shown → Type 0
MakeEffect bytes far new (answer.Made h version) es s t = IsMade h.n version bytes far new es s t
MakeEffect bytes far new r es s t = IsStill es s t
