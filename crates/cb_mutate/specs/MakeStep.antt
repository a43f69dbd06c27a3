-- A make as a step of the still desk: the reply, and every word afterwards.
use Rattle.std.specs.Prelude.{◌≡◌, ◌⊎◌, ℕ, ◌+◌, ◌<◌, ◌≤◌, List, length, slice_set}
use Rattle.cb_class.specs.declared.class.Class.{Class}
use Rattle.cb_class.specs.Class.{IsClassOf}
use Rattle.cb_ptr.specs.Word.{len_of, place_of}
use Rattle.cb_span.specs.declared.temp.Temp.TheVariants.{Hot}
use Rattle.cb_types.specs.declared.reply.Reply.{Reply}
use Rattle.cb_types.specs.declared.reply.Reply.TheVariants as answer
use Rattle.cb_world.specs.Memory.{put, words_for}
use Rattle.cb_world.specs.Plain.{Words}
use Rattle.cb_world.specs.FarState.{FarState}
use Rattle.cb_world.specs.Placed.{Slot, IsChosen, place_in}
use Rattle.cb_mutate.specs.WordsOf.{AreWordsOf}
use Rattle.cb_mutate.specs.MakeRule.{new_word, with_made, HasNoPlace}

-- the desk where h has so many bytes at this place, in these words, at the version n
abbrev pub with_new : Words → ℕ → ℕ → ℕ → ℕ → List ℕ → Words
with_new x h n len place words = record x {
  words = slice_set x.words h (new_word len place);
  versions = slice_set x.versions h n;
  memory = put x.memory place words;
}

-- the next handle has the bytes at the first version, in the slot that they get in a hot span,
-- which lies in memory and which its pointer word names
pub record IsNewObject (x y : Words) (far new : FarState) (bytes : List ℕ) : Type 0 where
  pub class : Class
  pub slot : Slot
  pub words : List ℕ
  pub fits : IsClassOf (length bytes) class
  pub chosen : IsChosen far class Hot slot
  pub packed : AreWordsOf bytes words
  pub left : y ≡ with_new x far.made far.first (length bytes) (place_in slot) words
  pub state : new ≡ with_made far slot
  pub within : place_in slot + words_for (length bytes) ≤ length x.memory
  pub names_length : len_of (new_word (length bytes) (place_in slot)) ≡ length bytes
  pub names_place : place_of (new_word (length bytes) (place_in slot)) ≡ place_in slot

-- A make of these bytes leads from the words x and a far state to the words y and another: Full
-- where all handles were made, else NoFrame where the bytes have no place, else Made.
abbrev pub IsMakeStep : Words → Words → FarState → FarState → List ℕ → Reply → Type 0
IsMakeStep x y far new bytes r =
    ((far.made ≡ x.settings.handles) × (r ≡ answer.Full x.settings.handles) × (y ≡ x)
    × (new ≡ far))
    ⊎ ((far.made < x.settings.handles)
    × ((HasNoPlace (length bytes) far × (r ≡ answer.NoFrame) × (y ≡ x) × (new ≡ far))
    ⊎ ((r ≡ answer.Made (record { n = far.made }) far.first) × IsNewObject x y far new bytes)))
