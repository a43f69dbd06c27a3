-- What a pin and its end do to the words of the still desk.
use Rattle.std.specs.Prelude.{◌≡◌, ℕ, slice_index, slice_set}
use Rattle.cb_ptr.specs.Steps.{TakesPin, GivesPin}
use Rattle.cb_world.specs.Plain.{Words}

-- the words, where the pointer word of h is this one
abbrev pub with_word : Words → ℕ → ℕ → Words
with_word desk h w = record desk { words = slice_set desk.words h w }

-- the object has one pin more, and is hot
pub record IsPinned (old : Words) (h : ℕ) (new : Words) : Type 0 where
  pub word : ℕ
  pub takes : TakesPin (slice_index old.words h) word
  pub words : new ≡ with_word old h word

-- the object has one pin less
pub record IsUnpinned (old : Words) (h : ℕ) (new : Words) : Type 0 where
  pub word : ℕ
  pub gives : GivesPin (slice_index old.words h) word
  pub words : new ≡ with_word old h word
