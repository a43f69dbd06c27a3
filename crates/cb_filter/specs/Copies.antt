-- Words copied from one place of memory to another, and the word at which their object is settled.
use Rattle.std.specs.Prelude.{◌≡◌, ℕ, false, ◌+◌, ◌^◌, ◌<◌, ◌≤◌, List, [], ◌∷◌, length}
use Rattle.cb_ptr.specs.declared.word.State.TheVariants as word
use Rattle.cb_ptr.specs.Word.{state_of, hot_of, pins_of, len_of, place_of}
use Rattle.cb_world.specs.declared.access.Access.{Access}
use Rattle.cb_world.specs.declared.access.Access.TheVariants.{Loaded, Stored}
use Rattle.cb_world.specs.declared.shown.Shown.{Shown}
use Rattle.cb_world.specs.Memory.{words_for}
use Rattle.cb_world.specs.Shown.{Covers, MayLie}

-- each word is read at one place and stored at the other, in order
abbrev pub copied_from : ℕ → ℕ → List ℕ → List Access
copied_from place to [] = []
copied_from place to (x ∷ xs) = Loaded place x ∷ Stored to x ∷ copied_from (place + 1) (to + 1) xs

-- the word is the object's at this place: here, without pins, with its length, and not hot
pub record IsCoolWord (old place new : ℕ) : Type 0 where
  pub state : state_of new ≡ word.Here
  pub pins : pins_of new ≡ 0
  pub len : len_of new ≡ len_of old
  pub at : place_of new ≡ place
  pub hot : hot_of new ≡ false
  pub below : new < 2 ^ 53

-- the object with this word may lie at another place too, none of whose words it has
pub record IsVacant (s : Shown) (h old place : ℕ) : Type 0 where
  pub within : place + words_for (len_of old) ≤ length s.memory
  pub alone : (p : ℕ) → Covers place (len_of old) p → MayLie s h p
  pub apart : (p : ℕ) → Covers place (len_of old) p → Covers (place_of old) (len_of old) p → ⊥
