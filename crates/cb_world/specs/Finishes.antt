-- How the part of an operation is told that begins with a claimed object.
use Rattle.std.specs.Prelude.{◌≡◌, ℕ, List}
use Rattle.cb_world.specs.declared.access.Access.{Access}
use Rattle.cb_world.specs.declared.shown.Shown.{Shown}
use Rattle.cb_world.specs.Played.{played}
use Rattle.cb_ptr.specs.Word.{len_of, place_of}
use Rattle.cb_world.specs.Looks.{NoLook, LooksFirst, told_by}
use Rattle.cb_world.specs.Touches.{Touches, SettlesLast}
use Rattle.cb_world.specs.Allowed.{Allowed}

-- Its events, which the desk ran: each is at a word of the object, whose word was claimed; none
-- looks at it or claims it, and it is settled last. And for all that is known of the claimed
-- object, its version and its words: the events are allowed, and end so.
pub record Finishes (runs : List Access → Type 0) (knows : Shown → ℕ → List ℕ → Type 0) (h word : ℕ)
    (ends : List Access → Shown → ℕ → List ℕ → Shown → Type 0) : Type 0 where
  pub events : List Access
  pub ran : runs events
  pub no_look : NoLook h events
  pub looks_first : LooksFirst events
  pub touches : Touches h (place_of word) (len_of word) events
  pub settles_last : SettlesLast events
  pub quiet : (s : Shown) → told_by events s ≡ s
  pub allowed : (s : Shown) (v : ℕ) (words : List ℕ) → knows s v words → Allowed s events
  pub ends_so : (s : Shown) (v : ℕ) (words : List ℕ) → knows s v words
      → ends events s v words (played events s)
