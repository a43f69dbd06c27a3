-- How a new object is written at its place.
use Rattle.std.specs.Prelude.{◌≡◌, ℕ, ◌+◌, ◌<◌, ◌≤◌, List, length}
use Rattle.cb_world.specs.declared.access.Access.{Access}
use Rattle.cb_world.specs.declared.shown.Shown.{Shown}
use Rattle.cb_world.specs.Memory.{words_for}
use Rattle.cb_world.specs.Shown.{Covers, MayLie, object_at, never}
use Rattle.cb_mutate.specs.MakeRule.{make_events}
use Rattle.cb_mutate.specs.WordsOf.{AreWordsOf}

-- nothing was made under the handle yet, and an object of so many bytes may lie at the place
pub record IsNewAt (s : Shown) (h version place len : ℕ) : Type 0 where
  pub never_made : object_at s h ≡ never
  pub first : version ≡ s.first
  pub stamp : h < length s.versions
  pub within : place + words_for len ≤ length s.memory
  pub alone : (p : ℕ) → Covers place len p → MayLie s h p

-- the object's words, its version word and its pointer word were stored
pub record StoresNew (runs : List Access → Type 0) (h version place : ℕ) (bytes : List ℕ)
    : Type 0 where
  pub words : List ℕ
  pub packed : AreWordsOf bytes words
  pub ran : runs (make_events h version (length bytes) place words)
