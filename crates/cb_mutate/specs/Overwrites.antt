-- A part of an object is written over.
use Rattle.std.specs.Prelude.{◌≡◌, ℕ, List, length}
use Rattle.cb_world.specs.declared.access.Access.{Access}
use Rattle.cb_world.specs.declared.shown.Shown.{Shown}
use Rattle.cb_world.specs.Memory.{window, put, words_for}
use Rattle.cb_world.specs.Write.{IsWrite}
use Rattle.cb_world.specs.Played.{played}
use Rattle.cb_world.specs.Touches.{Touches}
use Rattle.cb_world.specs.Allowed.{Allowed}
use Rattle.cb_mutate.specs.Stores.{AreStores}
use Rattle.cb_mutate.specs.Wordwise.{IsWordwise}

-- the events leave the words of the object with one write, and all else as it was
pub record Rewrites (s : Shown) (place len at : ℕ) (bytes : List ℕ) (es : List Access)
    : Type 0 where
  pub new : List ℕ
  pub write : IsWrite (window s.memory place (words_for len)) at bytes new
  pub wordwise : IsWordwise (window s.memory place (words_for len)) at (length bytes) new
  pub left : played es s ≡ record s { memory = put s.memory place new }
  pub allowed : Allowed s es

-- Memory words of an object of so many bytes at this place are read and stored, and no others.
-- Where the writer owns them, they are written over.
pub record Overwrites (runs : List Access → Type 0) (owns : Shown → Type 0) (place len at : ℕ)
    (bytes : List ℕ) : Type 0 where
  pub events : List Access
  pub ran : runs events
  pub stores : AreStores events
  pub touches : (h : ℕ) → Touches h place len events
  pub rewrites : (s : Shown) → owns s → Rewrites s place len at bytes events
