-- The bytes of an object, as its words were read.
use Rattle.std.specs.Prelude.{◌≡◌, ℕ, List, length}
use Rattle.cb_world.specs.declared.access.Access.{Access}
use Rattle.cb_world.specs.declared.shown.Shown.{Shown}
use Rattle.cb_world.specs.Memory.{window, words_for, bytes_in}
use Rattle.cb_world.specs.Touches.{Touches}
use Rattle.cb_mutate.specs.Stores.{AreLoads}
use Rattle.cb_mutate.specs.ReadRule.{AreLoaded}

-- The words of an object of so many bytes were read from its place on, and its bytes fill the room.
-- Where the reader owns the words, they are those of the memory.
pub record Loads (runs : List Access → Type 0) (owns : Shown → Type 0) (place len : ℕ)
    (room : List ℕ) : Type 0 where
  pub events : List Access
  pub ran : runs events
  pub loads : AreLoads events
  pub touches : (h : ℕ) → Touches h place len events
  pub words : List ℕ
  pub count : length words ≡ words_for len
  pub loaded : AreLoaded place words events
  pub bytes : room ≡ bytes_in words len
  pub contents : (s : Shown) → owns s → words ≡ window s.memory place (words_for len)
