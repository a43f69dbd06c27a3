-- The effect of an operation that changes nothing.
use Rattle.std.specs.Prelude.{◌≡◌, List, []}
use Rattle.cb_world.specs.declared.access.Access.{Access}
use Rattle.cb_world.specs.declared.shown.Shown.{Shown}
use Rattle.cb_world.specs.Looks.{told_by}
use Rattle.cb_world.specs.Written.{Writes}

-- the objects are as they were, the words and hot bits are as the events told of them, and no
-- version is written
pub record IsStill (es : List Access) (s t : Shown) : Type 0 where
  pub objects : t.objects ≡ s.objects
  pub hots : t.hots ≡ (told_by es s).hots
  pub versions : t.versions ≡ (told_by es s).versions
  pub memory : t.memory ≡ (told_by es s).memory
  pub nothing : Writes es s []
