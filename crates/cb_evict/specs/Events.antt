-- What lists of events are about.
use Rattle.std.specs.Prelude.{◌≡◌, ℕ, List, [], ◌∷◌}
use Rattle.cb_world.specs.declared.access.Access.{Access}
use Rattle.cb_world.specs.declared.access.Access.TheVariants.{Looked, Claimed, Loaded, Settled}
use Rattle.cb_world.specs.declared.shown.Shown.{Shown}
use Rattle.cb_world.specs.Played.{played}
use Rattle.cb_world.specs.Looks.{told_by}
use Rattle.cb_world.specs.Allowed.{Allowed}
use Rattle.cb_world.specs.Written.{Writes}

-- each event looks at, claims or settles one of these objects, or reads the word at one of these
-- places; nothing is stored
abbrev pub TouchesOnly : (ℕ → Type 0) → (ℕ → Type 0) → List Access → Type 0
TouchesOnly objects places [] = Unit {0}
TouchesOnly objects places (Looked h w ∷ es) = objects h × TouchesOnly objects places es
TouchesOnly objects places (Claimed h w v words ∷ es) = objects h × TouchesOnly objects places es
TouchesOnly objects places (Settled h w ∷ es) = objects h × TouchesOnly objects places es
TouchesOnly objects places (Loaded p x ∷ es) = places p × TouchesOnly objects places es
TouchesOnly objects places (e ∷ es) = ⊥

-- each event is a look
abbrev pub OnlyLooks : List Access → Type 0
OnlyLooks [] = Unit {0}
OnlyLooks (Looked h w ∷ es) = OnlyLooks es
OnlyLooks (e ∷ es) = ⊥

-- the events are allowed, write no version, and leave the hot bits as they told of them
pub record AreSteady (es : List Access) (s : Shown) : Type 0 where
  pub allowed : Allowed s es
  pub nothing : Writes es s []
  pub hots : (played es s).hots ≡ (told_by es s).hots
