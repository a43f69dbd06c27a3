-- The events that bring a span in.
use Rattle.std.specs.Prelude.{ℕ, List, [], ◌∷◌, Option}
use Rattle.cb_world.specs.declared.access.Access.{Access}
use Rattle.cb_world.specs.declared.access.Access.TheVariants.{Looked, Stored, Settled}
use Rattle.cb_world.specs.FrameWords.{LiesInRun}
use Rattle.cb_swapin.specs.Named.{IsNamed}

-- words are stored in the run of frames alone, and the objects that the slots name, and no others,
-- are looked at and settled
abbrev pub BringsSlots : List (Option ℕ) → ℕ → ℕ → List Access → Type 0
BringsSlots slots f pages [] = Unit {0}
BringsSlots slots f pages (Looked h w ∷ es) = IsNamed slots h × BringsSlots slots f pages es
BringsSlots slots f pages (Stored p x ∷ es) = LiesInRun f pages p × BringsSlots slots f pages es
BringsSlots slots f pages (Settled h w ∷ es) = IsNamed slots h × BringsSlots slots f pages es
BringsSlots slots f pages (e ∷ es) = ⊥

-- every event stores a word of the run
abbrev pub StoresIn : ℕ → ℕ → List Access → Type 0
StoresIn f pages [] = Unit {0}
StoresIn f pages (Stored p x ∷ es) = LiesInRun f pages p × StoresIn f pages es
StoresIn f pages (e ∷ es) = ⊥
