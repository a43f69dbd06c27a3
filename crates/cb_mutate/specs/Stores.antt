-- Events at memory words.
use Rattle.std.specs.Prelude.{ℕ, ◌+◌, List, [], ◌∷◌}
use Rattle.cb_world.specs.declared.access.Access.{Access}
use Rattle.cb_world.specs.declared.access.Access.TheVariants.{Loaded, Stored}

-- every event is at a memory word
abbrev pub AreStores : List Access → Type 0
AreStores [] = Unit {0}
AreStores (Loaded p x ∷ es) = AreStores es
AreStores (Stored p x ∷ es) = AreStores es
AreStores (e ∷ es) = ⊥

-- every event reads a memory word
abbrev pub AreLoads : List Access → Type 0
AreLoads [] = Unit {0}
AreLoads (Loaded p x ∷ es) = AreLoads es
AreLoads (e ∷ es) = ⊥

-- each word is stored once, the first one at this place, the others after it
abbrev pub stores_from : ℕ → List ℕ → List Access
stores_from place [] = []
stores_from place (x ∷ xs) = Stored place x ∷ stores_from (place + 1) xs
