-- Events that only tell of an object.
use Rattle.std.specs.Prelude.{◌≡◌, ℕ, List, [], ◌∷◌}
use Rattle.cb_world.specs.declared.access.Access.{Access}
use Rattle.cb_world.specs.declared.access.Access.TheVariants.{Told, Loaded}

-- the version word of the object and memory words are read, and nothing else is done
abbrev pub AreReads : ℕ → List Access → Type 0
AreReads h [] = Unit {0}
AreReads h (Told k v ∷ es) = (k ≡ h) × AreReads h es
AreReads h (Loaded p x ∷ es) = AreReads h es
AreReads h (e ∷ es) = ⊥
