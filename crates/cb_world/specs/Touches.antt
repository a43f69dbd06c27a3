-- Which object events are about, and the order in which it is changed.
use Rattle.std.specs.Prelude.{◌≡◌, ℕ, List, [], ◌∷◌}
use Rattle.cb_world.specs.declared.access.Access.{Access}
use Rattle.cb_world.specs.declared.access.Access.TheVariants.{Looked, Claimed, Told, Loaded, Stored, Stamped, Settled}
use Rattle.cb_world.specs.Shown.{Covers}

-- the event is at a word of this object: its pointer word, its version word, or one of the memory
-- words that hold so many bytes from the place on
abbrev pub IsAtObject : ℕ → ℕ → ℕ → Access → Type 0
IsAtObject h place len (Looked k w) = k ≡ h
IsAtObject h place len (Claimed k w v words) = k ≡ h
IsAtObject h place len (Told k v) = k ≡ h
IsAtObject h place len (Loaded p x) = Covers place len p
IsAtObject h place len (Stored p x) = Covers place len p
IsAtObject h place len (Stamped k v) = k ≡ h
IsAtObject h place len (Settled k w) = k ≡ h

-- every event is at a word of this object
abbrev pub Touches : ℕ → ℕ → ℕ → List Access → Type 0
Touches h place len [] = Unit {0}
Touches h place len (e ∷ es) = IsAtObject h place len e × Touches h place len es

-- no memory word is stored
abbrev pub NoStore : List Access → Type 0
NoStore [] = Unit {0}
NoStore (Stored p x ∷ es) = ⊥
NoStore (e ∷ es) = NoStore es

-- no version word is stored
abbrev pub NoStamp : List Access → Type 0
NoStamp [] = Unit {0}
NoStamp (Stamped h v ∷ es) = ⊥
NoStamp (e ∷ es) = NoStamp es

-- no version word is told
abbrev pub NoTell : List Access → Type 0
NoTell [] = Unit {0}
NoTell (Told h v ∷ es) = ⊥
NoTell (e ∷ es) = NoTell es

-- version words are told and memory words stored before a version word is stored, and all before a
-- pointer word is settled
abbrev pub SettlesLast : List Access → Type 0
SettlesLast [] = Unit {0}
SettlesLast (Stamped h v ∷ es) = NoTell es × NoStore es × SettlesLast es
SettlesLast (Settled h w ∷ es) = NoTell es × NoStore es × NoStamp es × SettlesLast es
SettlesLast (e ∷ es) = SettlesLast es
