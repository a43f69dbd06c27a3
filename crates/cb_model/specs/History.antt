-- The history of a handle: its changes in order of their versions. It is a fact about calls alone.
use Rattle.std.specs.Prelude.{◌≡◌, ℕ, ◌+◌, ◌≤◌, nat_le, if◌then◌else◌, List, [], ◌∷◌, length, filter, fold, None}
use Rattle.cb_model.specs.Now.{MapNow, Change, changed}
use Rattle.cb_model.specs.Now.Change.{Create, Overwrite, Remove}

-- a change put at its place among changes in order of their versions
abbrev pub placed : ℕ × Change → List (ℕ × Change) → List (ℕ × Change)
placed c [] = c ∷ []
placed c (d ∷ ds) = if nat_le c.0 d.0 then c ∷ d ∷ ds else d ∷ placed c ds

-- changes in order of their versions
abbrev pub by_version : List (ℕ × Change) → List (ℕ × Change)
by_version [] = []
by_version (c ∷ cs) = placed c (by_version cs)

-- what changes, one after the other, leave at a handle
abbrev pub left_by : List (ℕ × Change) → MapNow
left_by changes = fold changed None changes

-- what a handle had at a version
abbrev pub at_version : List (ℕ × Change) → ℕ → MapNow
at_version changes version = left_by (filter (λ c. nat_le c.0 version) changes)

-- the make's bytes are so many
abbrev pub IsMadeWith : List (ℕ × Change) → ℕ → Type 0
IsMadeWith ((version, Create bytes) ∷ later) len = len ≡ length bytes
IsMadeWith changes len = ⊥

-- changes after a make of so many bytes, from this version on: writes within the bytes, and a free
-- at the end, where there is one
abbrev pub GoesOn : ℕ → ℕ → List (ℕ × Change) → Type 0
GoesOn next len [] = Unit {0}
GoesOn next len ((version, Create bytes) ∷ later) = ⊥
GoesOn next len ((version, Overwrite at bytes) ∷ later) =
    (version ≡ next) × (at + length bytes ≤ len) × GoesOn (next + 1) len later
GoesOn next len ((version, Remove) ∷ later) = (version ≡ next) × (later ≡ [])

-- the make comes first, at the first version, and the versions go up one by one
abbrev pub IsHistory : ℕ → List (ℕ × Change) → Type 0
IsHistory first [] = Unit {0}
IsHistory first ((version, Create bytes) ∷ later) =
    (version ≡ first) × GoesOn (first + 1) (length bytes) later
IsHistory first changes = ⊥
