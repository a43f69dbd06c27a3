-- What the answers of a lane beside others say of its scope.
use Rattle.std.specs.Prelude.{◌≡◌, ◌↔◌, ◌⊎◌, ℕ, List, [], ◌∷◌, ◌++◌, Some}
use Rattle.cb_types.specs.declared.answer.Answer.{Answer}
use Rattle.cb_model.specs.Called.{handle_made}
use Rattle.cb_lanes.specs.declared.body.Named.{Named}
use Rattle.cb_lanes.specs.Bodies.{AreNamesOf}
use Rattle.cb_lanes.specs.Scopes.{KeepScopes, scope_of}

-- one of the answers gave the name this handle
abbrev pub IsMadeAs : List Answer → List ℕ → ℕ → Type 0
IsMadeAs [] name h = ⊥
IsMadeAs (a ∷ later) name h =
    (handle_made name a.request a.reply ≡ Some h) ⊎ IsMadeAs later name h

-- a name was given one handle, and a handle to one name
abbrev pub AreOneToOne : List Answer → Type 0
AreOneToOne answers = (a b : List ℕ) (g h : ℕ) → IsMadeAs answers a g → IsMadeAs answers b h
    → (a ≡ b) ↔ (g ≡ h)

-- The answers after those given are as the scopes of their lanes say, once no name has two handles
-- and no handle two names.
abbrev pub AreScoped : List Answer → List Answer → Type 0
AreScoped given answers = AreOneToOne (given ++ answers) → KeepScopes given answers

-- a name was given one handle
abbrev pub HaveOneHandle : List Answer → Type 0
HaveOneHandle answers = (a : List ℕ) (g h : ℕ) → IsMadeAs answers a g → IsMadeAs answers a h → g ≡ h

-- So are the answers of a lane, whatever answers gave the names before, where these gave a handle
-- to one name each and the lane has no pin by them, once no name is given two handles. The objects
-- that the lane made have handles of their own.
abbrev pub LaneScoped : ℕ → List Named → List Answer → Type 0
LaneScoped lane names answers = (given : List Answer) → AreNamesOf names given
    → scope_of lane given ≡ [] → AreOneToOne given → HaveOneHandle (given ++ answers)
    → KeepScopes given answers
