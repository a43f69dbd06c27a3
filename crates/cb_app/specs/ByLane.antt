-- The lines of a script by lane and then by line, and which lanes use names that others made.
use Rattle.std.specs.Prelude.{◌≡◌, ◌⊎◌, ℕ, zero, suc, Bool, nat_eq, List, [], ◌∷◌, ◌++◌, Some}
use Rattle.std.specs.List.{AllByRecursion, list_any}
use Rattle.cb_types.specs.declared.request.Request.{Request}
use Rattle.cb_types.specs.declared.request.Request.TheVariants.{Make}
use Rattle.cb_types.specs.Requests.{name_of}
use Rattle.cb_script.specs.declared.script.Line.{Line}
use Rattle.cb_script.specs.Form.{IsNameMade}
use Rattle.cb_model.specs.Legal.{WasTold}
pub use Rattle.cb_lanes.specs.Bodies.{of_lane}

-- one of the lines is of this lane
abbrev pub has_lines : ℕ → List Line → Bool
has_lines lane lines = list_any (λ l. nat_eq l.lane.n lane) lines

-- those of lane 1, of lane 2, and so on up to this one
abbrev pub lanes_up_to : ℕ → List Line → List Line
lanes_up_to zero lines = []
lanes_up_to (suc n) lines = lanes_up_to n lines ++ of_lane (suc n) lines

-- those of lane 0, and then those of lanes 1 to 15
abbrev pub by_lane : List Line → List Line
by_lane lines = of_lane 0 lines ++ lanes_up_to 15 lines

-- the request is about a name that was made before
abbrev pub Uses : Request → List ℕ → Type 0
Uses (Make made bytes) name = ⊥
Uses request name = name_of request ≡ Some name

-- one of the lines is about it
abbrev pub IsUsed : List Line → List ℕ → Type 0
IsUsed [] name = ⊥
IsUsed (l ∷ lines) name = Uses l.request name ⊎ IsUsed lines name

-- the lines are about no name that is made on those before
abbrev pub IsApart : List Line → List Line → Type 0
IsApart before lines = (name : List ℕ) → IsUsed lines name
    → (lane : ℕ) → IsNameMade before lane name → ⊥

-- none of the lines is of a lane that was told what those before are answered
abbrev pub AreOfOthers : List Line → List Line → Type 0
AreOfOthers before lines =
    AllByRecursion (λ b. AllByRecursion (λ l. WasTold b.lane.n l.lane.n → ⊥) lines) before

-- so each of these lists of lines, after those before it
abbrev pub AreLanesApart : List Line → List (List Line) → Type 0
AreLanesApart before [] = Unit {0}
AreLanesApart before (lines ∷ later) = IsApart before lines × AreOfOthers before lines
    × AreLanesApart (before ++ lines) later

-- all lines of lists of lines
abbrev pub flat : List (List Line) → List Line
flat [] = []
flat (lines ∷ later) = lines ++ flat later
