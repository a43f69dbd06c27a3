-- What the parts of the reader answer.
use Rattle.std.specs.Prelude.{◌≡◌, ℕ, ◌+◌, ◌*◌, ◌≤◌, ◌⊎◌, Option, Some, None, Result, Ok, Err, List, [], ◌∷◌, ◌++◌, length, map}
use Rattle.std.specs.List.{AllByRecursion}
use Rattle.std.specs.BTreeMap.{BTreeMap, get}
use Rattle.std.specs.Ordering.{nat_cmp}
use Rattle.cb_types.specs.Config.{IsAccepted}
use Rattle.cb_types.specs.declared.config.Config.{Config}
use Rattle.cb_types.specs.declared.handle.Lane.{Lane}
use Rattle.cb_types.specs.declared.request.Request.{Request}
use Rattle.cb_types.specs.declared.request.Request.TheVariants as request
use Rattle.cb_script.specs.declared.fault.Reason.{Reason}
use Rattle.cb_script.specs.declared.fault.Reason.TheVariants as reasons
use Rattle.cb_script.specs.declared.fault.Refusal.{Refusal}
use Rattle.cb_script.specs.declared.fault.Refusal.TheVariants.{Broken, NoMemory}
use Rattle.cb_script.specs.declared.fault.ScriptFault.{ScriptFault}
use Rattle.cb_script.specs.declared.fault.ScriptFault.TheVariants as script_faults
use Rattle.cb_script.specs.declared.request.Limits.{Limits}
use Rattle.cb_script.specs.declared.script.Line.{Line}
use Rattle.cb_script.specs.declared.script.Mode.{Mode}
use Rattle.cb_script.specs.declared.verb.NameVerb.{NameVerb}
use Rattle.cb_script.specs.declared.verb.NameVerb.TheVariants as on_name
use Rattle.cb_script.specs.declared.verb.NodeVerb.{NodeVerb}
use Rattle.cb_script.specs.declared.verb.NodeVerb.TheVariants as on_node
use Rattle.cb_script.specs.declared.verb.BareVerb.{BareVerb}
use Rattle.cb_script.specs.declared.verb.BareVerb.TheVariants as bare
use Rattle.cb_script.specs.Form.{IsName, IsNameMade, IsRequest, IsNameKnown, MayFollow, FitsMode, AreLines, AreInMode}
use Rattle.cb_script.specs.Numbers.{AreNumbers}
use Rattle.cb_script.specs.Phrase.{Phrase, phrase_of}
use Rattle.cb_script.specs.Rules.{LinePlace, RuleHolds, IsLeast}
use Rattle.cb_script.specs.Spelling.{script_line, header_line}

-- the reason is this one, unless memory was wanting
abbrev pub RefusesBy : Refusal → (Reason → Type 0) → Type 0
RefusesBy NoMemory faults = Unit {0}
RefusesBy (Broken reason) faults = faults reason

-- what was read is so, or a rule is broken so
abbrev pub ReadsAs : {X : Type 0} → Result X Refusal → (X → Type 0) → (Reason → Type 0) → Type 0
ReadsAs (Ok x) is faults = is x
ReadsAs (Err refusal) is faults = RefusesBy refusal faults

-- NAME is broken, or the name stands and whether it is known is broken
abbrev pub NameFault : Type 0 → Type 0 → Reason → Type 0
NameFault name rest reasons.Name = name → ⊥
NameFault name rest reasons.Known = name × (rest → ⊥)
NameFault name rest _ = ⊥

-- HEX is broken, or its digits stand and there are too many
abbrev pub HexFault : Type 0 → Type 0 → Reason → Type 0
HexFault hex short reasons.Hex = hex → ⊥
HexFault hex short reasons.Length = hex × (short → ⊥)
HexFault hex short _ = ⊥

-- the bytes of a name as one number, the first byte lowest
abbrev pub number_of_name : List ℕ → ℕ
number_of_name [] = 0
number_of_name (b ∷ bytes) = number_of_name bytes * 256 + b

-- the lane that the names kept have for this one; a name is kept by its number
abbrev pub maker_of : BTreeMap ℕ ℕ → List ℕ → Option ℕ
maker_of names name = get nat_cmp names (number_of_name name)

-- the lane alone made the name on these lines, or none did
abbrev pub IsMaker : List Line → List ℕ → Option ℕ → Type 0
IsMaker before name None = (lane : ℕ) → IsNameMade before lane name → ⊥
IsMaker before name (Some maker) =
    IsNameMade before maker name × ((lane : ℕ) → IsNameMade before lane name → lane ≡ maker)

-- the names kept are those made on these lines, each with its lane
abbrev pub HasNames : BTreeMap ℕ ℕ → List Line → Type 0
HasNames names before =
    (name : List ℕ) → IsName name → IsMaker before name (maker_of names name)

-- the request has this phrase, and may stand here in this lane
pub record MayStand (place : LinePlace) (lane : ℕ) (phrase : Phrase) (r : Request) : Type 0 where
  pub spelled : phrase_of r ≡ phrase
  pub request : IsRequest place.nodes r
  pub known : IsNameKnown place.before lane r
  pub allowed : FitsMode phrase place.mode

-- the line has this text, and may stand here
pub record ComesNext (place : LinePlace) (text : List ℕ) (l : Line) : Type 0 where
  pub follows : MayFollow place.nodes place.before l
  pub allowed : FitsMode (phrase_of l.request) place.mode
  pub spelled : text ≡ script_line l

-- the names are still those made, with the request's line after these lines, whatever its number
abbrev pub StaysNamed : BTreeMap ℕ ℕ → List Line → Lane → Request → Type 0
StaysNamed names before lane r =
    (line : ℕ) → HasNames names (before ++ record { lane = lane; line = line; request = r } ∷ [])

-- the place after these lines
abbrev pub line_place : Limits → List Line → LinePlace
line_place limits before = record { mode = limits.mode; nodes = limits.nodes; before = before }

-- the request of a verb in front of a name
abbrev pub naming : NameVerb → List ℕ → Request
naming on_name.Read name = request.Read name
naming on_name.Free name = request.Free name
naming on_name.Pin name = request.Pin name
naming on_name.Peek name = request.Peek name
naming on_name.Unpin name = request.Unpin name
naming on_name.Filter name = request.Filter name

-- the request of a verb in front of a node
abbrev pub facing : NodeVerb → ℕ → Request
facing on_node.Crash node = request.Crash (record { n = node })
facing on_node.Join node = request.Join (record { n = node })

-- the request of a verb that stands alone
abbrev pub alone : BareVerb → Request
alone bare.Leave = request.Leave
alone bare.Evict = request.Evict
alone bare.Begin = request.Begin
alone bare.Ship = request.Ship
alone bare.Commit = request.Commit
alone bare.Abort = request.Abort
alone bare.Pair = request.Pair
alone bare.Patch = request.Patch
alone bare.Merge = request.Merge
alone bare.Part = request.Part
alone bare.Compact = request.Compact
alone bare.Rebuild = request.Rebuild

-- the header is not in its form, or one of its fields is out of its range
abbrev pub HeaderFault : List ℕ → Reason → Type 0
HeaderFault text reasons.Header = (c : Config) → AreNumbers c → text ≡ header_line c → ⊥
HeaderFault text reasons.Config =
    (c : Config) × AreNumbers c × (text ≡ header_line c) × (IsAccepted c → ⊥)
HeaderFault text _ = ⊥

-- the least lane that may stand after these lines: 1 where another lane than 0 is among them
abbrev pub IsLeastLane : List Line → ℕ → Type 0
IsLeastLane before least =
    ((least ≡ 0) × AllByRecursion (λ l. l.lane.n ≡ 0) before)
    ⊎ ((least ≡ 1) × (AllByRecursion (λ l. l.lane.n ≡ 0) before → ⊥))

-- these texts are the lines
pub record AreTheLines (mode : Mode) (nodes : ℕ) (texts : List (List ℕ)) (lines : List Line)
    : Type 0 where
  pub are : AreLines nodes [] lines
  pub allowed : AreInMode mode lines
  pub few : length lines ≤ 20000
  pub read : map script_line lines ≡ texts

-- a text among these that is no line after those before it
pub record HasBadLine (mode : Mode) (nodes : ℕ) (texts : List (List ℕ)) (line : ℕ) (reason : Reason)
    : Type 0 where
  pub before : List Line
  pub are : AreLines nodes [] before
  pub allowed : AreInMode mode before
  pub few : length before ≤ 20000
  pub text : List ℕ
  pub after : List (List ℕ)
  pub read : texts ≡ map script_line before ++ text ∷ after
  pub number : line ≡ length before + 2
  pub least : IsLeast (RuleHolds (record { mode = mode; nodes = nodes; before = before }) text)
      reason

-- the fault is that of a bad line, unless memory was wanting
abbrev pub FaultIs : ScriptFault → (ℕ → Reason → Type 0) → Type 0
FaultIs script_faults.NoMemory faults = Unit {0}
FaultIs (script_faults.Bad line reason) faults = faults line reason

-- the fault of a line that was refused
abbrev pub fault_at : ℕ → Refusal → ScriptFault
fault_at line NoMemory = script_faults.NoMemory
fault_at line (Broken reason) = script_faults.Bad line reason
