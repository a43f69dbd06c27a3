-- What a lane that runs in a thread of its own is given, and what it adds to the record of its
-- pass.
use Rattle.std.specs.Prelude.{◌≡◌, ℕ, nat_eq, List, [], ◌∷◌, ◌++◌, Option, Some, None}
use Rattle.std.specs.Prelude.{if◌then◌else◌}
use Rattle.std.specs.List.{AllByRecursion, filter}
use Rattle.std.specs.Str.{bytes_eq}
use Rattle.cb_types.specs.declared.answer.Answer.{Answer}
use Rattle.cb_types.specs.declared.config.Config.{Config}
use Rattle.cb_types.specs.declared.reply.Reply.{Reply}
use Rattle.cb_types.specs.declared.handle.Handle.{Handle}
use Rattle.cb_types.specs.Requests.{name_of}
use Rattle.cb_model.specs.Called.{first_of, handle_of}
use Rattle.cb_script.specs.declared.script.Line.{Line}
use Rattle.cb_script.specs.Form.{IsRequest}
use Rattle.cb_rule.specs.declared.view.View.{View}
use Rattle.cb_rule.specs.Steps.{Knows}
use Rattle.cb_record.specs.Backs.{Backs}
use Rattle.cb_record.specs.Parts.{Part, grown}
use Rattle.cb_record.specs.Told.{tolds}
use Rattle.cb_shared.specs.Joining.{unpinned_all}
use Rattle.cb_lanes.specs.declared.body.Named.{Named}
use Rattle.cb_lanes.specs.LineGoes.{Goes, LineGoes}
use Rattle.cb_lanes.specs.Asked.{answer_to}
use Rattle.cb_lanes.specs.Names.{AreKept, KeptNames, kept_number, request_handle}
use Rattle.cb_lanes.specs.Passing.{goes_in}

-- the lines of this lane, in order
abbrev pub of_lane : ℕ → List Line → List Line
of_lane lane lines = filter (λ l. nat_eq l.lane.n lane) lines

-- the line is of this lane, and its request has its form
abbrev pub IsLineOf : ℕ → ℕ → Line → Type 0
IsLineOf nodes lane l = (l.lane.n ≡ lane) × IsRequest nodes l.request

abbrev pub AreLinesOf : ℕ → ℕ → List Line → Type 0
AreLinesOf nodes lane lines = AllByRecursion (IsLineOf nodes lane) lines

abbrev pub handle_number : Option Handle → Option ℕ
handle_number None = None
handle_number (Some h) = Some h.n

-- the handle of a name among these, by its last make
abbrev pub handle_among : List Named → List ℕ → Option ℕ
handle_among [] name = None
handle_among (n ∷ later) name =
    first_of (handle_among later name)
    (if bytes_eq n.name name then handle_number n.handle else None)

-- the names are those of these answers
abbrev pub AreNamesOf : List Named → List Answer → Type 0
AreNamesOf names given = (name : List ℕ) → handle_of given name ≡ handle_among names name

abbrev pub KnowsHandle : View → Option Handle → Type 0
KnowsHandle v None = Unit {0}
KnowsHandle v (Some h) = Knows h.n v

-- the record has an entry of each of these objects
abbrev pub KnowsNames : View → List Named → Type 0
KnowsNames v names = AllByRecursion (λ n. KnowsHandle v n.handle) names

-- The record grew by a part that backs the answers, whatever answers gave the names before; which
-- handles are its own may change.
pub record AddsBacked (names : List Named) (answers : List Answer) (v w : View) : Type 0 where
  pub part : Part
  pub own : List ℕ
  pub grows : w ≡ record (grown part v) { own = own }
  pub backs : (given : List Answer) → AreNamesOf names given → Backs part (tolds given answers)

-- the handle of a name after these answers of a lane, which had these names given
abbrev pub handle_behind : List Named → List Answer → Option (List ℕ) → Option ℕ
handle_behind names before None = None
handle_behind names before (Some name) =
    first_of (handle_of before name) (handle_among names name)

-- The answers after those before them lead from one state of whatever answers to another, line by
-- line, each with the handle that its name had then.
abbrev pub LinesGo : {A : Type 0} → Goes A → List Named → List Answer → A → List Answer → A
    → Type 0
LinesGo goes names before a [] b = b ≡ a
LinesGo {A = A} goes names before a (x ∷ after) b = (between : A)
    × LineGoes goes (handle_behind names before (name_of x.request)) x.request a x.reply between
    × LinesGo goes names (before ++ x ∷ []) between after b

-- the handles that are kept are those of the names
abbrev pub KeepHandles : KeptNames → List Named → List Answer → Type 0
KeepHandles kept names before =
    (name : List ℕ) → kept_number kept name ≡ handle_behind names before (Some name)

-- and each of them has an entry in the record
abbrev pub KnowsKept : KeptNames → View → Type 0
KnowsKept kept v = (name : List ℕ) (h : ℕ) → kept_number kept name ≡ Some h → Knows h v

-- the one list stands at the front of the other
abbrev pub IsFront : {A : Type 0} → List A → List A → Type 0
IsFront {A = A} xs ys = (rest : List A) × (ys ≡ xs ++ rest)

-- the lines of a lane, and the end of its pins after them
abbrev pub LaneGoes : Config → List Named → View → List Answer → View → Type 0
LaneGoes c names v answers w = (between : View)
    × LinesGo (goes_in c) names [] v answers between × (w ≡ unpinned_all between)

-- one line with these handles kept, and the handles and the answers after it
pub record AnswersOne (c : Config) (line : Line) (kept later : KeptNames)
    (answers all : List Answer) (v w : View) : Type 0 where
  pub reply : Reply
  pub goes : LineGoes (goes_in c) (request_handle kept line.request) line.request v reply w
  pub keeps : AreKept kept line.request reply later
  pub answer : all ≡ answers ++ answer_to line line.request reply ∷ []
