-- What a thread is given, what it leaves, and what lanes and workers leave together.
use Rattle.std.specs.Prelude.{◌≡◌, ℕ, ◌+◌, ◌≤◌, cond, eqb, List, [], ◌∷◌, ◌++◌, map, All, IfOk, Option, Some, None}
use Rattle.std.specs.List.{AllByRecursion, flat_map}
use Rattle.cb_types.specs.declared.answer.Answer.{Answer}
use Rattle.cb_types.specs.declared.handle.Handle.{Handle}
use Rattle.cb_types.specs.declared.job.Job.{Job}
use Rattle.cb_types.specs.declared.reply.Reply.{Reply}
use Rattle.cb_types.specs.declared.reply.Reply.TheVariants.{Made}
use Rattle.cb_types.specs.Jobs.{job_index}
use Rattle.cb_types.specs.declared.request.Request.{Request}
use Rattle.cb_types.specs.declared.request.Request.TheVariants.{Make}
use Rattle.cb_script.specs.declared.script.Line.{Line}
use Rattle.cb_script.specs.Form.{AreLines}
use Rattle.cb_rule.specs.declared.view.View.{View}
use Rattle.cb_rule.specs.Lists.{times}
use Rattle.cb_rule.specs.Steps.{right_of}
use Rattle.cb_model.specs.Called.{calls_behind, calls_of}
use Rattle.cb_model.specs.Legal.{NeverFalls, Rising}
use Rattle.cb_record.specs.Backs.{Backs}
use Rattle.cb_record.specs.Rises.{HasAllOf, IsOnRecord}
use Rattle.cb_record.specs.Told.{tolds}
use Rattle.cb_record.specs.Upheld.{as_part}
use Rattle.cb_text.specs.Line.{text_of}
use Rattle.cb_shared.specs.declared.pass.Pass.{Pass}
use Rattle.cb_shared.specs.declared.runtime.Shared.{Shared}
use Rattle.cb_shared.specs.Passes.{IsPassOf, record_of}
use Rattle.cb_shared.specs.Recalls.{first_version_of}
use Rattle.cb_lanes.specs.declared.body.LaneEnd.{LaneEnd}
use Rattle.cb_lanes.specs.declared.body.Named.{Named}
use Rattle.cb_lanes.specs.Asked.{HasLineReply, asked}
use Rattle.cb_lanes.specs.Bodies.{AreLinesOf, AreNamesOf, KnowsNames}
use Rattle.cb_lanes.specs.LastTries.{HasLastTry}
use Rattle.cb_lanes.specs.Scoped.{AreScoped}
use Rattle.cb_lanes.specs.Suits.{AreSuited}
use Rattle.cb_workers.specs.Rules.{lane_of}
use Rattle.cb_workers.specs.declared.worker.Worker.{Worker as Worker'}
use Rattle.cb_app.specs.ByLane.{AreLanesApart, flat, lanes_up_to, of_lane}
use Rattle.cb_app.specs.CrewTurns.{LeavesWork}
use Rattle.cb_app.specs.OwnLines.{KeepAloneWith}
use Rattle.cb_app.specs.declared.crew.Body.{Body}
use Rattle.cb_app.specs.declared.crew.Body.TheVariants.{Lane, Worker}
use Rattle.cb_app.specs.declared.crew.Ended.{Ended}
use Rattle.cb_app.specs.declared.crew.Task.{Task}
use Rattle.cb_app.specs.declared.crew.ToldEnd.{ToldEnd}
use Rattle.cb_app.specs.Telling.{turns_by}

-- the handle that a make was answered, unless it was refused
abbrev pub handle_told : Reply → Option Handle
handle_told (Made handle version) = Some handle
handle_told reply = None

-- the name that an answered line made, where it made one
abbrev pub name_made : Request → Reply → List Named
name_made (Make name bytes) reply = record { name = name; handle = handle_told reply } ∷ []
name_made request reply = []

-- the names that were made, in the order of the makes
abbrev pub names_in : List Answer → List Named
names_in answers = flat_map (λ a. name_made a.request a.reply) answers

-- the text of what was told tells its answers
abbrev pub IsTextWritten : ToldEnd → Type 0
IsTextWritten t = t.text ≡ text_of t.end.answers

-- so of what a thread left, unless memory was wanting
abbrev pub HasText : Ended → Type 0
HasText e = IfOk e.left IsTextWritten

-- the lines of a thread, of these lines: those of its lane, and a worker has none
abbrev pub lines_in : List Line → Body → List Line
lines_in lines (Lane lane) = of_lane lane.n lines
lines_in lines (Worker worker turns) = []

abbrev pub lines_due : List Line → Task → List Line
lines_due lines t = lines_in lines t.body

abbrev pub lines_left : List Line → Ended → List Line
lines_left lines e = lines_in lines e.body

-- how many turns of a record have a job of this kind
abbrev pub turns_as : View → Job → ℕ
turns_as v j = times (λ t. eqb (job_index t.job) (job_index j)) v.turns

-- how many turns of a worker a record has
abbrev pub work_in : Worker' → View → ℕ
work_in w v = turns_by w (turns_as v)

-- so many, where the one worker is the other
abbrev pub if_same : Worker' → Worker' → ℕ → ℕ
if_same worker w turns = cond (eqb (lane_of worker).n (lane_of w).n) turns 0

-- the turns that a thread is to make as this worker
abbrev pub turns_for : Worker' → Body → ℕ
turns_for w (Lane lane) = 0
turns_for w (Worker worker turns) = if_same worker w turns

abbrev pub turns_due : Worker' → Task → ℕ
turns_due w t = turns_for w t.body

-- they stand in what the thread left, unless memory was wanting
abbrev pub AreMade : Worker' → Task → Ended → Type 0
AreMade w t e = IfOk e.left (λ told. turns_due w t ≤ work_in w (record_of told.end.pass))

-- so of each thread
abbrev pub AllMade : Worker' → List Task → List Ended → Type 0
AllMade w [] [] = Unit {0}
AllMade w (t ∷ ts) (e ∷ es) = AreMade w t e × AllMade w ts es
AllMade w tasks ends = ⊥

-- the record of a pass that has done nothing yet, and may have seen what another one has
pub record IsFreshRecord (v : View) : Type 0 where
  pub pins : v.pins ≡ []
  pub written : v.written ≡ []
  pub turns : v.turns ≡ []
  pub own : v.own ≡ []

-- A lane that runs beside others is not lane 0; its lines among these have the form of a lane's,
-- and the names that it is given are known to its pass.
abbrev pub BodyIsReady : ℕ → List Line → List Named → View → Body → Type 0
BodyIsReady nodes lines names v (Lane lane) =
    AreLinesOf nodes lane.n (of_lane lane.n lines) × KnowsNames v names × (1 ≤ lane.n)
BodyIsReady nodes lines names v (Worker worker turns) = Unit {0}

-- what a thread has to be given, with these lines of all lanes and these names
pub record IsTaskReady (s : Shared) (lines : List Line) (names : List Named) (t : Task) : Type
    0 where
  pub of : IsPassOf s t.pass
  pub fresh : IsFreshRecord (record_of t.pass)
  pub body : BodyIsReady s.config.nodes lines names (record_of t.pass) t.body

-- no version falls from the answers given before to these, or among these
abbrev pub NeverFall : List Answer → List Answer → Type 0
NeverFall given answers =
    AllByRecursion (λ c. AllByRecursion (NeverFalls c) (calls_behind given answers))
    (calls_of given)
    × Rising (calls_behind given answers)

-- what the answers told of versions stands in the record
abbrev pub StandIn : View → List Answer → Type 0
StandIn v answers = AllByRecursion (IsOnRecord v) (calls_of answers)

-- the answers are those of lane 0
abbrev pub AreFirst : List Answer → Type 0
AreFirst answers = AllByRecursion (λ a. a.lane.n ≡ 0) answers

-- they are, and stand in a record that this one has all of
abbrev pub AreKnownTo : View → List Answer → Type 0
AreKnownTo v answers = (w : View) × HasAllOf w v × StandIn w answers × AreFirst answers

-- These lines were answered, one after the other, each by a reply that it may have and by the last
-- try of its calls, and the record of the pass backs the answers, where the answers given before
-- have the names; and they suit the handles of their names, what the pass has read, and the scopes
-- of their lanes; and no version falls; and where makes give version 1 the own lines of lanes are
-- answered as if these were alone.
pub record IsLaneTold (s : Shared) (given : List Answer) (lines : List Line) (e : LaneEnd) : Type 0
  where
    pub of : IsPassOf s e.pass
    pub lines_are : map asked e.answers ≡ lines
    pub replies : AllByRecursion HasLineReply e.answers
    pub last : AllByRecursion HasLastTry e.answers
    pub backs : Backs (as_part (record_of e.pass)) (tolds given e.answers)
    pub suits : AreSuited (record_of e.pass).seen (tolds given e.answers)
    pub rises : NeverFall given e.answers
    pub scopes : AreScoped given e.answers
    pub alone : first_version_of s ≡ 1 → KeepAloneWith s.config.nodes given e.answers

-- so a thread ended that had its lines among these, unless memory was wanting
abbrev pub IsEnded : Shared → List Line → List Answer → Ended → Type 0
IsEnded s lines given e = IfOk e.left (λ told. IsLaneTold s given (lines_left lines e) told.end)

-- a thread left the body that it was given, and answered its lines, by whatever answers have the
-- names and are known to its pass; a worker made its turns; and the text tells the answers
abbrev pub TaskRuns : Shared → List Line → List Named → Task → Ended → Type 0
TaskRuns s lines names t e = (e.body ≡ t.body)
    × ((given : List Answer) → AreNamesOf names given → AreKnownTo (record_of t.pass) given
    → IsEnded s lines given e)
    × ((w : Worker') → AreMade w t e)
    × HasText e
    × LeavesWork s.config.handles t.body e

-- One pass more was split off, for this body.
pub record IsDealtOne (s : Shared) (body : Body) (v : View) (old new : List Task) : Type 0 where
  pub task : Task
  pub tasks : new ≡ old ++ task ∷ []
  pub body_is : task.body ≡ body
  pub of : IsPassOf s task.pass
  pub right : record_of task.pass ≡ right_of 1 v

-- The tasks are those of lanes 1 up to n, of these lines, and of workers. At most m passes were
-- split off the one with the record v.
pub record IsDealt (s : Shared) (lines : List Line) (n m : ℕ) (v : View) (tasks : List Task)
    (p : Pass) : Type 0 where
  pub of : IsPassOf s p
  pub most : 64 ≤ (record_of p).share + m
  pub share : ℕ
  pub own : List ℕ
  pub left : record_of p ≡ record v { share = share; own = own }
  pub starts : All (λ t. HasAllOf v (record_of t.pass)) tasks
  pub ready : (names : List Named) → KnowsNames v names → AreLines s.config.nodes [] lines
      → All (IsTaskReady s lines names) tasks
  pub lines_are : flat (map (lines_due lines) tasks) ≡ lanes_up_to n lines
  pub apart : AreLines s.config.nodes [] lines → AreLanesApart [] (map (lines_due lines) tasks)

-- The answers given before, others after them and those of these lines were told one after the
-- other.
pub record TakesIn (s : Shared) (given others : List Answer) (lines : List Line) (e : LaneEnd)
    : Type 0 where
  pub more : List Answer
  pub answers : e.answers ≡ given ++ (others ++ more)
  pub lines_are : map asked more ≡ lines
  pub told : IsLaneTold s [] (map asked e.answers) e
