-- Which turns of a closed record the workers made, and which the lines of lanes.
use Rattle.std.specs.Prelude.{◌≡◌, ℕ, List, [], ◌∷◌, ◌++◌, map, Result, Ok, Err, IfOk}
use Rattle.std.specs.List.{AllByRecursion}
use Rattle.cb_member.specs.declared.no_memory.NoMemory.{NoMemory}
use Rattle.cb_types.specs.declared.answer.Answer.{Answer}
use Rattle.cb_types.specs.declared.config.Config.{Config}
use Rattle.cb_rule.specs.declared.turn.Turn.{Turn}
use Rattle.cb_rule.specs.declared.view.View.{View}
use Rattle.cb_rule.specs.Steps.{joined}
use Rattle.cb_record.specs.Backs.{Backs}
use Rattle.cb_record.specs.Deeds.{deed}
use Rattle.cb_record.specs.Parts.{Part}
use Rattle.cb_record.specs.Told.{tolds}
use Rattle.cb_record.specs.Upheld.{as_part}
use Rattle.cb_shared.specs.Joining.{unpinned_all}
use Rattle.cb_shared.specs.Passes.{record_of}
use Rattle.cb_lanes.specs.declared.body.LaneEnd.{LaneEnd}
use Rattle.cb_workers.specs.Work.{AnsweredTurn, IsWork}
use Rattle.cb_workers.specs.declared.worker.Worker.{Worker as Worker'}
use Rattle.cb_workers.specs.declared.worker.Worker.TheVariants as worker
use Rattle.cb_app.specs.declared.crew.Body.{Body}
use Rattle.cb_app.specs.declared.crew.Body.TheVariants.{Lane, Worker}
use Rattle.cb_app.specs.declared.crew.Ended.{Ended}
use Rattle.cb_app.specs.declared.crew.Task.{Task}
use Rattle.cb_app.specs.declared.crew.ToldEnd.{ToldEnd}

-- the turns are the work of a worker: so many with the jobs that were due, one after the other, and
-- at the most one that ends what it had begun
pub record IsWorkOf (handles : ℕ) (w : Worker') (turns : ℕ) (made : List Turn) : Type 0 where
  pub done : List AnsweredTurn
  pub ending : List AnsweredTurn
  pub work : IsWork handles w turns done ending (map deed made)

-- a record with these turns in place of its own
abbrev pub with_turns : View → List Turn → Part
with_turns v turns = record (as_part v) { turns = turns }

-- The turns of a record are those of the lines, and after them those that each worker made, worker
-- by worker; the answers are backed by those of the lines alone.
pub record HasCrew (c : Config) (v : View) (answers : List Answer) : Type 0 where
  pub lines : List Turn
  pub made : Worker' → List Turn
  pub turns : v.turns ≡ made worker.Rebuild
      ++ (made worker.Compact ++ (made worker.Evict ++ (made worker.Filter ++ lines)))
  pub works : (w : Worker') → IsWorkOf c.handles w c.turns (made w)
  pub backs : Backs (with_turns v lines) (tolds [] answers)

-- ---- thread by thread

-- a worker left its work, unless memory was wanting
abbrev pub IsLeftBy : ℕ → Body → Result ToldEnd NoMemory → Type 0
IsLeftBy handles (Lane lane) left = Unit {0}
IsLeftBy handles (Worker w turns) left =
    IfOk left (λ told. IsWorkOf handles w turns (record_of told.end.pass).turns)

-- a thread left the body that it was given, and a worker its work
abbrev pub LeavesWork : ℕ → Body → Ended → Type 0
LeavesWork handles body e = (e.body ≡ body) × IsLeftBy handles body e.left

-- so of each thread
abbrev pub AllLeave : ℕ → List Body → List Ended → Type 0
AllLeave handles [] [] = Unit {0}
AllLeave handles (b ∷ bs) (e ∷ es) = LeavesWork handles b e × AllLeave handles bs es
AllLeave handles bodies ends = ⊥

-- the bodies of tasks
abbrev pub bodies_of : List Task → List Body
bodies_of tasks = map (λ t. t.body) tasks

-- the body is a lane's
abbrev pub IsLane : Body → Type 0
IsLane (Lane lane) = Unit {0}
IsLane (Worker w turns) = ⊥

-- lanes, and after them the four workers, each with so many turns
pub record IsCrew (turns : ℕ) (bodies : List Body) : Type 0 where
  pub lanes : List Body
  pub all : AllByRecursion IsLane lanes
  pub are : bodies ≡ lanes ++ (Worker worker.Filter turns ∷ Worker worker.Evict turns
      ∷ Worker worker.Compact turns ∷ Worker worker.Rebuild turns ∷ [])

-- what one thread left was taken in: its record, and its answers after those that there were
pub record Joins (a told b : LaneEnd) : Type 0 where
  pub record_is : record_of b.pass ≡ joined (record_of a.pass) (unpinned_all (record_of told.pass))
  pub answers : b.answers ≡ a.answers ++ told.answers

-- there was memory for the thread, and what it left was taken in
abbrev pub JoinsEnded : Ended → (a b : LaneEnd) → Type 0
JoinsEnded e a b = (told : ToldEnd) × (e.left ≡ Ok told) × Joins a told.end b

-- the turns after those of all threads came to them, of each of which there was memory
abbrev pub TurnsTaken : List Ended → (before after : List Turn) → Type 0
TurnsTaken [] before after = after ≡ before
TurnsTaken (e ∷ es) before after = (told : ToldEnd) × (e.left ≡ Ok told)
    × TurnsTaken es ((record_of told.end.pass).turns ++ before) after

-- the turns that a lane left; a worker has no lines
abbrev pub turns_of_lines : Body → Result ToldEnd NoMemory → List Turn
turns_of_lines (Lane lane) (Ok told) = (record_of told.end.pass).turns
turns_of_lines (Lane lane) (Err e) = []
turns_of_lines (Worker w turns) left = []

-- the turns of lines after those of all threads came to them
abbrev pub lines_taken : List Ended → List Turn → List Turn
lines_taken [] before = before
lines_taken (e ∷ es) before = lines_taken es (turns_of_lines e.body e.left ++ before)

-- all that threads left was taken in
pub record HasTaken (ends : List Ended) (a b : LaneEnd) : Type 0 where
  pub turns : TurnsTaken ends (record_of a.pass).turns (record_of b.pass).turns
  pub backs : Backs (with_turns (record_of b.pass) (lines_taken ends (record_of a.pass).turns))
      (tolds [] b.answers)
