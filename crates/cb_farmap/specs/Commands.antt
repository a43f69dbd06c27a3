-- What commands on one array and one map come to: what is said to each, and what it adds to the
-- record of the pass.
use Rattle.std.specs.Prelude.{◌≡◌, ◌⊎◌, ℕ, ◌≤◌, true, if◌then◌else◌, nat_lt, List, [], ◌∷◌, ◌++◌, length, Option, None, Some}
use Rattle.cb_types.specs.declared.config.Config.{Config}
use Rattle.cb_types.specs.declared.job.Job.{Job}
use Rattle.cb_types.specs.declared.job.Job.TheVariants as jobs
use Rattle.cb_types.specs.declared.reply.Reply.{Reply}
use Rattle.cb_types.specs.declared.reply.Reply.TheVariants as answer
use Rattle.cb_world.specs.declared.entry.Entry.{Entry}
use Rattle.cb_world.specs.FarState.{FarState}
use Rattle.cb_rule.specs.declared.turn.Turn.{Turn}
use Rattle.cb_rule.specs.declared.view.View.{View}
use Rattle.cb_rule.specs.Lists.{Each, Has, total}
use Rattle.cb_rule.specs.OneHistory.{IsOneHistory}
use Rattle.cb_rule.specs.TriesAgain.{tries_again}
use Rattle.cb_shared.specs.Calls.{IsAnswerTo}
use Rattle.cb_shared.specs.Turning.{Did, made_by_turn}
use Rattle.cb_map_text.specs.Plain.{Plain, after_all, after_said, calls_something, fresh, needs_object, objects, plain_said}
use Rattle.cb_map_text.specs.declared.command.FarAnswer.{FarAnswer}
use Rattle.cb_map_text.specs.declared.command.FarAnswer.TheVariants.{Refused}
use Rattle.cb_map_text.specs.declared.command.FarCommand.{FarCommand}
use Rattle.cb_map_text.specs.declared.command.FarCommand.TheVariants.{Push, Set, Get, Pop, Put, Look, Drop}
use Rattle.cb_farmap.specs.Arrays.{get_plan, no_array, pop_plan, push_plan, set_plan}
use Rattle.cb_farmap.specs.BothNow.{AreBothNow}
use Rattle.cb_farmap.specs.Buckets.{bucket_in}
use Rattle.cb_farmap.specs.Calls.{Ask, Goes}
use Rattle.cb_farmap.specs.Maps.{no_map}
use Rattle.cb_farmap.specs.Plans.{drop_plan, look_plan, put_plan}
use Rattle.cb_farmap.specs.declared.array.FarArray.{FarArray}
use Rattle.cb_farmap.specs.declared.kept.Cannot.{Cannot}
use Rattle.cb_farmap.specs.declared.kept.Cannot.TheVariants as cannot
use Rattle.cb_farmap.specs.declared.map.FarMap.{FarMap}

-- ---- the turns of a record

-- a job that makes an object of 1,024 bytes
abbrev pub IsMake : Job → Type 0
IsMake (jobs.Make bytes) = length bytes ≡ 1024
IsMake other = ⊥

-- the record wrote the object
abbrev pub HasWritten : View → ℕ → Type 0
HasWritten v h = (e : Entry) × Has e v.written × (e.handle ≡ h)

-- A job that brings in an object of the record, and reads or writes it. A row that is landed was
-- made of those that were fetched for such an object: the job itself names none.
abbrev pub IsOnObject : View → Job → Type 0
IsOnObject v (jobs.Swap handle) = HasWritten v handle.n
IsOnObject v (jobs.Fetch handle) = HasWritten v handle.n
IsOnObject v jobs.Land = (h : ℕ) × HasWritten v h
IsOnObject v (jobs.Read handle) = HasWritten v handle.n
IsOnObject v (jobs.Write handle at bytes) = HasWritten v handle.n
IsOnObject v other = ⊥

-- how many objects a turn made, and how many these turns
abbrev pub made_in : Turn → ℕ
made_in t = length (made_by_turn t.job t.reply)

abbrev pub made_by_all : List Turn → ℕ
made_by_all turns = total made_in turns

-- all turns of the record are one history
abbrev pub HasOneHistory : Config → ℕ → View → Type 0
HasOneHistory c first v = (count : ℕ) × (last : FarState)
    × IsOneHistory Did first c (v ∷ []) count last

-- ---- one command

-- why a command was refused, where it was
abbrev pub refusal_in : FarAnswer → Option Cannot
refusal_in (Refused reply) = Some (cannot.Refused reply)
refusal_in said = None

-- The call of a turn succeeded; or it was told of a freed object, of one that is too short, or of
-- pins, which an object is not that nobody else wrote or pinned.
abbrev pub IsOutOfPlace : Job → Reply → Type 0
IsOutOfPlace (jobs.Make bytes) (answer.Made handle version) = Unit {0}
IsOutOfPlace (jobs.Make bytes) r = ⊥
IsOutOfPlace j (answer.Bytes version bytes) = Unit {0}
IsOutOfPlace j (answer.Version version) = Unit {0}
IsOutOfPlace j answer.Freed = Unit {0}
IsOutOfPlace j (answer.Range len) = Unit {0}
IsOutOfPlace j (answer.Pinned count) = Unit {0}
IsOutOfPlace j r = ⊥

-- The newest of the turns that a command added tells it: one that makes an object, where the
-- command needs one, or one on an object of the record. Its reply answers the call, and is none of
-- these.
pub record IsToldByTurn (s : Plain) (a : FarCommand) (r : Reply) (w : View) (more : List Turn)
    : Type 0 where
  pub turn : Turn
  pub before : List Turn
  pub newest : more ≡ turn ∷ before
  pub reply_is : turn.reply ≡ Some r
  pub job_is : (IsMake turn.job × (needs_object s a ≡ true)) ⊎ IsOnObject w turn.job
  pub answers : IsAnswerTo (tries_again turn) turn.job r
  pub lacks : IsOutOfPlace turn.job r → ⊥

-- what is said to a command that finds the list and the map so
abbrev pub IsSaid : Plain → FarCommand → FarAnswer → View → List Turn → Type 0
IsSaid s a (Refused r) w more = (calls_something s a ≡ true) × IsToldByTurn s a r w more
IsSaid s a said w more = said ≡ plain_said s a

-- ---- the calls of a command

-- the calls on a number of the array, where there is one with this index
abbrev pub calls_within : FarArray → ℕ → List Ask → List Ask
calls_within a i plan = if nat_lt i a.len then plan else []

-- Which calls the command makes on this array and this map: those of the one method that it calls.
abbrev pub calls_of : View → FarArray → FarMap → FarCommand → List Ask
calls_of v a m (Push x) = push_plan a.kept a.len x
calls_of v a m (Set i x) = calls_within a i (set_plan a.kept i x)
calls_of v a m (Get i) = calls_within a i (get_plan a.kept i)
calls_of v a m Pop = pop_plan a.kept a.len
calls_of v a m (Put key x) = put_plan v.written (bucket_in m.buckets key) (key, x)
calls_of v a m (Look key) = look_plan v.written (bucket_in m.buckets key) key
calls_of v a m (Drop key) = drop_plan v.written (bucket_in m.buckets key) key

-- A command that finds this list and map, the record v of the pass, and the array a and the map m
-- of it; w, b and o are after it.
pub record CommandGoes (c : Config) (first : ℕ) (s : Plain) (ask : FarCommand) (said : FarAnswer)
    (v : View) (a : FarArray) (m : FarMap) (w : View) (b : FarArray) (o : FarMap) : Type 0 where
  -- its calls of the runtime, and no others
  pub calls : Goes c first (calls_of v a m ask) (refusal_in said) v w
  -- after them the array and the map are the list and the map after the command
  pub both : AreBothNow (after_said s ask said) w b o
  -- it adds one entry at the most, and turns that make an object or are on one of the record
  pub entries : List Entry
  pub wrote : w.written ≡ entries ++ v.written
  pub few : length entries ≤ 1
  pub more : List Turn
  pub turned : w.turns ≡ more ++ v.turns
  pub jobs_are : Each (λ t. IsMake t.job ⊎ IsOnObject w t.job) more
  -- all turns so far are one history, and made as many objects as the list and the map need at
  -- their fullest
  pub history : HasOneHistory c first w
  pub made : made_by_all w.turns ≡ objects (after_said s ask said)
  -- and it is told what the list and the map say, or what a turn was told
  pub is_said : IsSaid s ask said w more

-- so commands, one after another, each with the list, the map, the record, the far array and the
-- far map that the ones before it left
abbrev pub CommandsGo : Config → ℕ → Plain → View → FarArray → FarMap → List FarCommand
    → List FarAnswer → View → FarArray → FarMap → Type 0
CommandsGo c first s v a m [] [] w b o = (w ≡ v) × (b ≡ a) × (o ≡ m)
CommandsGo c first s v a m (ask ∷ asks) (said ∷ saids) w b o =
    (u : View) × (d : FarArray) × (e : FarMap) × CommandGoes c first s ask said v a m u d e
    × CommandsGo c first (after_said s ask said) u d e asks saids w b o
CommandsGo c first s v a m asks saids w b o = ⊥

-- Commands went so from an empty array and an empty map of 64 buckets. In the record after them the
-- array and the map that they left are the list and the map after all commands.
pub record HaveGone (c : Config) (first : ℕ) (asks : List FarCommand) (saids : List FarAnswer)
    (v w : View) : Type 0 where
  pub array : FarArray
  pub buckets : FarMap
  pub go : CommandsGo c first fresh v no_array (no_map 64) asks saids w array buckets
  pub both : AreBothNow (after_all fresh asks saids) w array buckets
