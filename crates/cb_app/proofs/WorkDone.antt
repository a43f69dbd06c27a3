-- The turns of the workers: how many are due, how many a worker left in its record, and how many
-- there are in records that were joined.
use Rattle.std.proofs.Common.{◌≡◌, ℕ, suc, ◌+◌, ◌<◌, ◌≤◌, cond, eqb, List, [], ◌∷◌, ◌++◌, length, map, Option, None, Some, Result, Ok, Err, refl, sym, ap, ◌∙◌, subst, arith, append-nil}
use Rattle.std.specs.Prelude.{IfOk, slice_index_or}
use Rattle.std.proofs.lemmas.List.{length-map}
use Rattle.cb_member.specs.declared.no_memory.NoMemory.{NoMemory}
use Rattle.cb_types.specs.declared.job.Job.{Job}
use Rattle.cb_types.specs.declared.job.Job.TheVariants as job
use Rattle.cb_types.specs.Jobs.{job_index}
use Rattle.cb_rule.specs.declared.turn.Turn.{Turn}
use Rattle.cb_rule.specs.declared.view.View.{View}
use Rattle.cb_rule.specs.Lists.{times, total}
use Rattle.cb_rule.specs.Steps.{joined}
use Rattle.cb_rule.proofs.Laws.{times-append}
use Rattle.cb_record.specs.Deeds.{deed}
use Rattle.cb_shared.specs.declared.pass.Pass.{Pass}
use Rattle.cb_shared.specs.declared.runtime.Shared.{Shared}
use Rattle.cb_shared.specs.Joining.{unpinned_all}
use Rattle.cb_shared.specs.Passes.{record_of}
use Rattle.cb_workers.specs.Bodies.{WorkerWorks}
use Rattle.cb_workers.specs.Rules.{owner}
use Rattle.cb_workers.specs.Work.{AreJobsOf}
use Rattle.cb_workers.specs.declared.worker.Worker.{Worker}
use Rattle.cb_workers.specs.declared.worker.Worker.TheVariants as worker
use Rattle.cb_workers.proofs.Laws.{work_is_done, work_is_of}
use Rattle.cb_app.specs.Crew.{AllMade, AreMade, IsDealtOne, IsFreshRecord, if_same, turns_as, turns_due, turns_for, work_in}
use Rattle.cb_app.specs.Telling.{turns_by}
use Rattle.cb_app.specs.declared.crew.Body.{Body}
use Rattle.cb_app.specs.declared.crew.Ended.{Ended}
use Rattle.cb_app.specs.declared.crew.Task.{Task}
use Rattle.cb_app.specs.declared.crew.ToldEnd.{ToldEnd}

-- ---- numbers by job

-- a sum for each kind of job is one for each worker
turns_sum : (w : Worker) (f g h : Job → ℕ) → ((j : Job) → f j ≡ g j + h j)
    → turns_by w f ≡ turns_by w g + turns_by w h
turns_sum worker.Filter f g h each = each (job.Filter (record { n = 0 }))
turns_sum worker.Evict f g h each =
    let a = each job.Gather in let i = each job.Install in let b = each job.Ship in
    let c = each job.Commit in let d = each job.Abort in omega (arith, a, i, b, c, d)
turns_sum worker.Compact f g h each =
    let a = each job.Pair in let b = each job.Patch in let c = each job.Merge in let d = each job.Part in
    omega (arith, a, b, c, d)
turns_sum worker.Rebuild f g h each = each job.Rebuild

-- so are equal numbers
pub turns_same : (w : Worker) (f g : Job → ℕ) → ((j : Job) → f j ≡ g j) → turns_by w f ≡ turns_by w g
turns_same worker.Filter f g each = each (job.Filter (record { n = 0 }))
turns_same worker.Evict f g each =
    let a = each job.Gather in let i = each job.Install in let b = each job.Ship in
    let c = each job.Commit in let d = each job.Abort in omega (arith, a, i, b, c, d)
turns_same worker.Compact f g each =
    let a = each job.Pair in let b = each job.Patch in let c = each job.Merge in let d = each job.Part in
    omega (arith, a, b, c, d)
turns_same worker.Rebuild f g each = each job.Rebuild

-- ---- the turns of a worker

abbrev one_of : Job → Job → ℕ
one_of j k = cond (eqb (job_index j) (job_index k)) 1 0

-- a worker's job is counted for that worker
abbrev CountsForWorker : Job → Option Worker → Type 0
CountsForWorker j None = Unit {0}
CountsForWorker j (Some w) = 1 ≤ turns_by w (one_of j)

is_one : (j : Job) → CountsForWorker j (owner j)
is_one (job.Filter handle) = omega arith
is_one job.Gather = omega arith
is_one job.Install = omega arith
is_one job.Ship = omega arith
is_one job.Commit = omega arith
is_one job.Abort = omega arith
is_one job.Pair = omega arith
is_one job.Patch = omega arith
is_one job.Merge = omega arith
is_one job.Part = omega arith
is_one job.Rebuild = omega arith
is_one j = tt

abbrev number_of : List Turn → Job → ℕ
number_of ts j = times (λ (t : Turn). eqb (job_index t.job) (job_index j)) ts

abbrev work_of : Worker → List Turn → ℕ
work_of w ts = turns_by w (number_of ts)

work_of_turns : (w : Worker) (ts : List Turn) → AreJobsOf w (map deed ts) → length ts ≤ work_of w ts
work_of_turns w [] of = omega arith
work_of_turns w (t ∷ ts) of =
    let one : 1 ≤ turns_by w (one_of t.job) = subst (CountsForWorker t.job) of.0 (is_one t.job) in
    let rest = work_of_turns w ts of.1 in
    let parts : work_of w (t ∷ ts) ≡ turns_by w (one_of t.job) + work_of w ts =
    turns_sum w (number_of (t ∷ ts)) (one_of t.job) (number_of ts) (λ j. refl) in
    omega (arith, one, rest, parts)

-- what a body leaves in the record of a pass that had done nothing yet
pub worker_made : (s : Shared) (w : Worker) (turns : ℕ) (p q : Pass) → IsFreshRecord (record_of p)
    → WorkerWorks s w turns p q → turns ≤ work_in w (record_of q)
worker_made s w turns p q fresh works =
    let d = works.1.0 in
    let worked = works.1.1 in
    let own : (record_of q).turns ≡ d.turns =
    ap (λ (v : View). v.turns) works.1.2 ∙ ap (λ (ts : List Turn). d.turns ++ ts) fresh.turns
    ∙ append-nil d.turns in
    let deeds = map deed d.turns in
    let some = work_is_done s.config.handles w turns worked.done worked.ending deeds worked.work in
    let number : length deeds ≡ length d.turns = length-map d.turns deed in
    let made = work_of_turns w d.turns
    (work_is_of s.config.handles w turns worked.done worked.ending deeds worked.work) in
    subst (λ (ts : List Turn). turns ≤ work_of w ts) (sym own) (omega (arith, some, number, made))

-- it is what that worker is to make, and another one is to make none
pub worker_is_made : (w other : Worker) (turns : ℕ) (v : View) → turns ≤ work_in other v
    → if_same other w turns ≤ work_in w v
worker_is_made worker.Filter worker.Filter turns v made = made
worker_is_made worker.Filter worker.Evict turns v made = omega arith
worker_is_made worker.Filter worker.Compact turns v made = omega arith
worker_is_made worker.Filter worker.Rebuild turns v made = omega arith
worker_is_made worker.Evict worker.Filter turns v made = omega arith
worker_is_made worker.Evict worker.Evict turns v made = made
worker_is_made worker.Evict worker.Compact turns v made = omega arith
worker_is_made worker.Evict worker.Rebuild turns v made = omega arith
worker_is_made worker.Compact worker.Filter turns v made = omega arith
worker_is_made worker.Compact worker.Evict turns v made = omega arith
worker_is_made worker.Compact worker.Compact turns v made = made
worker_is_made worker.Compact worker.Rebuild turns v made = omega arith
worker_is_made worker.Rebuild worker.Filter turns v made = omega arith
worker_is_made worker.Rebuild worker.Evict turns v made = omega arith
worker_is_made worker.Rebuild worker.Compact turns v made = omega arith
worker_is_made worker.Rebuild worker.Rebuild turns v made = made

-- ---- what is due

total_push : {A : Type 0} (f : A → ℕ) (xs : List A) (y : A)
    → total f (xs ++ y ∷ []) ≡ total f xs + f y
total_push f [] y = omega arith
total_push f (x ∷ xs) y = let rest = total_push f xs y in omega (arith, rest)

pub one_due : (s : Shared) (body : Body) (v : View) (old new : List Task)
    → IsDealtOne s body v old new → (w : Worker)
    → total (turns_due w) new ≡ total (turns_due w) old + turns_for w body
one_due s body v old new one w =
    ap (total (turns_due w)) one.tasks ∙ total_push (turns_due w) old one.task
    ∙ ap (λ (b : Body). total (turns_due w) old + turns_for w b) one.body_is

-- one task of each worker
pub all_due : (w : Worker) (n a b c d e : ℕ) → b ≡ a + if_same worker.Filter w n
    → c ≡ b + if_same worker.Evict w n → d ≡ c + if_same worker.Compact w n
    → e ≡ d + if_same worker.Rebuild w n → n ≤ e
all_due worker.Filter n a b c d e one two three four = omega (arith, one, two, three, four)
all_due worker.Evict n a b c d e one two three four = omega (arith, one, two, three, four)
all_due worker.Compact n a b c d e one two three four = omega (arith, one, two, three, four)
all_due worker.Rebuild n a b c d e one two three four = omega (arith, one, two, three, four)

-- ---- what is joined

pub work_joined : (w : Worker) (v u t : View) → t ≡ joined v (unpinned_all u)
    → work_in w t ≡ work_in w v + work_in w u
work_joined w v u t is = turns_sum w (turns_as t) (turns_as v) (turns_as u) each
  where
    each : (j : Job) → turns_as t j ≡ turns_as v j + turns_as u j
    each j =
        let both = ap (λ (x : View). turns_as x j) is in
        let parts = times-append (λ (x : Turn). eqb (job_index x.job) (job_index j)) u.turns v.turns in
        omega (arith, both, parts)

pub work_taken : (w : Worker) (t : Task) (e : Ended) (told : ToldEnd) (old new : ℕ)
    → e.left ≡ Ok told → AreMade w t e → new ≡ old + work_in w (record_of told.end.pass)
    → old + turns_due w t ≤ new
work_taken w t e told old new is made sum =
    let due : turns_due w t ≤ work_in w (record_of told.end.pass) =
    subst (λ (left : Result ToldEnd NoMemory). IfOk left (λ z. turns_due w t ≤ work_in w (record_of z.end.pass)))
    is made in omega (arith, due, sum)

-- ---- one thread after the other

-- of these tasks some are still to be taken in, and of all others the turns are there
pub record AreOwed (w : Worker) (tasks : List Task) (left : List Ended) (v : View) : Type 0 where
  pub rest : List Task
  pub made : AllMade w rest left
  pub enough : total (turns_due w) tasks ≤ total (turns_due w) rest + work_in w v

pub owed_from : (w : Worker) (tasks : List Task) (all : List Ended) (v : View) → AllMade w tasks all
    → AreOwed w tasks all v
owed_from w tasks all v made = record { rest = tasks; made = made; enough = omega arith }

pub owed_more : (w : Worker) (tasks : List Task) (left : List Ended) (e : Ended) (later : List Ended)
    (v u : View) → left ≡ e ∷ later → AreOwed w tasks left v
    → ((t : Task) → AreMade w t e → work_in w v + turns_due w t ≤ work_in w u)
    → AreOwed w tasks later u
owed_more w tasks left e later v u is owed takes =
    by owed.rest (subst (AllMade w owed.rest) is owed.made) owed.enough
  where
    by : (rest : List Task) → AllMade w rest (e ∷ later)
        → total (turns_due w) tasks ≤ total (turns_due w) rest + work_in w v → AreOwed w tasks later u
    by [] made enough = absurd made
    by (t ∷ ts) made enough = let more = takes t made.0 in
        record { rest = ts; made = made.1; enough = omega (arith, enough, more) }

pub owed_none : (w : Worker) (tasks : List Task) (left : List Ended) (v : View) → left ≡ []
    → AreOwed w tasks left v → total (turns_due w) tasks ≤ work_in w v
owed_none w tasks left v is owed = by owed.rest (subst (AllMade w owed.rest) is owed.made) owed.enough
  where
    by : (rest : List Task) → AllMade w rest []
        → total (turns_due w) tasks ≤ total (turns_due w) rest + work_in w v
        → total (turns_due w) tasks ≤ work_in w v
    by [] made enough = omega (arith, enough)
    by (t ∷ ts) made enough = absurd made

-- what holds for each worker, where there was memory
pub for_each : {X : Type 0} (r : Result X NoMemory) (P : Worker → Type 0)
    → ((w : Worker) → IfOk r (λ x. P w)) → IfOk r (λ x. (w : Worker) → P w)
for_each (Ok x) P each = each
for_each (Err e) P each = tt

pub all_made : (w : Worker) (tasks : List Task) (ends : List Ended) → length ends ≡ length tasks
    → ((i : ℕ) (d : Ended) (t : Task) → i < length tasks
    → AreMade w (slice_index_or tasks i t) (slice_index_or ends i d)) → AllMade w tasks ends
all_made w [] [] len each = tt
all_made w [] (e ∷ es) len each = absurd (omega (arith, len))
all_made w (t ∷ ts) [] len each = absurd (omega (arith, len))
all_made w (t ∷ ts) (e ∷ es) len each = (
  each 0 e t (omega arith),
  all_made w ts es (omega (arith, len)) (λ i d u low. each (suc i) d u (omega (arith, low))),
)
