-- What a worker does in all: turns, of which each has the job that the rules name after those
-- before it.
use Rattle.std.specs.Prelude.{◌≡◌, ℕ, ◌<◌, List, [], ◌∷◌, ◌++◌, length, map, Option, Some, None}
use Rattle.cb_types.specs.declared.job.Job.{Job}
use Rattle.cb_types.specs.declared.job.Job.TheVariants as job
use Rattle.cb_types.specs.declared.reply.Reply.{Reply}
use Rattle.cb_rule.specs.Lists.{Each}
use Rattle.cb_record.specs.Deeds.{Deed}
use Rattle.cb_workers.specs.Rules.{end_of, first_job, next_job, owner}
use Rattle.cb_workers.specs.declared.worker.Worker.{Worker}

-- a turn that was answered
pub record AnsweredTurn : Type 0 where
  pub job : Job
  pub reply : Reply

abbrev pub deed_of : AnsweredTurn → Deed
deed_of a = record {
  job = a.job;
  reply = Some a.reply;
}

abbrev pub deeds_of : List AnsweredTurn → List Deed
deeds_of answered = map deed_of answered

-- the turn of this job found no memory
abbrev pub lacked : Job → Deed
lacked job = record {
  job = job;
  reply = None;
}

-- the job that is due after these turns, the newest first
abbrev pub job_behind : ℕ → Worker → List AnsweredTurn → Job
job_behind handles w [] = first_job w
job_behind handles w (a ∷ earlier) = next_job handles w a.job a.reply

-- each turn had the job that was due after those before it
abbrev pub AreDue : ℕ → Worker → List AnsweredTurn → Type 0
AreDue handles w [] = Unit {0}
AreDue handles w (a ∷ earlier) = (a.job ≡ job_behind handles w earlier) × AreDue handles w earlier

-- one turn with this job, or none where there is no such job
abbrev pub IsOnly : Option Job → List AnsweredTurn → Type 0
IsOnly (Some job) ending = (reply : Reply)
    × (ending ≡ record { job = job; reply = reply } ∷ [])
IsOnly None ending = ending ≡ []

-- A worker made so many turns, each with the job that was due, and then at the most one that ends
-- what it had begun; the newest first.
pub record IsWork (handles : ℕ) (w : Worker) (turns : ℕ) (done ending : List AnsweredTurn)
    (deeds : List Deed) : Type 0 where
  pub number : length done ≡ turns
  pub are_due : AreDue handles w done
  pub ends : IsOnly (end_of (job_behind handles w done)) ending
  pub are : deeds ≡ deeds_of (ending ++ done)

-- What is left where there was no memory for the job that was due: its turn, which found none. An
-- install takes no memory, but its order is run before it: where that found none, no turn was made.
abbrev pub lack_of : Job → List Deed
lack_of job.Install = []
lack_of due = lacked due ∷ []

-- A worker made fewer turns, each with the job that was due. For the next one that was due there
-- was no memory, and what it had begun was ended then.
pub record IsCutShort (handles : ℕ) (w : Worker) (turns : ℕ) (done ending : List AnsweredTurn)
    (deeds : List Deed) : Type 0 where
  pub fewer : length done < turns
  pub are_due : AreDue handles w done
  pub ends : IsOnly (end_of (job_behind handles w done)) ending
  pub are : deeds ≡ deeds_of ending ++ (lack_of (job_behind handles w done) ++ deeds_of done)

-- each of these turns has a job of the worker
abbrev pub AreJobsOf : Worker → List Deed → Type 0
AreJobsOf w deeds = Each (λ (d : Deed). owner d.job ≡ Some w) deeds
