-- Worked examples of what threads are told of versions, of turns that are counted, and of tasks that
-- are dealt; and what breaks one part alone.
use Rattle.std.proofs.Common.{◌≡◌, ℕ, ◌+◌, ◌^◌, ◌-◌, ◌≤◌, true, false, List, [], ◌∷◌, Some, None, refl, inl, inr, lit<, arith}
use Rattle.cb_types.specs.declared.answer.Answer.{Answer}
use Rattle.cb_types.specs.declared.config.Config.{Config}
use Rattle.cb_types.specs.declared.job.Job.{Job}
use Rattle.cb_types.specs.declared.job.Job.TheVariants as job
use Rattle.cb_types.specs.declared.reply.Reply.{Reply}
use Rattle.cb_types.specs.declared.reply.Reply.TheVariants.{Bytes, Done, EpochAt, Left, Made, Version}
use Rattle.cb_types.specs.declared.request.Request.{Request}
use Rattle.cb_types.specs.declared.request.Request.TheVariants.{Leave, Make, Read, Write}
use Rattle.cb_types.specs.Jobs.{job_index}
use Rattle.cb_script.specs.declared.script.Line.{Line}
use Rattle.cb_world.specs.FarState.{FarState}
use Rattle.cb_rule.specs.declared.turn.Turn.{Turn}
use Rattle.cb_rule.specs.declared.view.View.{View}
use Rattle.cb_rule.specs.Steps.{blank}
use Rattle.cb_record.specs.Rises.{HasAllOf, HasVersion}
use Rattle.cb_shared.specs.declared.pass.Pass.{Pass}
use Rattle.cb_shared.specs.declared.runtime.Shared.{Shared}
use Rattle.cb_shared.specs.Passes.{record_of}
use Rattle.cb_workers.specs.Rules.{visit}
use Rattle.cb_workers.specs.declared.worker.Worker.TheVariants as worker
use Rattle.cb_app.specs.ByLane.{has_lines}
use Rattle.cb_app.specs.Crew.{AreFirst, IsDealt, IsLaneTold, NeverFall, StandIn, lines_due, lines_left, turns_as, turns_due, work_in}
use Rattle.cb_app.specs.declared.crew.Body.TheVariants.{Lane, Worker}
use Rattle.cb_app.specs.declared.crew.Ended.{Ended}
use Rattle.cb_app.specs.declared.crew.Task.{Task}
use Rattle.cb_app.specs.Telling.{CountsWorkers, counted_as, epoch_of, turns_by}

abbrev a : List ℕ
a = 97 ∷ []

abbrev answer : ℕ → Request → Reply → Answer
answer lane request reply =
    record { lane = record { n = lane }; line = 2; request = request; reply = reply }

abbrev leave : Line
leave = record { lane = record { n = 2 }; line = 2; request = Leave }

-- ---- the lines and turns of tasks
module _ (p : Pass) where
  due_of_a_lane : (lines_due (leave ∷ []) (record { body = Lane (record { n = 2 }); pass = p })
      ≡ leave ∷ [])
      × (lines_due (leave ∷ []) (record { body = Lane (record { n = 1 }); pass = p }) ≡ [])
  due_of_a_lane = (refl, refl)

  due_of_a_worker : (lines_due (leave ∷ []) (record { body = Worker worker.Evict 3; pass = p }) ≡ [])
      × (turns_due worker.Evict (record { body = Worker worker.Evict 3; pass = p }) ≡ 3)
      × (turns_due worker.Filter (record { body = Worker worker.Evict 3; pass = p }) ≡ 0)
  due_of_a_worker = (refl, refl, refl)

left_lines : (e : Ended)
    → (lines_left (leave ∷ []) (record e { body = Lane (record { n = 2 }) }) ≡ leave ∷ [])
    × (lines_left (leave ∷ []) (record e { body = Lane (record { n = 1 }) }) ≡ [])
left_lines e = (refl, refl)

-- ---- which lanes have lines
used_lanes : (has_lines 2 (leave ∷ []) ≡ true) × (has_lines 1 (leave ∷ []) ≡ false)
used_lanes = (refl, refl)

-- ---- turns by the kind of their job
abbrev one_each : Job → ℕ
one_each j = job_index j

-- the filter's jobs have the index 5, those of a batch 19, 20 and 8 to 10, of a pair 11 to 14, a
-- rebuild 16
by_worker : (turns_by worker.Filter one_each ≡ job_index (visit 0))
    × (turns_by worker.Evict one_each ≡ 19 + 20 + 8 + 9 + 10)
    × (turns_by worker.Compact one_each ≡ 11 + 12 + 13 + 14)
    × (turns_by worker.Rebuild one_each ≡ 16)
by_worker = (refl, refl, refl, refl)

module _ (t : Turn) (v : View) where
  abbrev with_jobs : View
  with_jobs = record v {
    turns = record t { job = job.Merge } ∷ record t { job = job.Merge }
        ∷ record t { job = job.Patch }
        ∷ record t { job = visit 3 } ∷ record t { job = job.Rebuild }
        ∷ record t { job = job.Compact } ∷ [];
  }

  turns_of_kinds : (turns_as with_jobs job.Merge ≡ 2) × (turns_as with_jobs (visit 0) ≡ 1)
      × (turns_as with_jobs job.Pair ≡ 0)
  turns_of_kinds = (refl, refl, refl)

  work_of_all : (work_in worker.Compact with_jobs ≡ 3) × (work_in worker.Filter with_jobs ≡ 1)
      × (work_in worker.Rebuild with_jobs ≡ 1) × (work_in worker.Evict with_jobs ≡ 0)
  work_of_all = (refl, refl, refl, refl)

module _ (far : FarState) where
  -- the last count of turns at which the workers' are told
  none_before_the_last : CountsWorkers 1 (record far {
    counts = record { turns = 2 ^ 40 - 1; by_job = []; sets = 0; keys = 0 };
  }) → ⊥
  none_before_the_last counts = let some : 1 ≤ 0 = counts (omega arith) worker.Rebuild in
      omega (arith, some)

  by_its_index : counted_as (record far {
    counts = record { turns = 0; by_job = 4 ∷ 6 ∷ []; sets = 0; keys = 0 };
  }) (job.Read (record { n = 3 })) ≡ 6
  by_its_index = refl

epochs : (epoch_of (EpochAt (record { n = 3 })) ≡ Some 3) × (epoch_of Done ≡ None)
epochs = (refl, refl)

-- ---- versions: lane 0 made an object, wrote version 2 of it, and no one freed it
abbrev made : Answer
made = answer 0 (Make a (1 ∷ [])) (Made (record { n = 0 }) 1)

abbrev written : Answer
written = answer 0 (Write a 0 (2 ∷ [])) (Version 2)

abbrev given : List Answer
given = made ∷ written ∷ []

-- lane 1 reads it
abbrev reads : ℕ → List Answer
reads version = answer 1 (Read a) (Bytes version (2 ∷ [])) ∷ []

falls_from_what_was_given : NeverFall given (reads 1) → ⊥
falls_from_what_was_given n = let low : 2 ≤ 1 = n.0.1.0.0 0 (inr refl) refl refl 2 refl in
    omega (arith, low)

-- a lane reads version 2 and then 1
abbrev falling : List Answer
falling = answer 1 (Read a) (Bytes 2 (2 ∷ [])) ∷ reads 1

falls_among_these : NeverFall (made ∷ []) falling → ⊥
falls_among_these n = let low : 2 ≤ 1 = n.1.0.0 0 (inl refl) refl refl 2 refl in omega (arith, low)

leaves_fall_never : NeverFall given (answer 1 Leave (Left 0) ∷ [])
leaves_fall_never = (
  ((λ h told on_e on_l. absurd cc, tt), ((λ h told on_e on_l. absurd cc, tt), tt)),
  (tt, tt),
)

-- ---- with a record that has nothing: so of answers that stand beside it
abbrev small : Config
small = record { k = 2; r = 2; nodes = 6; frames = 8; room = 64; handles = 16; turns = 0 }

none_there : (h version : ℕ) (freed : _) → HasVersion (blank small) h version freed → ⊥
none_there h version freed (inl (e, off, on, at, so)) = off
none_there h version freed (inr (s, off, on, at, so)) = off

stands_nowhere : StandIn (blank small) (made ∷ []) → ⊥
stands_nowhere s = let there = s.0 0 refl 1 refl in none_there 0 1 there.0 there.1

stands_of_none : StandIn (blank small) (answer 0 Leave (Left 0) ∷ [])
stands_of_none = ((λ h e. absurd cc), tt)

of_lane_0 : AreFirst given
of_lane_0 = (refl, (refl, tt))

of_lane_1 : AreFirst (reads 2) → ⊥
of_lane_1 f = let e : 1 ≡ 0 = f.0 in omega (arith, e)

-- ---- what a lane was told falls
told_and_falls : (s : Shared) (lines : List Line) (p : Pass)
    → IsLaneTold s given lines (record { answers = reads 1; pass = p }) → ⊥
told_and_falls s lines p t = falls_from_what_was_given t.rises

-- a task is dealt whose pass has not seen what the first one has
dealt_without_it : (s : Shared) (lines : List Line) (n m : ℕ) (v : View) (t : Task) (p : Pass)
    → (HasAllOf v (record_of t.pass) → ⊥) → IsDealt s lines n m v (t ∷ []) p → ⊥
dealt_without_it s lines n m v t p off d = off (d.starts 0 t (lit< tt))
