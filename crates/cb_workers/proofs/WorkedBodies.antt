-- Worked examples of what the body of a worker adds to a record: a turn of the worker that evicts
-- and the one that ends its batch; and for each part what breaks that part alone.
use Rattle.std.proofs.Common.{◌≡◌, suc, ◌+◌, List, [], ◌∷◌, ◌++◌, length, Option, None, Some, refl}
use Rattle.std.proofs.Common.{ap, ◌∙◌, lit<, arith}
use Rattle.std.proofs.lemmas.List.{length-append, length-map}
use Rattle.cb_types.specs.declared.job.Job.{Job}
use Rattle.cb_types.specs.declared.job.Job.TheVariants as job
use Rattle.cb_types.specs.declared.reply.Reply.{Reply}
use Rattle.cb_types.specs.declared.reply.Reply.TheVariants as answer
use Rattle.cb_world.specs.declared.entry.Entry.{Entry}
use Rattle.cb_world.specs.declared.shown.Shown.{Shown}
use Rattle.cb_world.specs.FarState.{FarState}
use Rattle.cb_rule.specs.declared.turn.Turn.{Turn}
use Rattle.cb_record.specs.Parts.{Part}
use Rattle.cb_workers.specs.Bodies.{IsEnd, IsOwed, IsStopped, IsWorked, turns_alone}
use Rattle.cb_workers.specs.Rules.{end_of, visit}
use Rattle.cb_record.specs.Deeds.{Deed}
use Rattle.cb_workers.specs.Work.{AnsweredTurn, IsOnly, deed_of, deeds_of, lack_of, lacked}
use Rattle.cb_workers.specs.declared.worker.Worker.TheVariants as worker

-- a turn with this job and reply, whatever was known and whatever far state it found
abbrev pub turn : Shown → FarState → Job → Option Reply → Turn
turn start far work reply = record {
  job = work;
  reply = reply;
  start = start;
  since = 0;
  until = 0;
  had = [];
  left = [];
  old = [];
  ended = 0;
  acts = [];
  order = None;
  keeps = None;
  took = far;
  gave = far;
}

abbrev pub begun : AnsweredTurn
begun = record { job = job.Gather; reply = answer.Batch (record { n = 0 }) }

abbrev pub installed : AnsweredTurn
installed = record { job = job.Install; reply = answer.Done }

abbrev pub aborted : AnsweredTurn
aborted = record { job = job.Abort; reply = answer.Done }

abbrev pub two_turns : Shown → FarState → List Turn
two_turns s far = turn s far job.Abort (Some answer.Done)
    ∷ turn s far job.Gather (Some (answer.Batch (record { n = 0 }))) ∷ []

pub works : (s : Shown) → (far : FarState)
    → IsWorked 8 worker.Evict 1 (turns_alone (two_turns s far))
works s far = record {
  done = begun ∷ [];
  ending = aborted ∷ [];
  work = record {
    number = refl;
    are_due = (refl, tt);
    ends = (answer.Done, refl);
    are = refl;
  };
  alone = refl;
}

-- no turn was made
pub deeds_in : (done ending : List AnsweredTurn)
    → length (deeds_of (ending ++ done)) ≡ length ending + length done
deeds_in done ending = length-map (ending ++ done) deed_of ∙ length-append ending done

not_work : IsWorked 8 worker.Evict 1 (turns_alone []) → ⊥
not_work w =
    let number : length w.done ≡ 1 = w.work.number in
    let all : 0 ≡ length w.ending + length w.done =
    ap (λ xs. length xs) w.work.are ∙ deeds_in w.done w.ending in
    omega (arith, number, all)

-- a version was written beside the turns
not_written : (s : Shown) → (far : FarState) → (e : Entry)
    → IsWorked 8 worker.Evict 1 (record (turns_alone (two_turns s far)) { written = e ∷ [] }) → ⊥
not_written s far e w =
    let same : 1 ≡ 0 = ap (λ (d : Part). length d.written) w.alone in omega (arith, same)

-- a pin was taken
not_pinned : (s : Shown) → (far : FarState)
    → IsWorked 8 worker.Evict 1 (record (turns_alone (two_turns s far)) { ever = 1 }) → ⊥
not_pinned s far w = let same : 1 ≡ 0 = ap (λ (d : Part). d.ever) w.alone in omega (arith, same)

-- the third of three turns found no memory, and the batch was aborted
abbrev pub cut_turns : Shown → FarState → List Turn
cut_turns s far = turn s far job.Abort (Some answer.Done) ∷ turn s far job.Ship None
    ∷ turn s far job.Install (Some answer.Done)
    ∷ turn s far job.Gather (Some (answer.Batch (record { n = 0 }))) ∷ []

pub stopped : (s : Shown) → (far : FarState)
    → IsStopped 8 worker.Evict 3 (turns_alone (cut_turns s far))
stopped s far = record {
  done = installed ∷ begun ∷ [];
  ending = aborted ∷ [];
  work = record {
    fewer = lit< tt;
    are_due = (refl, (refl, tt));
    ends = (answer.Done, refl);
    are = refl;
  };
  alone = refl;
}

-- there was no memory to run the order of an install, and the batch was aborted
unrun : (s : Shown) → (far : FarState) → IsStopped 8 worker.Evict 2 (turns_alone (two_turns s far))
unrun s far = record {
  done = begun ∷ [];
  ending = aborted ∷ [];
  work = record {
    fewer = lit< tt;
    are_due = (refl, tt);
    ends = (answer.Done, refl);
    are = refl;
  };
  alone = refl;
}

-- nothing was left
some_there : (ds es : List Deed) → (d : Deed) → [] ≡ ds ++ (d ∷ es) → ⊥
some_there ds es d e =
    let all : 0 ≡ length (ds ++ (d ∷ es)) = ap (λ xs. length xs) e in
    let parts : length (ds ++ (d ∷ es)) ≡ length ds + length (d ∷ es) = length-append ds (d ∷ es) in
    let one : length (d ∷ es) ≡ suc (length es) = refl in
    omega (arith, all, parts, one)

pub nothing_left : (due : Job) → (ending done : List AnsweredTurn) → IsOnly (end_of due) ending
    → [] ≡ deeds_of ending ++ (lack_of due ++ deeds_of done) → ⊥
nothing_left job.Install ending done only are =
    let all : 0 ≡ length (deeds_of ending ++ deeds_of done) =
    ap (λ (ds : List Deed). length ds) are in
    let parts = length-append (deeds_of ending) (deeds_of done) in
    let one : length ending ≡ 1 = ap (λ (xs : List AnsweredTurn). length xs) only.1 in
    omega (arith, all, parts, one, length-map ending deed_of)
nothing_left due ending done only are =
    some_there (deeds_of ending) (deeds_of done) (lacked due) are

not_stopped : IsStopped 8 worker.Evict 2 (turns_alone []) → ⊥
not_stopped w = nothing_left _ w.ending w.done w.work.ends w.work.are

-- ---- the jobs of workers
owed : IsOwed 8 (visit 7) × IsOwed 8 job.Merge
owed = (lit< tt, tt)

not_owed : (IsOwed 8 (visit 8) → ⊥) × (IsOwed 8 job.Evict → ⊥)
    × (IsOwed 8 (job.Crash (record { n = 0 })) → ⊥)
not_owed = (λ is. omega (arith, is), λ is. is, λ is. is)

ends : IsEnd job.Abort × IsEnd job.Part × (IsEnd job.Commit → ⊥)
ends = (tt, tt, λ is. is)
