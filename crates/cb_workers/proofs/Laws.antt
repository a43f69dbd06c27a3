-- What follows from a worker's work: each of its turns has a job of that worker, and there are at
-- least as many turns as it owes.
use Rattle.std.proofs.Common.{◌≡◌, ℕ, ◌+◌, ◌≤◌, List, [], ◌∷◌, ◌++◌, length, Option, None, Some}
use Rattle.std.proofs.Common.{refl, sym, ap, ◌∙◌, subst, arith}
use Rattle.std.proofs.lemmas.List.{length-append, length-map, map-append}
use Rattle.std.proofs.lemmas.Option.{none-some}
use Rattle.cb_types.specs.declared.job.Job.{Job}
use Rattle.cb_types.specs.declared.job.Job.TheVariants as job
use Rattle.cb_types.specs.declared.reply.Reply.{Reply}
use Rattle.cb_types.specs.declared.reply.Reply.TheVariants as answer
use Rattle.cb_workers.specs.Rules.{after_batch, after_done, after_pair, end_of, first_job, next_job}
use Rattle.cb_workers.specs.Rules.{owner}
use Rattle.cb_record.specs.Deeds.{Deed}
use Rattle.cb_workers.specs.Work.{AnsweredTurn, AreDue, AreJobsOf, IsCutShort, IsOnly, IsWork}
use Rattle.cb_workers.specs.Work.{deed_of}
use Rattle.cb_workers.specs.Work.{deeds_of, job_behind, lack_of}
use Rattle.cb_workers.specs.declared.worker.Worker.{Worker}
use Rattle.cb_workers.specs.declared.worker.Worker.TheVariants as worker

behind_done : (done : Job) → owner (after_done done) ≡ Some worker.Evict
behind_done job.Install = refl
behind_done done = refl

batch_of : (done : Job) → (r : Reply) → owner (after_batch done r) ≡ Some worker.Evict
batch_of done (answer.Batch set) = refl
batch_of done answer.Done = behind_done done
batch_of done (answer.Shipped position) = refl
batch_of done (answer.Short positions) = refl
batch_of done answer.AllShipped = refl
batch_of done answer.NoNode = refl
batch_of done r = refl

pair_of : (r : Reply) → owner (after_pair r) ≡ Some worker.Compact
pair_of (answer.Pair a b) = refl
pair_of (answer.Stepped position) = refl
pair_of (answer.Unfinished positions) = refl
pair_of answer.AllStepped = refl
pair_of (answer.NodeFull node) = refl
pair_of r = refl

next_of : (handles : ℕ) → (w : Worker) → (before : Job) → (r : Reply)
    → owner (next_job handles w before r) ≡ Some w
next_of handles worker.Filter before r = refl
next_of handles worker.Evict before r = batch_of before r
next_of handles worker.Compact before r = pair_of r
next_of handles worker.Rebuild before r = refl

first_of : (w : Worker) → owner (first_job w) ≡ Some w
first_of worker.Filter = refl
first_of worker.Evict = refl
first_of worker.Compact = refl
first_of worker.Rebuild = refl

-- the job that is due is the worker's
pub behind_of : (handles : ℕ) → (w : Worker) → (done : List AnsweredTurn)
    → owner (job_behind handles w done) ≡ Some w
behind_of handles w [] = first_of w
behind_of handles w (a ∷ earlier) = next_of handles w a.job a.reply

done_of : (handles : ℕ) → (w : Worker) → (done : List AnsweredTurn) → AreDue handles w done
    → AreJobsOf w (deeds_of done)
done_of handles w [] are = tt
done_of handles w (a ∷ earlier) are =
    (ap (λ j. owner j) (are.0) ∙ behind_of handles w earlier, done_of handles w earlier are.1)

-- what ends the work of a worker is that worker's
abbrev HasOwner : Option Worker → Option Job → Type 0
HasOwner w (Some last) = owner last ≡ w
HasOwner w None = Unit {0}

end_same : (due last : Job) → end_of due ≡ Some last → owner last ≡ owner due
end_same job.Install last e = subst (HasOwner (Some worker.Evict)) e refl
end_same job.Ship last e = subst (HasOwner (Some worker.Evict)) e refl
end_same job.Commit last e = subst (HasOwner (Some worker.Evict)) e refl
end_same job.Abort last e = subst (HasOwner (Some worker.Evict)) e refl
end_same job.Patch last e = subst (HasOwner (Some worker.Compact)) e refl
end_same job.Merge last e = subst (HasOwner (Some worker.Compact)) e refl
end_same job.Part last e = subst (HasOwner (Some worker.Compact)) e refl
end_same due last e = absurd (none-some last e)

ending_of : (w : Worker) → (due : Job) → (ending : List AnsweredTurn) → (end : Option Job)
    → end_of due ≡ end → owner due ≡ Some w → IsOnly end ending → AreJobsOf w (deeds_of ending)
ending_of w due ending (Some last) e is only =
    subst (λ xs. AreJobsOf w (deeds_of xs)) (sym only.1) (end_same due last e ∙ is, tt)
ending_of w due ending None e is only = subst (λ xs. AreJobsOf w (deeds_of xs)) (sym only) tt

both_of : (w : Worker) → (ds es : List Deed) → AreJobsOf w ds → AreJobsOf w es
    → AreJobsOf w (ds ++ es)
both_of w [] es some more = more
both_of w (d ∷ ds) es some more = (some.0, both_of w ds es some.1 more)

-- and so is what is left where there was no memory
lack_is_of : (w : Worker) → (due : Job) → owner due ≡ Some w → AreJobsOf w (lack_of due)
lack_is_of w job.Install is = tt
lack_is_of w due is = (is, tt)

pub work_is_of : (handles : ℕ) → (w : Worker) → (n : ℕ) → (done ending : List AnsweredTurn)
    → (deeds : List Deed) → IsWork handles w n done ending deeds → AreJobsOf w deeds
work_is_of handles w n done ending deeds work =
    subst (AreJobsOf w) (sym (work.are ∙ map-append deed_of ending done))
    (both_of w (deeds_of ending) (deeds_of done)
    (ending_of w (job_behind handles w done) ending _ refl (behind_of handles w done) work.ends)
    (done_of handles w done work.are_due))

pub cut_is_of : (handles : ℕ) → (w : Worker) → (n : ℕ) → (done ending : List AnsweredTurn)
    → (deeds : List Deed) → IsCutShort handles w n done ending deeds → AreJobsOf w deeds
cut_is_of handles w n done ending deeds work = subst (AreJobsOf w) (sym work.are)
    (both_of w (deeds_of ending) (lack_of (job_behind handles w done) ++ deeds_of done)
    (ending_of w (job_behind handles w done) ending _ refl (behind_of handles w done) work.ends)
    (both_of w (lack_of (job_behind handles w done)) (deeds_of done)
    (lack_is_of w (job_behind handles w done) (behind_of handles w done))
    (done_of handles w done work.are_due)))

pub work_is_done : (handles : ℕ) → (w : Worker) → (n : ℕ) → (done ending : List AnsweredTurn)
    → (deeds : List Deed) → IsWork handles w n done ending deeds → n ≤ length deeds
work_is_done handles w n done ending deeds work =
    let all : length deeds ≡ length (ending ++ done) =
    ap (λ xs. length xs) work.are ∙ length-map (ending ++ done) deed_of in
    let parts : length (ending ++ done) ≡ length ending + length done = length-append ending done in
    let number : length done ≡ n = work.number in
    omega (arith, all, parts, number)
