-- Worked examples of a worker's work: two turns of the worker that evicts and the one that ends its
-- batch; and for each part what breaks that part alone.
use Rattle.std.proofs.Common.{◌≡◌, ℕ, ◌+◌, List, [], ◌∷◌, length, Option, None, Some, refl, ap}
use Rattle.std.proofs.Common.{lit<, arith}
use Rattle.cb_types.specs.declared.job.Job.TheVariants as job
use Rattle.cb_types.specs.declared.reply.Reply.{Reply}
use Rattle.cb_types.specs.declared.reply.Reply.TheVariants as answer
use Rattle.cb_types.specs.Jobs.{job_index}
use Rattle.cb_workers.specs.declared.worker.Worker.{Worker}
use Rattle.cb_workers.specs.declared.worker.Worker.TheVariants as worker
use Rattle.cb_record.specs.Deeds.{Deed}
use Rattle.cb_workers.specs.Work.{AnsweredTurn, AreJobsOf, AreDue, IsCutShort, IsWork, deed_of}
use Rattle.cb_workers.specs.Work.{deeds_of, lack_of, lacked}

abbrev begun : AnsweredTurn
begun = record { job = job.Gather; reply = answer.Batch (record { n = 0 }) }

abbrev installed : AnsweredTurn
installed = record { job = job.Install; reply = answer.Done }

abbrev shipped : AnsweredTurn
shipped = record { job = job.Ship; reply = answer.Shipped 0 }

abbrev rebuilt : AnsweredTurn
rebuilt = record { job = job.Rebuild; reply = answer.Whole 0 }

abbrev aborted : AnsweredTurn
aborted = record { job = job.Abort; reply = answer.Done }

-- the kind of the newest turn's job
abbrev index_of : List AnsweredTurn → ℕ
index_of [] = 0
index_of (a ∷ earlier) = job_index a.job

abbrev counts : Option Reply → ℕ
counts (Some reply) = 1
counts None = 0

-- how many turns found memory
abbrev had : List Deed → ℕ
had [] = 0
had (d ∷ earlier) = counts d.reply + had earlier

-- the newest first
abbrev two : List AnsweredTurn
two = installed ∷ begun ∷ []

abbrev three_deeds : List Deed
three_deeds = deed_of aborted ∷ deed_of installed ∷ deed_of begun ∷ []

two_due : AreDue 8 worker.Evict two
two_due = (refl, (refl, tt))

works : IsWork 8 worker.Evict 2 two (aborted ∷ []) three_deeds
works = record {
  number = refl;
  are_due = two_due;
  ends = (answer.Done, refl);
  are = refl;
}

-- a worker that made no turn has done nothing
idle : IsWork 8 worker.Evict 0 [] [] []
idle = record {
  number = refl;
  are_due = tt;
  ends = refl;
  are = refl;
}

-- its turns do nothing
not_number : IsWork 8 worker.Evict 2 [] [] [] → ⊥
not_number w = omega (arith, w.number)

-- it makes a turn more
one_more : IsWork 8 worker.Evict 1 two (aborted ∷ []) three_deeds → ⊥
one_more w = omega (arith, w.number)

-- a batch begins where one begun is to get its parities
abbrev begun_twice : List AnsweredTurn
begun_twice = begun ∷ begun ∷ []

not_due : IsWork 8 worker.Evict 2 begun_twice (aborted ∷ []) (deeds_of (aborted ∷ begun_twice)) → ⊥
not_due w = let e : 19 ≡ 20 = ap job_index (w.are_due.0) in omega (arith, e)

-- the first turn ships
not_first : IsWork 8 worker.Evict 1 (shipped ∷ []) (aborted ∷ [])
    (deeds_of (aborted ∷ shipped ∷ [])) → ⊥
not_first w = let e : 8 ≡ 19 = ap job_index (w.are_due.0) in omega (arith, e)

-- the batch is left as it is
not_ended : IsWork 8 worker.Evict 2 two [] (deeds_of two) → ⊥
not_ended w = let e : 0 ≡ 1 = ap (λ xs. length xs) (w.ends.1) in omega (arith, e)

-- a commit ends it
abbrev committed : AnsweredTurn
committed = record { job = job.Commit; reply = answer.Done }

not_aborted : IsWork 8 worker.Evict 2 two (committed ∷ []) (deeds_of (committed ∷ two)) → ⊥
not_aborted w = let e : 9 ≡ 10 = ap (λ xs. index_of xs) (w.ends.1) in omega (arith, e)

-- something is ended that was not begun
not_needed : IsWork 8 worker.Rebuild 0 [] (aborted ∷ []) (deeds_of (aborted ∷ [])) → ⊥
not_needed w = let e : 1 ≡ 0 = ap (λ xs. length xs) w.ends in omega (arith, e)

-- a turn is missing in the record
not_all : IsWork 8 worker.Evict 2 two (aborted ∷ []) (deeds_of two) → ⊥
not_all w = let e : 2 ≡ 3 = ap (λ xs. length xs) w.are in omega (arith, e)

-- a turn stands there as one without memory
not_lacked : IsWork 8 worker.Rebuild 1 (rebuilt ∷ []) [] (lacked job.Rebuild ∷ []) → ⊥
not_lacked w = let e : 0 ≡ 1 = ap (λ xs. had xs) w.are in omega (arith, e)

-- ---- cut short
abbrev cut_deeds : List Deed
cut_deeds = deed_of aborted ∷ lacked job.Ship ∷ deed_of installed ∷ deed_of begun ∷ []

-- the third of three turns found no memory, and the batch is aborted
cut : IsCutShort 8 worker.Evict 3 two (aborted ∷ []) cut_deeds
cut = record {
  fewer = lit< tt;
  are_due = two_due;
  ends = (answer.Done, refl);
  are = refl;
}

-- there was no memory to run the order of an install: no turn was made, and the batch is aborted
unrun : IsCutShort 8 worker.Evict 2 (begun ∷ []) (aborted ∷ [])
    (deed_of aborted ∷ deed_of begun ∷ [])
unrun = record {
  fewer = lit< tt;
  are_due = (refl, tt);
  ends = (answer.Done, refl);
  are = refl;
}

-- the install stands there as a turn without memory
not_unmade : IsCutShort 8 worker.Evict 2 (begun ∷ []) (aborted ∷ [])
    (deed_of aborted ∷ lacked job.Install ∷ deed_of begun ∷ []) → ⊥
not_unmade w = let e : 3 ≡ 2 = ap (λ xs. length xs) w.are in omega (arith, e)

-- what found no memory was no turn of those that it owes
not_fewer : IsCutShort 8 worker.Evict 2 two (aborted ∷ []) cut_deeds → ⊥
not_fewer w = omega (arith, w.fewer)

-- it goes on though its batch is still leaving
left_leaving : IsCutShort 8 worker.Evict 3 two [] (lacked job.Ship ∷ deeds_of two) → ⊥
left_leaving w = let e : 0 ≡ 1 = ap (λ xs. length xs) (w.ends.1) in omega (arith, e)

-- the turns before it are not those that were due
not_begun : IsCutShort 8 worker.Evict 3 (shipped ∷ []) (aborted ∷ [])
    (deed_of aborted ∷ lacked job.Ship ∷ deeds_of (shipped ∷ [])) → ⊥
not_begun w = let e : 8 ≡ 19 = ap job_index (w.are_due.0) in omega (arith, e)

-- no turn lacked memory
not_cut : IsCutShort 8 worker.Evict 3 two (aborted ∷ []) three_deeds → ⊥
not_cut w = let e : 3 ≡ 4 = ap (λ xs. length xs) w.are in omega (arith, e)

-- what is left where there was no memory: an install alone leaves nothing
lacks : (lack_of job.Gather ≡ lacked job.Gather ∷ []) × (lack_of job.Ship ≡ lacked job.Ship ∷ [])
    × (lack_of job.Install ≡ [])
lacks = (refl, refl, refl)

-- ---- whose turns they are
are_of : AreJobsOf worker.Evict three_deeds
are_of = (refl, (refl, (refl, tt)))

-- the last of them is another worker's
not_of : AreJobsOf worker.Evict (deed_of rebuilt ∷ deeds_of two) → ⊥
not_of are = let e : 3 ≡ 1 = ap (λ o. number_of o) (are.0) in omega (arith, e)
  where
    number_of : Option Worker → ℕ
    number_of (Some worker.Filter) = 0
    number_of (Some worker.Evict) = 1
    number_of (Some worker.Compact) = 2
    number_of (Some worker.Rebuild) = 3
    number_of None = 4
