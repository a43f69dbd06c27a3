-- Worked examples of the rules by which a worker goes on: each reply that they tell apart, and some
-- that they do not.
use Rattle.std.specs.Prelude.{◌≡◌, [], ◌∷◌, None, Some, refl}
use Rattle.cb_types.specs.declared.job.Job.TheVariants as job
use Rattle.cb_types.specs.declared.reply.Reply.TheVariants as answer
use Rattle.cb_workers.specs.declared.worker.Worker.TheVariants as worker
use Rattle.cb_workers.specs.Rules.{after_batch, after_done, after_pair, end_of, first_job, lane_of}
use Rattle.cb_workers.specs.Rules.{next_job, owner, visit}

numbers : (lane_of worker.Filter ≡ record { n = 16 }) × (lane_of worker.Evict ≡ record { n = 17 })
    × (lane_of worker.Compact ≡ record { n = 18 }) × (lane_of worker.Rebuild ≡ record { n = 19 })
numbers = (refl, refl, refl, refl)

-- ---- the filter, where three handles are configured
filters : (first_job worker.Filter ≡ visit 0)
    × (next_job 3 worker.Filter (visit 0) answer.Same ≡ visit 1)
    × (next_job 3 worker.Filter (visit 1) answer.Moved ≡ visit 2)
    × (next_job 3 worker.Filter (visit 1) (answer.Pinned 1) ≡ visit 2)
filters = (refl, refl, refl, refl)

begins_anew : (next_job 3 worker.Filter (visit 2) answer.Same ≡ visit 0)
    × (next_job 3 worker.Filter (visit 1) answer.Unmade ≡ visit 0)
    × (next_job 1 worker.Filter (visit 0) answer.NotHere ≡ visit 0)
begins_anew = (refl, refl, refl)

-- ---- evictions
batches : (first_job worker.Evict ≡ job.Gather)
    × (next_job 3 worker.Evict job.Gather (answer.Batch (record { n = 4 })) ≡ job.Install)
    × (after_batch job.Install answer.Done ≡ job.Ship)
    × (after_batch job.Ship (answer.Shipped 2) ≡ job.Ship)
    × (after_batch job.Commit (answer.Short (1 ∷ [])) ≡ job.Ship)
    × (after_batch job.Ship answer.AllShipped ≡ job.Commit)
    × (after_batch job.Ship answer.NoNode ≡ job.Abort)
batches = (refl, refl, refl, refl, refl, refl, refl)

-- a Done of an abort is that of a batch that was given up
batches_begin : (after_batch job.Commit (answer.Set (record { n = 4 })) ≡ job.Gather)
    × (after_batch job.Abort answer.Done ≡ job.Gather)
    × (after_batch job.Gather (answer.NoSpans 0) ≡ job.Gather)
    × (after_batch job.Gather (answer.NoNodes 3) ≡ job.Gather)
    × (after_batch job.Gather (answer.Leaving (record { n = 4 })) ≡ job.Gather)
    × (after_batch job.Ship answer.NoBatch ≡ job.Gather)
    × (after_batch job.Install (answer.Changed (record { n = 4 })) ≡ job.Gather)
batches_begin = (refl, refl, refl, refl, refl, refl, refl)

behind_done : (after_done job.Install ≡ job.Ship) × (after_done job.Abort ≡ job.Gather)
behind_done = (refl, refl)

-- ---- compactions
pairs : (first_job worker.Compact ≡ job.Pair)
    × (next_job 3 worker.Compact job.Pair (answer.Pair (record { n = 0 }) (record { n = 1 }))
    ≡ job.Patch)
    × (after_pair (answer.Stepped 2) ≡ job.Patch)
    × (after_pair (answer.Unfinished (1 ∷ [])) ≡ job.Patch)
    × (after_pair answer.AllStepped ≡ job.Merge)
    × (after_pair (answer.NodeFull (record { n = 5 })) ≡ job.Part)
pairs = (refl, refl, refl, refl, refl, refl)

pairs_begin : (after_pair (answer.Merged (record { n = 2 }) 1) ≡ job.Pair)
    × (after_pair answer.Done ≡ job.Pair)
    × (after_pair answer.NoPair ≡ job.Pair)
    × (after_pair (answer.Changed (record { n = 1 })) ≡ job.Pair)
    × (after_pair answer.NoJoin ≡ job.Pair)
pairs_begin = (refl, refl, refl, refl, refl)

-- ---- rebuilding
rebuilds : (first_job worker.Rebuild ≡ job.Rebuild)
    × (next_job 3 worker.Rebuild job.Rebuild (answer.Whole 0) ≡ job.Rebuild)
rebuilds = (refl, refl)

-- ---- what ends a worker's turns
ends : (end_of job.Install ≡ Some job.Abort) × (end_of job.Ship ≡ Some job.Abort)
    × (end_of job.Commit ≡ Some job.Abort)
    × (end_of job.Abort ≡ Some job.Abort) × (end_of job.Patch ≡ Some job.Part)
    × (end_of job.Merge ≡ Some job.Part) × (end_of job.Part ≡ Some job.Part)
ends = (refl, refl, refl, refl, refl, refl, refl)

ends_not : (end_of job.Gather ≡ None) × (end_of job.Pair ≡ None) × (end_of job.Rebuild ≡ None)
    × (end_of (visit 2) ≡ None)
ends_not = (refl, refl, refl, refl)

-- ---- whose job it is
owners : (owner (visit 2) ≡ Some worker.Filter) × (owner job.Commit ≡ Some worker.Evict)
    × (owner job.Part ≡ Some worker.Compact) × (owner job.Rebuild ≡ Some worker.Rebuild)
    × (owner job.Evict ≡ None)
owners = (refl, refl, refl, refl, refl)
