-- Which job a worker's next turn has, by the job and the reply of the turn before it.
use Rattle.std.specs.Prelude.{ℕ, suc, ltb, if◌then◌else◌, Option, Some, None}
use Rattle.cb_types.specs.declared.handle.Lane.{Lane}
use Rattle.cb_types.specs.declared.job.Job.{Job}
use Rattle.cb_types.specs.declared.job.Job.TheVariants as job
use Rattle.cb_types.specs.declared.reply.Reply.{Reply}
use Rattle.cb_types.specs.declared.reply.Reply.TheVariants as answer
use Rattle.cb_workers.specs.declared.worker.Worker.{Worker}
use Rattle.cb_workers.specs.declared.worker.Worker.TheVariants as worker

-- the number under which a worker comes to the gate
abbrev pub lane_of : Worker → Lane
lane_of worker.Filter = record { n = 16 }
lane_of worker.Evict = record { n = 17 }
lane_of worker.Compact = record { n = 18 }
lane_of worker.Rebuild = record { n = 19 }

-- a turn of the filter at this handle
abbrev pub visit : ℕ → Job
visit h = job.Filter (record { n = h })

-- the handle that a turn of the filter is at
abbrev pub visited : Job → ℕ
visited (job.Filter handle) = handle.n
visited other = 0

-- Handles are visited in order, and from 0 again: after one that was never made, and after the last
-- one that is configured.
abbrev pub next_visit : ℕ → ℕ → Reply → ℕ
next_visit handles h answer.Unmade = 0
next_visit handles h reply = if ltb (suc h) handles then suc h else 0

abbrev pub after_visit : ℕ → Job → Reply → Job
after_visit handles done reply = visit (next_visit handles (visited done) reply)

-- a batch that has its parities is shipped; after one that was given up the next is gathered
abbrev pub after_done : Job → Job
after_done job.Install = job.Ship
after_done done = job.Gather

-- The order of a batch that began is run outside of the far lock, and its parities are installed.
-- Then the batch is shipped until all its rows stand, committed, and shipped again where that came
-- short; it is aborted where no node can take a row. Else the next batch is gathered.
abbrev pub after_batch : Job → Reply → Job
after_batch done (answer.Batch set) = job.Install
after_batch done answer.Done = after_done done
after_batch done (answer.Shipped position) = job.Ship
after_batch done (answer.Short positions) = job.Ship
after_batch done answer.AllShipped = job.Commit
after_batch done answer.NoNode = job.Abort
after_batch done reply = job.Gather

-- A pair is patched until all its rows stand, then merged, and patched again where rows were
-- unfinished; it is parted where a node is full. Else the next pair begins.
abbrev pub after_pair : Reply → Job
after_pair (answer.Pair a b) = job.Patch
after_pair (answer.Stepped position) = job.Patch
after_pair (answer.Unfinished positions) = job.Patch
after_pair answer.AllStepped = job.Merge
after_pair (answer.NodeFull node) = job.Part
after_pair reply = job.Pair

-- the job of a worker's first turn
abbrev pub first_job : Worker → Job
first_job worker.Filter = visit 0
first_job worker.Evict = job.Gather
first_job worker.Compact = job.Pair
first_job worker.Rebuild = job.Rebuild

-- the job of the turn after one with this job and reply
abbrev pub next_job : ℕ → Worker → Job → Reply → Job
next_job handles worker.Filter done reply = after_visit handles done reply
next_job handles worker.Evict done reply = after_batch done reply
next_job handles worker.Compact done reply = after_pair reply
next_job handles worker.Rebuild done reply = job.Rebuild

-- the job that ends what was begun, where the job that is due would go on with it
abbrev pub end_of : Job → Option Job
end_of job.Install = Some job.Abort
end_of job.Ship = Some job.Abort
end_of job.Commit = Some job.Abort
end_of job.Abort = Some job.Abort
end_of job.Patch = Some job.Part
end_of job.Merge = Some job.Part
end_of job.Part = Some job.Part
end_of other = None

-- the worker whose job it is
abbrev pub owner : Job → Option Worker
owner (job.Filter handle) = Some worker.Filter
owner job.Gather = Some worker.Evict
owner job.Install = Some worker.Evict
owner job.Ship = Some worker.Evict
owner job.Commit = Some worker.Evict
owner job.Abort = Some worker.Evict
owner job.Pair = Some worker.Compact
owner job.Patch = Some worker.Compact
owner job.Merge = Some worker.Compact
owner job.Part = Some worker.Compact
owner job.Rebuild = Some worker.Rebuild
owner other = None
