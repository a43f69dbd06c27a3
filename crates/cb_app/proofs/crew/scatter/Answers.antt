use Rattle.std.proofs.Common.{◌<◌, length, rules, subst}
use Rattle.cb_shared.specs.Passes.{record_of}
use Rattle.cb_app.specs.Crew.{AreKnownTo}
use Rattle.cb_app.specs.declared.crew.Task.{Task}
use Rattle.cb_app.proofs.crew.scatter.Goals as goal

pub returns-clause-ended : goal.returns-clause-ended
returns-clause-ended c = λ c' given named known k d low.
    let less : k < length c'.args.tasks.items = search rules in
    let job = (c'.in_ok-ends.ensures.each k d less).1 in
    job.call.met.1 given named (subst (λ (t : Task). AreKnownTo (record_of t.pass) given)
    (job.job_is job.job) (known k job.job less))

pub returns-clause-text : goal.returns-clause-text
returns-clause-text c = λ c' k d low.
    let less : k < length c'.args.tasks.items = search rules in
    let job = (c'.in_ok-ends.ensures.each k d less).1 in
    job.call.met.3
