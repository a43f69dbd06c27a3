use Rattle.std.proofs.Common.{arith}
use Rattle.cb_scrub_world.proofs.Scrubs.{all_stand, examines}
use Rattle.cb_scrub_world.proofs.scrubbing.scrub_least.Goals as goal

pub lost_shards-lost-requires-clause-members : goal.lost_shards-lost-requires-clause-members
lost_shards-lost-requires-clause-members c = λ set at. (c.requires.sets _ set at).members

pub scrub_set-requires-clause-set : goal.scrub_set-requires-clause-set
scrub_set-requires-clause-set c = λ set at.
    let may = c.requires.sets c.in-Some.id set at in
    (may.range, all_stand c.args.far.now.nodes c.args.far.now.members set may (omega (arith, c.lost_shards-lost.ensures set at, c.if-lost-gt0.false)))

pub returns-clause-scrubs : goal.returns-clause-scrubs
returns-clause-scrubs c =
    examines c.args.after c.args.far.now c.scrub_set.new.far c.in-Some.id c.in_ok-found.found c.in-Some.ensures.next (λ set at. omega (arith, c.lost_shards-lost.ensures set at, c.if-lost-gt0.false))
    c.in_ok-found.ensures.examined c.scrub_set.ensures.others
