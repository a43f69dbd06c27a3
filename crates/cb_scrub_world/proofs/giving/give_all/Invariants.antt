use Rattle.cb_scrub_world.proofs.Given.{Giving}
use Rattle.cb_scrub_world.proofs.giving.give_all.Given as goal

abbrev pub invariant-loop-position : goal.invariant-loop-position
invariant-loop-position l = Giving l.initial.nodes l.nodes l.set.shards l.set.pages l.table l.position
