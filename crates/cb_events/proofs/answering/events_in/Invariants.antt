use Rattle.std.proofs.Common.{length}
use Rattle.cb_events.specs.Listing.{AreListed}
use Rattle.cb_events.proofs.answering.events_in.Given as goal

-- the events so far stand in front of the rest
abbrev pub invariant-events : goal.invariant-events
invariant-events l = AreListed l.config l.bytes l.events.items l.rest

abbrev pub decreases-events : goal.decreases-events
decreases-events l = length l.rest
