use Rattle.std.proofs.Common.{Option, subst}
use Rattle.std.specs.Prelude.{MatchOption}
use Rattle.cb_core.specs.declared.event.Event.{Event}
use Rattle.cb_events.specs.Listing.{IsListed, NoneListed}
use Rattle.cb_events.proofs.Listed.{listed_push}
use Rattle.cb_events.proofs.answering.events_in.Goals as goal

pub events-preserved : goal.events-preserved
events-preserved c =
    let is : IsListed c.args.config c.events.rest.now c.in-Some.event =
    subst (λ (found : Option Event). MatchOption found (NoneListed c.args.config c.events.rest.now)
    (λ e. IsListed c.args.config c.events.rest.now e)) c.in-Some.is
    c.in_ok-event.ensures in
    rw c.in_ok-push.ensures.items (rw c.behind_event-rest.ensures
    (listed_push c.args.config c.args.bytes.now c.events.events.items c.events.rest.now
    c.in-Some.event c.events.invariant is))
