use Rattle.std.proofs.Common.{List, sym, subst}
use Rattle.std.specs.List.{AllByRecursion}
use Rattle.cb_types.specs.declared.reply.Reply.{Reply}
use Rattle.cb_core.specs.declared.event.Event.{Event}
use Rattle.cb_core.specs.Events.{IsEvent}
use Rattle.cb_events.specs.Told.{LeadFromEmpty}
use Rattle.cb_events.proofs.Listed.{all_may}
use Rattle.cb_events.proofs.Replied.{tells}
use Rattle.cb_events.proofs.answering.answer_events.Goals as goal

pub replies_of-requires-clause-events : goal.replies_of-requires-clause-events
replies_of-requires-clause-events c =
    subst (λ (events : List Event). AllByRecursion (IsEvent c.args.config) events)
    (sym c.as_slice.ensures.value)
    (all_may c.args.config c.args.bytes.now c.in_ok-listed.listed.events.items
    c.in_ok-listed.ensures.0 c.in_ok-listed.ensures.1)

pub returns : goal.returns
returns c =
    let leads = subst
    (λ (events : List Event). LeadFromEmpty c.args.config events c.in_ok-replies.replies)
    c.as_slice.ensures.value c.in_ok-replies.ensures in
    tells (λ text. text.items) c.replies_text.result c.args.config c.args.bytes.now
    c.in_ok-listed.ensures.0 c.in_ok-listed.listed.events.items c.as_slice-2.result.now
    c.in_ok-listed.listed.left c.in_ok-listed.ensures.1 c.in_ok-listed.ensures.2
    c.in_ok-listed.ensures.3
    (subst (λ (replies : List Reply). LeadFromEmpty c.args.config
    c.in_ok-listed.listed.events.items replies) (sym c.as_slice-2.ensures.items) leads)
    c.replies_text.ensures
