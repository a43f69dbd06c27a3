-- What a run from the empty world leads to, and what is told of it.
use Rattle.std.proofs.Common.{◌≡◌, ℕ, List, ◌++◌, length, Result, Ok, Err, IfOk, ap, subst, ◌∙◌}
use Rattle.std.specs.List.{flat_map}
use Rattle.cb_types.specs.declared.config.Config.{Config}
use Rattle.cb_types.specs.declared.reply.Reply.{Reply}
use Rattle.cb_world.specs.World.{WorldState, empty_world}
use Rattle.cb_core.specs.declared.event.Event.{Event}
use Rattle.cb_core.specs.Step.{Leads}
use Rattle.cb_events.specs.Listing.{AreListed, NoneListed}
use Rattle.cb_events.specs.Told.{LeadFromEmpty, TellsReplies, rest_line, told_line}

pub from_empty : {E : Type 0} (result : Result (List Reply) E) (c : Config) (w new : WorldState)
    (events : List Event) → w ≡ empty_world c
    → IfOk result (λ replies. Leads w events replies new)
    → IfOk result (λ replies. LeadFromEmpty c events replies)
from_empty (Ok replies) c w new events is leads =
    (new, subst (λ (v : WorldState). Leads v events replies new) is leads)
from_empty (Err e) c w new events is leads = tt

pub tells : {T E : Type 0} (items : T → List ℕ) (result : Result T E) (c : Config)
    (bytes rest : List ℕ) (events : List Event) (replies : List Reply) (left : ℕ)
    → AreListed c bytes events rest → NoneListed c rest → left ≡ length rest
    → LeadFromEmpty c events replies
    → IfOk result (λ text. items text ≡ flat_map told_line replies ++ rest_line left)
    → IfOk result (λ text. TellsReplies c bytes (items text))
tells items (Ok text) c bytes rest events replies left listed all is leads told = record {
  events = events;
  rest = rest;
  replies = replies;
  listed = listed;
  all = all;
  leads = leads;
  told = told ∙ ap (λ (n : ℕ). flat_map told_line replies ++ rest_line n) is;
}
tells items (Err e) c bytes rest events replies left listed all is leads told = tt
