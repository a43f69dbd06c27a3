-- A run, event by event.
use Rattle.std.proofs.Common.{◌≡◌, ℕ, zero, suc, ◌+◌, ◌<◌, ◌≤◌, List, [], ◌∷◌, ◌++◌, length, take, drop, get_or, refl, sym, ap, ◌∙◌, subst, arith, inl, inr}
use Rattle.std.specs.Prelude.{Result, Ok, Err, OnErr}
use Rattle.std.specs.List.{AllByRecursion}
use Rattle.std.proofs.lemmas.List.{take_more, take_all}
use Rattle.cb_types.specs.declared.config.Config.{Config}
use Rattle.cb_types.specs.declared.reply.Reply.{Reply}
use Rattle.cb_world.specs.World.{WorldState, IsSoundWorld}
use Rattle.cb_core.specs.declared.event.Event.{Event}
use Rattle.cb_core.specs.Events.{IsEvent}
use Rattle.cb_core.specs.Run.{LeadsSoundly, RunStops}
use Rattle.cb_core.specs.Step.{Step, Leads, EventStops}
use Rattle.cb_core.proofs.Settings.{step_settings}

-- one more event
pub soundly_push : (w mid new : WorldState) (events : List Event) (replies : List Reply) (e : Event)
    (r : Reply) → LeadsSoundly w events replies mid → Step mid e r new → IsSoundWorld new
    → LeadsSoundly w (events ++ e ∷ []) (replies ++ r ∷ []) new
soundly_push w mid new [] [] e r leads step sound =
    (new, subst (λ (v : WorldState). Step v e r new) leads step, sound, refl)
soundly_push w mid new [] (q ∷ replies) e r leads step sound = absurd leads
soundly_push w mid new (x ∷ events) [] e r leads step sound = absurd leads
soundly_push w mid new (x ∷ events) (q ∷ replies) e r leads step sound = (
  leads.0,
  leads.1,
  leads.2,
  soundly_push leads.0 mid new events replies e r leads.3 step sound,
)

-- a run that is sound all along is a run
pub only_leads : (w new : WorldState) (events : List Event) (replies : List Reply)
    → LeadsSoundly w events replies new → Leads w events replies new
only_leads w new [] [] leads = leads
only_leads w new [] (q ∷ replies) leads = absurd leads
only_leads w new (x ∷ events) [] leads = absurd leads
only_leads w new (x ∷ events) (q ∷ replies) leads =
    (leads.0, leads.1, only_leads leads.0 new events replies leads.3)

-- what holds after the first i events
pub record Going (start : WorldState) (events : List Event) (i : ℕ) (replies : List Reply)
    (w : WorldState) : Type 0 where
  pub leads : LeadsSoundly start (take i events) replies w
  pub sound : IsSoundWorld w
  pub settings : w.desk.settings ≡ start.desk.settings

pub going_more : (start : WorldState) (events : List Event) (i : ℕ) (replies : List Reply)
    (w new : WorldState) (e : Event) (r : Reply) → Going start events i replies w
    → i < length events → e ≡ get_or events i e → Step w e r new → IsSoundWorld new
    → Going start events (i + 1) (replies ++ r ∷ []) new
going_more start events i replies w new e r g lt at step sound = record {
  leads = subst (λ (es : List Event). LeadsSoundly start es (replies ++ r ∷ []) new)
      (ap (λ (x : Event). take i events ++ x ∷ []) at ∙ sym (take_more events i e lt))
      (soundly_push start w new (take i events) replies e r g.leads step sound);
  sound = sound;
  settings = step_settings w new e r step ∙ g.settings;
}

-- all events took place
pub going_all : (start : WorldState) (events : List Event) (i : ℕ) (replies : List Reply)
    (w : WorldState) → Going start events i replies w → length events ≤ i
    → LeadsSoundly start events replies w
going_all start events i replies w g past =
    subst (λ (es : List Event). LeadsSoundly start es replies w) (take_all i events past) g.leads

-- each event is one that may come
pub event_at : (c : Config) (events : List Event) (i : ℕ) (e : Event)
    → AllByRecursion (IsEvent c) events → i < length events → e ≡ get_or events i e → IsEvent c e
event_at c [] i e all lt at = absurd (omega (arith, lt))
event_at c (x ∷ events) zero e all lt at = subst (IsEvent c) (sym at) all.0
event_at c (x ∷ events) (suc i) e all lt at = event_at c events i e all.1 (omega (arith, lt)) at

-- a list is its first items and the others
pub split_at : (i : ℕ) (events : List Event) → events ≡ take i events ++ drop i events
split_at zero events = refl
split_at (suc i) [] = refl
split_at (suc i) (x ∷ events) = ap (λ (es : List Event). x ∷ es) (split_at i events)

pub next_at : (i : ℕ) (events : List Event) (e : Event) → i < length events → e ≡ get_or events i e
    → drop i events ≡ e ∷ drop (i + 1) events
next_at zero (x ∷ events) e lt at = ap (λ (y : Event). y ∷ events) (sym at)
next_at (suc i) (x ∷ events) e lt at =
    let more : suc (i + 1) ≡ suc i + 1 = omega arith in
    next_at i events e (omega (arith, lt)) at ∙ ap (λ (n : ℕ). e ∷ drop n (x ∷ events)) more
next_at i [] e lt at = absurd (omega (arith, lt))

-- whatever holds, holds of an error
pub of_error : {T : Type 0} {E : Type 0} (P : Type 0) (r : Result T E) → P → OnErr r P
of_error P (Ok t) p = tt
of_error P (Err e) p = p

-- the next event stopped
pub going_stops : (start : WorldState) (events : List Event) (i : ℕ) (replies : List Reply)
    (w new : WorldState) (e : Event) → Going start events i replies w → i < length events
    → e ≡ get_or events i e → EventStops w e new → RunStops start events new
going_stops start events i replies w new e g lt at stops = record {
  before = take i events;
  after = drop i events;
  replies = replies;
  reached = w;
  are = split_at i events;
  leads = only_leads start w (take i events) replies g.leads;
  left = inr (e, drop (i + 1) events, next_at i events e lt at, stops);
}

-- the next reply found no place
pub going_ends : (start : WorldState) (events : List Event) (i : ℕ) (replies : List Reply)
    (w : WorldState) → Going start events i replies w → RunStops start events w
going_ends start events i replies w g = record {
  before = take i events;
  after = drop i events;
  replies = replies;
  reached = w;
  are = split_at i events;
  leads = only_leads start w (take i events) replies g.leads;
  left = inl refl;
}
