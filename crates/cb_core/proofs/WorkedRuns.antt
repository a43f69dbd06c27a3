-- Worked examples of runs: what meets each definition, and what breaks one part.
use Rattle.std.proofs.Common.{◌≡◌, ℕ, List, [], ◌∷◌, refl, ap, ◌∙◌, subst, arith, inl}
use Rattle.cb_types.specs.Config.{IsAccepted}
use Rattle.cb_types.specs.declared.config.Config.{Config}
use Rattle.cb_types.specs.declared.reply.Reply.{Reply}
use Rattle.cb_types.specs.declared.reply.Reply.TheVariants as answer
use Rattle.cb_world.specs.World.{WorldState, IsSoundWorld, empty_world}
use Rattle.cb_world.proofs.Laws.{empty_world_sound}
use Rattle.cb_core.specs.declared.event.Atomic.TheVariants.{Load}
use Rattle.cb_core.specs.declared.event.Event.{Event}
use Rattle.cb_core.specs.declared.event.Event.TheVariants as event
use Rattle.cb_core.specs.Run.{IsOnlyRun, IsOnlyStep, LeadsSoundly, RunStops}
use Rattle.cb_core.specs.Step.{EventStops}

abbrev c : Config
c = record { k = 1; r = 1; nodes = 2; frames = 2; room = 4; handles = 2; turns = 0 }

abbrev w : WorldState
w = empty_world c

-- a look at a handle that was never made
abbrev look : Event
look = event.Step 0 (Load (record { n = 1 }))

abbrev word : ℕ → Reply
word n = answer.Word n

-- ---- runs
pub looks_twice : IsAccepted c
    → LeadsSoundly w (look ∷ look ∷ []) (word 0 ∷ word 0 ∷ []) w
looks_twice ok = (w, (refl, refl), empty_world_sound c ok, (w, (refl, refl), empty_world_sound c ok, refl))

abbrev number_of : Reply → ℕ
number_of (answer.Word n) = n
number_of reply = 7

another_reply : LeadsSoundly w (look ∷ []) (word 1 ∷ []) w → ⊥
another_reply leads = let e : 1 ≡ 0 = ap number_of leads.1.0 in absurd cc

a_reply_too_few : LeadsSoundly w (look ∷ look ∷ []) (word 0 ∷ []) w → ⊥
a_reply_too_few leads = leads.3

a_reply_too_many : LeadsSoundly w [] (word 0 ∷ []) w → ⊥
a_reply_too_many leads = leads

ends_elsewhere : (other : WorldState) → (other ≡ w → ⊥)
    → LeadsSoundly w (look ∷ []) (word 0 ∷ []) other → ⊥
ends_elsewhere other not leads = not (leads.3 ∙ leads.1.1)

-- a world that is not sound is not come by
unsound : (v : WorldState) (r : Reply) → (IsSoundWorld v → ⊥) → LeadsSoundly v (look ∷ []) (r ∷ []) v → ⊥
unsound v r not leads = not (subst IsSoundWorld leads.1.1 leads.2)

-- ---- one reply and one world
looks_one_way : IsOnlyStep w look (word 0) w
looks_one_way q v step = (step.0, step.1)

looks_with_another_word : IsOnlyStep w look (word 1) w → ⊥
looks_with_another_word only =
    let e : 0 ≡ 1 = ap number_of (only (word 0) w (refl, refl)).0 in omega (arith, e)

looks_into_another_world : (v : WorldState) → (w ≡ v → ⊥) → IsOnlyStep w look (word 0) v → ⊥
looks_into_another_world v off only = off (only (word 0) w (refl, refl)).1

runs_nowhere : IsOnlyRun w [] [] w
runs_nowhere [] v leads = (refl, leads)
runs_nowhere (q ∷ qs) v leads = absurd leads

abbrev first_of : List Reply → ℕ
first_of [] = 8
first_of (q ∷ qs) = number_of q

runs_with_another_word : IsOnlyRun w (look ∷ []) (word 1 ∷ []) w → ⊥
runs_with_another_word only =
    let e : 0 ≡ 1 = ap first_of (only (word 0 ∷ []) w (w, (refl, refl), refl)).0 in omega (arith, e)

runs_into_another_world : (v : WorldState) → (w ≡ v → ⊥)
    → IsOnlyRun w (look ∷ []) (word 0 ∷ []) v → ⊥
runs_into_another_world v off only = off (only (word 0 ∷ []) w (w, (refl, refl), refl)).1

-- ---- a run that found no memory
stops_behind_one : RunStops w (look ∷ look ∷ []) w
stops_behind_one = record {
  before = look ∷ [];
  after = look ∷ [];
  replies = word 0 ∷ [];
  reached = w;
  are = refl;
  leads = (w, (refl, refl), refl);
  left = inl refl;
}

-- a look finds memory, so nothing else is left behind it
looks_never_stop : (new : WorldState) → EventStops w look new → ⊥
looks_never_stop new stops = stops
