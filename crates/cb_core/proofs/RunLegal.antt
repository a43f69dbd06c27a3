-- The calls of a run are answered as the plain map answers them, event by event.
use Rattle.std.proofs.Common.{◌≡◌, ◌≢◌, ℕ, List, [], ◌∷◌, ◌++◌, replicate, None, Some, refl, sym, ap, ◌∙◌, subst, arith, lit≤, inl, inr}
use Rattle.std.specs.Prelude.{slice_get}
use Rattle.std.specs.List.{AllByRecursion}
use Rattle.std.proofs.lemmas.Bool.{cases_lt}
use Rattle.std.proofs.lemmas.List.{append_assoc, append-nil, get_or-replicate, get_or_past, length-replicate}
use Rattle.cb_types.specs.Config.{IsAccepted}
use Rattle.cb_types.specs.declared.config.Config.{Config}
use Rattle.cb_types.specs.declared.config.Field.TheVariants.{Nodes}
use Rattle.cb_types.specs.declared.reply.Reply.{Reply}
use Rattle.cb_model.specs.Called.{Called}
use Rattle.cb_model.specs.Legal.{Follow, AreLegal}
use Rattle.cb_model.proofs.Laws.{Follow-AreLegal}
use Rattle.cb_world.specs.declared.shown.Shown.{Shown}
use Rattle.cb_world.specs.Empty.{empty_words, empty_far, empty_shown}
use Rattle.cb_world.specs.Now.{now}
use Rattle.cb_world.specs.Seats.{SeatState, OpenWriteState, IsClaimAt, idle_seat, seat_at}
use Rattle.cb_world.specs.World.{WorldState, IsKnown, IsSoundWorld, empty_world}
use Rattle.cb_world.proofs.Laws.{empty_shows, empty_sound, now_same, empty_world_sound}
use Rattle.cb_mutate.specs.MapBeside.{IsMapOf}
use Rattle.cb_mutate.proofs.Laws.{empty_beside, map_kept}
use Rattle.cb_core.specs.declared.event.Event.{Event}
use Rattle.cb_core.specs.Called.{AreBegun, ClaimCall, called_as, calls_by, claims_after, claims_by, StandsBeside}
use Rattle.cb_core.specs.Events.{IsEvent}
use Rattle.cb_core.specs.NowIn.{claim_on, now_in}
use Rattle.cb_core.specs.Run.{LeadsSoundly}
use Rattle.cb_core.specs.Step.{Step}
use Rattle.cb_core.proofs.ClaimOn.{claim_none}
use Rattle.cb_core.proofs.NowIn.{are_gone, in_same, in_words}
use Rattle.cb_core.proofs.RunEvents.{AroundEvent, IsMapAfter, GoesAs, event_goes, event_begun, event_first}
use Rattle.cb_core.proofs.Settings.{step_settings}
use Rattle.cb_core.proofs.TurnCallsKept.{known_same}

-- ---- runs

-- calls that follow the map, and others behind them
follow_append : (first handles : ℕ) (before more rest : List Called) → Follow first handles before more
    → Follow first handles (before ++ more) rest → Follow first handles before (more ++ rest)
follow_append first handles before [] rest follow on =
    subst (λ (cs : List Called). Follow first handles cs rest) (append-nil before) on
follow_append first handles before (c ∷ more) rest follow on = (
  follow.0,
  follow_append first handles (before ++ c ∷ []) more rest follow.1
      (subst (λ (cs : List Called). Follow first handles cs rest)
      (sym (append_assoc before (c ∷ []) more)) on),
)

-- the calls of a run are answered as the map answers them, and the map stands beside the world after it
pub record IsLegalRun (before calls : List Called) (claims : List ClaimCall) (w new : WorldState)
    : Type 0 where
  pub follow : Follow w.far.first w.desk.settings.handles before calls
  pub beside : StandsBeside (before ++ calls) claims new

-- one event, and the run behind it
legal_more : (e : Event) (r : Reply) (before more rest : List Called) (claims : List ClaimCall)
    (w mid new : WorldState) → Step w e r mid → IsSoundWorld w → (after : IsSoundWorld mid)
    → GoesAs before more w mid after → IsLegalRun (before ++ more) rest claims mid new
    → IsLegalRun before (more ++ rest) claims w new
legal_more e r before more rest claims w mid new step sound after goes later = record {
  follow = follow_append w.far.first w.desk.settings.handles before more rest goes.follow
      (subst (λ (n : ℕ). Follow n w.desk.settings.handles (before ++ more) rest)
      (event_first e r w mid sound step)
      (subst (λ (c : Config). Follow mid.far.first c.handles (before ++ more) rest)
      (step_settings w mid e r step) later.follow));
  beside = subst (λ (cs : List Called). StandsBeside cs claims new)
      (append_assoc before more rest) later.beside;
}

legal_by : (events : List Event) (replies : List Reply) (before : List Called)
    (claims : List ClaimCall) (w new : WorldState) → LeadsSoundly w events replies new
    → AllByRecursion (IsEvent w.desk.settings) events → (sound : IsSoundWorld w)
    → IsMapAfter before w sound → AreBegun claims w.seats
    → IsLegalRun before (calls_by before claims events replies) (claims_by claims events replies) w new
legal_by [] [] before claims w new leads ok sound map begun = record {
  follow = tt;
  beside = subst (StandsBeside (before ++ []) claims) (sym leads) (record {
    shown = sound.shown;
    known = sound.known;
    beside = subst (λ (cs : List Called). IsMapAfter cs w sound) (sym (append-nil before)) map;
    gone = are_gone w sound.shown sound.known sound.ongoing;
    begun = begun;
  });
}
legal_by [] (r ∷ replies) before claims w new leads ok sound map begun = absurd leads
legal_by (e ∷ events) [] before claims w new leads ok sound map begun = absurd leads
legal_by (e ∷ events) (r ∷ replies) before claims w new (mid, step, after, leads) ok sound map begun =
    let c : AroundEvent before claims w mid =
    record { at_first = sound; after = after; beside = map; begun = begun } in
    let goes = event_goes before claims e r w mid c ok.0 step in
    legal_more e r before (called_as before claims e r)
    (calls_by (before ++ called_as before claims e r) (claims_after claims e r) events replies)
    (claims_by (claims_after claims e r) events replies) w mid new step sound after goes
    (legal_by events replies (before ++ called_as before claims e r) (claims_after claims e r) mid new
    leads (subst (λ (c : Config). AllByRecursion (IsEvent c) events) (sym (step_settings w mid e r step))
    ok.1) after goes.beside (event_begun claims e r w mid sound ok.0 step begun))

-- where the map stands beside what one knows of a world, it stands beside what another knows
beside_known : (calls : List Called) (w : WorldState) (s t : Shown) → IsKnown w.desk w.far s
    → IsKnown w.desk w.far t → IsMapOf calls w.far.made (λ h. now_in w s h)
    → IsMapOf calls w.far.made (λ h. now_in w t h)
beside_known calls w s t before after map = map_kept 0 0 w.far.made w.far.made (λ h. now_in w s h)
    (λ h. now_in w t h) calls map refl
    (λ h. in_same w w s t (λ k. refl) h (known_same w.desk w.far s t h before after))

-- A run from a world beside which the map stands.
pub run_legal : (events : List Event) (replies : List Reply) (w new : WorldState)
    → LeadsSoundly w events replies new → AllByRecursion (IsEvent w.desk.settings) events
    → IsSoundWorld w → (before : List Called) (claims : List ClaimCall)
    → StandsBeside before claims w
    → Follow w.far.first w.desk.settings.handles before (calls_by before claims events replies)
    × StandsBeside (before ++ calls_by before claims events replies)
    (claims_by claims events replies) new
run_legal events replies w new leads ok sound before claims stands =
    let z = legal_by events replies before claims w new leads ok sound
    (beside_known before w stands.shown sound.shown stands.known sound.known stands.beside)
    stands.begun in
    (z.follow, z.beside)

-- no seat of the empty world has an open write
idle_none : (c : Config) (h seat at : ℕ) (d : OpenWriteState)
    → IsClaimAt (empty_world c).seats seat at d → d.handle ≢ h
idle_none c h seat at d is on =
    none_there (ap (λ (x : SeatState). slice_get x.claims at) (sym idle) ∙ is)
  where
    none_there : slice_get [] at ≡ Some d → ⊥
    none_there e = cc

    idle : seat_at (replicate 64 idle_seat) seat ≡ idle_seat
    idle = elim (cases_lt seat 64) [
      | inl below ↦ get_or-replicate 64 seat idle_seat idle_seat below
      | inr past ↦ get_or_past (replicate 64 idle_seat) seat idle_seat
          (let n = length-replicate 64 idle_seat in omega (arith, n, past))
    ]

-- the empty map stands beside the empty world
pub empty_stands : (c : Config) → IsAccepted c → StandsBeside [] [] (empty_world c)
empty_stands c ok =
    let sound = empty_world_sound c ok in
    let none : (h : ℕ) → claim_on (empty_world c).seats h ≡ None =
    λ h. claim_none (empty_world c).seats h (idle_none c h) in record {
      shown = sound.shown;
      known = sound.known;
      beside = map_kept 0 0 0 0 (λ h. now (empty_shown 1 c) (empty_far 1 c) h)
          (λ h. now_in (empty_world c) sound.shown h) [] (empty_beside c) refl
          (λ h. in_words (empty_world c) sound.shown h (none h)
          ∙ now_same (empty_words c) (empty_shown 1 c) sound.shown (empty_far 1 c) h (empty_shows 1 c)
          (empty_sound 1 c (lit≤ tt) (let n = (ok Nodes).1 in omega (arith, n))) sound.known.shows sound.known.sound);
      gone = are_gone (empty_world c) sound.shown sound.known sound.ongoing;
      begun = λ seat at d is. absurd (idle_none c d.handle seat at d is refl);
    }

-- The calls of a run from a world beside which the empty map stands are legal, and in order.
pub run_from_empty : (events : List Event) (replies : List Reply) (w new : WorldState)
    → LeadsSoundly w events replies new → AllByRecursion (IsEvent w.desk.settings) events
    → IsSoundWorld w → StandsBeside [] [] w
    → AreLegal w.far.first w.desk.settings.handles (calls_by [] [] events replies)
    × Follow w.far.first w.desk.settings.handles [] (calls_by [] [] events replies)
    × StandsBeside (calls_by [] [] events replies) (claims_by [] events replies) new
run_from_empty events replies w new leads ok sound stands =
    let z = run_legal events replies w new leads ok sound [] [] stands in (
      Follow-AreLegal w.far.first w.desk.settings.handles (calls_by [] [] events replies) z.0,
      z.0,
      z.1,
    )
