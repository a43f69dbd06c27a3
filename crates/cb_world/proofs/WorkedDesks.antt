-- Worked desks, numbers that show the empty world where they are 1 and nothing else.
use Rattle.std.proofs.Common.{◌≡◌, ◌≤◌, ◌<◌, ℕ, List, [], refl, subst, arith, lit<, lit≤}
use Rattle.cb_types.specs.declared.config.Config.{Config}
use Rattle.cb_world.specs.declared.access.Access.{Access}
use Rattle.cb_world.specs.declared.shown.Shown.{Shown}
use Rattle.cb_world.specs.Desks.{IsReadyDesk, Operates}
use Rattle.cb_world.specs.Empty.{empty_far, empty_shown}
use Rattle.cb_world.specs.FarState.{FarState}
use Rattle.cb_world.specs.Sound.{Sound}
use Rattle.cb_world.proofs.Empty.{empty_sound}

abbrev config : Config
config = record { k = 1; r = 1; nodes = 2; frames = 1; room = 1; handles = 1; turns = 0 }

abbrev world : Shown
world = empty_shown 1 config

abbrev far : FarState
far = empty_far 1 config

-- beside it nothing is sound
abbrev none_sound : FarState
none_sound = record far { first = 0 }

abbrev shows : ℕ → Shown → Type 0
shows desk s = (desk ≡ 1) × (s ≡ world)

-- only no access at all leads anywhere, and it leads back
abbrev runs : ℕ → List Access → ℕ → Type 0
runs desk es after = (es ≡ []) × (after ≡ desk)

sound : Sound world far
sound = empty_sound 1 config (lit≤ tt) (lit< tt)

ready : IsReadyDesk shows 1 far
ready = (world, (refl, refl), sound)

shows_nothing : IsReadyDesk shows 0 far → ⊥
shows_nothing x = let e : 0 ≡ 1 = x.1.0 in omega (arith, e)

shows_what_is_not_sound : IsReadyDesk shows 1 none_sound → ⊥
shows_what_is_not_sound x = let z : 1 ≤ 0 = x.2.here.known.least in omega (arith, z)

abbrev Does : ℕ → FarState → (List Access → Type 0) → (List Access → Shown → Shown → Type 0)
    → Type 0
Does after new rule effect = Operates runs shows 1 far after new rule effect

does_nothing : Does 1 far (λ es. es ≡ []) (λ es s t. t ≡ s)
does_nothing = record {
  events = [];
  ran = (refl, refl);
  looks_first = tt;
  rule = refl;
  allowed = λ s knows. tt;
  sound_after = λ s knows. knows.1;
  effect = λ s knows. refl;
}

leads_elsewhere : Does 2 far (λ es. es ≡ []) (λ es s t. t ≡ s) → ⊥
leads_elsewhere x = let e : 2 ≡ 1 = x.ran.1 in omega (arith, e)

against_its_rule : Does 1 far (λ es. ⊥) (λ es s t. t ≡ s) → ⊥
against_its_rule x = x.rule

not_sound_afterwards : Does 1 none_sound (λ es. es ≡ []) (λ es s t. t ≡ s) → ⊥
not_sound_afterwards x =
    let z : 1 ≤ 0 = (x.sound_after world ((refl, refl), sound)).here.known.least in
    omega (arith, z)

without_its_effect : Does 1 far (λ es. es ≡ []) (λ es s t. ⊥) → ⊥
without_its_effect x = x.effect world ((refl, refl), sound)

-- of what the desk does not show, or what was not sound, nothing is said
unshown : Operates runs shows 0 none_sound 0 none_sound (λ es. es ≡ []) (λ es s t. ⊥)
unshown = record {
  events = [];
  ran = (refl, refl);
  looks_first = tt;
  rule = refl;
  allowed = λ s knows. tt;
  sound_after = λ s knows. knows.1;
  effect = λ s knows. let e : 0 ≡ 1 = knows.0.0 in omega (arith, e);
}
