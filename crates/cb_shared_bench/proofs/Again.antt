-- What goes on to hold.
use Rattle.std.proofs.Common.{◌≡◌, Bool, true, false, List, [], ◌∷◌, ◌++◌, Result, Ok, sym, subst, ◌∙◌}
use Rattle.std.specs.Prelude.{if◌then◌else◌, All, IfOk}
use Rattle.std.proofs.lemmas.List.Elements.{All-push}
use Rattle.cb_member.specs.declared.no_memory.NoMemory.{NoMemory}
use Rattle.cb_types.specs.declared.reply.Reply.{Reply}
use Rattle.cb_world.specs.World.{WorldState, IsSoundWorld}
use Rattle.cb_core.specs.declared.event.Event.{Event}
use Rattle.cb_core.specs.Step.{Step}
use Rattle.cb_core.proofs.Laws.{step_settings}
use Rattle.cb_shared_bench.specs.Callers.{IsBenchWorld}

-- a turn that is answered leaves a still world with the same settings
pub still_again : (w new : WorldState) (e : Event) (r : Result Reply NoMemory) → IsBenchWorld w
    → IsSoundWorld new → IfOk r (λ reply. Step w e reply new) → (x : Reply) × (r ≡ Ok x)
    → IsBenchWorld new
still_again w new e r still sound stepped is = record {
  sound = sound;
  settings = step_settings w new e is.0
      (subst (λ (x : Result Reply NoMemory). IfOk x (λ reply. Step w e reply new)) is.1 stepped)
      ∙ still.settings;
}

-- what each item of a list is, each one is behind a push that may fail
pub pushed : {X : Type 0} (P : X → Type 0) (old new : List X) (x : X) (b : Bool)
    → new ≡ (if b then old ++ x ∷ [] else old) → All P old → P x → All P new
pushed P old new x true e all p = subst (All P) (sym e) (All-push P old x all p)
pushed P old new x false e all p = subst (All P) (sym e) all
