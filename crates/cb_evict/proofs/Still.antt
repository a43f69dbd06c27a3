-- What is left where nothing is done.
use Rattle.std.proofs.Common.{◌≡◌, List, [], refl, sym, subst}
use Rattle.cb_world.specs.declared.access.Access.{Access}
use Rattle.cb_world.specs.declared.shown.Shown.{Shown}
use Rattle.cb_world.specs.FarState.{FarState}
use Rattle.cb_world.specs.Performs.{Performs}
use Rattle.cb_world.specs.Sound.{Sound}
use Rattle.cb_world.specs.Still.{IsStill}

pub still_none : (s : Shown) → IsStill [] s s
still_none s =
    record { objects = refl; hots = refl; versions = refl; memory = refl; nothing = λ old. refl }

pub does_nothing : (runs : List Access → Type 0) (knows : Shown → Type 0) (far new : FarState)
    (rule : List Access → Type 0) (does : List Access → Shown → Shown → Type 0) → runs []
    → new ≡ far → rule [] → ((s : Shown) → does [] s s)
    → Performs runs (λ s. knows s × Sound s far) rule (λ t. Sound t new) does
does_nothing runs knows far new rule does ran state meets still = record {
  events = [];
  ran = ran;
  looks_first = tt;
  rule = meets;
  allowed = λ s k. tt;
  sound_after = λ s k. subst (Sound s) (sym state) k.1;
  effect = λ s k. still s;
}
