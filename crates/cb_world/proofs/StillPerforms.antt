-- An operation at the still desk.
use Rattle.std.proofs.Common.{◌≡◌, ℕ, List}
use Rattle.cb_world.specs.declared.access.Access.{Access}
use Rattle.cb_world.specs.declared.shown.Shown.{Shown}
use Rattle.cb_world.specs.Now.{now}
use Rattle.cb_world.specs.Played.{played}
use Rattle.cb_world.specs.Plain.{Words, Plain, Shows, IsSized}
use Rattle.cb_world.specs.Looks.{LooksFirst, told_by}
use Rattle.cb_world.specs.Allowed.{Allowed}
use Rattle.cb_world.specs.Still.{IsStill}
use Rattle.cb_world.specs.FarState.{FarState}
use Rattle.cb_world.specs.Sound.{Sound}
use Rattle.cb_world.specs.Performs.{Performs}
use Rattle.cb_world.specs.World.{IsKnown}
use Rattle.cb_world.proofs.Known.{told_known, known_after}
use Rattle.cb_world.proofs.StillWords.{still_exact}

-- how an operation's clause reads where its desk is still: it leads from the words x to the words
-- y
abbrev pub PerformsStill : Words → Words → FarState → FarState → (List Access → Type 0)
    → (List Access → Shown → Shown → Type 0) → Type 0
PerformsStill x y far new rules does = Performs (λ es. Plain x es y × (IsSized x → IsSized y))
    (λ s. (IsSized x × Shows x s) × Sound s far) rules (λ t. Sound t new) does

-- What its events are, where all is known of the desk.
pub record RunsStill (x y : Words) (far : FarState) (s : Shown) (es : List Access) : Type 0 where
  pub known : IsKnown x far s
  pub ran : Plain x es y
  pub looks_first : LooksFirst es
  pub allowed : Allowed s es
  pub told : told_by es s ≡ s

pub runs_still : (x y : Words) (far new : FarState) (rules : List Access → Type 0)
    (does : List Access → Shown → Shown → Type 0) (s : Shown) → IsKnown x far s
    → (p : PerformsStill x y far new rules does) → RunsStill x y far s p.events
runs_still x y far new rules does s k p = record {
  known = k;
  ran = p.ran.0;
  looks_first = p.looks_first;
  allowed = p.allowed s ((k.sized, k.shows), k.sound);
  told = told_known x y far s p.events k p.ran.0 p.looks_first;
}

-- all is known of it afterwards
pub known_then : (x y : Words) (far new : FarState) (rules : List Access → Type 0)
    (does : List Access → Shown → Shown → Type 0) (s : Shown) → IsKnown x far s
    → (p : PerformsStill x y far new rules does) → IsKnown y new (played p.events s)
known_then x y far new rules does s k p = known_after x y far new s p.events k p.ran.0
    (p.allowed s ((k.sized, k.shows), k.sound)) p.ran.1
    (p.sound_after s ((k.sized, k.shows), k.sound))

-- All is known of the desk after a step, and the last complete contents of each handle stay.
pub record IsStepKnown (y : Words) (far new : FarState) (s : Shown) : Type 0 where
  pub shown : Shown
  pub known : IsKnown y new shown
  pub same_now : (h : ℕ) → now shown new h ≡ now s far h

-- what changes nothing leaves every word
pub stays_still : (x y : Words) (far : FarState) (s : Shown) (es : List Access)
    → RunsStill x y far s es → IsStill es s (played es s) → y ≡ x
stays_still x y far s es r still = still_exact x y far s es r.known r.ran r.looks_first r.allowed
    still
