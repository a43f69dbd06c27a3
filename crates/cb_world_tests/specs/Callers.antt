-- Passes that the tests work with.
use Rattle.std.proofs.Common.{subst}
use Rattle.std.specs.Prelude.{◌≡◌, ℕ, List, All, Result, Ok}
use Rattle.cb_member.specs.declared.no_memory.NoMemory.{NoMemory}
use Rattle.cb_types.specs.declared.handle.Handle.{Handle}
use Rattle.cb_types.specs.declared.reply.Reply.{Reply}
use Rattle.cb_types.specs.declared.reply.Reply.TheVariants.{Made}
use Rattle.cb_rule.specs.declared.view.View.{View}
use Rattle.cb_rule.specs.Steps.{Knows}
use Rattle.cb_shared.specs.declared.pass.Pass.{Pass}
use Rattle.cb_shared.specs.declared.runtime.Shared.{Shared}
use Rattle.cb_shared.specs.Passes.{IsPassOf}

-- the record knows each of these objects
abbrev pub KnowsAll : List Handle → View → Type 0
KnowsAll objects v = All (λ (h : Handle). Knows h.n v) objects

-- the object is one that whoever knows these objects knows
abbrev pub IsKnownAmong : Handle → List Handle → Type 0
IsKnownAmong h objects = (v : View) → KnowsAll objects v → Knows h.n v

-- the pass is one of this runtime and knows these objects
pub record IsCaller (s : Shared) (objects : List Handle) (p : Pass) : Type 0 where
  pub of : IsPassOf s p
  pub knows : KnowsAll objects p.seat.me.0

-- the reply tells that this object was made
abbrev pub TellsMade : Result Reply NoMemory → Handle → Type 0
TellsMade r h = (n : ℕ) × (r ≡ Ok (Made h n))

-- by a runtime and objects that are the same
pub caller_at : (s t : Shared) (objects others : List Handle) (p : Pass) → s ≡ t
    → objects ≡ others → IsCaller s objects p → IsCaller t others p
caller_at s t objects others p is same c = subst (λ (x : Shared). IsCaller x others p) is
    (subst (λ (all : List Handle). IsCaller s all p) same c)

-- a pass of a runtime that is the same
pub pass_at : (s t : Shared) (p : Pass) → s ≡ t → IsPassOf s p → IsPassOf t p
pass_at s t p is of = subst (λ (x : Shared). IsPassOf x p) is of
