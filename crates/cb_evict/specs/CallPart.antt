-- A part of a call at a desk.
use Rattle.std.specs.Prelude.{ℕ, List}
use Rattle.cb_world.specs.declared.access.Access.{Access}
use Rattle.cb_world.specs.Looks.{NoLook, LooksFirst}
use Rattle.cb_evict.specs.Events.{TouchesOnly, OnlyLooks}

-- The desk ran its events, which touch these objects and words alone. Objects are looked at before
-- they are changed, and so much is so of the events.
pub record CallPart (runs : List Access → Type 0) (objects words : ℕ → Type 0)
    (so : List Access → Type 0) : Type 0 where
  pub events : List Access
  pub ran : runs events
  pub touches : TouchesOnly objects words events
  pub first : LooksFirst events
  pub done : so events

-- looks at these objects, by which this is found
abbrev pub LooksAt : (List Access → Type 0) → (ℕ → Type 0) → (List Access → Type 0) → Type 0
LooksAt runs objects finds = CallPart runs objects (λ p. ⊥) (λ es. OnlyLooks es × finds es)

-- these objects are settled without a look
abbrev pub Settles : (List Access → Type 0) → (ℕ → Type 0) → (ℕ → Type 0) → (List Access → Type 0)
    → Type 0
Settles runs objects words so =
    CallPart runs objects words (λ es. ((k : ℕ) → NoLook k es) × so es)
