-- A turn with the job Read is the first call of a read, and then the read where the object is here.
use Rattle.std.proofs.Common.{◌≡◌, ◌⊎◌, ℕ, List, inl, inr}
use Rattle.cb_types.specs.declared.config.Config.{Config}
use Rattle.cb_types.specs.declared.handle.Handle.{Handle}
use Rattle.cb_types.specs.declared.job.Job.TheVariants.{Read}
use Rattle.cb_types.specs.declared.reply.Reply.{Reply}
use Rattle.cb_types.specs.declared.reply.Reply.TheVariants as answer
use Rattle.cb_world.specs.declared.access.Access.{Access}
use Rattle.cb_world.specs.declared.shown.Shown.{Shown}
use Rattle.cb_core.specs.OnceHere.{IsThere, away, here, bringing_stops, call_stops}
use Rattle.cb_core.specs.Parts.{Holding}
use Rattle.cb_core.specs.ReadTurn.{BroughtToRead, StoppedToRead}
use Rattle.cb_core.specs.ReadTurn.BroughtToRead.{worn as first_worn, done as first_done}
use Rattle.cb_core.specs.Turned.{Turned, worn, done, Stopped}

worn_not_there : (r : Reply) → r ≡ answer.Worn → IsThere r → ⊥
worn_not_there r e (inl s) = cc
worn_not_there r e (inr (f, s)) = cc

module _ {D : Type 0} (run : D → List Access → D → Type 0) (shows : D → Shown → Type 0)
    (reads : ℕ → Holding D → Reply → Holding D → Type 0) (lacks : ℕ → Holding D → Holding D → Type 0)
    (c : Config) (handle : Handle) (a : Holding D) where
  -- the first call tells that the object is not here: that is the turn
  pub first_alone : (b : Holding D) (r : Reply) → BroughtToRead run shows c handle a r b
      → (IsThere r → ⊥) → Turned run shows reads c (Read handle) a r b
  first_alone b r (first_worn end reply state ran) off = worn end reply state ran
  first_alone b r (first_done few come) off = done few (away come off)

  -- the object is here then, and is read: that is the turn
  pub both_calls : (m b : Holding D) (place r : Reply) → BroughtToRead run shows c handle a place m
      → IsThere place → reads handle.n m r b → Turned run shows reads c (Read handle) a r b
  both_calls m b place r (first_worn end reply state ran) there x =
      absurd (worn_not_there place reply there)
  both_calls m b place r (first_done few come) there x = done few (here m place come there x)

  -- and no turn with the job Read is anything else
  pub in_two_calls : (b : Holding D) (r : Reply) → Turned run shows reads c (Read handle) a r b
      → (BroughtToRead run shows c handle a r b × (IsThere r → ⊥))
      ⊎ ((m : Holding D) × (place : Reply) × BroughtToRead run shows c handle a place m
      × IsThere place × reads handle.n m r b)
  in_two_calls b r (worn end reply state ran) =
      inl (first_worn end reply state ran, worn_not_there r reply)
  in_two_calls b r (done few (away come off)) = inl (first_done few come, off)
  in_two_calls b r (done few (here m place come there x)) =
      inr (m, place, first_done few come, there, x)

  -- and so where there was no memory, for the first call or for the read
  pub first_stops : (b : Holding D) → StoppedToRead run shows c handle a b
      → Stopped run shows lacks c (Read handle) a b
  first_stops b x = record { few = x.few; stops = bringing_stops x.stops }

  pub second_stops : (m b : Holding D) (place : Reply) → BroughtToRead run shows c handle a place m
      → IsThere place → lacks handle.n m b → Stopped run shows lacks c (Read handle) a b
  second_stops m b place (first_worn end reply state ran) there x =
      absurd (worn_not_there place reply there)
  second_stops m b place (first_done few come) there x =
      record { few = few; stops = call_stops m place come there x }
