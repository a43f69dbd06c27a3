-- What a turn that hands an order out, or takes one, leaves over any desk.
use Rattle.std.specs.Prelude.{◌≡◌, List, [], Option, None, Result, Ok, Err}
use Rattle.cb_member.specs.declared.no_memory.NoMemory.{NoMemory}
use Rattle.cb_types.specs.declared.config.Config.{Config}
use Rattle.cb_types.specs.declared.job.Job.{Job}
use Rattle.cb_types.specs.declared.order.Kept.{Kept}
use Rattle.cb_types.specs.declared.reply.Reply.{Reply}
use Rattle.cb_world.specs.declared.access.Access.{Access}
use Rattle.cb_world.specs.declared.shown.Shown.{Shown}
use Rattle.cb_world.specs.FarState.{FarState}
use Rattle.cb_world.specs.KeepCodes.{KeepCodes}
use Rattle.cb_world.specs.Orders.{KeepsOrder, LeavesOrders}
use Rattle.cb_world.specs.Played.{played}
use Rattle.cb_world.specs.Sound.{Sound}
use Rattle.cb_world.specs.World.{AreCounted, IsConfigured}
use Rattle.cb_evict.specs.declared.gathering.Gathered.{Gathered}
use Rattle.cb_evict.specs.Gathering.{gathered_order}
use Rattle.cb_swapin.specs.declared.fetching.Fetching.{Fetching}
use Rattle.cb_swapin.specs.FetchStep.{fetching_order}
use Rattle.cb_core.specs.Ordered.{EndsWith}
use Rattle.cb_core.specs.Parts.{Holding}
use Rattle.cb_core.specs.TurnLeaves.{IsOneTurnOn, TurnLeaves}

-- The turn leaves what every turn leaves, and writes no version; and for all that the desk showed
-- and that was sound, the order that it hands out is kept afterwards.
pub record HandsOrder {D : Type 0} (run : D → List Access → D → Type 0) (shows : D → Shown → Type 0)
    (c : Config) (a b : Holding D) (handed : Option Kept) : Type 0 where
  pub leaves : TurnLeaves run shows c a b (λ more. more ≡ [])
  pub kept : (s : Shown) → shows a.desk s → Sound s a.far
      → KeepsOrder (played leaves.events s) b.far handed

-- the order that a gather hands out; none where it found no memory
abbrev pub gather_hands : Result Gathered NoMemory → Option Kept
gather_hands (Ok g) = gathered_order None g
gather_hands (Err e) = None

-- the order that a fetch hands out
abbrev pub fetch_hands : Result Fetching NoMemory → Option Kept
fetch_hands (Ok g) = fetching_order None g
fetch_hands (Err e) = None

-- An install works at the far state alone: it is as it is configured and counted, it has no other
-- code, and is at most one turn further; and where the order was kept, what was sound is sound, and
-- every order that was kept is kept.
pub record InstallLeaves (c : Config) (far new : FarState) (order : Option Kept) : Type 0 where
  pub configured : IsConfigured c new
  pub codes : KeepCodes far new
  pub counted : AreCounted new
  pub next : IsOneTurnOn far new
  pub sound : (s : Shown) → Sound s far → KeepsOrder s far order → Sound s new
  pub orders : (s : Shown) → Sound s far → KeepsOrder s far order → LeavesOrders s far s new

-- What a turn leaves of a seat that kept `order` before it, whatever its outcome: what every turn
-- leaves, and no version; and for all that the desk showed, where that was sound and the order was
-- kept, what the seat keeps after it is kept then.
pub record LeavesWith {D : Type 0} (run : D → List Access → D → Type 0) (shows : D → Shown → Type 0)
    (c : Config) (a b : Holding D) (order keeps : Option Kept) : Type 0 where
  pub leaves : TurnLeaves run shows c a b (λ more. more ≡ [])
  pub kept : (s : Shown) → shows a.desk s → Sound s a.far → KeepsOrder s a.far order
      → KeepsOrder (played leaves.events s) b.far keeps

-- What a turn of such a job comes to for a seat that kept `order` before it, by its outcome, and
-- what it leaves.
pub record TurnsWith {D : Type 0} (run : D → List Access → D → Type 0) (shows : D → Shown → Type 0)
    (c : Config) (job : Job) (order : Option Kept) (a : Holding D) (keeps : Option Kept)
    (result : Result Reply NoMemory) (b : Holding D) : Type 0 where
  pub ends : EndsWith run shows c job order a keeps result b
  pub leaves : LeavesWith run shows c a b order keeps
