-- What the benchmark works with.
use Rattle.std.specs.Prelude.{◌≡◌, ℕ, ◌<◌, Result, Ok}
use Rattle.cb_member.specs.declared.no_memory.NoMemory.{NoMemory}
use Rattle.cb_types.specs.declared.config.Config.{Config}
use Rattle.cb_types.specs.declared.handle.Handle.{Handle}
use Rattle.cb_types.specs.declared.job.Job.{Job}
use Rattle.cb_types.specs.declared.job.Job.TheVariants.{Abort, Begin, Crash, Evict, Join, Part}
use Rattle.cb_types.specs.declared.job.Job.TheVariants.{Rebuild, Swap}
use Rattle.cb_types.specs.declared.reply.Reply.{Reply}
use Rattle.cb_types.specs.declared.reply.Reply.TheVariants.{Made}
use Rattle.cb_world.specs.World.{WorldState, IsSoundWorld}
use Rattle.cb_rule.specs.Steps.{Knows}
use Rattle.cb_shared.specs.declared.answers.PinAnswer.{PinAnswer}
use Rattle.cb_shared.specs.declared.answers.PinAnswer.TheVariants.{Pinned}
use Rattle.cb_shared.specs.declared.pass.Pass.{Pass}
use Rattle.cb_shared.specs.declared.pass.Pin.{Pin}
use Rattle.cb_shared.specs.declared.runtime.Shared.{Shared}
use Rattle.cb_shared.specs.Passes.{IsPassOf}

-- the pass is one of this runtime and knows the object
pub record IsCaller (s : Shared) (h : Handle) (p : Pass) : Type 0 where
  pub of : IsPassOf s p
  pub knows : Knows h.n p.seat.me.0

-- of the pin, where there is one
abbrev pub IfPinned : PinAnswer → (Pin → Type 0) → Type 0
IfPinned (Pinned p) P = P p
IfPinned other P = Unit {0}

-- the reply tells of this handle as made
abbrev pub IsToldMade : Result Reply NoMemory → Handle → Type 0
IsToldMade r h = (version : ℕ) × (r ≡ Ok (Made h version))

-- the job needs no object that the pass knows: it is about none, about the span of one, or about a
-- node
abbrev pub IsPlain : Config → Job → Type 0
IsPlain c Abort = Unit {0}
IsPlain c Begin = Unit {0}
IsPlain c Evict = Unit {0}
IsPlain c Part = Unit {0}
IsPlain c Rebuild = Unit {0}
IsPlain c (Swap handle) = handle.n < c.handles
IsPlain c (Crash node) = node.n < c.nodes
IsPlain c (Join node) = node.n < c.nodes
IsPlain c other = ⊥

-- the settings of a still world
abbrev pub the_config : Config
the_config = record { k = 1; r = 1; nodes = 4; frames = 64; room = 64; handles = 1024; turns = 0 }

-- a sound world with these settings
pub record IsBenchWorld (w : WorldState) : Type 0 where
  pub sound : IsSoundWorld w
  pub settings : w.desk.settings ≡ the_config
