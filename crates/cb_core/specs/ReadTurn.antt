-- A read in two calls: the first one counts the turn and brings the object in, and the second one
-- reads.
use Rattle.std.specs.Prelude.{◌≡◌, ◌^◌, ◌<◌, List, []}
use Rattle.cb_types.specs.declared.config.Config.{Config}
use Rattle.cb_types.specs.declared.handle.Handle.{Handle}
use Rattle.cb_types.specs.declared.job.Job.TheVariants.{Read}
use Rattle.cb_types.specs.declared.reply.Reply.{Reply}
use Rattle.cb_types.specs.declared.reply.Reply.TheVariants as answer
use Rattle.cb_world.specs.declared.access.Access.{Access}
use Rattle.cb_world.specs.declared.shown.Shown.{Shown}
use Rattle.cb_core.specs.Parts.{Holding}
use Rattle.cb_core.specs.Turned.{ComesIn, ComeLacks, once_counted}

-- The first call: where 2^40 turns were counted it is refused and nothing is done; else a turn of
-- the job Read is counted, and the object is brought in where it is far.
pub data BroughtToRead {D : Type 0} (run : D → List Access → D → Type 0)
    (shows : D → Shown → Type 0) (c : Config)
    (handle : Handle) (a : Holding D) (r : Reply) (b : Holding D) : Type 0 where
  worn : a.far.counts.turns ≡ 2 ^ 40 → r ≡ answer.Worn → b.far ≡ a.far → run a.desk [] b.desk
      → BroughtToRead run shows c handle a r b
  done : a.far.counts.turns < 2 ^ 40
      → ComesIn run shows c handle.n (once_counted a (Read handle)) r b
      → BroughtToRead run shows c handle a r b

-- a first call that found no memory is counted
pub record StoppedToRead {D : Type 0} (run : D → List Access → D → Type 0)
    (shows : D → Shown → Type 0) (c : Config) (handle : Handle) (a b : Holding D) : Type 0 where
  pub few : a.far.counts.turns < 2 ^ 40
  pub stops : ComeLacks run shows c handle.n (once_counted a (Read handle)) b
