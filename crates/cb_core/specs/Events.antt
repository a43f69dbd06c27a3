-- Which events may come.
use Rattle.std.specs.Prelude.{◌<◌}
use Rattle.cb_types.specs.declared.config.Config.{Config}
use Rattle.cb_core.specs.declared.event.Atomic.{Atomic}
use Rattle.cb_core.specs.declared.event.Atomic.TheVariants.{Load, Pin, Unpin, Claim, Store, Settle, Take, Give}
use Rattle.cb_core.specs.declared.event.Event.{Event}
use Rattle.cb_core.specs.declared.event.Event.TheVariants as event
use Rattle.cb_core.specs.Jobs.{IsJob}

-- an atomic step that may come: on an object with one of the configured handles, or on the far lock
abbrev pub IsAtomic : Config → Atomic → Type 0
IsAtomic c (Load handle) = handle.n < c.handles
IsAtomic c (Pin handle) = handle.n < c.handles
IsAtomic c (Unpin handle) = handle.n < c.handles
IsAtomic c (Claim handle at bytes) = handle.n < c.handles
IsAtomic c (Store handle) = handle.n < c.handles
IsAtomic c (Settle handle) = handle.n < c.handles
IsAtomic c Take = Unit {0}
IsAtomic c Give = Unit {0}

-- there are 64 seats, and handles, nodes and bytes are as a job may have them
abbrev pub IsEvent : Config → Event → Type 0
IsEvent c (event.Step seat atomic) = (seat < 64) × IsAtomic c atomic
IsEvent c (event.Turn seat job) = (seat < 64) × IsJob c job
