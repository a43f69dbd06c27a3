-- What is kept says the same to every thread.
use Rattle.std.specs.Prelude.{Option, Some, None}
use mir.Raw.{raw}
use base.Shift.{Keyless}
use denote.Memory.{lone}
use denote.RawPtr.{Ptr}
use denote.Struct.Struct.{exits_of}
use denote.Struct.Owning.{shape, fields, to}
use denote.Param.Send.{IsSend, AllSend, owning_send, struct_send, sendable}
use Rattle.std.specs.Global.{Global}
use Rattle.std.proofs.Crossing as heap
use Rattle.std.proofs.alloc.Global.TheSendSync as handle
use Rattle.carbink_c.proofs.Apart.{quiet, lies}
use Rattle.carbink_c.specs.contracts.held.Held as Held
use Rattle.carbink_c.proofs.held.Held.TheSendSync.{the_send as inner}
use Rattle.carbink_c.specs.Kept.{kept_owns}
use Rattle.carbink_c.specs.contracts.kept.Kept.{the_row, the_type}

owned : (alloc : Global) (at : Ptr) (o : Option Held.the_row.Denot) → Keyless (kept_owns alloc at o)
owned alloc at None = tt
owned alloc at (Some x) = (lies Held.the_row inner at x, heap.frees.frees alloc (raw (lone Held.the_row.mir)) at)

pub send : IsSend the_row
send =
    let all : AllSend (fields the_type) = (search sendable, (handle.the_field_send, tt)) in
    owning_send the_type all (λ d. owned d.alloc d.at d.world) (λ k. quiet (to the_type) (exits_of k (fields the_type)) ((struct_send (shape the_type) all).leaving k))
