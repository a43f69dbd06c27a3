-- What an encoder behind a plain pointer owns.
use base.Fml.{Fml, ftrue}
use base.Stored.{Coded}
use denote.RawPtr.{Ptr}
use Rattle.std.specs.Prelude.{Option, Some, None}
use Rattle.std.specs.Coded.{coded_option}
use Rattle.std.specs.Box.Ownership.{box_owns}
use Rattle.std.specs.Global.{Global}
use Rattle.std.specs.contracts.impls.GlobalAllocator.TheImpl.{ghosts}
use Rattle.carbink_c.specs.contracts.encoder.Encoder.{the_row}

-- where there is an encoder, what a box of it owns; else nothing
abbrev pub encoder_owns : Global → Ptr → Option the_row.Denot → Fml
encoder_owns alloc at None = ftrue
encoder_owns alloc at (Some w) = box_owns (ghosts.dealloc_token alloc) the_row at w

abbrev pub encoder_coded : Coded (Option the_row.Denot)
encoder_coded = coded_option the_row.coded
