-- A ship as a step of the still desk: the reply and the far state afterwards.
use Rattle.std.specs.Prelude.{◌≡◌}
use Rattle.cb_types.specs.declared.reply.Reply.{Reply}
use Rattle.cb_world.specs.FarState.{FarState}
use Rattle.cb_world.specs.Plain.{Words}
use Rattle.cb_evict.specs.BeginStep.{frame_rows}
use Rattle.cb_evict.specs.ShipRule.{ShipsRow}

-- A turn that ships a row, from the words x to the words y: no word changes.
pub record IsShipStep (x y : Words) (far new : FarState) (r : Reply) : Type 0 where
  pub words : y ≡ x
  pub ships : ShipsRow far new r (λ batch. frame_rows x batch.pages batch.frames)
