-- What a ship keeps, from the step alone.
use Rattle.std.proofs.Common.{ℕ, List, sym, ap, subst, inl, inr}
use Rattle.cb_types.specs.declared.reply.Reply.{Reply}
use Rattle.cb_world.specs.FarState.{FarState}
use Rattle.cb_world.specs.Leaving.{LeavingState}
use Rattle.cb_world.specs.Plain.{Words}
use Rattle.cb_world.proofs.Laws.{KeepsFar, KeepsPins, StepKeeps, pins_same}
use Rattle.cb_evict.specs.ShipRule.{ShipsRow}
use Rattle.cb_evict.specs.ShipStep.{IsShipStep}
use Rattle.cb_evict.proofs.FarRest.{rest_kept, rest_of}

ships_far : (far new : FarState) (r : Reply) (rows : LeavingState → List (List ℕ))
    → ShipsRow far new r rows → KeepsFar far new
ships_far far new r rows (inl x) = rest_kept far new (ap rest_of x.state)
ships_far far new r rows (inr (inl x)) = rest_kept far new (ap rest_of x.state)
ships_far far new r rows (inr (inr (inl x))) = rest_kept far new (ap rest_of x.state)
ships_far far new r rows (inr (inr (inr x))) = rest_kept far new (ap rest_of x.state)

pub ship_keeps : (x y : Words) (far new : FarState) (r : Reply) → IsShipStep x y far new r
    → StepKeeps x y far new
ship_keeps x y far new r step = record {
  far = ships_far far new r _ step.ships;
  words = subst (KeepsPins x) (sym step.words) (pins_same x);
}
