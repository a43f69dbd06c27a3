-- The slot of local memory in which an object stands, and how it gets another one.
use Rattle.std.specs.Prelude.{◌≡◌, ℕ, Bool, true, false, Some}
use Rattle.cb_span.specs.declared.temp.Temp.{Temp}
use Rattle.cb_span.specs.declared.temp.Temp.TheVariants.{Hot, Cold}
use Rattle.cb_span.specs.Contents.{Contents, handle_at}
use Rattle.cb_world.specs.FarState.{FarState, span_in}
use Rattle.cb_world.specs.Placed.{Slot, with_object}
use Rattle.cb_world.specs.Released.{with_released}

-- a slot of the span in a frame
pub record Seat : Type 0 where
  pub frame : ℕ
  pub number : ℕ
  pub span : Contents

-- the slot names the object
pub record IsSeatOf (far : FarState) (h : ℕ) (seat : Seat) : Type 0 where
  pub there : span_in far.spans seat.frame ≡ Some seat.span
  pub named : handle_at seat.span seat.number ≡ Some h

-- the temperature of the spans in which an object belongs, by its hot bit
abbrev pub temp_for : Bool → Temp
temp_for true = Hot
temp_for false = Cold

-- the far state once the object moved from its slot to another one: a span whose last object went
-- gives its frames back
abbrev pub with_moved : FarState → Seat → Slot → ℕ → FarState
with_moved far seat slot h = with_released (with_object far slot h) seat.frame seat.number seat.span
