-- The slot that lies at a place.
use Rattle.std.proofs.Common.{◌≡◌, ℕ, sym, ap, ◌∙◌, Option, Some, None}
use Rattle.cb_span.specs.Contents.{Contents}
use Rattle.cb_span.specs.Places.{frame_of}
use Rattle.cb_world.specs.FarState.{FarState, span_in}
use Rattle.cb_world.proofs.Laws.{TellsHolder, held_is, some_same}
use Rattle.cb_filter.specs.Seats.{Seat}
use Rattle.cb_filter.specs.Plans.{LiesAtPlace}

-- the span that has the frame of the place is the slot's
pub seat_held : (far : FarState) (place : ℕ) (found : Option ℕ) (seat : Seat)
    → LiesAtPlace far place seat → TellsHolder far.spans (frame_of place) found
    → found ≡ Some seat.frame
seat_held far place found seat x tells =
    held_is far.frames far.spans place seat.frame seat.number seat.span found x tells

pub seat_there : (far : FarState) (place frame : ℕ) (found : Option ℕ) (seat : Seat)
    → LiesAtPlace far place seat → TellsHolder far.spans (frame_of place) found
    → found ≡ Some frame → span_in far.spans frame ≡ Some seat.span
seat_there far place frame found seat x tells is = ap (span_in far.spans)
    (one_number frame seat.frame (sym is ∙ seat_held far place found seat x tells)) ∙ x.there
  where
    one_number : (a b : ℕ) → Some a ≡ Some b → a ≡ b
    one_number a b e = cc

pub seat_span : (far : FarState) (place frame : ℕ) (found : Option ℕ) (seat : Seat)
    (span : Contents) → LiesAtPlace far place seat → TellsHolder far.spans (frame_of place) found
    → found ≡ Some frame → Some span ≡ span_in far.spans frame → span ≡ seat.span
seat_span far place frame found seat span x tells is at =
    some_same span seat.span (at ∙ seat_there far place frame found seat x tells is)

pub no_seat : (far : FarState) (place frame : ℕ) (found : Option ℕ) (seat : Seat)
    → LiesAtPlace far place seat → TellsHolder far.spans (frame_of place) found
    → found ≡ Some frame → None ≡ span_in far.spans frame → ⊥
no_seat far place frame found seat x tells is none =
    none_some seat.span (none ∙ seat_there far place frame found seat x tells is)
  where
    none_some : (y : Contents) → None ≡ Some y → ⊥
    none_some y e = cc

-- so where none is found no slot lies at the place
pub not_held : (far : FarState) (place : ℕ) (found : Option ℕ) (seat : Seat)
    → LiesAtPlace far place seat → TellsHolder far.spans (frame_of place) found
    → ((frame : ℕ) → found ≡ Some frame → ⊥) → ⊥
not_held far place found seat x tells not =
    not seat.frame (seat_held far place found seat x tells)
