-- The world stays sound through a pin and its end.
use Rattle.std.proofs.Common.{◌≡◌, ℕ, ◌<◌, List, length, refl, sym, ◌∙◌, subst, arith}
use Rattle.cb_types.specs.declared.reply.Reply.{Reply}
use Rattle.cb_world.specs.declared.seats.SeatPin.{SeatPin}
use Rattle.cb_world.specs.declared.shown.Shown.{Shown}
use Rattle.cb_world.specs.FarState.{FarState}
use Rattle.cb_world.specs.Orders.{AreOrdersKept}
use Rattle.cb_world.specs.Pinned.{with_word}
use Rattle.cb_world.specs.Plain.{Words}
use Rattle.cb_world.specs.Seats.{SeatState, seat_at, with_pins}
use Rattle.cb_world.specs.StillWords.{stamp_at}
use Rattle.cb_world.specs.World.{IsKnown, WorldState, IsSoundWorld}
use Rattle.cb_world.proofs.Laws.{known_orders, open_word, orders_kept, orders_then, seat_beside, pins_hold, pins_leave, pin_sound, unpin_sound, pin_counts}
use Rattle.cb_core.specs.Pinning.{PinStep, scope_full, refused, taken, UnpinStep, not_pinned, given}

-- other pins of a seat leave every order kept, where local memory stays
pins_keep : (x y : Words) (far : FarState) (s t : Shown) (seats : List SeatState) (seat : ℕ)
    (pins : List SeatPin) → IsKnown x far s → IsKnown y far t → y.memory ≡ x.memory
    → AreOrdersKept s far seats → AreOrdersKept t far (with_pins seats seat pins)
pins_keep x y far s t seats seat pins k l same kept =
    orders_kept t far seats (with_pins seats seat pins)
    (seat_beside (λ (z : SeatState). z.order) seats seat (record (seat_at seats seat) { pins = pins })
    refl)
    (orders_then s t far far seats (known_orders x y far s t k l same) kept)

pub pin_step_sound : (w new : WorldState) (seat h : ℕ) (r : Reply) → IsSoundWorld w → seat < 64
    → h < w.desk.settings.handles → PinStep seat h w r new → IsSoundWorld new
pin_step_sound w new seat h r sound within below (scope_full full reply same) =
    subst IsSoundWorld (sym same) sound
pin_step_sound w new seat h r sound within below (refused room not reply same) =
    subst IsSoundWorld (sym same) sound
pin_step_sound w new seat h r sound within below (taken room may reply t) =
    let lt : h < length w.desk.words = (let n = sound.known.sized.words in omega (arith, below, n)) in
    let z = pin_sound w.desk w.far w.seats sound.shown seat h (stamp_at w.desk h) t.word.word sound.known
    sound.pinned within lt may.here may.room room refl t.word.takes in
    subst IsSoundWorld
    (sym (λ i. record { desk = t.word.words i; far = t.far i; seats = t.pins i }))
    (record {
      config = sound.config;
      configured = sound.configured;
      shown = _;
      known = z.0;
      pinned = z.1;
      ongoing = open_word w.desk w.far w.seats _ h t.word.word may.here (t.word.takes.state ∙ may.here)
          lt (pins_leave w.seats seat _) sound.ongoing;
      one = pins_hold w.seats seat _ sound.one;
      orders = pins_keep w.desk (with_word w.desk h t.word.word) w.far sound.shown _ w.seats seat _ sound.known z.0 refl
          sound.orders;
      counted = sound.counted;
    })

pub unpin_step_sound : (w new : WorldState) (seat h : ℕ) (r : Reply) → IsSoundWorld w → seat < 64
    → h < w.desk.settings.handles → UnpinStep seat h w r new → IsSoundWorld new
unpin_step_sound w new seat h r sound within below (not_pinned none reply same) =
    subst IsSoundWorld (sym same) sound
unpin_step_sound w new seat h r sound within below (given reply t) =
    let lt : h < length w.desk.words = (let n = sound.known.sized.words in omega (arith, below, n)) in
    let some = pin_counts w.desk w.seats seat t.at h sound.pinned within t.newest lt in
    let here = (sound.pinned.here h lt some).0 in
    let z = unpin_sound w.desk w.far w.seats sound.shown seat t.at h t.word.word t.newest.pin sound.known
    sound.pinned within t.newest.there t.newest.on lt here t.word.gives in
    subst IsSoundWorld
    (sym (λ i. record { desk = t.word.words i; far = t.far i; seats = t.pins i }))
    (record {
      config = sound.config;
      configured = sound.configured;
      shown = _;
      known = z.0;
      pinned = z.1;
      ongoing = open_word w.desk w.far w.seats _ h t.word.word here (t.word.gives.state ∙ here) lt
          (pins_leave w.seats seat _) sound.ongoing;
      one = pins_hold w.seats seat _ sound.one;
      orders = pins_keep w.desk (with_word w.desk h t.word.word) w.far sound.shown _ w.seats seat _ sound.known z.0 refl
          sound.orders;
      counted = sound.counted;
    })
