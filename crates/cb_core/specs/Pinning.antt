-- A pin and its end, as steps of the world.
use Rattle.std.specs.Prelude.{◌≡◌, ℕ, ◌<◌, [], ◌∷◌, ◌++◌, length}
use Rattle.std.specs.List.{remove}
use Rattle.cb_ptr.specs.declared.word.State.{State}
use Rattle.cb_ptr.specs.declared.word.State.TheVariants as state
use Rattle.cb_ptr.specs.Word.{state_of, pins_of}
use Rattle.cb_types.specs.declared.reply.Reply.{Reply}
use Rattle.cb_types.specs.declared.reply.Reply.TheVariants as answer
use Rattle.cb_world.specs.Pinned.{IsPinned, IsUnpinned}
use Rattle.cb_world.specs.Seats.{IsNewestOf, NoneOn, pins_of_seat, with_pins}
use Rattle.cb_world.specs.StillWords.{stamp_at}
use Rattle.cb_world.specs.World.{WorldState, word_at}
use Rattle.cb_mutate.specs.StillReplies.{empty_reply}

-- why an object can't be pinned, by the state and the pins of its word
abbrev pub pin_refusal : State → ℕ → ℕ → Reply
pin_refusal state.Empty version pins = empty_reply version
pin_refusal state.Far version pins = answer.NotHere
pin_refusal state.Moving version pins = answer.Moving
pin_refusal state.Here version pins = answer.Crowded

-- the object is here, and its word can count one pin more
pub record MayPin (w : WorldState) (h : ℕ) : Type 0 where
  pub here : state_of (word_at w.desk h) ≡ state.Here
  pub room : pins_of (word_at w.desk h) < 1023

-- the seat has a pin on the object, at its version, and the object is hot with one pin more
pub record IsPinTaken (seat h : ℕ) (w new : WorldState) : Type 0 where
  pub word : IsPinned w.desk h new.desk
  pub pins : new.seats ≡ with_pins w.seats seat
      (pins_of_seat w.seats seat ++ record { handle = h; version = stamp_at w.desk h } ∷ [])
  pub far : new.far ≡ w.far

-- The refusals in their order: the seat has 16 pins; the object is not here, or has as many pins
-- as its word counts. Else the object is pinned, and its version is told.
pub data PinStep (seat h : ℕ) (w : WorldState) (r : Reply) (new : WorldState) : Type 0 where
  scope_full : length (pins_of_seat w.seats seat) ≡ 16 → r ≡ answer.ScopeFull → new ≡ w
      → PinStep seat h w r new
  refused : length (pins_of_seat w.seats seat) < 16 → ¬ (MayPin w h)
      → r ≡ pin_refusal (state_of (word_at w.desk h)) (stamp_at w.desk h)
      (pins_of (word_at w.desk h))
      → new ≡ w → PinStep seat h w r new
  taken : length (pins_of_seat w.seats seat) < 16 → MayPin w h
      → r ≡ answer.Version (stamp_at w.desk h) → IsPinTaken seat h w new → PinStep seat h w r new

-- the seat's newest pin on the object is gone, and the object has one pin less
pub record IsPinGiven (seat h : ℕ) (w new : WorldState) : Type 0 where
  pub at : ℕ
  pub newest : IsNewestOf (pins_of_seat w.seats seat) h at
  pub word : IsUnpinned w.desk h new.desk
  pub pins : new.seats ≡ with_pins w.seats seat (remove (pins_of_seat w.seats seat) at)
  pub far : new.far ≡ w.far

-- a seat without a pin on the object is refused
pub data UnpinStep (seat h : ℕ) (w : WorldState) (r : Reply) (new : WorldState) : Type 0 where
  not_pinned : NoneOn (pins_of_seat w.seats seat) h → r ≡ answer.NotPinned → new ≡ w
      → UnpinStep seat h w r new
  given : r ≡ answer.Done → IsPinGiven seat h w new → UnpinStep seat h w r new
