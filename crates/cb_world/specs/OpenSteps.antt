-- The steps of an open write, and who holds the far lock: what they find and what they change.
use Rattle.std.specs.Prelude.{◌≡◌, ◌≢◌, ℕ, ◌+◌, ◌/◌, true, false, List, Some, slice_get, slice_index}
use Rattle.cb_ptr.specs.Steps.{Claims, Settles}
use Rattle.cb_ptr.specs.Word.{place_of}
use Rattle.cb_world.specs.Pinned.{with_word}
use Rattle.cb_world.specs.Plain.{Words}
use Rattle.cb_world.specs.Seats.{SeatState, OpenWriteState, seat_at}

-- the open write at this place is on the object
pub record IsClaimOn (claims : List OpenWriteState) (h at : ℕ) : Type 0 where
  pub ongoing : OpenWriteState
  pub there : slice_get claims at ≡ Some ongoing
  pub on : ongoing.handle ≡ h

-- no open write is on the object
abbrev pub NoClaimOn : List OpenWriteState → ℕ → Type 0
NoClaimOn claims h = (at : ℕ) (c : OpenWriteState) → slice_get claims at ≡ Some c → c.handle ≢ h

-- the number of the word of its object that an open write stores next
abbrev pub next_word : OpenWriteState → ℕ
next_word c = c.at / 8 + c.stored

-- the open write with one word more stored
abbrev pub stored_once : OpenWriteState → OpenWriteState
stored_once c = record c { stored = c.stored + 1 }

-- the object is Moving
pub record IsClaimed (old : Words) (h : ℕ) (new : Words) : Type 0 where
  pub word : ℕ
  pub claims : Claims (slice_index old.words h) word
  pub words : new ≡ with_word old h word

-- the object is here again at its place, and hot
pub record IsSettled (old : Words) (h : ℕ) (new : Words) : Type 0 where
  pub word : ℕ
  pub settles : Settles (slice_index old.words h) (place_of (slice_index old.words h)) true word
  pub words : new ≡ with_word old h word

-- no seat holds the far lock
abbrev pub NoneHolds : List SeatState → Type 0
NoneHolds seats = (seat : ℕ) → (seat_at seats seat).holds ≡ false
