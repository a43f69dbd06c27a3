-- The open writes of seats, between their claim and their settling.
use Rattle.std.specs.Prelude.{◌≡◌, ◌⊎◌, ℕ, zero, suc, ◌+◌, ◌-◌, ◌*◌, ◌/◌, ◌^◌, ◌<◌, ◌≤◌, nat_eq, if◌then◌else◌, List, Some, length}
use Rattle.cb_ptr.specs.declared.word.State.TheVariants as word
use Rattle.cb_ptr.specs.Word.{state_of, len_of, pins_of}
use Rattle.cb_world.specs.FarState.{FarState}
use Rattle.cb_world.specs.Leaving.{LeavingState}
use Rattle.cb_world.specs.Memory.{IsPacked}
use Rattle.cb_world.specs.Plain.{Words, word_at, stamp_at, contents_at}
use Rattle.cb_world.specs.Seats.{SeatState, OpenWriteState, IsClaimAt}
use Rattle.cb_world.specs.Sound.{Leaves}
use Rattle.cb_world.specs.Write.{IsWriteBelow}

-- how many memory words a write of so many bytes from the byte number `at` on touches
abbrev pub touched : ℕ → ℕ → ℕ
touched at zero = 0
touched at (suc n) = (at + suc n + 7) / 8 - at / 8

-- how many words an open write still has to store, the version word among them
abbrev pub stores_left : OpenWriteState → ℕ
stores_left c = touched c.at (length c.bytes) + 1 - c.stored

-- the version word of its object: the next version once all is stored
abbrev pub stamp_of : OpenWriteState → ℕ
stamp_of c = if nat_eq (stores_left c) 0 then c.version + 1 else c.version

-- An open write: the object is Moving, without pins; its memory words are those that it had, with
-- the front of the write that is stored; and its version has a next one. The bytes past its length
-- were 0, and stay so, since the write ends within the length.
pub record IsOpen (desk : Words) (c : OpenWriteState) : Type 0 where
  pub below : c.handle < length desk.words
  pub moving : state_of (word_at desk c.handle) ≡ word.Moving
  pub no_pins : pins_of (word_at desk c.handle) ≡ 0
  pub len : len_of (word_at desk c.handle) ≡ c.len
  pub inside : c.at + length c.bytes ≤ c.len
  pub next : c.version < 2 ^ 64 - 1
  pub few : c.stored ≤ touched c.at (length c.bytes) + 1
  pub stamp : stamp_at desk c.handle ≡ stamp_of c
  pub contents : IsWriteBelow (8 * (c.at / 8 + c.stored)) c.words c.at c.bytes
      (contents_at desk c.handle)
  pub packed : IsPacked c.len c.words

-- the object is one of the batch that is leaving
abbrev pub IsLeavingNow : FarState → ℕ → Type 0
IsLeavingNow far h = (batch : LeavingState) × (far.leaving ≡ Some batch) × Leaves far batch h

-- a seat has an open write of the object
abbrev pub IsClaimedNow : List SeatState → ℕ → Type 0
IsClaimedNow seats h = (seat : ℕ) × (at : ℕ) × (c : OpenWriteState) × IsClaimAt seats seat at c
    × (c.handle ≡ h)

-- A word is Moving exactly where its object stands in one seat's open writes or in the leaving
-- batch, and it stands in one of these only.
pub record AreOpen (desk : Words) (far : FarState) (seats : List SeatState) : Type 0 where
  pub each : (seat at : ℕ) (c : OpenWriteState) → IsClaimAt seats seat at c → IsOpen desk c
  pub once : (seat other at place : ℕ) (c d : OpenWriteState) → IsClaimAt seats seat at c
      → IsClaimAt seats other place d → c.handle ≡ d.handle → (seat ≡ other) × (at ≡ place)
  pub apart : (seat at : ℕ) (c : OpenWriteState) → IsClaimAt seats seat at c
      → IsLeavingNow far c.handle → ⊥
  pub moving : (h : ℕ) → h < length desk.words → state_of (word_at desk h) ≡ word.Moving
      → IsClaimedNow seats h ⊎ IsLeavingNow far h
