-- The world on one thread, and what is sound of it.
use Rattle.std.specs.Prelude.{◌≡◌, ℕ, ◌*◌, ◌^◌, ◌<◌, ◌≤◌, true, List, length, replicate, slice_index}
use Rattle.std.specs.Prelude.{All}
use Rattle.std.specs.List.{sum_by}
use Rattle.cb_types.specs.declared.config.Config.{Config}
use Rattle.cb_types.specs.Config.{IsAccepted}
use Rattle.cb_ptr.specs.declared.word.State.TheVariants as word
use Rattle.cb_ptr.specs.Word.{state_of, hot_of, pins_of}
use Rattle.cb_world.specs.declared.shown.Shown.{Shown}
use Rattle.cb_world.specs.Shown.{hot_at}
use Rattle.cb_world.specs.Plain.{Words, Shows, IsSized}
pub use Rattle.cb_world.specs.Plain.{word_at}
use Rattle.cb_world.specs.Empty.{empty_words, empty_far}
use Rattle.cb_world.specs.Codes.{HaveCodes, IsCodeOf}
use Rattle.cb_world.specs.FarState.{FarState}
use Rattle.cb_world.specs.Orders.{AreOrdersKept}
use Rattle.cb_world.specs.Packed.{ArePacked, AreFreedLater}
use Rattle.cb_world.specs.Pairs.{HoldsNoPair}
use Rattle.cb_world.specs.Seats.{SeatState, AtMostOneHolds, idle_seat, all_pins_on}
use Rattle.cb_world.specs.Sound.{Sound}
use Rattle.cb_world.specs.OpenWrites.{AreOpen}

-- the words of local memory at the still desk, the far state, and the seats
pub record WorldState : Type 0 where
  pub desk : Words
  pub far : FarState
  pub seats : List SeatState

-- no object was made, all frames are free, all nodes are up without rows, and all seats are idle
abbrev pub empty_world : Config → WorldState
empty_world c = record {
  desk = empty_words c;
  far = empty_far 1 c;
  seats = replicate 64 idle_seat;
}

-- What the holder of the far lock knows of the still desk, where it knows all: the words are as it
-- says, with each hot bit, and the world is sound. The bytes past each object's length are 0, and
-- no object is freed at the version of its make.
pub record IsKnown (desk : Words) (far : FarState) (s : Shown) : Type 0 where
  pub sized : IsSized desk
  pub shows : Shows desk s
  pub hots : (h : ℕ) → h < length desk.words → hot_at s h ≡ hot_of (word_at desk h)
  pub sound : Sound s far
  pub packed : ArePacked desk s
  pub freed : AreFreedLater s

-- The pins of each word are those that the seats have on it; an object with pins is here, and hot.
pub record ArePinned (desk : Words) (seats : List SeatState) : Type 0 where
  pub count : length seats ≡ 64
  pub few : All (λ seat. length seat.pins ≤ 16) seats
  pub counted : (h : ℕ) → h < length desk.words → pins_of (word_at desk h) ≡ all_pins_on h seats
  pub known : All (λ seat. All (λ pin. pin.handle < length desk.words) seat.pins) seats
  pub here : (h : ℕ) → h < length desk.words → 1 ≤ pins_of (word_at desk h)
      → (state_of (word_at desk h) ≡ word.Here) × (hot_of (word_at desk h) ≡ true)
  -- a pin's version is that of the object, for as long as the pin is there
  pub versions : All (λ seat. All (λ pin. pin.version ≡ slice_index desk.versions pin.handle) seat.pins)
      seats

-- What was counted: turns, in all and by job; each number that is drawn or rises is at most 2^20
-- times the turns; and what is noted of a search that found no two sets to join holds.
pub record AreCounted (far : FarState) : Type 0 where
  pub kinds : length far.counts.by_job ≡ 24
  pub jobs : sum_by (λ n. n) far.counts.by_job ≡ far.counts.turns
  pub turns : far.counts.turns ≤ 2 ^ 40
  pub sets : far.counts.sets ≤ 2 ^ 20 * far.counts.turns
  pub keys : far.counts.keys ≤ 2 ^ 20 * far.counts.turns
  pub epoch : far.members.epoch ≤ 2 ^ 20 * far.counts.turns
  pub given : far.nodes.given ≤ 2 ^ 20 * far.counts.turns
  pub no_pair : HoldsNoPair far

-- The far state has as many frames, homes and nodes as the configuration says, a node has room for
-- as many rows, and the configuration allows the code in force and those of the sets.
pub record IsConfigured (c : Config) (far : FarState) : Type 0 where
  pub frames : length far.spans ≡ c.frames
  pub homes : length far.homes ≡ c.handles
  pub nodes : length far.nodes.nodes ≡ c.nodes
  pub room : far.nodes.room ≡ c.room
  pub codes : HaveCodes (IsCodeOf c) far

-- The world is sound.
pub record IsSoundWorld (w : WorldState) : Type 0 where
  pub config : IsAccepted w.desk.settings
  pub configured : IsConfigured w.desk.settings w.far
  pub shown : Shown
  pub known : IsKnown w.desk w.far shown
  pub pinned : ArePinned w.desk w.seats
  pub ongoing : AreOpen w.desk w.far w.seats
  pub one : AtMostOneHolds w.seats
  pub orders : AreOrdersKept shown w.far w.seats
  pub counted : AreCounted w.far
