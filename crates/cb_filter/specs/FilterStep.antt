-- A filter as a step of the still desk: the reply, every word and the far state afterwards.
use Rattle.std.specs.Prelude.{◌≡◌, ℕ, false, ◌≤◌}
use Rattle.cb_ptr.specs.declared.word.State.{State}
use Rattle.cb_ptr.specs.declared.word.State.TheVariants as word
use Rattle.cb_ptr.specs.Word.{fields_of, word_of, state_of, hot_of, place_of, pins_of}
use Rattle.cb_span.specs.declared.temp.Temp.{Temp}
use Rattle.cb_types.specs.declared.reply.Reply.{Reply}
use Rattle.cb_types.specs.declared.reply.Reply.TheVariants as answer
use Rattle.cb_world.specs.FarState.{FarState}
use Rattle.cb_world.specs.Grasped.{IsFree}
use Rattle.cb_world.specs.Memory.{put}
use Rattle.cb_world.specs.Pinned.{with_word}
use Rattle.cb_world.specs.Placed.{Slot, place_in}
use Rattle.cb_world.specs.Plain.{Words}
use Rattle.cb_world.specs.StillWords.{stamp_at, contents_at}
use Rattle.cb_world.specs.World.{word_at}
use Rattle.cb_filter.specs.Seats.{Seat, IsSeatOf, temp_for}
use Rattle.cb_filter.specs.FilterRule.{EmptyToFilter, IsInPlace, HasNoSlot, GetsSlot}

-- the pointer word with all its fields but this place, and not hot
abbrev pub cool_word : ℕ → ℕ → ℕ
cool_word w place = word_of (record (fields_of w) { hot = false; place = place })

-- the object is not hot
abbrev pub with_cooled : Words → ℕ → Words
with_cooled x h = with_word x h (cool_word (word_at x h) (place_of (word_at x h)))

-- the object is at another place, where its memory words stand, and not hot
abbrev pub with_carried_to : Words → ℕ → ℕ → Words
with_carried_to x h place = record (with_word x h (cool_word (word_at x h) place)) {
  memory = put x.memory place (contents_at x h);
}

-- why an object is not filtered, by the state of its word: it is not here, or pinned
abbrev pub RefusesAs : State → ℕ → ℕ → Reply → Type 0
RefusesAs word.Empty w version r = EmptyToFilter version r
RefusesAs word.Far w version r = r ≡ answer.NotHere
RefusesAs word.Here w version r = (1 ≤ pins_of w) × (r ≡ answer.Pinned (pins_of w))
RefusesAs word.Moving w version r = r ≡ answer.Moving

-- the object is here without pins, in this slot
pub record IsFreeIn (x : Words) (far : FarState) (h : ℕ) (seat : Seat) : Type 0 where
  pub free : IsFree (word_at x h)
  pub stands : IsSeatOf far h seat

-- the temperature in which the object belongs
abbrev pub temp_of : Words → ℕ → Temp
temp_of x h = temp_for (hot_of (word_at x h))

-- A filter of h leads from the words x and a far state to the words y and another. It is refused,
-- and nothing changes; or the object is free, and is the same but not hot, has no slot, or moves.
pub data IsFilterStep (x y : Words) (far new : FarState) (h : ℕ) (r : Reply) : Type 0 where
  refused : RefusesAs (state_of (word_at x h)) (word_at x h) (stamp_at x h) r → y ≡ x → new ≡ far
      → IsFilterStep x y far new h r
  cools : (seat : Seat) → IsFreeIn x far h seat → IsInPlace far new (temp_of x h) seat r
      → y ≡ with_cooled x h → IsFilterStep x y far new h r
  without_slot : (seat : Seat) → IsFreeIn x far h seat
      → HasNoSlot x.settings.frames far new (temp_of x h) seat r → y ≡ x
      → IsFilterStep x y far new h r
  moves : (seat : Seat) (slot : Slot) → IsFreeIn x far h seat
      → GetsSlot far new (temp_of x h) seat h slot r → y ≡ with_carried_to x h (place_in slot)
      → IsFilterStep x y far new h r
