-- Where slots lie in memory: a frame has 512 words, a span adjacent frames, and a slot the words of its
-- class.
use Rattle.std.specs.Prelude.{ℕ, ◌+◌, ◌-◌, ◌*◌, ◌/◌}
use Rattle.cb_class.specs.declared.class.Class.{Class}
use Rattle.cb_class.specs.Class.{words_of}

-- the index of the first memory word of a slot of the span whose first frame this is
abbrev pub slot_place : Class → ℕ → ℕ → ℕ
slot_place class frame slot = 512 * frame + slot * words_of class

-- the frame in which a memory word lies
abbrev pub frame_of : ℕ → ℕ
frame_of place = place / 512

-- the slot in which a memory word lies, of the span of the class whose first frame this is
abbrev pub slot_in : Class → ℕ → ℕ → ℕ
slot_in class frame place = (place - 512 * frame) / words_of class
