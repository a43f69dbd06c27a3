-- Where slots lie in memory: the laws that the crates above cite.
use Rattle.std.proofs.Common.{◌≡◌, ℕ, ◌+◌, ◌-◌, ◌*◌, ◌/◌, ◌^◌, ◌<◌, ◌≤◌, ap, sym, ◌∙◌, arith}
use Rattle.std.proofs.Math.Nat.{mul-div_right}
use Rattle.cb_class.specs.declared.class.Class.{Class}
use Rattle.cb_class.specs.Class.{IsClass, pages_of, slots_of, words_of}
use Rattle.cb_class.proofs.Laws.{slot_in_run, words_at_least}
use Rattle.cb_span.specs.Places.{frame_of, slot_in, slot_place}

-- a slot lies within the words of its span's frames
pub slot_place_within : (class : Class) (frame slot : ℕ) → IsClass class → slot < slots_of class
    → slot_place class frame slot + words_of class ≤ 512 * (frame + pages_of class)
slot_place_within class frame slot known within = omega (arith, slot_in_run class slot known within)

-- the place of a slot of a span in the first 2^15 frames fits a pointer word
pub slot_place_fits : (class : Class) (frame slot : ℕ) → IsClass class → slot < slots_of class
    → frame + pages_of class ≤ 2 ^ 15 → slot_place class frame slot < 2 ^ 24
slot_place_fits class frame slot known within below =
    omega (arith, slot_in_run class slot known within, words_at_least class known, below)

-- slots of two spans do not overlap
pub frames_apart : (a b : Class) (f g s t : ℕ) → IsClass a → s < slots_of a → f + pages_of a ≤ g
    → slot_place a f s + words_of a ≤ slot_place b g t
frames_apart a b f g s t known within below = omega (arith, slot_in_run a s known within, below)

-- the frame of a slot's place is one of its span's
pub frame_of-slot_place : (class : Class) (frame slot : ℕ) → IsClass class → slot < slots_of class
    → (frame ≤ frame_of (slot_place class frame slot))
    × (frame_of (slot_place class frame slot) < frame + pages_of class)
frame_of-slot_place class frame slot known within = (
  omega arith,
  omega (arith, slot_in_run class slot known within, words_at_least class known),
)

-- the slot of a slot's place
pub slot_in-slot_place : (class : Class) (frame slot : ℕ) → IsClass class
    → slot_in class frame (slot_place class frame slot) ≡ slot
slot_in-slot_place class frame slot known =
    let some : 0 < words_of class = omega (arith, words_at_least class known) in
    let low : slot_place class frame slot - 512 * frame ≡ words_of class * slot = omega arith in
    ap (λ n. n / words_of class) low ∙ mul-div_right slot some

-- slots of one span at one place are one slot
pub same_slot : (class : Class) (f s t : ℕ) → IsClass class
    → slot_place class f s ≡ slot_place class f t → s ≡ t
same_slot class f s t known same = sym (slot_in-slot_place class f s known)
    ∙ ap (slot_in class f) same ∙ slot_in-slot_place class f t known
