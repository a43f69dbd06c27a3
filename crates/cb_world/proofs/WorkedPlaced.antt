-- Worked examples of where an object is placed.
use Rattle.std.proofs.Common.{◌≡◌, ◌∙◌, ℕ, zero, suc, false, true, [], ◌∷◌, None, Some, Contains, refl, sym, ap, lit<, arith}
use Rattle.cb_class.specs.Class.{pages_of}
use Rattle.cb_frame.specs.FreeFrames.{with_run_taken}
use Rattle.cb_frame.specs.Runs.{least_run}
use Rattle.cb_span.specs.declared.temp.Temp.TheVariants.{Hot, Cold}
use Rattle.cb_span.specs.Contents.{Contents, new_span}
use Rattle.cb_world.specs.FarState.{FarState}
use Rattle.cb_world.specs.Placed.{HasRoom, Slot, IsInSpan, IsInNew, IsCrammed, NeedsSpan}
use Rattle.cb_world.proofs.Apart.{some_same}
use Rattle.cb_world.proofs.WorkedWorld.{far, largest, one_frame, span}

-- the first slot of the cold span in frame 0, which holds an object in the second one
abbrev cold_slot : Slot
cold_slot = record { frame = 0; number = 0; span = span; free = far.frames }

no_frame : (f : ℕ) → Contains [] f → ⊥
no_frame f c = omega (arith, c.1)

cold_room : HasRoom far largest Cold 0
cold_room = (refl, no_frame 0)

in_span : IsInSpan far largest Cold cold_slot
in_span = record {
  there = refl;
  room = cold_room;
  least = λ f below. absurd (omega (arith, below));
  number = refl;
  of_class = refl;
  of_temp = refl;
  free = refl;
}

-- each other choice breaks a part
another_slot : ¬ (IsInSpan far largest Cold (record cold_slot { number = 2 }))
another_slot x = absurd (let z : 0 ≡ 2 = some_same 0 2 x.number in omega (arith, z))

another_temperature : ¬ (IsInSpan far largest Hot cold_slot)
another_temperature x = absurd (let z : 23 ≡ 22 = some_same 23 22 x.room.0 in omega (arith, z))

another_class : ¬ (IsInSpan far (record { index = 10 }) Cold cold_slot)
another_class x = absurd (let z : 23 ≡ 21 = some_same 23 21 x.room.0 in omega (arith, z))

in_a_free_frame : ¬ (IsInSpan far largest Cold (record cold_slot { frame = 1 }))
in_a_free_frame x = absurd (cc_none span x.there)
  where
    cc_none : (y : Contents) → None ≡ Some y → ⊥
    cc_none y e = cc

with_a_frame_taken : ¬ (IsInSpan far largest Cold (record cold_slot { free = [] }))
with_a_frame_taken x = absurd (let z : [] ≡ false ∷ true ∷ [] = x.free in cc)

-- the frame is leaving
abbrev leaving : FarState
leaving = record far {
  leaving = Some (record {
    set = 0;
    pages = 1;
    frames = 0 ∷ [];
    words = [];
    made = true;
    parities = [];
    shards = [];
  });
}

in_a_leaving_frame : ¬ (IsInSpan leaving largest Cold cold_slot)
in_a_leaving_frame x = x.room.1 (0, lit< tt, refl)

-- the first slot of a new hot span in frame 1
abbrev new_slot : Slot
new_slot = record {
  frame = 1;
  number = 0;
  span = new_span largest Hot;
  free = false ∷ false ∷ [];
}

no_hot_room : (f : ℕ) → ¬ (HasRoom far largest Hot f)
no_hot_room zero may = absurd (let z : 23 ≡ 22 = some_same 23 22 may.0 in omega (arith, z))
no_hot_room (suc zero) may = absurd (let z : None ≡ Some 22 = may.0 in cc)
no_hot_room (suc (suc f)) may = absurd (let z : None ≡ Some 22 = may.0 in cc)

-- the least run of one frame is frame 1
run_is : least_run far.frames (pages_of largest) ≡ Some 1
run_is = ap (least_run far.frames) one_frame

in_new : IsInNew far largest Hot new_slot
in_new = record {
  full = no_hot_room;
  frame = run_is;
  number = refl;
  span = refl;
  free = ap (λ (n : ℕ). with_run_taken far.frames 1 n) (sym one_frame);
}

beside_an_open_span : ¬ (IsInNew far largest Cold (record new_slot { span = new_span largest Cold }))
beside_an_open_span x = x.full 0 cold_room

in_a_taken_frame : ¬ (IsInNew far largest Hot (record new_slot { frame = 0 }))
in_a_taken_frame x =
    absurd (let z : 1 ≡ 0 = some_same 1 0 (sym run_is ∙ x.frame) in omega (arith, z))

second_slot_of_a_new_span : ¬ (IsInNew far largest Hot (record new_slot { number = 1 }))
second_slot_of_a_new_span x = absurd (let z : 1 ≡ 0 = x.number in omega (arith, z))

of_a_cold_new_span : ¬ (IsInNew far largest Hot (record new_slot { span = new_span largest Cold }))
of_a_cold_new_span x = absurd (let z : Cold ≡ Hot = ap (λ (y : Contents). y.temp) x.span in cc)

with_its_frame_still_free : ¬ (IsInNew far largest Hot (record new_slot { free = far.frames }))
with_its_frame_still_free x = absurd (let z : false ∷ true ∷ [] ≡ false ∷ false ∷ [] =
    x.free ∙ ap (λ (n : ℕ). with_run_taken far.frames 1 n) one_frame in cc)

-- no slot, with and without a free frame
needs_span : NeedsSpan far largest Hot
needs_span = record { full = no_hot_room; first = 1; some_free = run_is }

crammed : IsCrammed (record far { frames = false ∷ false ∷ [] }) largest Hot
crammed = record {
  full = no_hot_room;
  taken = ap (least_run (false ∷ false ∷ [])) one_frame;
}

with_a_free_frame : ¬ (IsCrammed far largest Hot)
with_a_free_frame x = absurd (let z : Some 1 ≡ None = sym run_is ∙ x.taken in cc)

with_an_open_span : ¬ (IsCrammed (record far { frames = false ∷ false ∷ [] }) largest Cold)
with_an_open_span x = x.full 0 cold_room
