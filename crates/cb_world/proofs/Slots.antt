-- The slot that an object gets.
use Rattle.std.proofs.Common.{◌≡◌, ◌⊎◌, ℕ, Option, IfSome, ◌+◌, ◌<◌, ◌≤◌, Some, None, Contains, length, set, sym, refl, ap, ◌∙◌, subst, arith, inl, inr}
use Rattle.cb_class.specs.declared.class.Class.{Class}
use Rattle.cb_class.specs.Class.{IsClass, pages_of, slots_of}
use Rattle.cb_class.proofs.Laws.{pages_some, slots_at_least}
use Rattle.cb_frame.specs.FreeFrames.{IsFreeFrame, with_run_taken}
use Rattle.cb_frame.specs.Runs.{least_run}
use Rattle.cb_frame.proofs.Laws.{least_run-Some}
use Rattle.cb_span.specs.declared.temp.Temp.{Temp}
use Rattle.cb_span.specs.declared.temp.Temp.TheVariants.{Hot, Cold}
use Rattle.cb_span.specs.Contents.{Contents, IsSpan, handle_at, least_empty, new_span, with_placed}
use Rattle.cb_span.specs.Places.{slot_place}
use Rattle.cb_span.proofs.Laws.{IsSpan-new_span, handle_at-new_span, least_empty-Some, least_empty-is}
use Rattle.cb_world.specs.declared.shown.Shown.{Shown}
use Rattle.cb_world.specs.FarState.{FarState, span_in}
use Rattle.cb_world.specs.LocalSound.{AreFrames}
use Rattle.cb_world.specs.Leaving.{LeavingState}
use Rattle.cb_world.specs.OpenSpans.{kind_of, kind_if, open_kind}
use Rattle.cb_world.specs.Placed.{HasRoom, Slot, IsChosen, IsInNew, IsPlaced, leaving_frames}
use Rattle.cb_world.specs.Sound.{Sound}
use Rattle.cb_world.proofs.Apart.{some_same}
use Rattle.cb_world.proofs.Kept.{frame_in_range}
use Rattle.cb_world.proofs.Lying.{MayStand, none_at_free, stands_in_place, stands_where_free}

-- the number of a class and a temperature tells both
kind_tells : (a b : Class) (t u : Temp) → kind_of a t ≡ kind_of b u → (a ≡ b) × (t ≡ u)
kind_tells a b Hot Hot e = (same a b (omega (arith, e)), refl)
  where
    same : (a b : Class) → a.index ≡ b.index → a ≡ b
    same a b e = ap (λ (i : ℕ). let c : Class = record { index = i } in c) e
kind_tells a b Cold Cold e = (same a b (omega (arith, e)), refl)
  where
    same : (a b : Class) → a.index ≡ b.index → a ≡ b
    same a b e = ap (λ (i : ℕ). let c : Class = record { index = i } in c) e
kind_tells a b Hot Cold e = absurd (omega (arith, e))
kind_tells a b Cold Hot e = absurd (omega (arith, e))

some_none : {A : Type 0} → (x : A) → Some x ≡ None → ⊥
some_none x e = cc

-- what is known of the span in a frame with room
pub record IsRoom (far : FarState) (class : Class) (temp : Temp) (f slot : ℕ) (span : Contents)
    : Type 0 where
  pub there : span_in far.spans f ≡ Some span
  pub number : least_empty span ≡ Some slot
  pub of_class : span.class ≡ class
  pub of_temp : span.temp ≡ temp

pub room_is : (far : FarState) (class : Class) (temp : Temp) (f slot : ℕ) (span : Contents)
    → HasRoom far class temp f → span_in far.spans f ≡ Some span → least_empty span ≡ Some slot
    → IsRoom far class temp f slot span
room_is far class temp f slot span room there number =
    let kind : Some (kind_of span.class span.temp) ≡ Some (kind_of class temp) =
    sym (ap open_kind there ∙ ap (kind_if span) number) ∙ room.0 in
    let same = kind_tells span.class class span.temp temp (some_same _ _ kind) in record {
      there = there;
      number = number;
      of_class = same.0;
      of_temp = same.1;
    }

-- the object goes into the span in the least frame with room
pub placed_in_span : (far new : FarState) (class : Class) (temp : Temp) (h f slot at : ℕ)
    (span : Contents) → HasRoom far class temp f
    → ((g : ℕ) → g < f → ¬ (HasRoom far class temp g)) → IsRoom far class temp f slot span
    → new ≡ record far { spans = set far.spans f (Some (with_placed span slot h)) }
    → at ≡ slot_place class f slot → IsPlaced far class temp h new at
placed_in_span far new class temp h f slot at span room least x left place = record {
  slot = record { frame = f; number = slot; span = span; free = far.frames };
  chosen = inl (record {
    there = x.there;
    room = room;
    least = least;
    number = x.number;
    of_class = x.of_class;
    of_temp = x.of_temp;
    free = refl;
  });
  left = left;
  place = place ∙ ap (λ (c : Class). slot_place c f slot) (sym x.of_class);
}

-- the least empty slot of a new span is the first
pub first_slot : (class : Class) (temp : Temp) → IsClass class
    → least_empty (new_span class temp) ≡ Some 0
first_slot class temp known =
    least_empty-is (new_span class temp) 0
    (omega (arith, slots_at_least class known, (IsSpan-new_span class temp known).sized))
    (handle_at-new_span class temp 0) (λ k below. absurd (omega (arith, below)))

pub first_taken : (class : Class) (temp : Temp) (h : ℕ) (span after : Contents) (slot : Option ℕ)
    → IsClass class → span ≡ new_span class temp → slot ≡ least_empty span
    → IfSome slot (λ n. after ≡ with_placed span n h)
    → after ≡ with_placed (new_span class temp) 0 h
first_taken class temp h span after slot known fresh least placed =
    let first : slot ≡ Some 0 = least ∙ ap least_empty fresh ∙ first_slot class temp known in
    subst (λ (o : Option ℕ). IfSome o (λ n. after ≡ with_placed span n h)) first placed
    ∙ ap (λ (x : Contents). with_placed x 0 h) fresh

-- the object goes into a new span in the least run of free frames that it fits
pub placed_in_new : (far new : FarState) (class : Class) (temp : Temp) (h f at : ℕ)
    → ((g : ℕ) → ¬ (HasRoom far class temp g)) → least_run far.frames (pages_of class) ≡ Some f
    → new ≡ record far {
      frames = with_run_taken far.frames f (pages_of class);
      spans = set far.spans f (Some (with_placed (new_span class temp) 0 h));
    } → at ≡ slot_place class f 0 → IsPlaced far class temp h new at
placed_in_new far new class temp h f at full frame left place = record {
  slot = record {
    frame = f;
    number = 0;
    span = new_span class temp;
    free = with_run_taken far.frames f (pages_of class);
  };
  chosen = inr (record {
    full = full;
    frame = frame;
    number = refl;
    span = refl;
    free = refl;
  });
  left = left;
  place = place;
}

-- An empty slot: of the span there, or of a new one where its frames were free.
pub record IsEmptySlot (far : FarState) (slot : Slot) : Type 0 where
  pub within : slot.frame < length far.spans
  pub valid : IsSpan slot.span
  pub inside : slot.number < length slot.span.slots
  pub empty : handle_at slot.span slot.number ≡ None
  pub before : (span_in far.spans slot.frame ≡ Some slot.span)
      ⊎ ((span_in far.spans slot.frame ≡ None) × ((k : ℕ) → handle_at slot.span k ≡ None))
  pub stands : MayStand far slot.frame (pages_of slot.span.class) slot.free

-- the frames of a new span were free
pub new_free : (far : FarState) (class : Class) (temp : Temp) (slot : Slot) → IsClass class
    → IsInNew far class temp slot → (slot.frame + pages_of class ≤ length far.frames)
    × ((g : ℕ) → slot.frame ≤ g → g < slot.frame + pages_of class → IsFreeFrame far.frames g)
new_free far class temp slot known x =
    least_run-Some far.frames (pages_of class) slot.frame x.frame (pages_some class known)

pub chosen_empty : (far : FarState) (class : Class) (temp : Temp) (slot : Slot) → AreFrames far
    → IsClass class → IsChosen far class temp slot → IsEmptySlot far slot
chosen_empty far class temp slot frames known (inl x) =
    let within = frame_in_range far.spans slot.frame slot.span x.there in
    let least = least_empty-Some slot.span slot.number x.number in record {
      within = within;
      valid = frames.valid slot.frame slot.span x.there;
      inside = least.0;
      empty = least.1;
      before = inl x.there;
      stands = subst (MayStand far slot.frame (pages_of slot.span.class)) (sym x.free)
          (stands_in_place far slot.frame slot.span frames x.there);
    }
chosen_empty far class temp slot frames known (inr x) =
    let run = new_free far class temp slot known x in
    let some = pages_some class known in
    let valid : IsSpan slot.span = subst IsSpan (sym x.span) (IsSpan-new_span class temp known) in
    let none : (k : ℕ) → handle_at slot.span k ≡ None =
    λ k. ap (λ (span : Contents). handle_at span k) x.span ∙ handle_at-new_span class temp k in
    let pages : pages_of class ≡ pages_of slot.span.class =
    ap (λ (span : Contents). pages_of span.class) (sym x.span) in
    record {
      within = omega (arith, run.0, some, frames.sized);
      valid = valid;
      inside = omega (
        arith,
        x.number,
        valid.sized,
        ap (λ (span : Contents). slots_of span.class) x.span,
        slots_at_least class known,
      );
      empty = none slot.number;
      before = inr (
        none_at_free far slot.frame frames
            (run.1 slot.frame (omega arith) (omega (arith, some))),
        none,
      );
      stands = subst (λ (n : ℕ). MayStand far slot.frame n slot.free) pages
          (subst (MayStand far slot.frame (pages_of class)) (sym x.free)
          (stands_where_free far slot.frame (pages_of class) frames some run.0 run.1));
    }

-- its class is the one asked for
pub chosen_class : (far : FarState) (class : Class) (temp : Temp) (slot : Slot)
    → IsChosen far class temp slot → slot.span.class ≡ class
chosen_class far class temp slot (inl x) = x.of_class
chosen_class far class temp slot (inr x) = ap (λ (span : Contents). span.class) x.span

-- its frame is not leaving
pub chosen_stays : (s : Shown) (far : FarState) (class : Class) (temp : Temp) (slot : Slot)
    (batch : LeavingState) → Sound s far → IsClass class → IsChosen far class temp slot
    → far.leaving ≡ Some batch → Contains batch.frames slot.frame → ⊥
chosen_stays s far class temp slot batch sound known (inl x) there leaves =
    x.room.1 (subst (λ (o : Option LeavingState). Contains (leaving_frames o) slot.frame)
    (sym there) leaves)
chosen_stays s far class temp slot batch sound known (inr x) there leaves =
    let held = (sound.noted batch there).held slot.frame leaves in
    let run = new_free far class temp slot known x in
    some_none held.0 (sym held.1 ∙ none_at_free far slot.frame sound.here.frames
    (run.1 slot.frame (omega arith) (omega (arith, pages_some class known))))
