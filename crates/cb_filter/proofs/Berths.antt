-- The slot that an object leaves and the one that it gets: they are of different spans.
use Rattle.std.proofs.Common.{◌≡◌, ◌≢◌, ◌⊎◌, ℕ, Bool, ◌+◌, ◌<◌, ◌≤◌, List, Option, Some, None, sym, ap, ◌∙◌, subst, arith, inl, inr, length-set, get_or-set_other}
use Rattle.std.proofs.lemmas.Bool.{cases_order}
use Rattle.cb_class.specs.Class.{pages_of}
use Rattle.cb_class.proofs.Laws.{pages_some}
use Rattle.cb_span.specs.declared.temp.Temp.{Temp}
use Rattle.cb_span.specs.Contents.{Contents, with_placed}
use Rattle.cb_world.specs.FarState.{FarState, span_in}
use Rattle.cb_world.specs.LocalSound.{AreFrames}
use Rattle.cb_world.specs.Placed.{Slot, IsChosen, with_object}
use Rattle.cb_world.specs.Released.{spans_without, frames_without, with_released}
use Rattle.cb_world.proofs.Laws.{some_same, chosen_empty, new_free, place_in_run}
use Rattle.cb_filter.specs.Seats.{Seat, with_moved}
use Rattle.cb_filter.specs.Plans.{LiesAtPlace}

none_some : (y : Contents) → None ≡ Some y → ⊥
none_some y e = cc

-- the slots that lie at one place are of one span
one_frame : (far : FarState) (place : ℕ) (a b : Seat) → LiesAtPlace far place a
    → LiesAtPlace far place b → a.frame ≡ b.frame
one_frame far place a b x y =
    let in_a = place_in_run far.frames far.spans place a.frame a.number a.span x in
    let in_b = place_in_run far.frames far.spans place b.frame b.number b.span y in
    elim (cases_order a.frame b.frame) [
      | inl same ↦ same
      | inr differ ↦ elim differ [
        | inl less ↦ absurd (none_some b.span
            (sym (x.alone b.frame less (omega (arith, in_a.1, in_b.0))) ∙ y.there))
        | inr more ↦ absurd (none_some a.span
            (sym (y.alone a.frame more (omega (arith, in_b.1, in_a.0))) ∙ x.there))
      ]
    ]

pub one_span : (far : FarState) (place : ℕ) (a b : Seat) → LiesAtPlace far place a
    → LiesAtPlace far place b
    → a.span ≡ b.span
one_span far place a b x y = some_same a.span b.span
    (sym x.there ∙ ap (span_in far.spans) (one_frame far place a b x y) ∙ y.there)

-- a slot in a span of another temperature lies in another span
pub apart_frame : (far : FarState) (temp : Temp) (slot : Slot) (place : ℕ) (seat : Seat)
    → IsChosen far seat.span.class temp slot → LiesAtPlace far place seat
    → seat.span.temp ≢ temp
    → seat.frame ≢ slot.frame
apart_frame far temp slot place seat (inl x) lies other e = other
    (ap (λ (y : Contents). y.temp) (some_same seat.span slot.span
    (sym lies.there ∙ ap (span_in far.spans) e ∙ x.there)) ∙ x.of_temp)
apart_frame far temp slot place seat (inr x) lies other e =
    let some = pages_some seat.span.class lies.valid.in_table in
    lies.busy seat.frame (omega arith) (omega (arith, some))
    ((new_free far seat.span.class temp slot lies.valid.in_table x).1 seat.frame
    (omega (arith, e)) (omega (arith, e, some)))

-- the old slot lies where it was once the object has another one
pub lies_beside : (far : FarState) (temp : Temp) (slot : Slot) (h place : ℕ) (seat : Seat)
    → AreFrames far → IsChosen far seat.span.class temp slot → LiesAtPlace far place seat
    → seat.span.temp ≢ temp → LiesAtPlace (with_object far slot h) place seat
lies_beside far temp slot h place seat frames chosen lies other =
    let off = apart_frame far temp slot place seat chosen lies other in
    let free = chosen_empty far seat.span.class temp slot frames lies.valid.in_table chosen in
    let run = free.stands.apart seat.frame seat.span lies.there off in
    let y : Option Contents = Some (with_placed slot.span slot.number h) in record {
      there = get_or-set_other far.spans slot.frame seat.frame y None off ∙ lies.there;
      at = lies.at;
      inside = lies.inside;
      valid = lies.valid;
      within = subst (λ (n : ℕ). seat.frame < n) (sym (length-set far.spans slot.frame y))
          lies.within;
      counted = subst (λ (n : ℕ). seat.frame + pages_of seat.span.class ≤ n) (sym free.stands.sized)
          lies.counted;
      alone = λ g behind to. get_or-set_other far.spans slot.frame g y None
          (λ e. at_start _ _ _ _ run e behind to) ∙ lies.alone g behind to;
      busy = λ g from to z. lies.busy g from to
          (sym (free.stands.others g (out_of _ _ _ _ run from to)) ∙ z);
    }
  where
    at_start : (g n f m : ℕ) → (f + m ≤ slot.frame) ⊎ (slot.frame + n ≤ f) → g ≡ slot.frame
        → f < g → g < f + m → ⊥
    at_start g n f m (inl less) e behind to = omega (arith, less, e, to)
    at_start g n f m (inr more) e behind to = omega (arith, more, e, behind)

    out_of : (g n f m : ℕ) → (f + m ≤ slot.frame) ⊎ (slot.frame + n ≤ f) → f ≤ g → g < f + m
        → (g < slot.frame) ⊎ (slot.frame + n ≤ g)
    out_of g n f m (inl less) from to = inl (omega (arith, less, to))
    out_of g n f m (inr more) from to = inr (omega (arith, more, from))

-- the far state once the old slot is empty too
pub moved_far : (far before : FarState) (frames : List Bool) (spans : List (Option Contents))
    (seat : Seat) (slot : Slot) (h : ℕ) → before ≡ with_object far slot h
    → spans ≡ spans_without before.spans seat.frame seat.number seat.span
    → frames ≡ frames_without before.frames seat.frame seat.number seat.span
    → (let q : FarState = record before { frames = frames; spans = spans } in q)
    ≡ with_moved far seat slot h
moved_far far before frames spans seat slot h e es ef =
    (λ i. record before { frames = ef i; spans = es i })
    ∙ ap (λ (q : FarState). with_released q seat.frame seat.number seat.span) e
