-- Worked examples of a filter that wants memory: it needs a new span.
use Rattle.std.proofs.Common.{◌≡◌, ◌∙◌, ℕ, zero, suc, None, Some, refl, sym, ap, subst, inl, inr}
use Rattle.cb_class.specs.declared.class.Class.{Class}
use Rattle.cb_class.specs.Class.{pages_of}
use Rattle.cb_frame.specs.Runs.{least_run}
use Rattle.cb_ptr.specs.Word.{hot_of}
use Rattle.cb_span.specs.declared.temp.Temp.TheVariants.{Cold}
use Rattle.cb_span.specs.Contents.{Contents}
use Rattle.cb_world.specs.FarState.{span_in}
use Rattle.cb_world.specs.Looks.{IsFound}
use Rattle.cb_world.specs.Placed.{HasRoom}
use Rattle.cb_filter.specs.FilterRule.{NeedsMemory}
use Rattle.cb_filter.specs.Seats.{temp_for}
use Rattle.cb_filter.proofs.WorkedSeats.{claim, cold_span, far, full, full_span, hot_span, largest, no_frame, one_page, word}

-- no frame is free for it
no_frame_for_it : ¬ (NeedsMemory 0 full full claim)
no_frame_for_it x = absurd (no_first x.needs.first
    (sym (ap (least_run full.frames) (ap (λ (c : Class). pages_of c)
    (sym (full_class x.seat.frame x.seat.span x.stands.there)) ∙ one_page)) ∙ x.needs.some_free))
  where
    no_first : (f : ℕ) → None ≡ Some f → ⊥
    no_first f e = cc

    no_span_there : (a : Contents) → None ≡ Some a → ⊥
    no_span_there a e = cc

    one_span : (a b : Contents) → Some a ≡ Some b → a ≡ b
    one_span a b e = cc

    full_class : (f : ℕ) (span : Contents) → span_in full.spans f ≡ Some span → largest ≡ span.class
    full_class zero span e = ap (λ (s : Contents). s.class) (one_span full_span span e)
    full_class (suc zero) span e = ap (λ (s : Contents). s.class) (one_span hot_span span e)
    full_class (suc (suc zero)) span e = absurd (no_span_there span e)
    full_class (suc (suc (suc f))) span e = absurd (no_span_there span e)

-- the cold span has a slot for it: all spans here have one class, and the word was not hot
same_span : (a b : Contents) → Some a ≡ Some b → a ≡ b
same_span a b e = cc

no_span : (a : Contents) → None ≡ Some a → ⊥
no_span a e = cc

one_class : (f : ℕ) (span : Contents) → span_in far.spans f ≡ Some span → largest ≡ span.class
one_class zero span e = ap (λ (s : Contents). s.class) (same_span cold_span span e)
one_class (suc zero) span e = ap (λ (s : Contents). s.class) (same_span hot_span span e)
one_class (suc (suc zero)) span e = absurd (no_span span e)
one_class (suc (suc (suc f))) span e = absurd (no_span span e)

the_word : (w : ℕ) → IsFound 0 w claim → word ≡ w
the_word w (inl (inl none)) = absurd none
the_word w (inl (inr none)) = absurd none.0
the_word w (inr is) = is.0.1

has_room : HasRoom far largest Cold 0
has_room = (refl, no_frame 0)

slot_for_it : ¬ (NeedsMemory 0 far far claim)
slot_for_it x = x.needs.full 0
    (subst (λ (w : ℕ). HasRoom far x.seat.span.class (temp_for (hot_of w)) 0) (the_word x.word x.found)
    (subst (λ (c : Class). HasRoom far c Cold 0) (one_class x.seat.frame x.seat.span x.stands.there)
    has_room))
