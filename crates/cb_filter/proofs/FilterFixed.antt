-- A filter is fixed: one reply, one set of words and one far state.
use Rattle.std.proofs.Common.{◌≡◌, ◌≢◌, ℕ, zero, suc, sym, ap, ◌∙◌, subst, arith, refl}
use Rattle.cb_ptr.specs.declared.word.State.{State}
use Rattle.cb_ptr.specs.declared.word.State.TheVariants as word
use Rattle.cb_ptr.specs.Word.{state_of}
use Rattle.cb_span.specs.declared.temp.Temp.{Temp}
use Rattle.cb_types.specs.declared.reply.Reply.{Reply}
use Rattle.cb_types.specs.declared.reply.Reply.TheVariants as answer
use Rattle.cb_world.specs.declared.shown.Shown.{Shown}
use Rattle.cb_world.specs.FarState.{FarState}
use Rattle.cb_world.specs.Grasped.{IsFree}
use Rattle.cb_world.specs.LocalSound.{LocalSound}
use Rattle.cb_world.specs.Placed.{Slot, IsChosen, IsCrammed, place_in}
use Rattle.cb_world.specs.Plain.{Words}
use Rattle.cb_world.specs.StillWords.{stamp_at}
use Rattle.cb_world.specs.World.{word_at}
use Rattle.cb_world.proofs.Laws.{IsOneEnd, refused_alike, chosen_fixed, not_crammed, seat_fixed}
use Rattle.cb_filter.specs.Seats.{Seat, IsSeatOf, with_moved}
use Rattle.cb_filter.specs.FilterRule.{EmptyToFilter, GetsSlot}
use Rattle.cb_filter.specs.FilterStep.{IsFilterStep, RefusesAs, temp_of, with_carried_to, refused, cools, without_slot, moves}

empty_fixed : (v : ℕ) (r q : Reply) → EmptyToFilter v r → EmptyToFilter v q → r ≡ q
empty_fixed zero r q a b = a ∙ sym b
empty_fixed (suc v) r q a b = a ∙ sym b

refusal_fixed : (t : State) (w v : ℕ) (r q : Reply) → RefusesAs t w v r → RefusesAs t w v q → r ≡ q
refusal_fixed word.Empty w v r q a b = empty_fixed v r q a b
refusal_fixed word.Far w v r q a b = a ∙ sym b
refusal_fixed word.Here w v r q a b = a.1 ∙ sym b.1
refusal_fixed word.Moving w v r q a b = a ∙ sym b

-- a free object is not refused
not_refused : (w v : ℕ) (r : Reply) → RefusesAs (state_of w) w v r → IsFree w → ⊥
not_refused w v r a free =
    let l = (subst (λ (t : State). RefusesAs t w v r) free.0 a).0 in let e = free.1 in
    omega (arith, l, e)

module _ (s : Shown) (x y z : Words) (far new other : FarState) (h : ℕ) (r q : Reply)
    (sound : LocalSound s far) where
  abbrev temp : Temp
  temp = temp_of x h

  seats : (a b : Seat) → IsSeatOf far h a → IsSeatOf far h b → a ≡ b
  seats a b c d =
      let same = seat_fixed far s h a.frame b.frame a.number b.number a.span b.span sound c.there
      c.named d.there d.named in
      λ i. record { frame = same.frame i; number = same.slot i; span = same.span i }

  in_place : (a b : Seat) → IsSeatOf far h a → IsSeatOf far h b → a.span.temp ≡ temp
      → b.span.temp ≢ temp → ⊥
  in_place a b c d same off = off (ap (λ (t : Seat). t.span.temp) (sym (seats a b c d)) ∙ same)

  crammed : (a b : Seat) (slot : Slot) → IsSeatOf far h a → IsSeatOf far h b
      → IsCrammed far a.span.class temp → IsChosen far b.span.class temp slot → ⊥
  crammed a b slot c d full gets = not_crammed far b.span.class temp slot
      (subst (λ (t : Seat). IsCrammed far t.span.class temp) (seats a b c d) full) gets

  moved : (a b : Seat) (i j : Slot) → IsSeatOf far h a → IsSeatOf far h b
      → GetsSlot far new temp a h i r → GetsSlot far other temp b h j q
      → y ≡ with_carried_to x h (place_in i) → z ≡ with_carried_to x h (place_in j)
      → IsOneEnd r q y z new other
  moved a b i j c d e f left also =
      let same = seats a b c d in
      let slots : i ≡ j = chosen_fixed far b.span.class temp i j
      (subst (λ (t : Seat). IsChosen far t.span.class temp i) same e.chosen) f.chosen in
      record {
        reply = e.reply ∙ sym f.reply;
        words = left ∙ ap (λ (k : Slot). with_carried_to x h (place_in k)) slots ∙ sym also;
        far = e.state ∙ (λ k. with_moved far (same k) (slots k) h) ∙ sym f.state;
      }

  pub filter_step_fixes : IsFilterStep x y far new h r → IsFilterStep x z far other h q
      → IsOneEnd r q y z new other
  filter_step_fixes (refused a c e) (refused b d f) =
      refused_alike r q q x y z far new other
      (refusal_fixed (state_of (word_at x h)) (word_at x h) (stamp_at x h) r q a b) refl c d e f
  filter_step_fixes (refused a c e) (cools t i k l) =
      absurd (not_refused (word_at x h) (stamp_at x h) r a i.free)
  filter_step_fixes (refused a c e) (without_slot t i k l) =
      absurd (not_refused (word_at x h) (stamp_at x h) r a i.free)
  filter_step_fixes (refused a c e) (moves t n i k l) =
      absurd (not_refused (word_at x h) (stamp_at x h) r a i.free)
  filter_step_fixes (cools t i k l) (refused b d f) =
      absurd (not_refused (word_at x h) (stamp_at x h) q b i.free)
  filter_step_fixes (without_slot t i k l) (refused b d f) =
      absurd (not_refused (word_at x h) (stamp_at x h) q b i.free)
  filter_step_fixes (moves t n i k l) (refused b d f) =
      absurd (not_refused (word_at x h) (stamp_at x h) q b i.free)
  filter_step_fixes (cools t i k l) (cools u j m n) = record {
    reply = k.reply ∙ sym m.reply;
    words = l ∙ sym n;
    far = k.state ∙ sym m.state;
  }
  filter_step_fixes (cools t i k l) (without_slot u j m n) =
      absurd (in_place t u i.stands j.stands k.same m.other)
  filter_step_fixes (cools t i k l) (moves u o j m n) =
      absurd (in_place t u i.stands j.stands k.same m.other)
  filter_step_fixes (without_slot t i k l) (cools u j m n) =
      absurd (in_place u t j.stands i.stands m.same k.other)
  filter_step_fixes (moves t o i k l) (cools u j m n) =
      absurd (in_place u t j.stands i.stands m.same k.other)
  filter_step_fixes (without_slot t i k l) (without_slot u j m n) =
      refused_alike r q (answer.NoSlot x.settings.frames) x y z far new other k.reply m.reply l n
      k.state m.state
  filter_step_fixes (without_slot t i k l) (moves u o j m n) =
      absurd (crammed t u o i.stands j.stands k.crammed m.chosen)
  filter_step_fixes (moves t o i k l) (without_slot u j m n) =
      absurd (crammed u t o j.stands i.stands m.crammed k.chosen)
  filter_step_fixes (moves t o i k l) (moves u p j m n) =
      moved t u o p i.stands j.stands k m l n
