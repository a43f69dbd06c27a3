-- A pin of a far object is refused and changes nothing, and none of another object is refused so.
use Rattle.std.proofs.Common.{◌≡◌, ℕ, zero, suc, refl, sym, ap, ◌∙◌, subst, arith, inl, inr}
use Rattle.cb_ptr.specs.declared.word.State.{State}
use Rattle.cb_ptr.specs.declared.word.State.TheVariants as state
use Rattle.cb_ptr.specs.Word.{state_of, pins_of}
use Rattle.cb_types.specs.declared.reply.Reply.{Reply}
use Rattle.cb_types.specs.declared.reply.Reply.TheVariants as answer
use Rattle.cb_mutate.specs.StillReplies.{empty_reply}
use Rattle.cb_world.specs.StillWords.{stamp_at}
use Rattle.cb_world.specs.World.{WorldState, word_at}
use Rattle.cb_core.specs.OnceHere.{IsThere}
use Rattle.cb_core.specs.Pinning.{scope_full, refused, taken, pin_refusal}
use Rattle.cb_core.proofs.Laws.{IsSwapRefusal}
use Rattle.cb_lanes.specs.LineStep.{IsFarToPin, PinEvent}

empty_not_here : (v : ℕ) → answer.NotHere ≡ empty_reply v → ⊥
empty_not_here zero e = cc
empty_not_here (suc v) e = cc

far_refused : (q : State) (v pins : ℕ) → answer.NotHere ≡ pin_refusal q v pins → q ≡ state.Far
far_refused state.Empty v pins e = absurd (empty_not_here v e)
far_refused state.Far v pins e = refl
far_refused state.Moving v pins e = absurd (let z : ⊥ = cc in z)
far_refused state.Here v pins e = absurd (let z : ⊥ = cc in z)

full_not_here : answer.NotHere ≡ answer.ScopeFull → ⊥
full_not_here e = cc

version_not_here : (v : ℕ) → answer.NotHere ≡ answer.Version v → ⊥
version_not_here v e = cc

pub far_to_pin : (seat h : ℕ) (w m : WorldState) → PinEvent seat h w answer.NotHere m
    → IsFarToPin seat h w × (m ≡ w)
far_to_pin seat h w m (scope_full full reply same) = absurd (full_not_here reply)
far_to_pin seat h w m (refused room never reply same) = (
  record {
    room = room;
    away = far_refused (state_of (word_at w.desk h)) (stamp_at w.desk h)
        (pins_of (word_at w.desk h))
        reply;
  },
  same,
)
far_to_pin seat h w m (taken room may reply t) = absurd (version_not_here (stamp_at w.desk h) reply)

-- a far object that the seat may pin is not here
here_not_far : state.Here ≡ state.Far → ⊥
here_not_far e = cc

pub far_not_here : (seat h : ℕ) (w new : WorldState) (r : Reply) → IsFarToPin seat h w
    → PinEvent seat h w r new → r ≡ answer.NotHere
far_not_here seat h w new r far (scope_full full reply same) =
    absurd (let room = far.room in omega (arith, full, room))
far_not_here seat h w new r far (refused room never reply same) =
    reply ∙ ap (λ (q : State). pin_refusal q (stamp_at w.desk h) (pins_of (word_at w.desk h)))
    far.away
far_not_here seat h w new r far (taken room may reply t) =
    absurd (here_not_far (sym may.here ∙ far.away))

-- a swap that is refused brings nothing in
pub refused_not_there : (r : Reply) → IsSwapRefusal r → IsThere r → ⊥
refused_not_there r refusal (inl is) = subst IsSwapRefusal is refusal
refused_not_there r refusal (inr (frame, is)) = subst IsSwapRefusal is refusal
