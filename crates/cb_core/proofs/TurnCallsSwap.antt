-- A swap, as a part of a turn.
use Rattle.std.proofs.Common.{◌≡◌, ℕ, true, zero, suc, ◌<◌, List, refl, sym, ap, ◌∙◌, subst}
use Rattle.cb_member.specs.declared.names.Loss.{Loss}
use Rattle.cb_ptr.specs.declared.word.State.{State}
use Rattle.cb_ptr.specs.declared.word.State.TheVariants as state
use Rattle.cb_ptr.specs.Word.{state_of}
use Rattle.cb_types.specs.declared.handle.SetId.{SetId}
use Rattle.cb_types.specs.declared.request.Request.TheVariants.{Pin}
use Rattle.cb_types.specs.declared.reply.Reply.{Reply}
use Rattle.cb_types.specs.declared.reply.Reply.TheVariants as answer
use Rattle.cb_types.specs.Table.{IsReplyOf}
use Rattle.cb_model.specs.Event.{event_of}
use Rattle.cb_model.specs.Event.Subject.{Contents}
use Rattle.cb_model.specs.Event.Event.{Refused}
use Rattle.cb_world.specs.declared.shown.Shown.{Shown}
use Rattle.cb_world.specs.FarState.{FarState}
use Rattle.cb_world.specs.Now.{is_gone}
use Rattle.cb_world.specs.Plain.{Words}
use Rattle.cb_world.specs.StillWords.{stamp_at}
use Rattle.cb_world.specs.World.{IsKnown, word_at}
use Rattle.cb_mutate.specs.MapCalls.{IsCallOn}
use Rattle.cb_mutate.specs.StillReplies.{reply_as}
use Rattle.cb_mutate.proofs.Laws.{AreKnownBoth, IsObjectThere, IsOnContents, refused_call, call_by_state, near_held, here_near}
use Rattle.cb_core.specs.Parts.{Holding, BringsIn, not_far, was_far}
use Rattle.cb_core.specs.Step.{StillBring, StillFind}
use Rattle.cb_core.proofs.TurnCallsKept.{HasKept, kept_all, kept_bring}
use Rattle.cb_core.proofs.TurnCallsFar.{IsLostFar, BringEnds, came, broke, crammed, bring_ends}
use Rattle.cb_core.proofs.TurnCallsLost.{lost_far, gone_lost, brings_lost, brings_gone}
use Rattle.cb_core.proofs.TurnCallsMap.{IsSameMap, map_stays, call_carried, far_refused}
use Rattle.cb_core.proofs.TurnCallsReply.{as_not_here}
use Rattle.cb_core.proofs.TurnCallsWhere.{kept_map, within}

-- why an object could not be swapped in
abbrev pub IsSwapRefusal : Reply → Type 0
IsSwapRefusal answer.Unmade = Unit {0}
IsSwapRefusal answer.Freed = Unit {0}
IsSwapRefusal answer.Moving = Unit {0}
IsSwapRefusal (answer.Unavailable id l) = Unit {0}
IsSwapRefusal (answer.NoRoom frames loose nodes) = Unit {0}
IsSwapRefusal r = ⊥

-- A swap is refused; or the object was here and stays; or it was far and came in. Then it is here.
pub data SwapEnds (y : Words) (h : ℕ) (r : Reply) : Type 0 where
  refused : IsSwapRefusal r → SwapEnds y h r
  stays : r ≡ answer.Stays → state_of (word_at y h) ≡ state.Here → SwapEnds y h r
  swapped : (f : ℕ) → r ≡ answer.Swapped f → state_of (word_at y h) ≡ state.Here → SwapEnds y h r

-- a refusal is one that a pin of the object may be answered
pub refusal_line : (name : List ℕ) (r : Reply) → IsSwapRefusal r → IsReplyOf (Pin name) r
refusal_line name answer.Unmade z = tt
refusal_line name answer.Freed z = tt
refusal_line name answer.Moving z = tt
refusal_line name (answer.Unavailable id l) z = tt
refusal_line name (answer.NoRoom frames loose nodes) z = tt
refusal_line name r z = absurd z

on_pin : (name : List ℕ) → IsOnContents (Pin name)
on_pin name = record {
  unmade = refl;
  freed = refl;
  not_here = refl;
  moving = refl;
  pinned = λ count. refl;
  worn = refl;
}

-- A swap: every object holds what it held, and the reply is that of a pin which the map gives, or
-- another refusal.
pub record IsSwapAs (handles : ℕ) (y : Words) (s t : Shown) (far new : FarState) (h : ℕ) (r : Reply)
    : Type 0 where
  pub same : IsSameMap s t far new
  pub ends : SwapEnds y h r
  pub call : (name : List ℕ) → IsCallOn handles s t far new h (Pin name) r

stays_crammed : answer.Stays ≡ answer.NotHere → ⊥
stays_crammed e = cc

find_far : (a b : Holding Words) (h : ℕ) → StillFind h a answer.NotHere b
    → state_of (word_at a.desk h) ≡ state.Far
find_far a b h c = as_not_here (state_of (word_at a.desk h)) (stamp_at a.desk h) answer.Stays
    stays_crammed (sym c.0)

-- the object is not far
find_ends : (q : State) (v : ℕ) (y : Words) (h : ℕ) (r : Reply) → r ≡ reply_as q v answer.Stays
    → (r ≡ answer.NotHere → ⊥) → (q ≡ state.Here → state_of (word_at y h) ≡ state.Here) → SwapEnds y h r
find_ends state.Empty zero y h r e never here = refused (subst IsSwapRefusal (sym e) tt)
find_ends state.Empty (suc v) y h r e never here = refused (subst IsSwapRefusal (sym e) tt)
find_ends state.Moving v y h r e never here = refused (subst IsSwapRefusal (sym e) tt)
find_ends state.Far v y h r e never here = absurd (never e)
find_ends state.Here v y h r e never here = stays e (here refl)

-- a look at an object as a pin's refusal
find_call : (a : Holding Words) (s : Shown) (h : ℕ) (r : Reply) (name : List ℕ)
    → IsKnown a.desk a.far s → h < a.desk.settings.handles
    → r ≡ reply_as (state_of (word_at a.desk h)) (stamp_at a.desk h) answer.Stays
    → IsCallOn a.desk.settings.handles s s a.far a.far h (Pin name) r
find_call a s h r name k below e =
    let known : AreKnownBoth a.desk a.desk a.far a.far s s = record { before = k; afterwards = k } in
    call_by_state (λ q. (a.desk ≡ a.desk) × (a.far ≡ a.far)) a.desk a.desk a.far a.far s s h
    a.desk.settings.handles (Pin name) r answer.Stays known (within a s h k below) (on_pin name)
    (record { unmade = λ z. z; freed = λ z. z; not_here = λ z. z; moving = λ z. z }) e (refl, refl)
    (λ here is. refused_call a.desk a.desk a.far a.far s s h a.desk.settings.handles (Pin name) r known
    (refl, refl) (subst IsObjectThere (sym (near_held a.desk a.far s h k (within a s h k below)
    (here_near (word_at a.desk h) here))) tt) (ap (event_of (Pin name)) is))

pub swap_answered : (a b : Holding Words) (s t : Shown) (h : ℕ) (r : Reply)
    → IsKnown a.desk a.far s → IsKnown b.desk b.far t → h < a.desk.settings.handles
    → BringsIn (StillFind h) (StillBring h) a r b
    → IsSwapAs a.desk.settings.handles b.desk s t a.far b.far h r
swap_answered a b s t h r before after below (not_far c never) =
    let kept = subst (λ (x : Holding Words). HasKept a x s) (sym c.1) (kept_all a s before) in
    let same = kept_map a b s t kept after in
    record {
      same = same;
      ends = find_ends (state_of (word_at a.desk h)) (stamp_at a.desk h) b.desk h r c.0 never
          (λ here. ap (λ (x : Holding Words). state_of (word_at x.desk h)) c.1 ∙ here);
      call = λ name. call_carried a.desk.settings.handles s s s t a.far a.far a.far b.far (Pin name) r
          (map_stays s a.far) same h (find_call a s h r name before below c.0);
    }
swap_answered a b s t h r before after below (was_far m c bring) =
    by (bring_ends a b h r s before there)
  where
    there : StillBring h a r b
    there = subst (λ (x : Holding Words). StillBring h x r b) c.1 bring

    same : IsSameMap s t a.far b.far
    same = kept_map a b s t (kept_bring a b h r s before there) after

    C : Reply → Type 0
    C q = IsSwapAs a.desk.settings.handles b.desk s t a.far b.far h q

    ends_as : (q : Reply) → SwapEnds b.desk h q
        → ((name : List ℕ) → event_of (Pin name) q ≡ Refused Contents) → C q
    ends_as q ends event = record {
      same = same;
      ends = ends;
      call = λ name. far_refused a.desk s t a.far b.far h a.desk.settings.handles (Pin name) q before
          (within a s h before below) (find_far a m h c) (event name) same;
    }

    by : BringEnds a b h r → C r
    by (came f e whole here) = subst C (sym e)
        (ends_as (answer.Swapped f) (swapped f refl here) (λ name. refl))
    by (broke id l e lost) = subst C (sym e)
        (ends_as (answer.Unavailable id l) (refused tt) (λ name. refl))
    by (crammed frames loose nodes e whole) = subst C (sym e)
        (ends_as (answer.NoRoom frames loose nodes) (refused tt) (λ name. refl))

-- a swap that is answered so is of an object whose set is broken, and tells its number and its losses
pub swap_lost : (a b : Holding Words) (s : Shown) (h : ℕ) (id : SetId) (l : List Loss)
    → IsKnown a.desk a.far s → BringsIn (StillFind h) (StillBring h) a (answer.Unavailable id l) b
    → IsLostFar a.far h id l
swap_lost a b s h id l k (not_far c never) =
    absurd (find_whole (state_of (word_at a.desk h)) (stamp_at a.desk h) (sym c.0))
  where
    find_whole : (q : State) (v : ℕ) → reply_as q v answer.Stays ≡ answer.Unavailable id l → ⊥
    find_whole state.Empty zero e = cc
    find_whole state.Empty (suc v) e = cc
    find_whole state.Far v e = cc
    find_whole state.Moving v e = cc
    find_whole state.Here v e = cc
swap_lost a b s h id l k (was_far m c bring) =
    brings_lost a b h id l (bring_ends a b h (answer.Unavailable id l) s k
    (subst (λ (x : Holding Words). StillBring h x (answer.Unavailable id l) b) c.1 bring))

-- and each swap of an object that is gone is answered so
pub swap_gone : (a b : Holding Words) (s : Shown) (h : ℕ) (r : Reply) → IsKnown a.desk a.far s
    → is_gone a.far h ≡ true → BringsIn (StillFind h) (StillBring h) a r b
    → (id : SetId) × (l : List Loss) × (r ≡ answer.Unavailable id l) × IsLostFar a.far h id l
swap_gone a b s h r k gone (not_far c never) =
    let z = gone_lost a.far h gone in
    absurd (never (c.0 ∙ ap (λ q. reply_as q (stamp_at a.desk h) answer.Stays)
    (lost_far a.desk a.far s h z.0 z.1 k z.2)))
swap_gone a b s h r k gone (was_far m c bring) =
    brings_gone a b h r gone (bring_ends a b h r s k
    (subst (λ (x : Holding Words). StillBring h x r b) c.1 bring))
