-- Over a still desk a free is the plain map's, and every other object holds what it held.
use Rattle.std.proofs.Common.{◌≡◌, ℕ, ◌+◌, ◌<◌, List, Some, length, sym, refl, ap, ◌∙◌, subst, arith}
use Rattle.cb_ptr.specs.declared.word.State.{State}
use Rattle.cb_ptr.specs.declared.word.State.TheVariants as state
use Rattle.cb_ptr.specs.Word.{state_of, len_of, place_of}
use Rattle.cb_types.specs.declared.request.Request.TheVariants.{Free}
use Rattle.cb_types.specs.declared.reply.Reply.{Reply}
use Rattle.cb_types.specs.declared.reply.Reply.TheVariants as answer
use Rattle.cb_model.specs.Event.{event_of}
use Rattle.cb_model.specs.Called.{made_by}
use Rattle.cb_world.specs.declared.shown.Shown.{Shown}
use Rattle.cb_world.specs.Memory.{bytes_in}
use Rattle.cb_world.specs.Plain.{Words}
use Rattle.cb_world.specs.FarState.{FarState}
use Rattle.cb_world.specs.Now.{Now, now}
use Rattle.cb_world.specs.Now.Now.{held}
use Rattle.cb_world.specs.World.{word_at}
use Rattle.cb_world.specs.StillWords.{stamp_at, contents_at}
use Rattle.cb_world.proofs.Laws.{KeepsAway}
use Rattle.cb_mutate.specs.FreeRule.{IsReleased, LeavesPlace}
use Rattle.cb_mutate.specs.StillReplies.{change_reply, free_as, reply_as}
use Rattle.cb_mutate.specs.CallStep.{FreeChange, IsTakenOut, IsFreeStep}
use Rattle.cb_mutate.specs.MapCalls.{IsMapCall, IsCallOn}
use Rattle.cb_mutate.proofs.MapReplies.{AreKnownBoth, IsOnContents, ChangesAt, call_by_state, change_call, others_hold, near_held, here_near}
use Rattle.cb_mutate.proofs.FarCall.{far_call, free_by, freed_then}
use Rattle.cb_mutate.proofs.ChangedObject.{lies_there}

on_free : (name : List ℕ) → IsOnContents (Free name)
on_free name = record {
  unmade = refl;
  freed = refl;
  not_here = refl;
  moving = refl;
  pinned = λ count. refl;
  worn = refl;
}

released_away : (far new : FarState) (h : ℕ) → IsReleased far new h → KeepsAway far new
released_away far new h r = subst (KeepsAway far) (sym r.left) (record {
  sets = refl;
  homes = refl;
  nodes = refl;
  members = refl;
  leaving = refl;
  joining = refl;
  counts = refl;
  survey = refl;
})

-- A free over a still desk is the map's.
pub free_call : (x y : Words) (far new : FarState) (s t : Shown) (h handles : ℕ) (name : List ℕ)
    (r : Reply) → AreKnownBoth x y far new s t → h < length x.words
    → IsFreeStep x y far new h r → IsCallOn handles s t far new h (Free name) r
free_call x y far new s t h handles name r a below step = by (state_of w) refl
  where
    w : ℕ
    w = word_at x h

    v : ℕ
    v = stamp_at x h

    gone : state_of w ≡ state.Here → r ≡ answer.Version (v + 1)
        → IsCallOn handles s t far new h (Free name) r
    gone here reply =
        let z : IsTakenOut x y far new h (v + 1) =
        subst (λ (q : Reply). FreeChange q x y far new h) reply step.change in
        let released : IsReleased far new h =
        subst (λ (q : State). LeavesPlace q far new h) here z.leaves in
        let c : ChangesAt x y h 0 (v + 1) x.memory = record {
          words = ap (λ (u : Words). u.words) z.left;
          versions = ap (λ (u : Words). u.versions) z.left;
          stored = ap (λ (u : Words). u.memory) z.left;
        } in
        let before = near_held x far s h a.before below (here_near w here) in
        record {
          own = subst (λ (n : Now). IsMapCall far.first handles far.made (Some h) (Free name) r n
              (now t new h)) (sym before)
              (subst (IsMapCall far.first handles far.made (Some h) (Free name) r
              (held v (bytes_in (contents_at x h) (len_of w))))
              (sym (freed_then x y far new s t h v a below z.left))
              (free_by v (bytes_in (contents_at x h) (len_of w)) far.first handles far.made (Some h)
              name r reply));
          others = λ k off. others_hold x y far new s t h (len_of w) (place_of w) 0 (v + 1) k
              x.memory a (released_away far new h released)
              (lies_there x far s h a.before below here) c (λ p b. refl) off;
          counted = omega (
            arith,
            ap (λ (g : FarState). g.made) released.left,
            ap (λ (e : Reply). made_by (event_of (Free name) e)) reply,
          );
        }

    near : free_as (state_of w) v (change_reply w v) ≡ reply_as (state_of w) v (change_reply w v)
        → IsCallOn handles s t far new h (Free name) r
    near same = call_by_state (λ q. FreeChange q x y far new h) x y far new s t h handles (Free name)
        r (change_reply w v) a below (on_free name)
        (record { unmade = λ e. e; freed = λ e. e; not_here = λ e. e; moving = λ e. e })
        (step.reply ∙ same) step.change (λ here reply.
        change_call (λ q. FreeChange q x y far new h) x y far new s t h handles (Free name) r a below
        (on_free name) here (λ e. e) (λ e. e) reply step.change (gone here))

    as_all : (q : State) → state_of w ≡ q
        → free_as q v (change_reply w v) ≡ reply_as q v (change_reply w v)
        → IsCallOn handles s t far new h (Free name) r
    as_all q e same = near (subst (λ (z : State). free_as z v (change_reply w v)
        ≡ reply_as z v (change_reply w v)) (sym e) same)

    by : (q : State) → state_of w ≡ q → IsCallOn handles s t far new h (Free name) r
    by state.Empty e = as_all state.Empty e refl
    by state.Far e = far_call x y far new s t h handles name r a below (on_free name) e step
    by state.Here e = as_all state.Here e refl
    by state.Moving e = as_all state.Moving e refl
