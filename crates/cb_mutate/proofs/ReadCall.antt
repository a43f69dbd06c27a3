-- Over a still desk a read is the plain map's, and every other object holds what it held.
use Rattle.std.proofs.Common.{◌≡◌, ℕ, Bool, ◌==◌, ◌<◌, List, Option, Some, None, length, sym, refl, ap, ◌∙◌, subst, arith, inl, inr, if◌then◌else◌, eq-eqb, ne_eqb}
use Rattle.std.proofs.lemmas.Bool.{cases_eq}
use Rattle.std.proofs.lemmas.List.{set-get_or}
use Rattle.cb_ptr.specs.declared.word.State.TheVariants as state
use Rattle.cb_ptr.specs.Word.{state_of, len_of, place_of, pins_of}
use Rattle.cb_types.specs.declared.request.Request.TheVariants.{Read}
use Rattle.cb_types.specs.declared.reply.Reply.{Reply}
use Rattle.cb_types.specs.declared.reply.Reply.TheVariants as answer
use Rattle.cb_model.specs.declared.object.Object.TheVariants.{Held, Freed}
use Rattle.cb_model.specs.Now.{MapNow}
use Rattle.cb_model.specs.Event.{event_of}
use Rattle.cb_model.specs.Event.Event.{Shows}
use Rattle.cb_model.specs.Replies.{MapReplies}
use Rattle.cb_model.specs.Called.{made_by}
use Rattle.cb_world.specs.declared.shown.Shown.{Shown}
use Rattle.cb_world.specs.Memory.{bytes_in}
use Rattle.cb_world.specs.Plain.{Words}
use Rattle.cb_world.specs.FarState.{FarState}
use Rattle.cb_world.specs.Now.{Now, now}
use Rattle.cb_world.specs.Now.Now.{held}
use Rattle.cb_world.specs.World.{word_at}
use Rattle.cb_world.specs.StillWords.{stamp_at, contents_at, with_hot}
use Rattle.cb_mutate.specs.CallStep.{ReadChange, IsReadStep, with_seen}
use Rattle.cb_mutate.specs.MapCalls.{IsValue, IsMapCall, IsCallOn}
use Rattle.cb_mutate.proofs.MapReplies.{AreKnownBoth, IsOnContents, ChangesAt, map_same, call_by_state, others_hold, near_held, here_near}
use Rattle.cb_mutate.proofs.ChangedObject.{IsSameHere, hot_same, lies_there, keeps_same, own_held}

on_read : (name : List ℕ) → IsOnContents (Read name)
on_read name = record {
  unmade = refl;
  freed = refl;
  not_here = refl;
  moving = refl;
  pinned = λ count. refl;
  worn = refl;
}

shows_by : (v first handles made : ℕ) (bytes : List ℕ) (handle : Option ℕ) (m : MapNow)
    → IsValue m (held v bytes) → MapReplies first handles made handle m (Shows v bytes)
shows_by v first handles made bytes handle None i = absurd i
shows_by v first handles made bytes handle (Some (Freed u)) i = absurd i
shows_by v first handles made bytes handle (Some (Held u b)) i = i

-- the word that a read leaves
seen_same : (w : ℕ) → state_of w ≡ state.Here
    → IsSameHere w (if pins_of w == 0 then with_hot w else w)
seen_same w e = elim (cases_eq (pins_of w) 0) [
  | inl none ↦ subst (λ (b : Bool). IsSameHere w (if b then with_hot w else w))
      (sym (eq-eqb (pins_of w) 0 none)) (hot_same w e)
  | inr some ↦ subst (λ (b : Bool). IsSameHere w (if b then with_hot w else w))
      (sym (ne_eqb (pins_of w) 0 some)) (record { here = e; len = refl; place = refl })
]

-- A read over a still desk is the map's.
pub read_call : (x y : Words) (far new : FarState) (s t : Shown) (h handles : ℕ) (name : List ℕ)
    (r : Reply) → AreKnownBoth x y far new s t → new ≡ far → h < length x.words
    → IsReadStep x y h r → IsCallOn handles s t far new h (Read name) r
read_call x y far new s t h handles name r a same below step =
    call_by_state (λ q. ReadChange q x y h) x y far new s t h handles (Read name) r
    (answer.Bytes v (bytes_in (contents_at x h) (len_of w))) a below (on_read name)
    (record {
      unmade = λ e. (e, same);
      freed = λ e. (e, same);
      not_here = λ e. (e, same);
      moving = λ e. (e, same);
    })
    step.reply step.change shown
  where
    w : ℕ
    w = word_at x h

    v : ℕ
    v = stamp_at x h

    shown : state_of w ≡ state.Here
        → r ≡ answer.Bytes v (bytes_in (contents_at x h) (len_of w))
        → IsCallOn handles s t far new h (Read name) r
    shown here reply =
        let bytes = bytes_in (contents_at x h) (len_of w) in
        let left : y ≡ with_seen x h = subst (λ
        (q : Reply). ReadChange q x y h) reply step.change in
        let seen : ℕ = if pins_of w == 0 then with_hot w else w in
        let c : ChangesAt x y h seen v x.memory = record {
          words = ap (λ (z : Words). z.words) left;
          versions = ap (λ (z : Words). z.versions) left ∙ sym (set-get_or x.versions h 0);
          stored = ap (λ (z : Words). z.memory) left;
        } in
        let before = near_held x far s h a.before below (here_near w here) in
        let then_ = own_held x y far new s t h seen v x.memory (contents_at x h) a below c
        (seen_same w here) refl in
        record {
          own = subst (λ (n : Now). IsMapCall far.first handles far.made (Some h) (Read name) r
              (now s far h) n) (before ∙ sym then_)
              (subst (λ (n : Now). IsMapCall far.first handles far.made (Some h) (Read name) r n n)
              (sym before)
              (map_same far.first handles far.made (Some h) (Read name) r (held v bytes)
              (Shows v bytes) (ap (event_of (Read name)) reply) refl
              (shows_by v far.first handles far.made bytes (Some h))));
          others = λ k off. others_hold x y far new s t h (len_of w)
              (place_of w) seen v k x.memory a
              (keeps_same far new same) (lies_there x far s h a.before below here) c
              (λ p b. refl) off;
          counted = omega (
            arith,
            ap (λ (g : FarState). g.made) same,
            ap (λ (e : Reply). made_by (event_of (Read name) e)) reply,
          );
        }
