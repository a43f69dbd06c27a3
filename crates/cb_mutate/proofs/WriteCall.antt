-- Over a still desk a write is the plain map's, and every other object holds what it held.
use Rattle.std.proofs.Common.{◌≡◌, ◌⊎◌, ℕ, Bool, ◌+◌, ◌<◌, ◌≤◌, nat_lt, List, Option, Some, None, length, sym, refl, ap, ◌∙◌, subst, arith, inl, inr, if◌then◌else◌}
use Rattle.std.proofs.lemmas.Bool.{cases_lt, lt-ltb, le-ltb}
use Rattle.cb_ptr.specs.declared.word.State.TheVariants as state
use Rattle.cb_ptr.specs.Word.{state_of, len_of, place_of}
use Rattle.cb_types.specs.declared.request.Request.TheVariants.{Write}
use Rattle.cb_types.specs.declared.reply.Reply.{Reply}
use Rattle.cb_types.specs.declared.reply.Reply.TheVariants as answer
use Rattle.cb_model.specs.declared.object.Object.TheVariants.{Held, Freed}
use Rattle.cb_model.specs.Now.{MapNow, overwritten}
use Rattle.cb_model.specs.Event.{event_of}
use Rattle.cb_model.specs.Event.Event.{FindsEnd}
use Rattle.cb_model.specs.Replies.{MapReplies}
use Rattle.cb_model.specs.Called.{made_by}
use Rattle.cb_world.specs.declared.shown.Shown.{Shown}
use Rattle.cb_world.specs.Memory.{window, put, words_for, bytes_in}
use Rattle.cb_world.specs.Plain.{Words}
use Rattle.cb_world.specs.FarState.{FarState}
use Rattle.cb_world.specs.Now.{Now, now}
use Rattle.cb_world.specs.Now.Now.{held}
use Rattle.cb_world.specs.World.{word_at}
use Rattle.cb_world.specs.StillWords.{stamp_at, contents_at, with_hot}
use Rattle.cb_world.specs.StillDesk.{window_length}
use Rattle.cb_world.proofs.Laws.{window_put, lies_within, put_beside}
use Rattle.cb_mutate.specs.StillReplies.{change_reply}
use Rattle.cb_mutate.specs.CallStep.{WriteChange, IsOverwritten, IsWriteStep}
use Rattle.cb_mutate.specs.MapCalls.{IsValue, value_after, IsMapCall, IsCallOn}
use Rattle.cb_mutate.proofs.MapReplies.{AreKnownBoth, IsOnContents, ChangesAt, map_same, stays_call, call_by_state, change_call, others_hold, near_held, here_near}
use Rattle.cb_mutate.proofs.WrittenBytes.{bytes_length, write_bytes}
use Rattle.cb_mutate.proofs.ChangedObject.{hot_same, lies_there, keeps_same, own_held}

on_write : (name : List ℕ) (at : ℕ) (bytes : List ℕ) → IsOnContents (Write name at bytes)
on_write name at bytes = record {
  unmade = refl;
  freed = refl;
  not_here = refl;
  moving = refl;
  pinned = λ count. refl;
  worn = refl;
}

-- past its end, as the map says
end_by : (v at len first handles made : ℕ) (old bytes : List ℕ) (handle : Option ℕ)
    → length old ≡ len → len < at + length bytes → (m : MapNow) → IsValue m (held v old)
    → MapReplies first handles made handle m (FindsEnd at bytes len)
end_by v at len first handles made old bytes handle same past None i = absurd i
end_by v at len first handles made old bytes handle same past (Some (Freed u)) i = absurd i
end_by v at len first handles made old bytes handle same past (Some (Held u b)) i =
    let count : len ≡ length b = sym same ∙ ap (λ (l : List ℕ). length l) i.1 in
    (omega (arith, past, count), count)

-- a write within the bytes, as the map does it
pub write_by : (v at : ℕ) (old bytes : List ℕ) (first handles made : ℕ) (handle : Option ℕ)
    (name : List ℕ) (r : Reply) → at + length bytes ≤ length old → r ≡ answer.Version (v + 1)
    → IsMapCall first handles made handle (Write name at bytes) r (held v old)
    (held (v + 1) (overwritten old at bytes))
write_by v at old bytes first handles made handle name r inside is =
    subst (λ (q : Reply). IsMapCall first handles made handle (Write name at bytes) q (held v old)
    (held (v + 1) (overwritten old at bytes))) (sym is) (record { reply = reply; value = value })
  where
    reply : (m : MapNow) → IsValue m (held v old)
        → MapReplies first handles made handle m
        (event_of (Write name at bytes) (answer.Version (v + 1)))
    reply None i = absurd i
    reply (Some (Freed u)) i = absurd i
    reply (Some (Held u b)) i =
        (omega (arith, inside, ap (λ (l : List ℕ). length l) i.1), ap (λ (n : ℕ). n + 1) i.0)

    value : (m : MapNow) → IsValue m (held v old)
        → IsValue (value_after m (event_of (Write name at bytes) (answer.Version (v + 1))))
        (held (v + 1) (overwritten old at bytes))
    value None i = absurd i
    value (Some (Freed u)) i = absurd i
    value (Some (Held u b)) i = (refl, ap (λ (l : List ℕ). overwritten l at bytes) i.1)

-- A write over a still desk is the map's.
pub write_call : (x y : Words) (far new : FarState) (s t : Shown) (h at handles : ℕ)
    (bytes name : List ℕ) (r : Reply) → AreKnownBoth x y far new s t → new ≡ far
    → h < length x.words → IsWriteStep x y h at bytes r
    → IsCallOn handles s t far new h (Write name at bytes) r
write_call x y far new s t h at handles bytes name r a same below step =
    call_by_state (λ q. WriteChange q x y h at bytes) x y far new s t h handles
    (Write name at bytes) r
    (if nat_lt (len_of w) (at + length bytes) then answer.Range (len_of w) else change_reply w v)
    a below (on_write name at bytes)
    (record {
      unmade = λ e. (e, same);
      freed = λ e. (e, same);
      not_here = λ e. (e, same);
      moving = λ e. (e, same);
    })
    step.reply step.change (λ here reply. by here reply (cases_lt (len_of w) (at + length bytes)))
  where
    w : ℕ
    w = word_at x h

    v : ℕ
    v = stamp_at x h

    old : List ℕ
    old = bytes_in (contents_at x h) (len_of w)

    count : length old ≡ len_of w
    count = bytes_length (contents_at x h) (len_of w)

    wrote : state_of w ≡ state.Here → at + length bytes ≤ len_of w → r ≡ answer.Version (v + 1)
        → IsCallOn handles s t far new h (Write name at bytes) r
    wrote here inside reply =
        let z : IsOverwritten x y h (v + 1) at bytes =
        subst (λ (q : Reply). WriteChange q x y h at bytes) reply step.change in
        let memory : List ℕ = put x.memory (place_of w) z.words in
        let c : ChangesAt x y h (with_hot w) (v + 1) memory = record {
          words = ap (λ (u : Words). u.words) z.left;
          versions = ap (λ (u : Words). u.versions) z.left;
          stored = ap (λ (u : Words). u.memory) z.left;
        } in
        let words = window_length x.memory (place_of w) (words_for (len_of w)) in
        let sized : length z.words ≡ words_for (len_of w) = z.write.sized ∙ words in
        let lies = lies_there x far s h a.before below here in
        let within = lies_within far s h (len_of w) (place_of w) a.before.sound.here lies in
        let read : window memory (place_of w) (words_for (len_of w)) ≡ z.words =
        ap (window memory (place_of w)) (sym sized)
        ∙ window_put x.memory (place_of w) z.words
        (omega (arith, within.0, sized, ap (λ (l : List ℕ). length l) a.before.shows.memory)) in
        let before = near_held x far s h a.before below (here_near w here) in
        let held_then = own_held x y far new s t h (with_hot w) (v + 1) memory z.words a below c
        (hot_same w here) read
        ∙ ap (held (v + 1)) (write_bytes (contents_at x h) z.words at
        (len_of w) bytes z.write inside
        (omega (arith, words))) in
        record {
          own = subst (λ (n : Now). IsMapCall far.first handles far.made (Some h)
              (Write name at bytes) r n (now t new h)) (sym before)
              (subst (IsMapCall far.first handles far.made (Some h) (Write name at bytes) r
              (held v old)) (sym held_then)
              (write_by v at old bytes far.first handles far.made (Some h) name r
              (omega (arith, inside, count)) reply));
          others = λ k off. others_hold x y far new s t h (len_of w) (place_of w) (with_hot w)
              (v + 1)
              k memory a (keeps_same far new same) lies c
              (put_beside x.memory z.words (place_of w) (len_of w) sized) off;
          counted = omega (
            arith,
            ap (λ (g : FarState). g.made) same,
            ap (λ (e : Reply). made_by (event_of (Write name at bytes) e)) reply,
          );
        }

    by : state_of w ≡ state.Here
        → r ≡ (if nat_lt (len_of w) (at + length bytes) then answer.Range (len_of w) else
        change_reply w v)
        → (len_of w < at + length bytes) ⊎ (at + length bytes ≤ len_of w)
        → IsCallOn handles s t far new h (Write name at bytes) r
    by here reply (inl past) =
        let is : r ≡ answer.Range (len_of w) = reply
        ∙ ap (λ (b : Bool). if b then answer.Range (len_of w) else change_reply w v)
        (lt-ltb (len_of w) (at + length bytes) past) in
        let before = near_held x far s h a.before below (here_near w here) in
        stays_call x y far new s t h handles (Write name at bytes) r (FindsEnd at bytes
        (len_of w)) a
        (subst (λ (q : Reply). WriteChange q x y h at bytes) is step.change, same)
        (ap (event_of (Write name at bytes)) is) refl
        (subst (λ (n : Now). IsMapCall far.first handles far.made (Some h)
        (Write name at bytes) r n n)
        (sym before)
        (map_same far.first handles far.made (Some h) (Write name at bytes) r (held v old)
        (FindsEnd at bytes (len_of w)) (ap (event_of (Write name at bytes)) is) refl
        (end_by v at (len_of w) far.first handles far.made old bytes (Some h) count past)))
    by here reply (inr inside) =
        change_call (λ q. WriteChange q x y h at bytes) x y far new s t h handles
        (Write name at bytes) r a below (on_write name at bytes) here (λ e. (e, same))
        (λ e. (e, same))
        (reply ∙ ap (λ (b : Bool). if b then answer.Range (len_of w) else change_reply w v)
        (le-ltb (len_of w) (at + length bytes) inside))
        step.change (wrote here inside)
