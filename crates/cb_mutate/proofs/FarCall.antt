-- A free of a far object over a still desk is the plain map's.
use Rattle.std.proofs.Common.{◌≡◌, ◌≢◌, ◌⊎◌, ℕ, suc, Bool, true, false, ◌+◌, ◌-◌, ◌^◌, ◌<◌, List, Option, Some, None, length, get_or, set, sym, refl, ap, ◌∙◌, subst, arith, inl, inr, if◌then◌else◌, eq-eqb, ne_eqb, length-set, get_or-set_same, get_or-set_other}
use Rattle.std.proofs.lemmas.Bool.{cases_eq}
use Rattle.cb_ptr.specs.declared.word.State.TheVariants as state
use Rattle.cb_ptr.specs.Word.{state_of, len_of, hot_of}
use Rattle.cb_types.specs.declared.request.Request.TheVariants.{Free}
use Rattle.cb_types.specs.declared.reply.Reply.{Reply}
use Rattle.cb_types.specs.declared.reply.Reply.TheVariants as answer
use Rattle.cb_model.specs.declared.object.Object.TheVariants.{Held, Freed}
use Rattle.cb_model.specs.Now.{MapNow}
use Rattle.cb_model.specs.Event.{event_of}
use Rattle.cb_model.specs.Replies.{MapReplies}
use Rattle.cb_model.specs.Called.{made_by}
use Rattle.cb_world.specs.declared.object.Object.{Object}
use Rattle.cb_world.specs.declared.object.Object.TheVariants as is
use Rattle.cb_world.specs.declared.shown.Shown.{Shown}
use Rattle.cb_world.specs.Memory.{bytes_in}
use Rattle.cb_world.specs.Shown.{Fits, object_at, never}
use Rattle.cb_world.specs.Plain.{Words, Shows}
use Rattle.cb_world.specs.FarState.{FarState}
use Rattle.cb_world.specs.LocalSound.{IsStamped}
use Rattle.cb_world.specs.Sound.{Sound}
use Rattle.cb_world.specs.Now.{Now, is_gone, now_as, now}
use Rattle.cb_world.specs.Now.Now.{freed, held, gone}
use Rattle.cb_world.specs.World.{word_at, IsKnown}
use Rattle.cb_world.specs.StillWords.{stamp_at}
use Rattle.cb_world.proofs.Laws.{IsFarFreed, sound_far_gone, now_far_gone, empty_value, empty_now, far_object, now_same}
use Rattle.cb_mutate.specs.FreeRule.{IsRemoved, LeavesPlace}
use Rattle.cb_mutate.specs.FreeEnds.{with_emptied}
use Rattle.cb_mutate.specs.StillReplies.{next_reply, change_reply, free_as}
use Rattle.cb_mutate.specs.CallStep.{FreeChange, IsTakenOut, IsFreeStep, with_freed}
use Rattle.cb_mutate.specs.MapCalls.{IsValue, value_after, IsMapCall, IsCallOn}
use Rattle.cb_mutate.proofs.MapReplies.{AreKnownBoth, IsOnContents, far_there, refused_call}
use Rattle.cb_mutate.proofs.ChangedObject.{stamped}

-- what is known of a far object
record IsFarAt (x : Words) (s : Shown) (h : ℕ) : Type 0 where
  pub len : ℕ
  pub words : List ℕ
  pub away : object_at s h ≡ is.Far len (stamp_at x h) words

far_at : (x : Words) (far : FarState) (s : Shown) (h : ℕ) → IsKnown x far s → h < length x.words
    → state_of (word_at x h) ≡ state.Far → IsFarAt x s h
far_at x far s h k below e =
    let o = far_object (object_at s h) (word_at x h) (k.shows.fit h below) e in
    let stamp : o.0 ≡ stamp_at x h =
    sym (subst (λ (p : Object). IsStamped p (get_or s.versions h 0)) o.2
    (k.sound.here.known.stamped h))
    ∙ ap (λ (l : List ℕ). get_or l h 0) k.shows.versions in
    record {
      len = len_of (word_at x h);
      words = o.1;
      away = o.2 ∙ ap (λ (v : ℕ). is.Far (len_of (word_at x h)) v o.1) stamp;
    }

-- the words after the free show the object empty
empty_shows : (x : Words) (far : FarState) (s : Shown) (h v : ℕ) → IsKnown x far s
    → h < length x.words → Shows (with_freed x h (v + 1)) (with_emptied s h v)
empty_shows x far s h v k below = record {
  objects = length-set s.objects h (is.Empty (v + 1)) ∙ k.shows.objects ∙ sym (length-set x.words h 0);
  versions = ap (λ (l : List ℕ). set l h (v + 1)) k.shows.versions;
  hots = length-set s.hots h false ∙ k.shows.hots ∙ sym (length-set x.words h 0);
  hot = λ j inside hot. heated j (omega (arith, inside, length-set x.words h 0)) (cases_eq j h) hot;
  memory = k.shows.memory;
  fit = λ j inside. fitted j (omega (arith, inside, length-set x.words h 0)) (cases_eq j h);
}
  where
    false_true : (b : Bool) → b ≡ false → b ≡ true → ⊥
    false_true b e f = cc

    heated : (j : ℕ) → j < length x.words → (j ≡ h) ⊎ (j ≢ h)
        → get_or (set s.hots h false) j false ≡ true
        → hot_of (get_or (set x.words h 0) j 0) ≡ true
    heated j inside (inl same) hot = absurd (false_true (get_or (set s.hots h false) j false)
        (ap (λ (i : ℕ). get_or (set s.hots h false) i false) same
        ∙ get_or-set_same s.hots h false false (omega (arith, below, k.shows.hots))) hot)
    heated j inside (inr off) hot = ap hot_of (get_or-set_other x.words h j 0 0 off)
        ∙ k.shows.hot j inside (sym (get_or-set_other s.hots h j false false off) ∙ hot)

    fitted : (j : ℕ) → j < length x.words → (j ≡ h) ⊎ (j ≢ h)
        → Fits (get_or (set s.objects h (is.Empty (v + 1))) j never) (get_or (set x.words h 0) j 0)
    fitted j inside (inl same) =
        subst (λ (i : ℕ). Fits (get_or (set s.objects h (is.Empty (v + 1))) i never)
        (get_or (set x.words h 0) i 0)) (sym same)
        (subst (λ (o : Object). Fits o (get_or (set x.words h 0) h 0))
        (sym (get_or-set_same s.objects h (is.Empty (v + 1)) never
        (omega (arith, below, k.shows.objects))))
        (subst (λ (w : ℕ). Fits (is.Empty (v + 1)) w)
        (sym (get_or-set_same x.words h 0 0 below)) refl))
    fitted j inside (inr off) =
        subst (λ (o : Object). Fits o (get_or (set x.words h 0) j 0))
        (sym (get_or-set_other s.objects h j (is.Empty (v + 1)) never off))
        (subst (λ (w : ℕ). Fits (object_at s j) w) (sym (get_or-set_other x.words h j 0 0 off))
        (k.shows.fit j inside))

-- a free of an object whose set is broken, as the map does it
lost_by : (v : ℕ) (first handles made : ℕ) (handle : Option ℕ) (name : List ℕ) (r : Reply)
    → r ≡ answer.Version (v + 1)
    → IsMapCall first handles made handle (Free name) r (gone v) (freed (v + 1))
lost_by v first handles made handle name r is =
    subst (λ (q : Reply). IsMapCall first handles made handle (Free name) q (gone v)
    (freed (v + 1))) (sym is) (record { reply = reply; value = value })
  where
    reply : (m : MapNow) → IsValue m (gone v)
        → MapReplies first handles made handle m (event_of (Free name) (answer.Version (v + 1)))
    reply None i = absurd i
    reply (Some (Freed u)) i = absurd i
    reply (Some (Held u b)) i = ap (λ (n : ℕ). n + 1) i

    value : (m : MapNow) → IsValue m (gone v)
        → IsValue (value_after m (event_of (Free name) (answer.Version (v + 1)))) (freed (v + 1))
    value None i = absurd i
    value (Some (Freed u)) i = absurd i
    value (Some (Held u b)) i = refl

-- a free of an object that is held, as the map does it
pub free_by : (v : ℕ) (old : List ℕ) (first handles made : ℕ) (handle : Option ℕ) (name : List ℕ)
    (r : Reply) → r ≡ answer.Version (v + 1)
    → IsMapCall first handles made handle (Free name) r (held v old) (freed (v + 1))
free_by v old first handles made handle name r is =
    subst (λ (q : Reply). IsMapCall first handles made handle (Free name) q (held v old)
    (freed (v + 1))) (sym is) (record { reply = reply; value = value })
  where
    reply : (m : MapNow) → IsValue m (held v old)
        → MapReplies first handles made handle m (event_of (Free name) (answer.Version (v + 1)))
    reply None i = absurd i
    reply (Some (Freed u)) i = absurd i
    reply (Some (Held u b)) i = ap (λ (n : ℕ). n + 1) i.0

    value : (m : MapNow) → IsValue m (held v old)
        → IsValue (value_after m (event_of (Free name) (answer.Version (v + 1)))) (freed (v + 1))
    value None i = absurd i
    value (Some (Freed u)) i = absurd i
    value (Some (Held u b)) i = refl

-- of a far object, held or gone
away_by : (s : Shown) (h len v : ℕ) (words : List ℕ) (first handles made : ℕ) (handle : Option ℕ)
    (name : List ℕ) (r : Reply) (lost : Bool) → r ≡ answer.Version (v + 1)
    → IsMapCall first handles made handle (Free name) r (now_as s h lost (is.Far len v words))
    (freed (v + 1))
away_by s h len v words first handles made handle name r true is =
    lost_by v first handles made handle name r is
away_by s h len v words first handles made handle name r false is =
    free_by v (bytes_in words len) first handles made handle name r is

-- an object with an empty word and a next version is freed
pub freed_then : (x y : Words) (far new : FarState) (s t : Shown) (h v : ℕ)
    → AreKnownBoth x y far new s t → h < length x.words → y ≡ with_freed x h (v + 1)
    → now t new h ≡ freed (v + 1)
freed_then x y far new s t h v a below left =
    let word : word_at y h ≡ 0 = ap (λ (z : Words). word_at z h) left
    ∙ get_or-set_same x.words h 0 0 below in
    let stamp : stamp_at y h ≡ v + 1 = ap (λ (z : Words). stamp_at z h) left
    ∙ get_or-set_same x.versions h (v + 1) 0 (stamped x far s h a.before below) in
    let next : v + 1 ≡ suc v = omega arith in
    empty_now y new t h a.afterwards.shows a.afterwards.sound
    (omega (arith, below, ap (λ (z : Words). length z.words) left, length-set x.words h 0))
    (ap state_of word) ∙ ap empty_value (stamp ∙ next) ∙ ap freed (sym next)

-- every other object holds what it held
others_far : (x y : Words) (far new : FarState) (s t : Shown) (h k : ℕ)
    → AreKnownBoth x y far new s t → h < length x.words → state_of (word_at x h) ≡ state.Far
    → y ≡ with_freed x h (stamp_at x h + 1) → IsRemoved far new h → k ≢ h
    → now t new k ≡ now s far k
others_far x y far new s t h k a below away left z off =
    let o = far_at x far s h a.before below away in let v = stamp_at x h in
    let c : IsFarFreed s (with_emptied s h v) far h o.len v o.words z.home z.set = record {
      sound = a.before.sound;
      away = o.away;
      lies = z.lies;
      freed = record { first = refl; objects = refl; versions = refl; memory = refl };
      memory = refl;
      range = omega (arith, below, a.before.shows.objects);
      stamp = omega (
        arith,
        stamped x far s h a.before below,
        ap (λ (l : List ℕ). length l) a.before.shows.versions,
      );
    } in
    let shows = subst (λ (q : Words). Shows q (with_emptied s h v)) (sym left)
    (empty_shows x far s h v a.before below) in
    let sound = subst (Sound (with_emptied s h v)) (sym z.left)
    (sound_far_gone s (with_emptied s h v) far h o.len v o.words z.home z.set c) in
    now_same y (with_emptied s h v) t new k shows sound a.afterwards.shows a.afterwards.sound
    ∙ ap (λ (f : FarState). now (with_emptied s h v) f k) z.left
    ∙ now_far_gone s (with_emptied s h v) far h o.len v o.words z.home z.set c k off

-- A free of a far object over a still desk is the map's.
pub far_call : (x y : Words) (far new : FarState) (s t : Shown) (h handles : ℕ) (name : List ℕ)
    (r : Reply) → AreKnownBoth x y far new s t → h < length x.words
    → IsOnContents (Free name) → state_of (word_at x h) ≡ state.Far
    → IsFreeStep x y far new h r → IsCallOn handles s t far new h (Free name) r
far_call x y far new s t h handles name r a below on away step = by (cases_eq v (2 ^ 64 - 1))
  where
    v : ℕ
    v = stamp_at x h

    reply : r ≡ next_reply v
    reply = step.reply ∙ ap (λ q. free_as q v (change_reply (word_at x h) v)) away

    by : (v ≡ 2 ^ 64 - 1) ⊎ (v ≢ 2 ^ 64 - 1) → IsCallOn handles s t far new h (Free name) r
    by (inl last) =
        let is : r ≡ answer.Worn = reply
        ∙ ap (λ (b : Bool). if b then answer.Worn else answer.Version (v + 1))
        (eq-eqb v (2 ^ 64 - 1) last) in
        refused_call x y far new s t h handles (Free name) r a
        (subst (λ (q : Reply). FreeChange q x y far new h) is step.change)
        (far_there x far s h a.before below away) (ap (event_of (Free name)) is ∙ on.worn)
    by (inr more) =
        let is : r ≡ answer.Version (v + 1) = reply
        ∙ ap (λ (b : Bool). if b then answer.Worn else answer.Version (v + 1))
        (ne_eqb v (2 ^ 64 - 1) more) in
        let z : IsTakenOut x y far new h (v + 1) =
        subst (λ (q : Reply). FreeChange q x y far new h) is step.change in
        let o = far_at x far s h a.before below away in
        record {
          own = subst (λ (n : Now). IsMapCall far.first handles far.made (Some h) (Free name) r
              (now s far h) n) (sym (freed_then x y far new s t h v a below z.left))
              (subst (λ (p : Object). IsMapCall far.first handles far.made (Some h) (Free name) r
              (now_as s h (is_gone far h) p) (freed (v + 1))) (sym o.away)
              (away_by s h o.len v o.words far.first handles far.made (Some h) name r
              (is_gone far h) is));
          others = λ k off. others_far x y far new s t h k a below away z.left
              (subst (λ q. LeavesPlace q far new h) away z.leaves) off;
          counted = omega (
            arith,
            ap (λ (g : FarState). g.made) (subst (λ q. LeavesPlace q far new h) away z.leaves).left,
            ap (λ (e : Reply). made_by (event_of (Free name) e)) is,
          );
        }
