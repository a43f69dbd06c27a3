-- Over a still desk a make is the map's, and every other object holds what it held.
use Rattle.std.proofs.Common.{◌≡◌, ◌≢◌, ℕ, ◌+◌, ◌%◌, ◌<◌, ◌≤◌, List, Some, None, length, get_or, sym, refl, ap, ◌∙◌, subst, arith, inl, inr, length-set, get_or-set_same, get_or-set_other}
use Rattle.cb_ptr.specs.Word.{len_of, place_of}
use Rattle.cb_types.specs.declared.request.Request.TheVariants.{Make}
use Rattle.cb_types.specs.declared.handle.Handle.{Handle}
use Rattle.cb_types.specs.declared.reply.Reply.{Reply}
use Rattle.cb_types.specs.declared.reply.Reply.TheVariants as answer
use Rattle.cb_model.specs.declared.object.Object.TheVariants.{Held, Freed}
use Rattle.cb_model.specs.Now.{MapNow}
use Rattle.cb_model.specs.Event.{event_of, change_of}
use Rattle.cb_model.specs.Replies.{MapReplies}
use Rattle.cb_model.specs.Called.{made_by}
use Rattle.cb_world.specs.declared.shown.Shown.{Shown}
use Rattle.cb_world.specs.Memory.{window, put, words_for, bytes_in}
use Rattle.cb_world.specs.Shown.{object_at}
use Rattle.cb_world.specs.Plain.{Words}
use Rattle.cb_world.specs.FarState.{FarState}
use Rattle.cb_world.specs.LocalSound.{LiesAt}
use Rattle.cb_world.specs.Placed.{place_in}
use Rattle.cb_world.specs.Now.{Now, is_gone, now_as, now}
use Rattle.cb_world.specs.Now.Now.{never, held}
use Rattle.cb_world.specs.World.{word_at}
use Rattle.cb_world.specs.StillWords.{stamp_at, contents_at}
use Rattle.cb_world.proofs.Laws.{window_put, KeepsBeside, put_beside, KeepsAway, near_object, near_now, now_by_words, near_lies, contents_beside}
use Rattle.cb_mutate.specs.MakeRule.{new_word}
use Rattle.cb_mutate.specs.MakeStep.{IsMakeStep, IsNewObject}
use Rattle.cb_mutate.specs.MapCalls.{IsValue, value_after, IsMapCall, IsCallOn, IsMakeCall}
use Rattle.cb_mutate.proofs.MapReplies.{AreKnownBoth, ChangesAt, now_stays, in_range}
use Rattle.cb_mutate.proofs.ChangedObject.{stamped}

new_near : (len place : ℕ) → 2 ≤ new_word len place % 4
new_near len place = omega arith

-- a new object, as the map makes it
make_by : (first handles made : ℕ) (bytes name : List ℕ) (r : Reply) → made < handles
    → r ≡ answer.Made (record { n = made }) first
    → IsMapCall first handles made (Some made) (Make name bytes) r never (held first bytes)
make_by first handles made bytes name r more is =
    subst (λ (q : Reply). IsMapCall first handles made (Some made) (Make name bytes) q never
    (held first bytes)) (sym is) (record { reply = reply; value = value })
  where
    handle : Handle
    handle = record { n = made }

    reply : (m : MapNow) → IsValue m never → MapReplies first handles made (Some made) m
        (event_of (Make name bytes) (answer.Made handle first))
    reply m i = (refl, more, refl)

    value : (m : MapNow) → IsValue m never
        → IsValue (value_after m (event_of (Make name bytes) (answer.Made handle first)))
        (held first bytes)
    value None i = (refl, refl)
    value (Some (Freed u)) i = absurd i
    value (Some (Held u b)) i = absurd i

made_away : (x y : Words) (far new : FarState) (bytes : List ℕ) → IsNewObject x y far new bytes
    → KeepsAway far new
made_away x y far new bytes z = subst (KeepsAway far) (sym z.state) (record {
  sets = refl;
  homes = refl;
  nodes = refl;
  members = refl;
  leaving = refl;
  joining = refl;
  counts = refl;
  survey = refl;
})

made_call : (x y : Words) (far new : FarState) (s t : Shown) (bytes name : List ℕ) (r : Reply)
    → AreKnownBoth x y far new s t → far.made < x.settings.handles
    → r ≡ answer.Made (record { n = far.made }) far.first → IsNewObject x y far new bytes
    → IsCallOn x.settings.handles s t far new far.made (Make name bytes) r
made_call x y far new s t bytes name r a more is z = record {
  own = subst (λ (n : Now). IsMapCall far.first x.settings.handles far.made (Some h)
      (Make name bytes)
      r n (now t new h)) (sym before)
      (subst (IsMapCall far.first x.settings.handles far.made (Some h) (Make name bytes) r never)
      (sym after) (make_by far.first x.settings.handles far.made bytes name r more is));
  others = others;
  counted = ap (λ (g : FarState). g.made) z.state
      ∙ sym (ap (λ (e : Reply). far.made + made_by (event_of (Make name bytes) e)) is);
}
  where
    h : ℕ
    h = far.made

    len : ℕ
    len = length bytes

    place : ℕ
    place = place_in z.slot

    w : ℕ
    w = new_word len place

    memory : List ℕ
    memory = put x.memory place z.words

    below : h < length x.words
    below = omega (arith, more, a.before.sized.words)

    c : ChangesAt x y h w far.first memory
    c = record {
      words = ap (λ (u : Words). u.words) z.left;
      versions = ap (λ (u : Words). u.versions) z.left;
      stored = ap (λ (u : Words). u.memory) z.left;
    }

    count : length y.words ≡ length x.words
    count = ap (λ (l : List ℕ). length l) c.words ∙ length-set x.words h w

    word : word_at y h ≡ w
    word = ap (λ (l : List ℕ). get_or l h 0) c.words ∙ get_or-set_same x.words h w 0 below

    stamp : stamp_at y h ≡ far.first
    stamp = ap (λ (l : List ℕ). get_or l h 0) c.versions
        ∙ get_or-set_same x.versions h far.first 0 (stamped x far s h a.before below)

    near : 2 ≤ word_at y h % 4
    near = subst (λ (n : ℕ). 2 ≤ n % 4) (sym word) (new_near len place)

    len_is : len_of (word_at y h) ≡ len
    len_is = ap len_of word ∙ z.names_length

    place_is : place_of (word_at y h) ≡ place
    place_is = ap place_of word ∙ z.names_place

    read : contents_at y h ≡ z.words
    read = (λ i. window (c.stored i) (place_is i) (words_for (len_is i)))
        ∙ ap (window memory place) (sym z.packed.count)
        ∙ window_put x.memory place z.words (omega (arith, z.within, z.packed.count))

    before : now s far h ≡ never
    before = ap (now_as s h (is_gone far h))
        ((a.before.sound.here.known.made h (omega (arith, below, a.before.shows.objects))).0
        (omega arith))

    after : now t new h ≡ held far.first bytes
    after = near_now y new t h a.afterwards.shows a.afterwards.sound (omega
        (arith, below, count)) near
        ∙ (λ i. held (stamp i) (bytes_in (read i) (len_is i)))
        ∙ ap (held far.first) z.packed.first_bytes

    lies : LiesAt (object_at t h) len place
    lies = subst (λ (n : ℕ). LiesAt (object_at t h) n place) len_is
        (subst (LiesAt (object_at t h) (len_of (word_at y h))) place_is
        (near_lies (object_at t h) (word_at y h)
        (near_object (object_at t h) (word_at y h)
        (a.afterwards.shows.fit h (omega (arith, below, count))) near)))

    back : KeepsBeside y.memory x.memory place len
    back p beside = sym (ap (λ (l : List ℕ). get_or l p 0) c.stored
        ∙ put_beside x.memory z.words place len z.packed.count p beside)

    others : (k : ℕ) → k ≢ h → now t new k ≡ now s far k
    others k off =
        let same : word_at y k ≡ word_at x k = ap (λ (l : List ℕ). get_or l k 0) c.words
        ∙ get_or-set_other x.words h k w 0 off in
        let stamps : stamp_at y k ≡ stamp_at x k = ap (λ (l : List ℕ). get_or l k 0) c.versions
        ∙ get_or-set_other x.versions h k far.first 0 off in
        now_by_words x y s t far new k a.before.shows a.before.sound a.afterwards.shows
        a.afterwards.sound (made_away x y far new bytes z) count same stamps (λ n.
        let there = subst (λ (v : ℕ). 2 ≤ v % 4) (sym same) n in
        sym (contents_beside y new t x.memory h len place k a.afterwards.shows
        a.afterwards.sound.here lies off (in_range y k there) there back)
        ∙ (λ i. window x.memory (place_of (same i)) (words_for (len_of (same i)))))

-- A make over a still desk is the map's.
pub make_call : (x y : Words) (far new : FarState) (s t : Shown) (bytes name : List ℕ) (r : Reply)
    → AreKnownBoth x y far new s t → IsMakeStep x y far new bytes r
    → IsMakeCall x.settings.handles s t far new (Make name bytes) r
make_call x y far new s t bytes name r a (inl (made, is, same, stays)) = inr (record {
  reply = λ m. subst (λ (q : Reply). MapReplies far.first x.settings.handles far.made None m
      (event_of (Make name bytes) q)) (sym is) (made, refl);
  silent = ap (λ (q : Reply). change_of (event_of (Make name bytes) q)) is;
  others = λ k. now_stays x y far new s t k a (same, stays);
  counted = omega (
    arith,
    ap (λ (g : FarState). g.made) stays,
    ap (λ (q : Reply). made_by (event_of (Make name bytes) q)) is,
  );
})
make_call x y far new s t bytes name r a (inr (more, inl (crammed, is, same, stays))) = inr
    (record {
      reply = λ m. subst (λ (q : Reply). MapReplies far.first x.settings.handles far.made None m
          (event_of (Make name bytes) q)) (sym is) more;
      silent = ap (λ (q : Reply). change_of (event_of (Make name bytes) q)) is;
      others = λ k. now_stays x y far new s t k a (same, stays);
      counted = omega (
        arith,
        ap (λ (g : FarState). g.made) stays,
        ap (λ (q : Reply). made_by (event_of (Make name bytes) q)) is,
      );
    })
make_call x y far new s t bytes name r a (inr (more, inr (is, z))) = inl (
  record { n = far.made },
  far.first,
  is,
  made_call x y far new s t bytes name r a more is z,
)
