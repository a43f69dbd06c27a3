-- Over a still desk a call on an object is the plain map's: the replies that all calls share.
use Rattle.std.proofs.Common.{◌≡◌, ◌≢◌, ◌⊎◌, ℕ, zero, suc, Bool, true, false, ◌+◌, ◌-◌, ◌%◌, ◌^◌, ◌<◌, ◌≤◌, List, [], Option, Some, None, length, get_or, set, sym, refl, ap, ◌∙◌, subst, arith, inl, inr, fold, if◌then◌else◌, eq-eqb, ne_eqb, length-set, get_or-set_other}
use Rattle.std.proofs.lemmas.Bool.{cases_lt, cases_eq}
use Rattle.std.proofs.lemmas.List.{get_or_past}
use Rattle.cb_ptr.specs.declared.word.State.{State}
use Rattle.cb_ptr.specs.declared.word.State.TheVariants as state
use Rattle.cb_ptr.specs.Word.{state_of, len_of, place_of, pins_of}
use Rattle.cb_types.specs.declared.request.Request.{Request}
use Rattle.cb_types.specs.declared.reply.Reply.{Reply}
use Rattle.cb_types.specs.declared.reply.Reply.TheVariants as answer
use Rattle.cb_model.specs.declared.object.Object.TheVariants.{Held, Freed}
use Rattle.cb_model.specs.Now.{MapNow, Change, changed}
use Rattle.cb_model.specs.Event.{Event, event_of, change_of}
use Rattle.cb_model.specs.Event.Subject.{Contents}
use Rattle.cb_model.specs.Event.Event.{FindsUnmade, FindsFreed, Refused}
use Rattle.cb_model.specs.Replies.{MapReplies}
use Rattle.cb_model.specs.Called.{made_by}
use Rattle.cb_world.specs.declared.object.Object.TheVariants as is
use Rattle.cb_world.specs.declared.shown.Shown.{Shown}
use Rattle.cb_world.specs.Memory.{window, words_for, bytes_in}
use Rattle.cb_world.specs.Shown.{object_at}
use Rattle.cb_world.specs.Plain.{Words, Shows}
use Rattle.cb_world.specs.FarState.{FarState}
use Rattle.cb_world.specs.LocalSound.{LiesAt}
use Rattle.cb_world.specs.Sound.{Sound}
use Rattle.cb_world.specs.Now.{Now, is_gone, now_as, now}
use Rattle.cb_world.specs.Now.Now.{never, freed, held, gone}
use Rattle.cb_world.specs.World.{word_at, IsKnown}
use Rattle.cb_world.specs.StillWords.{stamp_at, contents_at}
use Rattle.cb_world.proofs.Laws.{KeepsBeside, KeepsAway, bits, far_object, empty_value, empty_now, near_now, now_by_words, now_same, contents_beside}
use Rattle.cb_mutate.specs.StillReplies.{empty_reply, reply_as, next_reply, change_reply}
use Rattle.cb_mutate.specs.MapCalls.{IsValue, value_after, IsMapCall, IsCallOn}

-- an answer that changes nothing
pub map_same : (first handles made : ℕ) (handle : Option ℕ) (q : Request) (r : Reply) (n : Now)
    (e : Event) → event_of q r ≡ e → change_of e ≡ []
    → ((m : MapNow) → IsValue m n → MapReplies first handles made handle m e)
    → IsMapCall first handles made handle q r n n
map_same first handles made handle q r n e same none replies = record {
  reply = λ m i. subst (MapReplies first handles made handle m) (sym same) (replies m i);
  value = λ m i. subst (λ (z : Event). IsValue (value_after m z) n) (sym same)
      (subst (λ (l : List (ℕ × Change)). IsValue (fold changed m l) n) (sym none) i);
}

-- there is an object
abbrev pub IsObjectThere : Now → Type 0
IsObjectThere never = ⊥
IsObjectThere (freed v) = ⊥
IsObjectThere (held v bytes) = Unit {0}
IsObjectThere (gone v) = Unit {0}

pub refused_by : (n : Now) → IsObjectThere n
    → (first handles made : ℕ) (handle : Option ℕ) (m : MapNow)
    → IsValue m n → MapReplies first handles made handle m (Refused Contents)
refused_by never there first handles made handle m i = absurd there
refused_by (freed v) there first handles made handle m i = absurd there
refused_by (held v bytes) there first handles made handle None i = absurd i
refused_by (held v bytes) there first handles made handle (Some (Freed u)) i = absurd i
refused_by (held v bytes) there first handles made handle (Some (Held u b)) i = tt
refused_by (gone v) there first handles made handle None i = absurd i
refused_by (gone v) there first handles made handle (Some (Freed u)) i = absurd i
refused_by (gone v) there first handles made handle (Some (Held u b)) i = tt

unmade_by : (first handles made : ℕ) (handle : Option ℕ) (m : MapNow) → IsValue m never
    → MapReplies first handles made handle m FindsUnmade
unmade_by first handles made handle None i = tt
unmade_by first handles made handle (Some (Freed u)) i = absurd i
unmade_by first handles made handle (Some (Held u b)) i = absurd i

freed_by : (v first handles made : ℕ) (handle : Option ℕ) (m : MapNow) → IsValue m (freed v)
    → MapReplies first handles made handle m FindsFreed
freed_by v first handles made handle None i = absurd i
freed_by v first handles made handle (Some (Freed u)) i = tt
freed_by v first handles made handle (Some (Held u b)) i = absurd i

-- The request is about the contents of an object: what its refusals tell of the map.
pub record IsOnContents (q : Request) : Type 0 where
  pub unmade : event_of q answer.Unmade ≡ FindsUnmade
  pub freed : event_of q answer.Freed ≡ FindsFreed
  pub not_here : event_of q answer.NotHere ≡ Refused Contents
  pub moving : event_of q answer.Moving ≡ Refused Contents
  pub pinned : (count : ℕ) → event_of q (answer.Pinned count) ≡ Refused Contents
  pub worn : event_of q answer.Worn ≡ Refused Contents

-- All is known of the desk before and after.
pub record AreKnownBoth (x y : Words) (far new : FarState) (s t : Shown) : Type 0 where
  pub before : IsKnown x far s
  pub afterwards : IsKnown y new t

-- nothing changed
abbrev pub NothingChanged : Words → Words → FarState → FarState → Type 0
NothingChanged x y far new = (y ≡ x) × (new ≡ far)

pub now_stays : (x y : Words) (far new : FarState) (s t : Shown) (k : ℕ)
    → AreKnownBoth x y far new s t → NothingChanged x y far new → now t new k ≡ now s far k
now_stays x y far new s t k a e =
    subst (λ (g : FarState). Sound t g → now t g k ≡ now s far k) (sym e.1)
    (λ sound. now_same x s t far k a.before.shows a.before.sound
    (subst (λ (z : Words). Shows z t) e.0 a.afterwards.shows) sound)
    a.afterwards.sound

-- a call that left all as it was
pub stays_call : (x y : Words) (far new : FarState) (s t : Shown) (h handles : ℕ) (q : Request)
    (r : Reply) (e : Event) → AreKnownBoth x y far new s t → NothingChanged x y far new
    → event_of q r ≡ e → made_by e ≡ 0
    → IsMapCall far.first handles far.made (Some h) q r (now s far h) (now s far h)
    → IsCallOn handles s t far new h q r
stays_call x y far new s t h handles q r v a e event none own = record {
  own = subst (IsMapCall far.first handles far.made (Some h) q r (now s far h))
      (sym (now_stays x y far new s t h a e)) own;
  others = λ k off. now_stays x y far new s t k a e;
  counted = omega (arith, ap (λ (g : FarState). g.made) e.1, ap made_by event, none);
}

-- an object that is there, and a refusal that the map does not give
pub refused_call : (x y : Words) (far new : FarState) (s t : Shown) (h handles : ℕ) (q : Request)
    (r : Reply) → AreKnownBoth x y far new s t → NothingChanged x y far new
    → IsObjectThere (now s far h)
    → event_of q r ≡ Refused Contents → IsCallOn handles s t far new h q r
refused_call x y far new s t h handles q r a e there same =
    stays_call x y far new s t h handles q r (Refused Contents) a e same refl
    (map_same far.first handles far.made (Some h) q r (now s far h) (Refused Contents) same refl
    (refused_by (now s far h) there far.first handles far.made (Some h)))

pub far_there : (x : Words) (far : FarState) (s : Shown) (h : ℕ) → IsKnown x far s
    → h < length x.words → state_of (word_at x h) ≡ state.Far → IsObjectThere (now s far h)
far_there x far s h k below e =
    let o = far_object (object_at s h) (word_at x h) (k.shows.fit h below) e in
    subst IsObjectThere (sym (ap (now_as s h (is_gone far h)) o.2))
    (by (is_gone far h) o.0 (len_of (word_at x h)) o.1)
  where
    by : (lost : Bool) (v len : ℕ) (words : List ℕ)
        → IsObjectThere (now_as s h lost (is.Far len v words))
    by true v len words = tt
    by false v len words = tt

-- an object whose word is here or moving is held
pub near_held : (x : Words) (far : FarState) (s : Shown) (h : ℕ) → IsKnown x far s
    → h < length x.words → 2 ≤ word_at x h % 4
    → now s far h ≡ held (stamp_at x h) (bytes_in (contents_at x h) (len_of (word_at x h)))
near_held x far s h k below near = near_now x far s h k.shows k.sound below near

pub here_near : (w : ℕ) → state_of w ≡ state.Here → 2 ≤ w % 4
here_near w e = let b = bits w state.Here e in omega (arith, b)

pub moving_near : (w : ℕ) → state_of w ≡ state.Moving → 2 ≤ w % 4
moving_near w e = let b = bits w state.Moving e in omega (arith, b)

-- what is left by the refusals of an object that is not here: all as it was
pub record LeavesAll (C : Reply → Type 0) (x y : Words) (far new : FarState) : Type 0 where
  pub unmade : C answer.Unmade → NothingChanged x y far new
  pub freed : C answer.Freed → NothingChanged x y far new
  pub not_here : C answer.NotHere → NothingChanged x y far new
  pub moving : C answer.Moving → NothingChanged x y far new

-- a call whose reply is by the state of the object's word
pub call_by_state : (C : Reply → Type 0) (x y : Words) (far new : FarState) (s t : Shown)
    (h handles : ℕ) (q : Request) (r here : Reply) → AreKnownBoth x y far new s t
    → h < length x.words → IsOnContents q → LeavesAll C x y far new
    → r ≡ reply_as (state_of (word_at x h)) (stamp_at x h) here → C r
    → (state_of (word_at x h) ≡ state.Here → r ≡ here → IsCallOn handles s t far new h q r)
    → IsCallOn handles s t far new h q r
call_by_state C x y far new s t h handles q r here a below on leaves reply change at =
    by (state_of (word_at x h)) refl
  where
    w : ℕ
    w = word_at x h

    empty : (v : ℕ) → stamp_at x h ≡ v → state_of w ≡ state.Empty → r ≡ empty_reply v
        → IsCallOn handles s t far new h q r
    empty zero stamp e is =
        let before = empty_now x far s h a.before.shows a.before.sound below e
        ∙ ap empty_value stamp in
        stays_call x y far new s t h handles q r FindsUnmade a (leaves.unmade (subst C is change))
        (ap (event_of q) is ∙ on.unmade) refl
        (subst (λ (n : Now). IsMapCall far.first handles far.made (Some h) q r n n) (sym before)
        (map_same far.first handles far.made (Some h) q r never FindsUnmade
        (ap (event_of q) is ∙ on.unmade) refl (unmade_by far.first handles far.made (Some h))))
    empty (suc v) stamp e is =
        let before = empty_now x far s h a.before.shows a.before.sound below e
        ∙ ap empty_value stamp in
        stays_call x y far new s t h handles q r FindsFreed a (leaves.freed (subst C is change))
        (ap (event_of q) is ∙ on.freed) refl
        (subst (λ (n : Now). IsMapCall far.first handles far.made (Some h) q r n n) (sym before)
        (map_same far.first handles far.made (Some h) q r (freed (suc v)) FindsFreed
        (ap (event_of q) is ∙ on.freed) refl (freed_by (suc v) far.first handles far.made
        (Some h))))

    by : (z : State) → state_of w ≡ z → IsCallOn handles s t far new h q r
    by state.Empty e = empty (stamp_at x h) refl e
        (reply ∙ ap (λ (z : State). reply_as z (stamp_at x h) here) e)
    by state.Far e =
        let is : r ≡ answer.NotHere =
        reply ∙ ap (λ (z : State). reply_as z (stamp_at x h) here) e in
        refused_call x y far new s t h handles q r a (leaves.not_here (subst C is change))
        (far_there x far s h a.before below e) (ap (event_of q) is ∙ on.not_here)
    by state.Here e = at e (reply ∙ ap (λ (z : State). reply_as z (stamp_at x h) here) e)
    by state.Moving e =
        let is : r ≡ answer.Moving =
        reply ∙ ap (λ (z : State). reply_as z (stamp_at x h) here) e in
        refused_call x y far new s t h handles q r a (leaves.moving (subst C is change))
        (subst IsObjectThere (sym (near_held x far s h a.before below (moving_near w e))) tt)
        (ap (event_of q) is ∙ on.moving)

-- a call that changes an object that is here, where it has no pins and a next version
pub change_call : (C : Reply → Type 0) (x y : Words) (far new : FarState) (s t : Shown)
    (h handles : ℕ) (q : Request) (r : Reply) → AreKnownBoth x y far new s t → h < length x.words
    → IsOnContents q → state_of (word_at x h) ≡ state.Here
    → (C (answer.Pinned (pins_of (word_at x h))) → NothingChanged x y far new)
    → (C answer.Worn → NothingChanged x y far new)
    → r ≡ change_reply (word_at x h) (stamp_at x h) → C r
    → (r ≡ answer.Version (stamp_at x h + 1) → IsCallOn handles s t far new h q r)
    → IsCallOn handles s t far new h q r
change_call C x y far new s t h handles q r a below on here pinned worn reply change at =
    by (cases_eq (pins_of w) 0) (cases_eq v (2 ^ 64 - 1))
  where
    w : ℕ
    w = word_at x h

    v : ℕ
    v = stamp_at x h

    there : IsObjectThere (now s far h)
    there = subst IsObjectThere (sym (near_held x far s h a.before below (here_near w here))) tt

    unpinned : pins_of w ≡ 0 → r ≡ next_reply v
    unpinned none = reply ∙ ap (λ (b : Bool). if b then next_reply v else answer.Pinned (pins_of w))
        (eq-eqb (pins_of w) 0 none)

    by : (pins_of w ≡ 0) ⊎ (pins_of w ≢ 0) → (v ≡ 2 ^ 64 - 1) ⊎ (v ≢ 2 ^ 64 - 1)
        → IsCallOn handles s t far new h q r
    by (inr some) last =
        let is : r ≡ answer.Pinned (pins_of w) =
        reply ∙ ap (λ (b : Bool). if b then next_reply v else answer.Pinned (pins_of w))
        (ne_eqb (pins_of w) 0 some) in
        refused_call x y far new s t h handles q r a (pinned (subst C is change)) there
        (ap (event_of q) is ∙ on.pinned (pins_of w))
    by (inl none) (inl last) =
        let is : r ≡ answer.Worn = unpinned none
        ∙ ap (λ (b : Bool). if b then answer.Worn else answer.Version (v + 1))
        (eq-eqb v (2 ^ 64 - 1) last) in
        refused_call x y far new s t h handles q r a (worn (subst C is change)) there
        (ap (event_of q) is ∙ on.worn)
    by (inl none) (inr more) = at (unpinned none
        ∙ ap (λ (b : Bool). if b then answer.Worn else answer.Version (v + 1))
        (ne_eqb v (2 ^ 64 - 1) more))

-- The desk changed at one object alone: its pointer word, its version word, and memory words.
pub record ChangesAt (x y : Words) (h w v : ℕ) (memory : List ℕ) : Type 0 where
  pub words : y.words ≡ set x.words h w
  pub versions : y.versions ≡ set x.versions h v
  pub stored : y.memory ≡ memory

pub in_range : (x : Words) (k : ℕ) → 2 ≤ word_at x k % 4 → k < length x.words
in_range x k near = elim (cases_lt k (length x.words)) [
  | inl below ↦ below
  | inr past ↦ absurd (let z : word_at x k ≡ 0 = get_or_past x.words k 0 past in
      omega (arith, near, z))
]

-- what every other object holds
pub others_hold : (x y : Words) (far new : FarState) (s t : Shown) (h len place w v k : ℕ)
    (memory : List ℕ) → AreKnownBoth x y far new s t → KeepsAway far new
    → LiesAt (object_at s h) len place → ChangesAt x y h w v memory
    → KeepsBeside x.memory memory place len → k ≢ h → now t new k ≡ now s far k
others_hold x y far new s t h len place w v k memory a away lies c keeps off =
    let word : word_at y k ≡ word_at x k = ap (λ (l : List ℕ). get_or l k 0) c.words
    ∙ get_or-set_other x.words h k w 0 off in
    let stamp : stamp_at y k ≡ stamp_at x k = ap (λ (l : List ℕ). get_or l k 0) c.versions
    ∙ get_or-set_other x.versions h k v 0 off in
    now_by_words x y s t far new k a.before.shows a.before.sound a.afterwards.shows
    a.afterwards.sound away
    (ap (λ (l : List ℕ). length l) c.words ∙ length-set x.words h w) word stamp (λ near.
    (λ i. window (c.stored i) (place_of (word i)) (words_for (len_of (word i))))
    ∙ contents_beside x far s memory h len place k a.before.shows a.before.sound.here lies off
    (in_range x k near) near keeps)
