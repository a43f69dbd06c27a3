-- The plain map stays beside the world: each call is answered as the map answers it after those
-- before.
use Rattle.std.proofs.Common.{◌≡◌, ◌≢◌, ◌⊎◌, ℕ, ◌+◌, Bool, List, [], ◌∷◌, ◌++◌, Option, Some, None, sym, refl, ap, ◌∙◌, subst, inl, inr, if◌then◌else◌, eq-eqb, ne_eqb, fold, zero, suc, ◌<◌, true, false, arith}
use native.Mathlib.Decide.{ℕ_discrete}
use Rattle.cb_types.specs.declared.request.Request.{Request}
use Rattle.cb_types.specs.declared.reply.Reply.{Reply}
use Rattle.cb_model.specs.Now.{MapNow, Change, changed}
use Rattle.cb_model.specs.Event.{Event, event_of, change_of}
use Rattle.cb_model.specs.Replies.{MapReplies}
use Rattle.cb_model.specs.Called.{Called, change_to, is_about, value, value_at, made_by, makes}
use Rattle.cb_model.proofs.Laws.{value-push, makes-push}
use Rattle.cb_world.specs.declared.shown.Shown.{Shown}
use Rattle.cb_world.specs.FarState.{FarState}
use Rattle.cb_world.specs.Now.{is_gone, now_as, now, Now}
use Rattle.cb_world.specs.Now.Now.{held, gone, never, freed}
use Rattle.cb_world.specs.Memory.{bytes_in}
use Rattle.cb_world.specs.declared.object.Object.TheVariants as is
use Rattle.cb_types.specs.declared.config.Config.{Config}
use Rattle.cb_model.specs.declared.object.Object.TheVariants.{Held, Freed}
use Rattle.cb_world.specs.Empty.{empty_far, empty_shown}
use Rattle.cb_world.proofs.Laws.{empty_never, BecomesGone}
use Rattle.cb_world.specs.declared.object.Object.{Object}
use Rattle.cb_world.specs.Shown.{object_at}
use Rattle.cb_world.specs.Sound.{Sound}
use Rattle.cb_model.specs.Event.Event.{Makes, Shows, Pins, Writes, Frees, FindsFull, FindsUnmade, FindsFreed, FindsEnd, Refused, Wrong}
use Rattle.cb_model.specs.Legal.{IsUnmadeRight, IsMapReply}
use Rattle.cb_mutate.specs.MapCalls.{IsValue, IsCallBetween, IsCallOn, IsRefusedBetween, IsRefusedMake}
use Rattle.cb_mutate.specs.MapBeside.{IsMapOf, IsMapBeside}

-- The answered call: what it was about, and what was answered.
pub record IsAnsweredCall (c : Called) (handle : Option ℕ) (request : Request) (r : Reply) : Type
    0 where
  pub about : c.handle ≡ handle
  pub event : c.event ≡ event_of request r

-- The reply is the map's after the calls before, and the map has afterwards what is told.
pub record FollowsOf (first handles : ℕ) (calls : List Called) (c : Called) (more : ℕ)
    (new : ℕ → Now) : Type 0 where
  pub reply : MapReplies first handles (makes calls) c.handle (value_at calls c.handle) c.event
  pub beside : IsMapOf (calls ++ c ∷ []) more new

-- the map stays beside the world
abbrev pub FollowsMap : ℕ → List Called → Called → Shown → FarState → FarState → Type 0
FollowsMap handles calls c t far new =
    FollowsOf far.first handles calls c new.made (λ k. now t new k)

-- what a call changes at the object that it is about, and at another
change_own : (c : Called) (h : ℕ) → c.handle ≡ Some h → change_to h c ≡ change_of c.event
change_own c h about =
    ap (λ (o : Option ℕ). if is_about h o then change_of c.event else []) about
    ∙ ap (λ (b : Bool). if b then change_of c.event else []) (eq-eqb h h refl)

change_other : (c : Called) (h k : ℕ) → c.handle ≡ Some h → k ≢ h → change_to k c ≡ []
change_other c h k about off =
    ap (λ (o : Option ℕ). if is_about k o then change_of c.event else []) about
    ∙ ap (λ (b : Bool). if b then change_of c.event else []) (ne_eqb k h off)

change_none : (c : Called) (k : ℕ) → c.handle ≡ None → change_to k c ≡ []
change_none c k about = ap (λ (o : Option ℕ). if is_about k o then change_of c.event else []) about

count_more : (calls : List Called) (c : Called) (count more : ℕ) → makes calls ≡ count
    → more ≡ count + made_by c.event → makes (calls ++ c ∷ []) ≡ more
count_more calls c count more made counted =
    makes-push calls c ∙ ap (λ (n : ℕ). n + made_by c.event) made ∙ sym counted

module _ (first handles count more : ℕ) (old new : ℕ → Now) (calls : List Called)
    (map : IsMapOf calls count old) where
  -- a call on an object
  pub between_follows : (c : Called) (h : ℕ) (q : Request) (r : Reply)
      → IsCallBetween first handles count more old new h q r → IsAnsweredCall c (Some h) q r
      → FollowsOf first handles calls c more new
  between_follows c h q r call told = record {
    reply = subst (λ (o : Option ℕ).
        MapReplies first handles (makes calls) o (value_at calls o) c.event) (sym told.about)
        (subst (λ (e : Event).
        MapReplies first handles (makes calls) (Some h) (value calls h) e) (sym told.event)
        (subst (λ (n : ℕ).
        MapReplies first handles n (Some h) (value calls h) (event_of q r)) (sym map.made)
        (call.own.reply (value calls h) (map.values h))));
    beside = record {
      made = count_more calls c count more map.made
          (call.counted ∙ ap (λ (e : Event). count + made_by e) (sym told.event));
      values = λ k. each k (ℕ_discrete k h);
    };
  }
    where
      each : (k : ℕ) → Dec (k ≡ h) → IsValue (value (calls ++ c ∷ []) k) (new k)
      each k (yes e) = subst (λ (i : ℕ). IsValue (value (calls ++ c ∷ []) i) (new i)) (sym e)
          (subst (λ (m : MapNow). IsValue m (new h)) (sym (value-push calls c h
          ∙ ap (λ (l : List (ℕ × Change)). fold changed (value calls h) l)
          (change_own c h told.about ∙ ap change_of told.event)))
          (call.own.value (value calls h) (map.values h)))
      each k (no off) = subst (λ (m : MapNow). IsValue m (new k)) (sym (value-push calls c k
          ∙ ap (λ (l : List (ℕ × Change)). fold changed (value calls k) l)
          (change_other c h k told.about off)))
          (subst (IsValue (value calls k)) (sym (call.others k off)) (map.values k))

  -- a make that made no object
  pub refused_between : (c : Called) (q : Request) (r : Reply)
      → IsRefusedBetween first handles count more old new q r → IsAnsweredCall c None q r
      → FollowsOf first handles calls c more new
  refused_between c q r call told = record {
    reply = subst (λ (o : Option ℕ).
        MapReplies first handles (makes calls) o (value_at calls o) c.event) (sym told.about)
        (subst (λ (e : Event). MapReplies first handles (makes calls) None None e)
        (sym told.event)
        (subst (λ (n : ℕ). MapReplies first handles n None None (event_of q r)) (sym map.made)
        (call.reply None)));
    beside = record {
      made = count_more calls c count more map.made
          (call.counted ∙ ap (λ (e : Event). count + made_by e) (sym told.event));
      values = λ k. subst (λ (m : MapNow). IsValue m (new k)) (sym (value-push calls c k
          ∙ ap (λ (l : List (ℕ × Change)). fold changed (value calls k) l)
          (change_none c k told.about)))
          (subst (IsValue (value calls k)) (sym (call.others k)) (map.values k));
    };
  }

  -- what leaves every object as it was, and makes none
  pub map_kept : more ≡ count → ((k : ℕ) → new k ≡ old k) → IsMapOf calls more new
  map_kept made same = record {
    made = map.made ∙ sym made;
    values = λ k. subst (IsValue (value calls k)) (sym (same k)) (map.values k);
  }

-- a call on an object of a world
pub call_follows : (handles : ℕ) (calls : List Called) (c : Called) (s t : Shown)
    (far new : FarState) (h : ℕ) (q : Request) (r : Reply) → IsMapBeside calls s far
    → IsCallOn handles s t far new h q r → IsAnsweredCall c (Some h) q r
    → FollowsMap handles calls c t far new
call_follows handles calls c s t far new h q r map call told =
    between_follows far.first handles far.made new.made (λ k. now s far k) (λ k. now t new k) calls
    map c h q r call told

-- a make in a world that made no object
pub refused_follows : (handles : ℕ) (calls : List Called) (c : Called) (s t : Shown)
    (far new : FarState) (q : Request) (r : Reply) → IsMapBeside calls s far
    → IsRefusedMake handles s t far new q r → IsAnsweredCall c None q r
    → FollowsMap handles calls c t far new
refused_follows handles calls c s t far new q r map call told =
    refused_between far.first handles far.made new.made (λ k. now s far k) (λ k. now t new k) calls
    map c q r call told

-- what leaves every object of a world as it was, and makes none
pub beside_kept : (calls : List Called) (s t : Shown) (far new : FarState)
    → IsMapBeside calls s far → new.made ≡ far.made → ((k : ℕ) → now t new k ≡ now s far k)
    → IsMapBeside calls t new
beside_kept calls s t far new map made same =
    map_kept 0 0 far.made new.made (λ k. now s far k) (λ k. now t new k) calls map made same

-- at first no object was made
pub empty_beside : (c : Config) → IsMapBeside [] (empty_shown 1 c) (empty_far 1 c)
empty_beside c = record {
  made = refl;
  values = λ h. subst (IsValue None) (sym (empty_never 1 c h)) tt;
}

-- of an object that was held the version alone is known once it is gone
lost_value : (m : MapNow) (v : ℕ) (bytes : List ℕ) → IsValue m (held v bytes) → IsValue m (gone v)
lost_value None v bytes i = absurd i
lost_value (Some (Freed u)) v bytes i = absurd i
lost_value (Some (Held u b)) v bytes i = i.0

-- a crash by which some objects are gone
pub beside_lost : (calls : List Called) (s : Shown) (far new : FarState) → IsMapBeside calls s far
    → new.made ≡ far.made
    → ((k : ℕ) → (now s new k ≡ now s far k) ⊎ BecomesGone s far new k) → IsMapBeside calls s new
beside_lost calls s far new map made each = record {
  made = map.made ∙ sym made;
  values = λ k. by k (each k);
}
  where
    by : (k : ℕ) → (now s new k ≡ now s far k) ⊎ BecomesGone s far new k
        → IsValue (value calls k) (now s new k)
    by k (inl same) = subst (IsValue (value calls k)) (sym same) (map.values k)
    by k (inr x) =
        let before : now s far k ≡ held x.version (bytes_in x.words x.len) =
        ap (now_as s k (is_gone far k)) x.away
        ∙ ap (λ (lost : Bool). now_as s k lost (is.Far x.len x.version x.words)) x.before in
        subst (IsValue (value calls k)) (sym x.now)
        (lost_value (value calls k) x.version (bytes_in x.words x.len)
        (subst (IsValue (value calls k)) before (map.values k)))

-- an object that was made is not answered as one that never was
pub was_made : (s : Shown) (far : FarState) (h : ℕ) → Sound s far → h < far.made
    → now s far h ≡ never → ⊥
was_made s far h sound more e = by (is_gone far h) (object_at s h) refl e
  where
    not_never : object_at s h ≡ is.Empty 0 → ⊥
    not_never o = let known = sound.here.known in
        let most = (known.made h (omega (arith, more, known.bounded))).1 o in omega
        (arith, more, most)

    by : (lost : Bool) (o : Object) → object_at s h ≡ o → now_as s h lost o ≡ never → ⊥
    by lost (is.Empty zero) same now_never = not_never same
    by lost (is.Empty (suc v)) same now_never = cc
    by true (is.Far len v words) same now_never = cc
    by false (is.Far len v words) same now_never = cc
    by lost (is.Here len place) same now_never = cc
    by lost (is.Claimed len place v words) same now_never = cc

never_told : (n : Now) → IsValue None n → n ≡ never
never_told never i = refl
never_told (freed v) i = absurd i
never_told (held v bytes) i = absurd i
never_told (gone v) i = absurd i

found_unmade : (first handles made : ℕ) (handle : Option ℕ) (m : MapNow)
    → MapReplies first handles made handle m FindsUnmade → m ≡ None
found_unmade first handles made handle None reply = refl
found_unmade first handles made handle (Some (Freed u)) reply = absurd reply
found_unmade first handles made handle (Some (Held u b)) reply = absurd reply

right_unmade : (handle : Option ℕ) (e : Event) → (e ≡ FindsUnmade → ⊥) → IsUnmadeRight handle e
right_unmade None e f = tt
right_unmade (Some h) (Makes bytes version) f = tt
right_unmade (Some h) (Shows version bytes) f = tt
right_unmade (Some h) (Pins version) f = tt
right_unmade (Some h) (Writes at bytes version) f = tt
right_unmade (Some h) (Frees version) f = tt
right_unmade (Some h) (FindsFull n) f = tt
right_unmade (Some h) FindsUnmade f = f refl
right_unmade (Some h) FindsFreed f = tt
right_unmade (Some h) (FindsEnd at bytes len) f = tt
right_unmade (Some h) (Refused subject) f = tt
right_unmade (Some h) Wrong f = tt

-- Of an object that was made, each call is answered the map's reply.
pub is_reply_of : (first handles count more : ℕ) (old new : ℕ → Now) (calls : List Called)
    (c : Called) (h : ℕ) → FollowsOf first handles calls c more new → IsMapOf calls count old
    → (old h ≡ never → ⊥) → c.handle ≡ Some h → IsMapReply first handles calls c
is_reply_of first handles count more old new calls c h follows map was about = record {
  reply = follows.reply;
  unmade = right_unmade c.handle c.event (λ e.
      let reply = subst (λ (z : Event). MapReplies first handles (makes calls) c.handle
      (value_at calls c.handle) z) e follows.reply in
      let none : value calls h ≡ None = ap (value_at calls) (sym about)
      ∙ found_unmade first handles (makes calls) c.handle (value_at calls c.handle) reply in
      was (never_told (old h) (subst (λ (m : MapNow). IsValue m (old h)) none (map.values h))));
}

pub is_map_reply : (handles : ℕ) (calls : List Called) (c : Called) (s t : Shown)
    (far new : FarState) (h : ℕ) → FollowsMap handles calls c t far new → IsMapBeside calls s far
    → Sound s far → c.handle ≡ Some h → h < far.made → IsMapReply far.first handles calls c
is_map_reply handles calls c s t far new h follows map sound about more =
    is_reply_of far.first handles far.made new.made (λ k. now s far k) (λ k. now t new k) calls c h
    follows map (was_made s far h sound more) about

-- And so is each make.
pub is_make_of : (first handles : ℕ) (calls : List Called) (c : Called) (more : ℕ)
    (new : ℕ → Now) → FollowsOf first handles calls c more new → (c.event ≡ FindsUnmade → ⊥)
    → IsMapReply first handles calls c
is_make_of first handles calls c more new follows other =
    record { reply = follows.reply; unmade = right_unmade c.handle c.event other }

pub is_map_make : (handles : ℕ) (calls : List Called) (c : Called) (t : Shown)
    (far new : FarState) → FollowsMap handles calls c t far new → (c.event ≡ FindsUnmade → ⊥)
    → IsMapReply far.first handles calls c
is_map_make handles calls c t far new follows other =
    is_make_of far.first handles calls c new.made (λ k. now t new k) follows other
