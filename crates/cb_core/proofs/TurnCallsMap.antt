-- A call on the map stays one where what objects hold is the same before it and after it.
use Rattle.std.proofs.Common.{◌≡◌, ℕ, Bool, ◌+◌, ◌<◌, length, Option, Some, None, refl, sym, ap, ◌∙◌, subst, inl, inr}
use Rattle.cb_ptr.specs.declared.word.State.TheVariants as state
use Rattle.cb_ptr.specs.Word.{state_of}
use Rattle.cb_types.specs.declared.job.Job.{Job}
use Rattle.cb_types.specs.declared.request.Request.{Request}
use Rattle.cb_types.specs.declared.reply.Reply.{Reply}
use Rattle.cb_model.specs.Called.{made_by}
use Rattle.cb_model.specs.Event.{event_of}
use Rattle.cb_model.specs.Event.Subject.{Contents}
use Rattle.cb_model.specs.Event.Event.{Refused}
use Rattle.cb_model.specs.Replies.{MapReplies}
use Rattle.cb_world.specs.declared.homes.Home.{Home}
use Rattle.cb_world.specs.declared.shown.Shown.{Shown}
use Rattle.cb_world.specs.FarState.{FarState}
use Rattle.cb_world.specs.Homes.{home_at}
use Rattle.cb_world.specs.Now.{Now, now, now_as}
use Rattle.cb_world.specs.Plain.{Words}
use Rattle.cb_world.specs.Shown.{object_at}
use Rattle.cb_world.specs.World.{IsKnown, word_at}
use Rattle.cb_mutate.specs.MapCalls.{IsMapCall, IsCallOn, IsRefusedMake, IsMakeCall}
use Rattle.cb_mutate.proofs.Laws.{far_there, refused_call}
use Rattle.cb_core.specs.Turned.{counted}

-- the map of the one is that of the other: each object holds the same, and as many were made
pub record IsSameMap (s t : Shown) (far new : FarState) : Type 0 where
  pub now : (h : ℕ) → now t new h ≡ now s far h
  pub first : new.first ≡ far.first
  pub made : new.made ≡ far.made

pub map_stays : (s : Shown) (far : FarState) → IsSameMap s s far far
map_stays s far = record { now = λ h. refl; first = refl; made = refl }

pub map_then : (s t u : Shown) (a b c : FarState) → IsSameMap s t a b → IsSameMap t u b c
    → IsSameMap s u a c
map_then s t u a b c x y = record {
  now = λ h. y.now h ∙ x.now h;
  first = y.first ∙ x.first;
  made = y.made ∙ x.made;
}

-- a count of turns changes nothing of what an object holds
pub counted_map : (s : Shown) (far : FarState) (j : Job) → IsSameMap s s far (counted far j)
counted_map s far j = record { now = λ h. go h (home_at far.homes h) refl; first = refl; made = refl }
  where
    go : (h : ℕ) (o : Option Home) → home_at far.homes h ≡ o → now s (counted far j) h ≡ now s far h
    go h None e = ap (λ (lost : Bool). now_as s h lost (object_at s h)) (rw e refl)
    go h (Some home) e = ap (λ (lost : Bool). now_as s h lost (object_at s h)) (rw e refl)

own_carried : (first handles made one more : ℕ) (h : Option ℕ) (q : Request) (r : Reply) (a b c d : Now)
    → IsMapCall first handles made h q r a b → first ≡ one → made ≡ more → a ≡ c → b ≡ d
    → IsMapCall one handles more h q r c d
own_carried first handles made one more h q r a b c d call e f g i =
    subst (λ (n : ℕ). IsMapCall n handles more h q r c d) e
    (subst (λ (n : ℕ). IsMapCall first handles n h q r c d) f
    (subst (λ (n : Now). IsMapCall first handles made h q r n d) g
    (subst (λ (n : Now). IsMapCall first handles made h q r a n) i call)))

module _ (handles : ℕ) (s t u v : Shown) (a b c d : FarState) (q : Request) (r : Reply)
    (before : IsSameMap s t a b) (after : IsSameMap u v c d) where
  -- a call on an object
  pub call_carried : (h : ℕ) → IsCallOn handles t u b c h q r → IsCallOn handles s v a d h q r
  call_carried h call = record {
    own = own_carried b.first handles b.made a.first a.made (Some h) q r (now t b h) (now u c h)
        (now s a h) (now v d h) call.own before.first before.made (before.now h) (sym (after.now h));
    others = λ k off. after.now k ∙ call.others k off ∙ before.now k;
    counted = after.made ∙ call.counted ∙ ap (λ (n : ℕ). n + made_by (event_of q r)) before.made;
  }

  -- a make that made no object
  pub refused_carried : IsRefusedMake handles t u b c q r → IsRefusedMake handles s v a d q r
  refused_carried call = record {
    reply = λ m. subst (λ (n : ℕ). MapReplies n handles a.made None m (event_of q r)) before.first
        (subst (λ (n : ℕ). MapReplies b.first handles n None m (event_of q r)) before.made (call.reply m));
    silent = call.silent;
    others = λ k. after.now k ∙ call.others k ∙ before.now k;
    counted = after.made ∙ call.counted ∙ ap (λ (n : ℕ). n + made_by (event_of q r)) before.made;
  }

  -- a make
  pub make_carried : IsMakeCall handles t u b c q r → IsMakeCall handles s v a d q r
  make_carried (inl (h, n, is, call)) = inl (h, n, is, call_carried h.n call)
  make_carried (inr call) = inr (refused_carried call)

-- a call that is refused, on a far object: each object holds afterwards what it held
pub far_refused : (x : Words) (s t : Shown) (far new : FarState) (h handles : ℕ) (q : Request) (r : Reply)
    → IsKnown x far s → h < length x.words → state_of (word_at x h) ≡ state.Far
    → event_of q r ≡ Refused Contents → IsSameMap s t far new → IsCallOn handles s t far new h q r
far_refused x s t far new h handles q r k below away event same =
    call_carried handles s s s t far far far new q r (map_stays s far) same h
    (refused_call x x far far s s h handles q r (record { before = k; afterwards = k }) (refl, refl)
    (far_there x far s h k below away) event)
