-- A filter as a part of a turn: what it keeps, and how it is answered.
use Rattle.std.proofs.Common.{◌≡◌, ◌⊎◌, ℕ, zero, suc, ◌%◌, ◌<◌, ◌≤◌, arith, List, length, Option, Some, None, refl, sym, ap, ◌∙◌, subst, inl, inr}
use Rattle.cb_ptr.specs.declared.word.State.{State}
use Rattle.cb_ptr.specs.declared.word.State.TheVariants as state
use Rattle.cb_ptr.specs.Word.{state_of, pins_of}
use Rattle.cb_types.specs.declared.request.Request.TheVariants.{Filter}
use Rattle.cb_types.specs.declared.reply.Reply.{Reply}
use Rattle.cb_types.specs.declared.reply.Reply.TheVariants as answer
use Rattle.cb_types.specs.Table.{IsReplyOf}
use Rattle.cb_model.specs.declared.object.Object.TheVariants.{Held, Freed}
use Rattle.cb_model.specs.Now.{MapNow}
use Rattle.cb_model.specs.Event.{event_of}
use Rattle.cb_model.specs.Event.Subject.{Other}
use Rattle.cb_model.specs.Event.Event.{FindsUnmade, Refused}
use Rattle.cb_model.specs.Replies.{MapReplies}
use Rattle.cb_world.specs.declared.shown.Shown.{Shown}
use Rattle.cb_world.specs.FarState.{FarState}
use Rattle.cb_world.specs.Now.{Now, now}
use Rattle.cb_world.specs.Now.Now.{never, freed, held, gone}
use Rattle.cb_world.specs.Plain.{Words}
use Rattle.cb_world.specs.StillWords.{stamp_at}
use Rattle.cb_world.specs.World.{IsKnown, word_at}
use Rattle.cb_world.proofs.Laws.{bits, empty_value, empty_now}
use Rattle.cb_mutate.specs.MapCalls.{IsValue, IsCallOn}
use Rattle.cb_mutate.proofs.Laws.{IsObjectThere, map_same, stays_call, far_there, near_held, here_near}
use Rattle.cb_filter.specs.FilterRule.{EmptyToFilter}
use Rattle.cb_filter.specs.FilterStep.{IsFilterStep, refused, cools, without_slot, moves, RefusesAs}
use Rattle.cb_filter.proofs.Laws.{filter_keeps}
use Rattle.cb_core.specs.Parts.{Holding}
use Rattle.cb_core.specs.Step.{StillFilter}
use Rattle.cb_core.proofs.TurnCallsKept.{HasKept, kept_step}
use Rattle.cb_core.proofs.TurnCallsMap.{IsSameMap, map_stays, call_carried}
use Rattle.cb_core.proofs.TurnCallsWhere.{kept_map, within}

-- ---- what it keeps
kept_filter : (a b : Holding Words) (h : ℕ) (r : Reply) (s : Shown) → IsKnown a.desk a.far s
    → StillFilter h a r b → HasKept a b s
kept_filter a b h r s k (step, hold) =
    kept_step a b s k hold (filter_keeps a.desk b.desk a.far b.far h r step)

-- ---- how it is answered
empty_line : (name : List ℕ) (v : ℕ) (r : Reply) → EmptyToFilter v r → IsReplyOf (Filter name) r
empty_line name zero r e = subst (IsReplyOf (Filter name)) (sym e) tt
empty_line name (suc v) r e = subst (IsReplyOf (Filter name)) (sym e) tt

refused_line : (name : List ℕ) (q : State) (w v : ℕ) (r : Reply) → RefusesAs q w v r
    → IsReplyOf (Filter name) r
refused_line name state.Empty w v r e = empty_line name v r e
refused_line name state.Far w v r e = subst (IsReplyOf (Filter name)) (sym e) tt
refused_line name state.Here w v r e = subst (IsReplyOf (Filter name)) (sym e.1) tt
refused_line name state.Moving w v r e = subst (IsReplyOf (Filter name)) (sym e) tt

pub filter_line : (x y : Words) (far new : FarState) (h : ℕ) (r : Reply)
    → IsFilterStep x y far new h r → (name : List ℕ) → IsReplyOf (Filter name) r
filter_line x y far new h r (refused why same state) name =
    refused_line name (state_of (word_at x h)) (word_at x h) (stamp_at x h) r why
filter_line x y far new h r (cools seat is place same) name =
    subst (IsReplyOf (Filter name)) (sym place.reply) tt
filter_line x y far new h r (without_slot seat is none same) name =
    subst (IsReplyOf (Filter name)) (sym none.reply) tt
filter_line x y far new h r (moves seat slot is gets same) name =
    subst (IsReplyOf (Filter name)) (sym gets.reply) tt

-- ---- a filter as a call
-- there is an object, or there was one
abbrev WasMade : Now → Type 0
WasMade never = ⊥
WasMade (freed v) = Unit {0}
WasMade (held v bytes) = Unit {0}
WasMade (gone v) = Unit {0}

was_there : (n : Now) → IsObjectThere n → WasMade n
was_there never there = absurd there
was_there (freed v) there = absurd there
was_there (held v bytes) there = tt
was_there (gone v) there = tt

-- the map gives such a refusal of each object that was made
other_by : (n : Now) → WasMade n → (first handles made : ℕ) (handle : Option ℕ) (m : MapNow)
    → IsValue m n → MapReplies first handles made handle m (Refused Other)
other_by never was first handles made handle m i = absurd was
other_by (freed v) was first handles made handle None i = absurd i
other_by (freed v) was first handles made handle (Some (Freed u)) i = tt
other_by (freed v) was first handles made handle (Some (Held u b)) i = absurd i
other_by (held v bytes) was first handles made handle None i = absurd i
other_by (held v bytes) was first handles made handle (Some (Freed u)) i = absurd i
other_by (held v bytes) was first handles made handle (Some (Held u b)) i = tt
other_by (gone v) was first handles made handle None i = absurd i
other_by (gone v) was first handles made handle (Some (Freed u)) i = absurd i
other_by (gone v) was first handles made handle (Some (Held u b)) i = tt

unmade_by : (n : Now) → n ≡ never → (first handles made : ℕ) (handle : Option ℕ) (m : MapNow)
    → IsValue m n → MapReplies first handles made handle m FindsUnmade
unmade_by n e first handles made handle m i = by m (subst (IsValue m) e i)
  where
    by : (m : MapNow) → IsValue m never → MapReplies first handles made handle m FindsUnmade
    by None i = tt
    by (Some (Freed u)) i = absurd i
    by (Some (Held u b)) i = absurd i

moving_near : (w : ℕ) → state_of w ≡ state.Moving → 2 ≤ w % 4
moving_near w e = let b = bits w state.Moving e in omega (arith, b)

-- an object that was never made is Unmade, and of every other one the reply tells the map nothing
abbrev Tells : Now → Reply → Type 0
Tells n r = ((n ≡ never) × (r ≡ answer.Unmade))
    ⊎ (WasMade n × ((name : List ℕ) → event_of (Filter name) r ≡ Refused Other))

module _ (x : Words) (far : FarState) (s : Shown) (h : ℕ) (r : Reply) (k : IsKnown x far s)
    (below : h < length x.words) where
  refuses : (p : Reply) → r ≡ p → ((name : List ℕ) → event_of (Filter name) p ≡ Refused Other)
      → WasMade (now s far h) → Tells (now s far h) r
  refuses p e event was = inr (was, λ name. ap (event_of (Filter name)) e ∙ event name)

  near_made : state_of (word_at x h) ≡ state.Here → WasMade (now s far h)
  near_made here = subst WasMade
      (sym (near_held x far s h k below (here_near (word_at x h) here))) tt

  empty_tells : (v : ℕ) → stamp_at x h ≡ v → state_of (word_at x h) ≡ state.Empty
      → EmptyToFilter v r
      → Tells (now s far h) r
  empty_tells zero stamp e is =
      inl (empty_now x far s h k.shows k.sound below e ∙ ap empty_value stamp, is)
  empty_tells (suc v) stamp e is = refuses answer.NotHere is (λ name. refl) (subst WasMade
      (sym (empty_now x far s h k.shows k.sound below e ∙ ap empty_value stamp)) tt)

  refused_tells : (q : State) → state_of (word_at x h) ≡ q
      → RefusesAs q (word_at x h) (stamp_at x h) r → Tells (now s far h) r
  refused_tells state.Empty e why = empty_tells (stamp_at x h) refl e why
  refused_tells state.Far e why = refuses answer.NotHere why (λ name. refl)
      (was_there (now s far h) (far_there x far s h k below e))
  refused_tells state.Here e why =
      refuses (answer.Pinned (pins_of (word_at x h))) why.1 (λ name. refl) (near_made e)
  refused_tells state.Moving e why = refuses answer.Moving why (λ name. refl) (subst WasMade
      (sym (near_held x far s h k below (moving_near (word_at x h) e))) tt)

  filter_tells : (y : Words) (new : FarState) → IsFilterStep x y far new h r → Tells (now s far h) r
  filter_tells y new (refused why same state) = refused_tells (state_of (word_at x h)) refl why
  filter_tells y new (cools seat is place same) =
      refuses answer.Same place.reply (λ name. refl) (near_made is.free.0)
  filter_tells y new (without_slot seat is none same) =
      refuses (answer.NoSlot x.settings.frames) none.reply (λ name. refl) (near_made is.free.0)
  filter_tells y new (moves seat slot is gets same) =
      refuses answer.Moved gets.reply (λ name. refl) (near_made is.free.0)

  -- a call that changes nothing
  tells_call : (handles : ℕ) (name : List ℕ) → Tells (now s far h) r
      → IsCallOn handles s s far far h (Filter name) r
  tells_call handles name (inl (unmade, is)) =
      stays_call x x far far s s h handles (Filter name) r FindsUnmade
      (record { before = k; afterwards = k }) (refl, refl) (ap (event_of (Filter name)) is) refl
      (map_same far.first handles far.made (Some h) (Filter name) r (now s far h) FindsUnmade
      (ap (event_of (Filter name)) is) refl
      (unmade_by (now s far h) unmade far.first handles far.made (Some h)))
  tells_call handles name (inr (was, event)) =
      stays_call x x far far s s h handles (Filter name) r (Refused Other)
      (record { before = k; afterwards = k }) (refl, refl) (event name) refl
      (map_same far.first handles far.made (Some h) (Filter name) r (now s far h) (Refused Other)
      (event name) refl (other_by (now s far h) was far.first handles far.made (Some h)))

-- A filter: every object holds what it held, and the reply is one of the line's, which the map gives,
-- or another refusal.
pub record IsFilterAs (handles : ℕ) (s t : Shown) (far new : FarState) (h : ℕ) (r : Reply) : Type 0
  where
    pub same : IsSameMap s t far new
    pub line : (name : List ℕ) → IsReplyOf (Filter name) r
    pub call : (name : List ℕ) → IsCallOn handles s t far new h (Filter name) r

pub filter_answered : (a b : Holding Words) (s t : Shown) (h : ℕ) (r : Reply) → IsKnown a.desk a.far s
    → IsKnown b.desk b.far t → h < a.desk.settings.handles → StillFilter h a r b
    → IsFilterAs a.desk.settings.handles s t a.far b.far h r
filter_answered a b s t h r before after below filter =
    let same = kept_map a b s t (kept_filter a b h r s before filter) after in
    let lt = within a s h before below in record {
      same = same;
      line = filter_line a.desk b.desk a.far b.far h r filter.0;
      call = λ name. call_carried a.desk.settings.handles s s s t a.far a.far a.far b.far (Filter name) r
          (map_stays s a.far) same h
          (tells_call a.desk a.far s h r before lt a.desk.settings.handles name
          (filter_tells a.desk a.far s h r before lt b.desk b.far filter.0));
    }
