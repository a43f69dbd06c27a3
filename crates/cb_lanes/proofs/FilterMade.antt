-- A filter of an object that the record knows is not told that it was never made.
use Rattle.std.proofs.Common.{◌≡◌, ◌≢◌, ℕ, zero, suc, List, [], ◌∷◌, Ok, Some, inl, inr}
use Rattle.std.proofs.Common.{refl, sym, ap, ◌∙◌, subst, arith}
use Rattle.cb_ptr.specs.declared.word.State.{State}
use Rattle.cb_ptr.specs.declared.word.State.TheVariants as state
use Rattle.cb_ptr.specs.Word.{pins_of, state_of}
use Rattle.cb_types.specs.declared.config.Config.{Config}
use Rattle.cb_types.specs.declared.handle.Handle.{Handle}
use Rattle.cb_types.specs.declared.job.Job.TheVariants as job
use Rattle.cb_types.specs.declared.reply.Reply.{Reply}
use Rattle.cb_types.specs.declared.reply.Reply.TheVariants as answer
use Rattle.cb_world.specs.declared.access.Access.{Access}
use Rattle.cb_world.specs.declared.access.Access.TheVariants.{Looked, Told, Loaded}
use Rattle.cb_world.specs.declared.object.Object.{Object}
use Rattle.cb_world.specs.declared.object.Object.TheVariants as is
use Rattle.cb_world.specs.declared.shown.Shown.{Shown}
use Rattle.cb_world.specs.FarState.{FarState}
use Rattle.cb_world.specs.Looks.{IsFound, IsTaken, IsTold}
use Rattle.cb_world.specs.Played.{Agree, after}
use Rattle.cb_world.specs.Shown.{Fits, IsHeld, object_at, version_at}
use Rattle.cb_filter.specs.FilterRule.{EmptyToFilter, FilterAs, FilterRule, OnlyTell}
use Rattle.cb_core.specs.Parts.{Holding}
use Rattle.cb_core.specs.Turned.{Turned, done, worn}
use Rattle.cb_rule.specs.declared.view.View.{View}
use Rattle.cb_rule.specs.Steps.{Knows}
use Rattle.cb_record.specs.Parts.{Part}
use Rattle.cb_shared.proofs.Laws.{asked_alone}
use Rattle.cb_shared.specs.Turning.{DidAs, ReadsByPin, Slate, TurnAdds, slate_run, slate_shows}

-- ---- events that only tell
empty_here : state.Empty ≡ state.Here → ⊥
empty_here e = absurd cc

empty_moving : state.Empty ≡ state.Moving → ⊥
empty_moving e = absurd cc

-- an object whose word is empty is changed by no one else
fits_empty : (o : Object) (w : ℕ) → Fits o w → state_of w ≡ state.Empty → IsHeld o
fits_empty (is.Empty v) w fits empty = tt
fits_empty (is.Far len v words) w fits empty = tt
fits_empty (is.Here len place) w (low, long, at, inl here) empty =
    absurd (empty_here (sym empty ∙ here))
fits_empty (is.Here len place) w (low, long, at, inr moving) empty =
    absurd (empty_moving (sym empty ∙ moving))
fits_empty (is.Claimed len place v words) w fits empty = tt

held_by_look : (h w : ℕ) (es : List Access) (s : Shown) → OnlyTell es → Agree s es
    → IsFound h w es → state_of w ≡ state.Empty → IsHeld (object_at s h)
held_by_look h w [] s only agree found empty = absurd found
held_by_look h w (Looked k x ∷ es) s only agree (inl later) empty =
    held_by_look h w es (after (Looked k x) s) only agree.1 later empty
held_by_look h w (Looked k x ∷ es) s only agree (inr here) empty =
    fits_empty (object_at s h) w (subst (λ (j : ℕ). Fits (object_at s j) w) here.0.0
    (subst (Fits (object_at s k)) here.0.1 agree.0.0)) empty
held_by_look h w (Told k u ∷ es) s only agree (inl later) empty =
    held_by_look h w es s only agree.1 later empty
held_by_look h w (Told k u ∷ es) s only agree (inr here) empty = absurd here.0
held_by_look h w (Loaded p x ∷ es) s only agree (inl later) empty =
    held_by_look h w es s only agree.1 later empty
held_by_look h w (Loaded p x ∷ es) s only agree (inr here) empty = absurd here.0
held_by_look h w (e ∷ es) s only agree found empty = absurd only

-- what its version word is told to be was known
told_by_word : (h v : ℕ) (es : List Access) (s : Shown) → OnlyTell es → Agree s es
    → IsHeld (object_at s h) → IsTold h v es → v ≡ version_at s h
told_by_word h v [] s only agree held told = absurd told
told_by_word h v (Told k u ∷ es) s only agree held (inl later) =
    told_by_word h v es s only agree.1 held later
told_by_word h v (Told k u ∷ es) s only agree held (inr here) =
    sym here.1 ∙ agree.0 (subst (λ (j : ℕ). IsHeld (object_at s j)) (sym here.0) held)
    ∙ ap (version_at s) here.0
told_by_word h v (Looked k x ∷ es) s only agree held told =
    told_by_word h v es (after (Looked k x) s) only agree.1 held told
told_by_word h v (Loaded p x ∷ es) s only agree held told =
    told_by_word h v es s only agree.1 held told
told_by_word h v (e ∷ es) s only agree held told = absurd only

-- nothing was claimed
none_taken : (h v : ℕ) (words : List ℕ) (es : List Access) → OnlyTell es → IsTaken h v words es → ⊥
none_taken h v words [] only taken = taken
none_taken h v words (Looked k x ∷ es) only taken = none_taken h v words es only taken
none_taken h v words (Told k u ∷ es) only taken = none_taken h v words es only taken
none_taken h v words (Loaded p x ∷ es) only taken = none_taken h v words es only taken
none_taken h v words (e ∷ es) only taken = absurd only

-- ---- the rule of a filter
abbrev is_unmade : Reply → ℕ
is_unmade answer.Unmade = 1
is_unmade r = 0

not_unmade : (q : Reply) → is_unmade q ≡ 0 → answer.Unmade ≡ q → ⊥
not_unmade q none e = let both : 1 ≡ 0 = ap is_unmade e ∙ none in omega (arith, both)

empty_unmade : (v : ℕ) → EmptyToFilter v answer.Unmade → v ≡ 0
empty_unmade zero e = refl
empty_unmade (suc v) e = absurd (not_unmade answer.NotHere refl e)

filter_is : (frames h w : ℕ) (far new : FarState) (es : List Access) (s : Shown) (q : State)
    → state_of w ≡ q → OnlyTell es → Agree s es → IsFound h w es
    → FilterAs q frames h w far new answer.Unmade es → version_at s h ≡ 0
filter_is frames h w far new es s state.Empty at only agree found ((v, told, e), same) =
    sym (told_by_word h v es s only agree (held_by_look h w es s only agree found at) told)
    ∙ empty_unmade v e
filter_is frames h w far new es s state.Far at only agree found x =
    absurd (not_unmade answer.NotHere refl x.0)
filter_is frames h w far new es s state.Moving at only agree found x =
    absurd (not_unmade answer.Moving refl x.0)
filter_is frames h w far new es s state.Here at only agree found (inl x) =
    absurd (not_unmade (answer.Pinned (pins_of w)) refl x.1)
filter_is frames h w far new es s state.Here at only agree found (inr x) =
    let claimed = x.0.1 in absurd (none_taken h claimed.0 claimed.1 es only claimed.2)

rule_is : (frames h : ℕ) (far new : FarState) (es : List Access) (s : Shown)
    → FilterRule frames h far new answer.Unmade es → Agree s es → version_at s h ≡ 0
rule_is frames h far new es s x agree = filter_is frames h x.word far new es s
    (state_of x.word) refl
    (x.unmade refl) agree x.found x.answer

-- ---- a turn
module _ (c : Config) (handle : Handle) where
  turned_is : (a b : Holding Slate)
      → Turned slate_run slate_shows ReadsByPin c (job.Filter handle) a answer.Unmade b
      → version_at a.desk.known handle.n ≡ 0
  turned_is a b (worn last e same ran) = absurd (not_unmade answer.Worn refl e)
  turned_is a b (done less x) = rule_is c.frames handle.n _ _ x.events a.desk.known x.rule x.ran.1

  pub filter_made : (r : Reply) (v : View) (d : Part) → TurnAdds c (job.Filter handle) (Ok r) v d
      → Knows handle.n v → r ≢ answer.Unmade
  filter_made r v d x knows e =
      let did = asked_alone c x.turn (job.Filter handle) (Some r) tt x.job_is x.reply_is x.did in
      let none = turned_is _ _ (subst
      (λ (q : Reply). DidAs c (job.Filter handle) (Some q) x.turn.start
      x.turn.acts x.turn.took x.turn.gave) e did) in
      let some = x.made handle.n knows in omega (arith, none, some)
