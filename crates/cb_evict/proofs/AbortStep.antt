-- Over a still desk an abort is a step.
use Rattle.std.proofs.Common.{◌≡◌, ◌⊎◌, ℕ, ◌^◌, ◌<◌, List, length, get_or, All, Some, sym, ap, ◌∙◌, subst, arith, inl, inr}
use Rattle.cb_ptr.specs.Word.{word_of, fields_of, state_of, hot_of, len_of, place_of, pins_of}
use Rattle.cb_ptr.specs.declared.word.State.TheVariants as state
use Rattle.cb_ptr.proofs.Laws.{word_of-fields_of}
use Rattle.cb_types.specs.declared.reply.Reply.{Reply}
use Rattle.cb_world.specs.declared.leaving.Former.{Former}
use Rattle.cb_world.specs.declared.object.Object.{Object}
use Rattle.cb_world.specs.declared.object.Object.TheVariants as is
use Rattle.cb_world.specs.declared.access.Access.{Access}
use Rattle.cb_world.specs.declared.shown.Shown.{Shown}
use Rattle.cb_world.specs.Shown.{Fits}
use Rattle.cb_world.specs.FarState.{FarState}
use Rattle.cb_world.specs.Grasped.{IsFree}
use Rattle.cb_world.specs.Leaving.{LeavingState}
use Rattle.cb_world.specs.Plain.{Words, Shows}
use Rattle.cb_world.specs.Played.{played}
use Rattle.cb_world.specs.World.{word_at, IsKnown}
use Rattle.cb_world.proofs.Laws.{IsStepKnown, HereIs, AreHotsKnown, here_after, seen_after, seen_known, FreeIs, free_after, PerformsStill, RunsStill, runs_still, known_then}
use Rattle.cb_evict.specs.AbortRule.{HasNoBatch, HasGivenUp, AbortRule, AbortEffect}
use Rattle.cb_evict.specs.AbortStep.{ArePutBack, IsAbortStep, no_batch, given_up}
use Rattle.cb_evict.specs.Restoring.{IsClaimedFrom, IsHereAt, AreRestored}
use Rattle.cb_evict.proofs.ChangedWords.{changes_words, same_count, shows_then}
use Rattle.cb_evict.proofs.EvictStep.{refused}
use Rattle.cb_evict.proofs.Noted.{claimed_all}

-- the word of an object that is here, without pins, as a word says, is that word
here_word : (v w : ℕ) → Fits (is.Here (len_of w) (place_of w)) v → state_of v ≡ state.Here
    → pins_of v ≡ 0 → hot_of v ≡ hot_of w → IsFree w → w < 2 ^ 53 → v ≡ w
here_word v w fits here none hot free below =
    let fields : fields_of v ≡ fields_of w = λ i. record {
      state = (here ∙ sym free.0) i;
      hot = hot i;
      pins = (none ∙ sym free.1) i;
      len = fits.1 i;
      place = fits.2 i;
    } in
    sym (word_of-fields_of v fits.0) ∙ ap word_of fields ∙ word_of-fields_of w below

put_back : (x y : Words) (far : FarState) (s : Shown) (es : List Access) (batch : LeavingState)
    → RunsStill x y far s es → far.leaving ≡ Some batch
    → AreRestored s (played es s) batch.words → ArePutBack x y batch.words
put_back x y far s es batch r there z =
    changes_words x y far s es r _ _ (record {
      objects = z.objects;
      others = z.others;
      hots = z.hots;
      versions = z.versions;
      memory = z.memory;
    }) (λ i d within. back (get_or batch.words i d) (claimed i d within) (z.changed i d within))
  where
    shows : Shows y (played es s)
    shows = shows_then x y far s es r

    count : length y.words ≡ length x.words
    count = same_count x y far s es r z.objects

    seen_then : AreHotsKnown y (played es s)
    seen_then = seen_after es x y s r.ran (seen_known x far s r.known)

    claimed : All (IsClaimedFrom s) batch.words
    claimed = claimed_all s far batch r.known.sound there
        (r.known.shows.hots ∙ sym r.known.shows.objects)

    back : (f : Former) → IsClaimedFrom s f → IsHereAt (played es s) f
        → word_at y f.handle ≡ f.word
    back f c a =
        let h = f.handle in let w = f.word in
        let within : h < length x.words = let l =
        c.handle in omega (arith, l, r.known.shows.objects) in
        let still : h < length y.words = omega (arith, within, count) in
        here_word (word_at y h) w
        (subst (λ (o : Object). Fits o (word_at y h)) a.object (shows.fit h still))
        (subst (λ (o : Object). HereIs o (word_at y h)) a.object
        (here_after es x y s h r.ran r.known.shows.objects
        (subst (λ (o : Object). HereIs o (word_at x h)) (sym c.object) tt)))
        (subst (λ (o : Object). FreeIs o (word_at y h)) a.object
        (free_after es x y s h r.ran r.allowed r.known.shows.objects
        (subst (λ (o : Object). FreeIs o (word_at x h)) (sym c.object) tt)))
        (sym (seen_then.hot h still) ∙ a.hot) c.free c.below

by_rule : (x y : Words) (far new : FarState) (r : Reply) (s : Shown) (es : List Access)
    → RunsStill x y far s es → IsKnown y new (played es s)
    → AbortEffect far new es s (played es s) → HasNoBatch far new r ⊎ HasGivenUp far new r
    → IsAbortStep x y far new r × IsStepKnown y far new s
by_rule x y far new r s es runs l effect (inl a) =
    refused x y far new s es runs l (effect.left a.none) a.state
    (no_batch a)
by_rule x y far new r s es runs l effect (inr a) =
    let z = effect.aborted a.batch a.there in (
      given_up a (put_back x y far s es a.batch runs a.there z.back),
      record { shown = played es s; known = l; same_now = z.same_now },
    )

-- Over a still desk of which all is known an abort is a step, all is known of it afterwards, and what
-- each object holds stays.
pub abort_step : (x y : Words) (far new : FarState) (r : Reply) (s : Shown)
    → PerformsStill x y far new (AbortRule far new r) (AbortEffect far new) → IsKnown x far s
    → IsAbortStep x y far new r × IsStepKnown y far new s
abort_step x y far new r s p k =
    let rules = AbortRule far new r in let does = AbortEffect far new in
    by_rule x y far new r s p.events (runs_still x y far new rules does s k p)
    (known_then x y far new rules does s k p) (p.effect s ((k.sized, k.shows), k.sound))
    p.rule.answered
