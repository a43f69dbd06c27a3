-- Over a still desk a filter is a step: what its rule and its effect say is exact there.
use Rattle.std.proofs.Common.{◌≡◌, ℕ, zero, suc, Bool, false, ◌<◌, List, length, get_or, set, sym, refl, ap, ◌∙◌, subst, arith, inl, inr, length-set, get_or-set_other, get_or-set_same}
use Rattle.std.proofs.lemmas.Bool.{cases_lt}
use Rattle.std.proofs.lemmas.List.{set-get_or, get_or_past}
use Rattle.cb_ptr.specs.declared.word.State.{State}
use Rattle.cb_ptr.specs.declared.word.State.TheVariants as state
use Rattle.cb_ptr.specs.Word.{fields_of, word_of, state_of, hot_of, len_of, place_of, pins_of}
use Rattle.cb_ptr.proofs.Laws.{word_of-fields_of}
use Rattle.cb_types.specs.declared.reply.Reply.{Reply}
use Rattle.cb_types.specs.declared.reply.Reply.TheVariants as answer
use Rattle.cb_world.specs.declared.object.Object.{Object}
use Rattle.cb_world.specs.declared.object.Object.TheVariants as is
use Rattle.cb_world.specs.declared.access.Access.{Access}
use Rattle.cb_world.specs.declared.shown.Shown.{Shown}
use Rattle.cb_world.specs.Shown.{Fits, object_at, hot_at, never}
use Rattle.cb_world.specs.Grasped.{IsFree}
use Rattle.cb_world.specs.Memory.{put, window, words_for}
use Rattle.cb_world.specs.Now.{now}
use Rattle.cb_world.specs.FarState.{FarState}
use Rattle.cb_span.specs.declared.temp.Temp.{Temp}
use Rattle.cb_world.specs.Placed.{IsChosen, place_in}
use Rattle.cb_world.specs.Plain.{Words, Plain}
use Rattle.cb_world.specs.Allowed.{Allowed}
use Rattle.cb_world.specs.Played.{played}
use Rattle.cb_world.specs.Touches.{SettlesLast}
use Rattle.cb_world.specs.Still.{IsStill}
use Rattle.cb_world.specs.StillDesk.{here_is as fits_here, plain_follows, plain_stays}
use Rattle.cb_world.specs.StillWords.{stamp_at, contents_at}
use Rattle.cb_world.specs.World.{word_at, IsKnown}
use Rattle.cb_world.proofs.Laws.{IsStepKnown, found_exact, taken_exact, HereIs, AreHotsKnown, here_after, seen_after, seen_known, told_exact, FreeIs, free_after, one_exact, PerformsStill, RunsStill, runs_still, known_then, stays_still}
use Rattle.cb_filter.specs.Seats.{temp_for}
use Rattle.cb_filter.specs.FilterRule.{EmptyToFilter, FilterSeated, FilterHere, FilterAs, FilterRule, NeedsMemory}
use Rattle.cb_filter.specs.FilterEffect.{IsCooled, IsMoved, FilterEffect}
use Rattle.cb_filter.specs.FilterStep.{cool_word, with_cooled, with_carried_to, RefusesAs, temp_of, IsFilterStep, refused, cools, without_slot, moves}

-- ---- the words
-- an object that was settled at a place, not hot, has its word with that place
cool_is : (v w place : ℕ) → Fits (is.Here (len_of w) place) v → state_of v ≡ state.Here
    → pins_of v ≡ 0 → hot_of v ≡ false → IsFree w → v ≡ cool_word w place
cool_is v w place fits here none cold free =
    let fields : fields_of v ≡ record (fields_of w) { hot = false; place = place } = λ i. record {
      state = (here ∙ sym free.0) i;
      hot = cold i;
      pins = (none ∙ sym free.1) i;
      len = fits.1 i;
      place = fits.2 i;
    } in
    sym (word_of-fields_of v fits.0) ∙ ap word_of fields

-- a handle with a word that is here is one of those that there are
pub in_range : (x : Words) (h : ℕ) → state_of (word_at x h) ≡ state.Here → h < length x.words
in_range x h here = elim (cases_lt h (length x.words)) [
  | inl below ↦ below
  | inr past ↦ absurd (empty_here (ap state_of (sym (get_or_past x.words h 0 past)) ∙ here))
]
  where
    empty_here : state.Empty ≡ state.Here → ⊥
    empty_here e = cc

-- what is known of a free object
free_here : (x : Words) (far : FarState) (s : Shown) (h : ℕ) → IsKnown x far s
    → IsFree (word_at x h) → object_at s h ≡ is.Here (len_of (word_at x h)) (place_of (word_at x h))
free_here x far s h k free =
    fits_here (object_at s h) (word_at x h) (k.shows.fit h (in_range x h free.0)) free.0

still_count : (x y : Words) (far : FarState) (s : Shown) (es : List Access) → IsKnown x far s
    → Plain x es y → length (played es s).objects ≡ length s.objects
    → length y.words ≡ length x.words
still_count x y far s es k run same =
    sym (plain_follows es x y s run k.shows).1.objects ∙ same ∙ k.shows.objects

-- a free object that is settled at a place, not hot, and nothing else of the objects changes
cool_exact : (x y : Words) (far : FarState) (s : Shown) (es : List Access) (h place : ℕ)
    → IsKnown x far s → Plain x es y → Allowed s es → IsFree (word_at x h)
    → (played es s).objects ≡ set s.objects h (is.Here (len_of (word_at x h)) place)
    → (played es s).hots ≡ set s.hots h false
    → y.words ≡ set x.words h (cool_word (word_at x h) place)
cool_exact x y far s es h place k run ok free objects hots =
    let count = still_count x y far s es k run
    (ap (λ (l : List Object). length l) objects
    ∙ length-set s.objects h (is.Here (len_of (word_at x h)) place)) in
    one_exact x y far s es h (cool_word (word_at x h) place) k run ok count
    (λ i off. ap (λ (l : List Object). get_or l i never) objects
    ∙ get_or-set_other s.objects h i (is.Here (len_of (word_at x h)) place) never off)
    (λ i off. ap (λ (l : List Bool). get_or l i false) hots
    ∙ get_or-set_other s.hots h i false false off)
    (λ below. mine below (omega (arith, below, count)))
  where
    w : ℕ
    w = word_at x h

    seen_then : AreHotsKnown y (played es s)
    seen_then = seen_after es x y s run (seen_known x far s k)

    mine : h < length x.words → h < length y.words → word_at y h ≡ cool_word w place
    mine below still =
        let there : object_at (played es s) h ≡ is.Here (len_of w) place =
        ap (λ (l : List Object). get_or l h never) objects
        ∙ get_or-set_same s.objects h (is.Here (len_of w) place) never (omega (
          arith,
          below,
          k.shows.objects,
        )) in
        let cold : hot_at (played es s) h ≡ false =
        ap (λ (l : List Bool). get_or l h false) hots
        ∙ get_or-set_same s.hots h false false (omega (arith, below, k.shows.hots)) in
        cool_is (word_at y h) w place
        (subst (λ (o : Object). Fits o (word_at y h)) there
        ((plain_follows es x y s run k.shows).1.fit h still))
        (subst (λ (o : Object). HereIs o (word_at y h)) there
        (here_after es x y s h run k.shows.objects
        (subst (λ (o : Object). HereIs o w) (sym (free_here x far s h k free)) free.0)))
        (subst (λ (o : Object). FreeIs o (word_at y h)) there
        (free_after es x y s h run ok k.shows.objects
        (subst (λ (o : Object). FreeIs o w) (sym (free_here x far s h k free)) free.1)))
        (sym (seen_then.hot h still) ∙ cold) free

-- ---- the changes
cooled_words : (x y : Words) (far : FarState) (s : Shown) (es : List Access) (h : ℕ)
    → RunsStill x y far s es → IsFree (word_at x h) → IsCooled h es s (played es s)
    → y ≡ with_cooled x h
cooled_words x y far s es h r free z =
    let w = word_at x h in
    let shows = (plain_follows es x y s r.ran r.known.shows).1 in
    let settings = plain_stays x y es r.ran in
    let back : set s.objects h (is.Here (len_of w) (place_of w)) ≡ s.objects =
    ap (set s.objects h) (sym (free_here x far s h r.known free)) ∙ set-get_or s.objects h never in
    let words = cool_exact x y far s es h (place_of w) r.known r.ran r.allowed free
    (z.objects ∙ sym back)
    (z.hots ∙ ap (λ (t : Shown). set t.hots h false) r.told) in
    let versions = sym shows.versions ∙ z.versions ∙ ap (λ (t : Shown). t.versions) r.told
    ∙ r.known.shows.versions in
    let memory = sym shows.memory ∙ z.memory ∙ ap (λ (t : Shown). t.memory) r.told
    ∙ r.known.shows.memory in
    (λ i. record {
      settings = settings i;
      words = words i;
      versions = versions i;
      memory = memory i;
    })

moved_words : (x y : Words) (far new : FarState) (s : Shown) (es : List Access) (h : ℕ)
    → RunsStill x y far s es → IsFree (word_at x h) → (z : IsMoved h far new es s (played es s))
    → (z.word ≡ word_at x h) × (y ≡ with_carried_to x h (place_in z.slot))
moved_words x y far new s es h r free z =
    let w = word_at x h in let place = place_in z.slot in
    let at : z.word ≡ w = sym (found_exact es x y h z.word r.ran r.looks_first z.found) in
    let taken = taken_exact es x y h z.version z.words r.ran r.looks_first z.taken in
    let contents : z.words ≡ contents_at x h = taken.3
    ∙ ap (λ (u : ℕ). window x.memory (place_of u) (words_for (len_of u)))
    (sym (found_exact es x y h taken.0 r.ran r.looks_first taken.1)) in
    let shows = (plain_follows es x y s r.ran r.known.shows).1 in
    let settings = plain_stays x y es r.ran in
    let words = cool_exact x y far s es h place r.known r.ran r.allowed free
    (z.objects ∙ ap (λ (u : ℕ). set s.objects h (is.Here (len_of u) place)) at)
    (z.hots ∙ ap (λ (t : Shown). set t.hots h false) r.told) in
    let versions = sym shows.versions ∙ z.versions ∙ ap (λ (t : Shown). t.versions) r.told
    ∙ r.known.shows.versions in
    let memory = sym shows.memory ∙ z.memory
    ∙ ap (λ (l : List ℕ). put l place z.words) (ap (λ (t : Shown). t.memory) r.told
    ∙ r.known.shows.memory)
    ∙ ap (put x.memory place) contents in (
      at,
      (λ i. record {
        settings = settings i;
        words = words i;
        versions = versions i;
        memory = memory i;
      }),
    )

-- ---- the step
step_here : (x y : Words) (far new : FarState) (s : Shown) (es : List Access) (h : ℕ) (r : Reply)
    → RunsStill x y far s es → FilterEffect h far new r es s (played es s)
    → state_of (word_at x h) ≡ state.Here
    → FilterHere x.settings.frames h (word_at x h) far new r es → IsFilterStep x y far new h r
step_here x y far new s es h r runs effect here (inl (pinned, reply, state)) =
    refused (subst (λ (q : State). RefusesAs q (word_at x h) (stamp_at x h) r) (sym here)
    (pinned, reply))
    (stays_still x y far s es runs
    (subst (λ (q : Reply). FilterEffect h far new q es s (played es s)) reply effect).change) state
step_here x y far new s es h r runs effect here (inr (claim, (seat, stands, seated))) = by seated
  where
    free : IsFree (word_at x h)
    free = (here, claim.0)

    at : (q : Reply) → r ≡ q → FilterEffect h far new q es s (played es s)
    at q e = subst (λ (z : Reply). FilterEffect h far new z es s (played es s)) e effect

    by : FilterSeated x.settings.frames far new (temp_of x h) h seat r → IsFilterStep x y far new h r
    by (inl a) = cools seat (record { free = free; stands = stands }) a
        (cooled_words x y far s es h runs free (at answer.Same a.reply).change)
    by (inr (inl a)) = without_slot seat (record { free = free; stands = stands }) a
        (stays_still x y far s es runs (at (answer.NoSlot x.settings.frames) a.reply).change)
    by (inr (inr (slot, a))) =
        let z = (at answer.Moved a.reply).change in
        let m = moved_words x y far new s es h runs free z in
        let temp = ap (λ (w : ℕ). temp_for (hot_of w)) m.0 in
        moves z.seat z.slot (record { free = free; stands = z.stood })
        (record {
          other = λ e. z.other (e ∙ sym temp);
          chosen = subst (λ (t : Temp). IsChosen far z.seat.span.class t z.slot) temp z.chosen;
          reply = a.reply;
          state = z.state;
        }) m.1

step_empty : (x y : Words) (far new : FarState) (s : Shown) (es : List Access) (h v : ℕ) (r : Reply)
    → RunsStill x y far s es → FilterEffect h far new r es s (played es s) → EmptyToFilter v r
    → y ≡ x
step_empty x y far new s es h zero r runs effect e = stays_still x y far s es runs
    (subst (λ (q : Reply). FilterEffect h far new q es s (played es s)) e effect).change
step_empty x y far new s es h (suc v) r runs effect e = stays_still x y far s es runs
    (subst (λ (q : Reply). FilterEffect h far new q es s (played es s)) e effect).change

-- by the state of the word
step_by : (q : State) (x y : Words) (far new : FarState) (s : Shown) (es : List Access) (h : ℕ)
    (r : Reply) → RunsStill x y far s es → SettlesLast es
    → FilterEffect h far new r es s (played es s) → state_of (word_at x h) ≡ q
    → FilterAs q x.settings.frames h (word_at x h) far new r es → IsFilterStep x y far new h r
step_by state.Empty x y far new s es h r runs last effect e a =
    refused (subst (λ (q : State). RefusesAs q (word_at x h) (stamp_at x h) r) (sym e)
    (subst (λ (v : ℕ). EmptyToFilter v r) (told_exact es x y h a.0.0 runs.ran last a.0.1) a.0.2))
    (step_empty x y far new s es h a.0.0 r runs effect a.0.2) a.1
step_by state.Far x y far new s es h r runs last effect e a =
    refused (subst (λ (q : State). RefusesAs q (word_at x h) (stamp_at x h) r) (sym e) a.0)
    (stays_still x y far s es runs
    (subst (λ (q : Reply). FilterEffect h far new q es s (played es s)) a.0 effect).change) a.1
step_by state.Here x y far new s es h r runs last effect e a =
    step_here x y far new s es h r runs effect e a
step_by state.Moving x y far new s es h r runs last effect e a =
    refused (subst (λ (q : State). RefusesAs q (word_at x h) (stamp_at x h) r) (sym e) a.0)
    (stays_still x y far s es runs
    (subst (λ (q : Reply). FilterEffect h far new q es s (played es s)) a.0 effect).change) a.1

-- Over a still desk of which all is known a filter is a step, and all is known of it afterwards.
pub filter_step : (x y : Words) (far new : FarState) (s : Shown) (h : ℕ) (r : Reply)
    → IsKnown x far s
    → PerformsStill x y far new (FilterRule x.settings.frames h far new r)
    (FilterEffect h far new r)
    → IsFilterStep x y far new h r × IsStepKnown y far new s
filter_step x y far new s h r k p =
    let es = p.events in
    let rules = FilterRule x.settings.frames h far new r in let does = FilterEffect h far new r in
    let runs = runs_still x y far new rules does s k p in
    let effect = p.effect s ((k.sized, k.shows), k.sound) in
    let w = p.rule.word in
    let e : w ≡ word_at x h = sym (found_exact es x y h w p.ran.0 p.looks_first p.rule.found) in (
      step_by (state_of (word_at x h)) x y far new s es h r runs p.rule.settles_last effect refl
          (subst (λ (n : ℕ). FilterAs (state_of n) x.settings.frames h n far new r es) e
          p.rule.answer),
      record {
        shown = played es s;
        known = known_then x y far new rules does s k p;
        same_now = λ i. effect.same_now i ∙ ap (λ (t : Shown). now t far i) runs.told;
      },
    )

-- One that found no memory changes no word.
pub filter_stopped : (x y : Words) (far new : FarState) (s : Shown) (h : ℕ) → IsKnown x far s
    → (p : PerformsStill x y far new (NeedsMemory h far new) IsStill)
    → (y ≡ x) × (new ≡ far)
filter_stopped x y far new s h k p = (
  stays_still x y far s p.events
      (runs_still x y far new (NeedsMemory h far new) IsStill s k p)
      (p.effect s ((k.sized, k.shows), k.sound)),
  p.rule.state,
)
