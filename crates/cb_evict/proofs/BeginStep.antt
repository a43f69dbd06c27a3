-- Over a still desk a begin is a step, and a gather too: what its rule and its effect say is exact there.
use Rattle.std.proofs.Common.{◌≡◌, ◌⊎◌, ℕ, ◌+◌, ◌*◌, ◌^◌, ◌<◌, Bool, true, false, List, length, get_or, map, ◌++◌, take, None, Some, refl, sym, ap, ◌∙◌, subst, arith, inl, inr}
use Rattle.cb_ptr.specs.Steps.{Claims}
use Rattle.cb_ptr.specs.Word.{flag_number, hot_of, len_of, place_of}
use Rattle.cb_ptr.proofs.Laws.{claims, claimed_below, same_but_hot}
use Rattle.cb_types.specs.declared.reply.Reply.{Reply}
use Rattle.cb_world.specs.declared.access.Access.{Access}
use Rattle.cb_world.specs.declared.leaving.Former.{Former}
use Rattle.cb_world.specs.declared.object.Object.{Object}
use Rattle.cb_world.specs.declared.object.Object.TheVariants as is
use Rattle.cb_world.specs.declared.shown.Shown.{Shown}
use Rattle.cb_world.specs.Shown.{Fits, hot_at}
use Rattle.cb_world.specs.FarSound.{batch_rows, rows_in}
use Rattle.cb_world.specs.FarState.{FarState}
use Rattle.cb_world.specs.Grasped.{IsFree}
use Rattle.cb_world.specs.Memory.{window}
use Rattle.cb_world.specs.Now.{now}
use Rattle.cb_world.specs.Orders.{IsEncodeKept}
use Rattle.cb_world.specs.Placed.{leaving_frames}
use Rattle.cb_world.specs.Plain.{Words, Shows}
use Rattle.cb_world.specs.Played.{played}
use Rattle.cb_world.specs.RowWords.{row_of}
use Rattle.cb_world.specs.SetWord.{IsSpanWord}
use Rattle.cb_world.specs.World.{word_at, IsKnown}
use Rattle.cb_world.proofs.Laws.{IsStepKnown, found_exact, AreHotsKnown, seen_after, seen_known, PerformsStill, RunsStill, runs_still, known_then}
use Rattle.cb_evict.specs.BeginEffect.{IsInLeavingSpan, IsBatchBegun, BeginEffect}
use Rattle.cb_evict.specs.BeginRule.{new_batch, with_batch, HasBegun, HasBatch, BeginRule, BeginsBy}
use Rattle.cb_evict.specs.BeginStep.{AreSpansClaimed, BeginsTo, IsBegunTo, IsBeginStep, frame_rows, is_leaving, few_spans, few_nodes, begins}
use Rattle.cb_evict.specs.EvictRule.{HasFewSpans, HasFewNodes}
use Rattle.cb_evict.specs.EvictStep.{loose_frames}
use Rattle.cb_evict.specs.declared.gathering.Gathered.{Gathered}
use Rattle.cb_evict.specs.declared.gathering.Gathered.TheVariants as gathered
use Rattle.cb_evict.specs.Gathering.{GatherEffect, GatherRule, HandsOut, IsGatherStep, gathered_reply, order_for}
use Rattle.cb_evict.specs.Lengths.{batch_pages, loose_of, most_loose}
use Rattle.cb_evict.specs.Looking.{IsIn}
use Rattle.cb_evict.proofs.EvictKeeps.{leaves_free}
use Rattle.cb_evict.proofs.BeginParts.{leaving_batch, spans_batch, nodes_batch}
use Rattle.cb_evict.proofs.ChangedWords.{changes_words, same_count, shows_then}
use Rattle.cb_evict.proofs.EvictStep.{refused}
use Rattle.cb_evict.proofs.LooseLengths.{taken_count}
use Rattle.cb_evict.proofs.LooseSpans.{loose_exact}
use Rattle.cb_evict.proofs.Standing.{are_unique}

-- ---- every word
-- the word of an object that is claimed is the one that was there, as Moving
claimed_word : (v w n : ℕ) (len place u : ℕ) (words : List ℕ) → v < 2 ^ 53 → IsFree v
    → Fits (is.Claimed len place u words) w → len ≡ len_of v → place ≡ place_of v
    → hot_of w ≡ hot_of v → Claims v w
claimed_word v w n len place u words below free fit same_len same_place hot =
    let c = claims v free.0 free.1 in
    let near = same_but_hot w (v + 1) fit.0 (claimed_below v below free.0) (fit.4 ∙ sym c.state)
    (fit.3 ∙ sym c.pins) (fit.1 ∙ same_len ∙ sym c.len) (fit.2 ∙ same_place ∙ sym c.place) in
    let flags = ap flag_number (hot ∙ sym c.hot) in
    let number : v + 1 ≡ w = omega (arith, near, flags) in
    subst (Claims v) number c

held_words : (x y : Words) (far new : FarState) (s : Shown) (es : List Access) (frames : List ℕ)
    → RunsStill x y far s es → new.spans ≡ far.spans → leaving_frames new.leaving ≡ frames
    → ((h : ℕ) → IsIn far.spans frames h → IsFree (word_at x h))
    → IsBatchBegun far new es s (played es s) → AreSpansClaimed x y far frames
held_words x y far new s es frames r spans leaves free z =
    changes_words x y far s es r _ _ (record {
      objects = z.objects;
      others = λ h out. z.others h (λ i. out (out_of h i));
      hots = λ h out. hots h;
      versions = z.versions ∙ ap (λ (t : Shown). t.versions) r.told;
      memory = z.memory ∙ ap (λ (t : Shown). t.memory) r.told;
    }) (λ h i.
    let a = z.claimed h (into h i) in
    let found : word_at x h ≡ a.word =
    found_exact es x y h a.word r.ran r.looks_first a.found in
    let below : h < length s.objects =
    (are_unique far s (length s.objects) r.known.sound.here refl).below i.0 h i.2 in
    let range : h < length x.words = omega (arith, below, r.known.shows.objects) in
    let fit : Fits (is.Claimed (len_of a.word) (place_of a.word) a.version a.words)
    (word_at y h) =
    subst (λ (o : Object). Fits o (word_at y h)) a.object
    (shows.fit h (omega (arith, range, count))) in
    let was : Fits (is.Here (len_of a.word) (place_of a.word)) (word_at x h) =
    subst (λ (o : Object). Fits o (word_at x h)) a.was (r.known.shows.fit h range) in
    claimed_word (word_at x h) (word_at y h) 0 (len_of a.word) (place_of a.word) a.version a.words
    was.0 (free h i) fit (ap len_of (sym found)) (ap place_of (sym found))
    (sym (seen_then.hot h (omega (arith, range, count)))
    ∙ hots h ∙ seen.hot h range))
  where
    shows : Shows y (played es s)
    shows = shows_then x y far s es r

    count : length y.words ≡ length x.words
    count = same_count x y far s es r z.objects

    hots : (h : ℕ) → hot_at (played es s) h ≡ hot_at s h
    hots h = ap (λ (l : List Bool). get_or l h false) (z.hots ∙ ap (λ (t : Shown). t.hots) r.told)

    seen : AreHotsKnown x s
    seen = seen_known x far s r.known

    seen_then : AreHotsKnown y (played es s)
    seen_then = seen_after es x y s r.ran seen

    into : (h : ℕ) → IsIn far.spans frames h → IsInLeavingSpan new h
    into h i = subst (λ (l : List ℕ). IsIn new.spans l h) (sym leaves)
        (subst (λ (l : List _). IsIn l frames h) (sym spans) i)

    out_of : (h : ℕ) → IsInLeavingSpan new h → IsIn far.spans frames h
    out_of h i = subst (λ (l : List _). IsIn l frames h) spans
        (subst (λ (l : List ℕ). IsIn new.spans l h) leaves i)

begun_to : (x y : Words) (far new : FarState) (made : Bool) (s : Shown) (es : List Access)
    → RunsStill x y far s es → IsKnown y new (played es s)
    → (pages : ℕ) → batch_pages far.code.k far.spans (loose_frames x far) ≡ Some pages
    → (b : HasBegun far new made (take far.code.k (loose_of far.spans pages (loose_frames x far))) es)
    → IsBatchBegun far new es s (played es s)
    → (t : IsBegunTo x y far new made (take far.code.k (loose_of far.spans pages (loose_frames x far))))
    × (t.pages ≡ b.pages)
begun_to x y far new made s es r l pages longest b z =
    let k = far.code.k in let frames = take k (loose_of far.spans pages (loose_frames x far)) in
    let batch = new_batch far b.pages frames b.words made b.parities in
    let held = held_words x y far new s es frames r
    (ap (λ (f : FarState). f.spans) b.state) (ap (λ (f : FarState). leaving_frames f.leaving)
    b.state)
    (λ h i. leaves_free x far k pages h i) z in
    let word = (l.sound.away.sound.batch batch (ap (λ (f : FarState). f.leaving) b.state)).word in
    let memory : (played es s).memory ≡ x.memory = l.shows.memory ∙ held.memory in (
      record {
        pages = b.pages;
        long = b.long;
        words = b.words;
        parities = b.parities;
        of = b.of;
        order = b.order;
        each_once = b.each_once;
        noted = λ i e within. let f = get_or b.words i e in
            sym (found_exact es x y f.handle f.word r.ran r.looks_first (b.found i e within));
        count = b.counts.1;
        word = λ yes. subst (λ (ms : List ℕ). IsSpanWord b.pages k far.code.r
            (map (λ f. row_of (window ms (512 * f) (512 * b.pages))) frames ++ b.parities)) memory
            (subst (λ (n : ℕ). IsSpanWord b.pages n far.code.r (batch_rows (played es s) batch))
            (taken_count k far.spans (loose_frames x far) pages longest)
            (subst (λ (n : ℕ). IsSpanWord b.pages (length frames) n (batch_rows (played es s) batch))
            b.counts.1 (word yes)));
        bare = b.bare;
        state = b.state;
        held = held;
      },
      refl,
    )

-- ---- the step
-- what is so of the rows that were read is so of those that are known
abbrev pub Gives : FarState → FarState → Bool → (List (List ℕ) → Type 0) → Shown → Type 0
Gives far new made so t = (pages : ℕ) (frames : List ℕ) (words : List Former)
    (parities rows : List (List ℕ)) → new ≡ with_batch far pages frames words made parities
    → so rows → so (rows_in t pages frames)

by_looks : (x y : Words) (far new : FarState) (made : Bool) (so : List (List ℕ) → Type 0)
    (r : Reply) (s : Shown) (es : List Access)
    (loose : List ℕ) → RunsStill x y far s es → IsKnown y new (played es s) → far.leaving ≡ None
    → loose ≡ loose_frames x far → BeginEffect far new r es s (played es s)
    → Gives far new made so (played es s)
    → HasFewSpans far new r loose ⊎ (HasFewNodes far new r loose
    ⊎ HasBatch far new made so r loose es)
    → BeginsTo x y far new made so r × IsStepKnown y far new s
by_looks x y far new made so r s es loose runs l none same effect gives (inl a) =
    refused x y far new s es runs l (effect.left
    (λ id e. spans_batch (most_loose far.spans loose) r id a.reply e)) a.state
    (few_spans none (subst (HasFewSpans far new r) same a))
by_looks x y far new made so r s es loose runs l none same effect gives (inr (inl a)) =
    refused x y far new s es runs l (effect.left (λ id e. nodes_batch _ r id a.reply e)) a.state
    (few_nodes none (subst (HasFewNodes far new r) same a))
by_looks x y far new made so r s es loose runs l none same effect gives (inr (inr a)) =
    let b = subst (λ (frames : List ℕ). HasBatch far new made so r frames es) same a in
    let z = effect.begun (record { n = far.counts.sets }) a.reply in
    let frames = take far.code.k (loose_of far.spans b.pages (loose_frames x far)) in
    let t = begun_to x y far new made s es runs l b.pages b.longest b.begun z in
    let memory : (played es s).memory ≡ x.memory = l.shows.memory ∙ t.0.held.memory in (
      begins (record {
        none = none;
        pages = b.pages;
        longest = b.longest;
        room = b.room;
        reply = b.reply;
        begun = t.0;
        given = subst (λ (n : ℕ). so (frame_rows x n frames)) (sym t.1)
            (subst (λ (ms : List ℕ). so
            (map (λ f. row_of (window ms (512 * f) (512 * b.begun.pages))) frames)) memory
            (gives b.begun.pages frames b.begun.words b.begun.parities b.begun.rows b.begun.state
            b.given));
      }),
      record {
        shown = played es s;
        known = l;
        same_now = λ h. z.same_now h ∙ ap (λ (t : Shown). now t far h) runs.told;
      },
    )

by_rule : (x y : Words) (far new : FarState) (made : Bool) (so : List (List ℕ) → Type 0)
    (r : Reply) (s : Shown) (es : List Access)
    → RunsStill x y far s es → IsKnown y new (played es s)
    → BeginEffect far new r es s (played es s) → Gives far new made so (played es s)
    → BeginsBy far new made so r es
    → BeginsTo x y far new made so r × IsStepKnown y far new s
by_rule x y far new made so r s es runs l effect gives (inl a) =
    refused x y far new s es runs l (effect.left (λ id e. leaving_batch _ id r a.reply e)) a.state
    (is_leaving a.batch a.there a.reply a.state)
by_rule x y far new made so r s es runs l effect gives (inr a) =
    by_looks x y far new made so r s es a.loose runs l a.none
    (loose_exact es x y far a.loose runs.ran runs.looks_first a.found) effect gives a.answered

-- Over a still desk of which all is known a begin is a step, and all is known of it afterwards. A
-- begin that found no memory changes no word, as an eviction does (`evict_stopped`).
pub begin_step : (x y : Words) (far new : FarState) (r : Reply) (s : Shown)
    → PerformsStill x y far new (BeginRule far new r) (BeginEffect far new r)
    → IsKnown x far s → IsBeginStep x y far new r × IsStepKnown y far new s
begin_step x y far new r s p k =
    let rules = BeginRule far new r in let does = BeginEffect far new r in
    by_rule x y far new true (λ rows. Unit {0}) r s p.events
    (runs_still x y far new rules does s k p)
    (known_then x y far new rules does s k p) (p.effect s ((k.sized, k.shows), k.sound))
    (λ pages frames words parities rows state so. tt) p.rule

-- the rows of an order that is kept are those of the batch
order_rows : (t : Shown) (far new : FarState) (pages : ℕ) (frames : List ℕ) (words : List Former)
    (made : Bool) (parities rows : List (List ℕ))
    → new ≡ with_batch far pages frames words made parities
    → IsEncodeKept t new (order_for far rows) → rows ≡ rows_in t pages frames
order_rows t far new pages frames words made parities rows state kept =
    kept.rows (new_batch far pages frames words made parities)
    (ap (λ (f : FarState). f.leaving) state) refl

-- and so is a gather
pub gather_step : (x y : Words) (far new : FarState) (g : Gathered) (s : Shown)
    → PerformsStill x y far new (GatherRule far new g) (GatherEffect far new g)
    → IsKnown x far s → IsGatherStep x y far new g × IsStepKnown y far new s
gather_step x y far new g s p k =
    let rules = GatherRule far new g in let does = GatherEffect far new g in
    let effect = p.effect s ((k.sized, k.shows), k.sound) in
    by_rule x y far new false (HandsOut far g) (gathered_reply g) s p.events
    (runs_still x y far new rules does s k p)
    (known_then x y far new rules does s k p) effect.did
    (λ pages frames words parities rows state so. so
    ∙ ap (λ (rs : List (List ℕ)). gathered.Order (order_for far rs))
    (order_rows (played p.events s) far new pages frames words false parities rows state
    (effect.kept (order_for far rows) so))) p.rule
