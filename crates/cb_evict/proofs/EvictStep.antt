-- Over a still desk an eviction is a step: what its rule and its effect say is exact there.
use Rattle.std.proofs.Common.{◌≡◌, ◌⊎◌, ℕ, true, ◌+◌, ◌*◌, ◌<◌, ◌≤◌, List, length, take, Option, Some, None, refl, sym, ap, ◌∙◌, subst, arith, inl, inr}
use Rattle.std.specs.List.{Contains}
use Rattle.std.proofs.lemmas.Bool.{false≢true}
use Rattle.std.proofs.lemmas.List.Elements.{All-contains, filter_passes}
use Rattle.cb_class.specs.Class.{words_of}
use Rattle.cb_gf256.specs.Rows.{row_at}
use Rattle.cb_ptr.specs.Word.{len_of, place_of}
use Rattle.cb_ptr.proofs.Laws.{far_word_is, len_of-below}
use Rattle.cb_span.specs.Contents.{Contents}
use Rattle.cb_types.specs.declared.reply.Reply.{Reply}
use Rattle.cb_world.specs.declared.object.Object.{Object}
use Rattle.cb_world.specs.declared.object.Object.TheVariants as is
use Rattle.cb_world.specs.declared.access.Access.{Access}
use Rattle.cb_world.specs.declared.shown.Shown.{Shown}
use Rattle.cb_world.specs.Shown.{Fits, hot_at}
use Rattle.cb_world.specs.FarState.{FarState, span_in}
use Rattle.cb_world.specs.Memory.{window, words_for}
use Rattle.cb_world.specs.Now.{now}
use Rattle.cb_world.specs.Plain.{Words, Shows}
use Rattle.cb_world.specs.Played.{played}
use Rattle.cb_world.specs.RowWords.{words_in}
use Rattle.cb_world.specs.Still.{IsStill}
use Rattle.cb_world.specs.StillDesk.{plain_follows}
use Rattle.cb_world.specs.World.{word_at, IsKnown}
use Rattle.cb_world.proofs.Laws.{IsStepKnown, found_exact, taken_exact, now_same, PerformsStill, RunsStill, runs_still, known_then, stays_still}
use Rattle.cb_evict.specs.Closing.{all_closed}
use Rattle.cb_evict.specs.Candidates.{candidates}
use Rattle.cb_evict.specs.EvictEffect.{HasLeft, HaveFrameRows, IsEvicted, EvictEffect}
use Rattle.cb_evict.specs.EvictRule.{AreInRows, HasEvicted, HasFewSpans, HasFewNodes, HasBoth, EvictRule}
use Rattle.cb_evict.specs.EvictStep.{is_loose, loose_frames, AreSentOff, HaveContents, IsEvictedTo, IsEvictStep, few_spans, few_nodes, made, IsCountedStep}
use Rattle.cb_evict.specs.Evicting.{TouchesSpans}
use Rattle.cb_evict.specs.declared.eviction.Eviction.{Eviction}
use Rattle.cb_evict.specs.Eviction.{CountsRule, TellsCounts, reply_of}
use Rattle.cb_evict.specs.Lengths.{loose_of, most_loose}
use Rattle.cb_evict.specs.Looking.{IsIn}
use Rattle.cb_evict.proofs.ChangedWords.{changes_words, same_count, shows_then}
use Rattle.cb_evict.proofs.Composed.{few_spans as not_few_spans, few_nodes as not_few_nodes, rule_weaker}
use Rattle.cb_evict.proofs.FrameRows.{rows_of_frames}
use Rattle.cb_evict.proofs.Gone.{in_or_out, closed_in}
use Rattle.cb_evict.proofs.Homing.{closed_else}
use Rattle.cb_evict.proofs.LooseLengths.{taken_count}
use Rattle.cb_evict.proofs.LooseSpans.{loose_exact}
use Rattle.cb_evict.proofs.Standing.{names_span, are_unique}
use Rattle.cb_evict.proofs.Trying.{taken_in}
use Rattle.cb_evict.proofs.Options.{some_none}

-- ---- which objects left
has_left : (far new : FarState) (frames : List ℕ) (h : ℕ)
    → new.spans ≡ all_closed far.spans frames → IsIn far.spans frames h → HasLeft far new h
has_left far new frames h e (f, c, named) = (
  f,
  named,
  ap (λ (spans : List (Option Contents)). span_in spans f) e ∙ closed_in far.spans frames f c,
)

was_in : (far new : FarState) (frames : List ℕ) (h : ℕ) → new.spans ≡ all_closed far.spans frames
    → HasLeft far new h → IsIn far.spans frames h
was_in far new frames h e (f, named, gone) = elim (in_or_out frames f) [
  | inl c ↦ (f, c, named)
  | inr none ↦ let span = names_span far.spans f h named in
      absurd (some_none span.0 (sym span.1 ∙ sym (closed_else far.spans frames f none)
      ∙ sym (ap (λ (spans : List (Option Contents)). span_in spans f) e) ∙ gone))
]

-- ---- every word
sent_off : (x y : Words) (far new : FarState) (s : Shown) (es : List Access) (frames : List ℕ)
    → RunsStill x y far s es → new.spans ≡ all_closed far.spans frames
    → IsEvicted far new es s (played es s) → AreSentOff x y far frames
sent_off x y far new s es frames r closed z =
    changes_words x y far s es r _ _ (record {
      objects = z.objects;
      others = λ h out. z.others h (stays h out);
      hots = λ h out. z.hots h (stays h out) ∙ ap (λ (t : Shown). hot_at t h) r.told;
      versions = z.versions ∙ ap (λ (t : Shown). t.versions) r.told;
      memory = z.memory ∙ ap (λ (t : Shown). t.memory) r.told;
    }) (λ h m.
    let a = z.away h (has_left far new frames h closed m) in
    let found : word_at x h ≡ a.word =
    found_exact es x y h a.word r.ran r.looks_first a.found in
    let below : h < length s.objects =
    (are_unique far s (length s.objects) r.known.sound.here refl).below m.0 h m.2 in
    let fit : Fits (is.Far (len_of a.word) a.version a.words) (word_at y h) =
    subst (λ (o : Object). Fits o (word_at y h)) a.object
    (shows.fit h (omega (arith, below, count, r.known.shows.objects))) in
    far_word_is (len_of (word_at x h)) (word_at y h) (len_of-below (word_at x h))
    (fit.0 ∙ ap (λ (n : ℕ). 1 + n * 8192) (fit.1 ∙ ap len_of (sym found))))
  where
    shows : Shows y (played es s)
    shows = shows_then x y far s es r

    count : length y.words ≡ length x.words
    count = same_count x y far s es r z.objects

    stays : (h : ℕ) → ¬ (IsIn far.spans frames h) → ¬ (HasLeft far new h)
    stays h out left = out (was_in far new frames h closed left)

-- the claims told the memory words as they stand
have_contents : (x y : Words) (far : FarState) (s : Shown) (es : List Access) (frames : List ℕ)
    (rows : List (List ℕ)) → RunsStill x y far s es → AreInRows es far frames rows
    → HaveContents x far frames rows
have_contents x y far s es frames rows r are p f slot h span at there named =
    let c = are p f slot h span at there named in
    let t = taken_exact es x y h c.version c.words r.ran r.looks_first c.told in
    ap (λ (w : ℕ). window x.memory (place_of w) (words_for (len_of w)))
    (found_exact es x y h t.0 r.ran r.looks_first t.1)
    ∙ sym t.3 ∙ c.contents
    ∙ ap (λ (w : ℕ). window (words_in (row_at rows p)) (slot * words_of span.class)
    (words_for (len_of w))) (sym (found_exact es x y h c.word r.ran r.looks_first c.found))

-- a frame of those that leave holds a span
is_span : (x : Words) (far : FarState) (f : ℕ) → is_loose x (span_in far.spans f) ≡ true
    → (span : Contents) × (span_in far.spans f ≡ Some span)
is_span x far f loose = by (span_in far.spans f) refl
  where
    by : (o : Option Contents) → span_in far.spans f ≡ o
        → (span : Contents) × (span_in far.spans f ≡ Some span)
    by None e = absurd (false≢true (sym (ap (is_loose x) e) ∙ loose))
    by (Some span) e = (span, e)

pub loose_span : (x : Words) (far : FarState) (f : ℕ) → Contains (loose_frames x far) f
    → (span : Contents) × (span_in far.spans f ≡ Some span)
loose_span x far f c =
    is_span x far f (All-contains (λ (g : ℕ). is_loose x (span_in far.spans g) ≡ true)
    (loose_frames x far) f
    (filter_passes (λ (g : ℕ). is_loose x (span_in far.spans g)) (candidates far))
    c)

loose_spans : (x : Words) (far : FarState) (k pages f : ℕ)
    → Contains (take k (loose_of far.spans pages (loose_frames x far))) f
    → (span : Contents) × (span_in far.spans f ≡ Some span)
loose_spans x far k pages f c =
    loose_span x far f (taken_in k far.spans pages (loose_frames x far) f c)

evicted_to : (x y : Words) (far new : FarState) (s : Shown) (es : List Access) (frames : List ℕ)
    → RunsStill x y far s es → HasEvicted far new frames es
    → IsEvicted far new es s (played es s)
    → ((f : ℕ) → Contains frames f → (span : Contents) × (span_in far.spans f ≡ Some span))
    → length frames ≤ far.code.k + far.code.r → IsEvictedTo x y far new frames
evicted_to x y far new s es frames r e z holds few = record {
  pages = e.pages;
  long = e.long;
  shards = e.shards;
  rows = e.rows;
  chosen = e.chosen;
  word = e.word;
  contents = have_contents x y far s es frames e.rows r e.contents;
  of_frames = rows_of_frames far new s frames es x.memory r.known.sound.here e
      (subst (HaveFrameRows far new) memory z.rows) holds few;
  homes = e.homes;
  state = e.state;
  sent = sent;
}
  where
    sent : AreSentOff x y far frames
    sent = sent_off x y far new s es frames r (ap (λ (f : FarState). f.spans) e.state) z

    memory : (played es s).memory ≡ x.memory
    memory = (plain_follows es x y s r.ran r.known.shows).1.memory ∙ sent.memory

-- ---- the step
-- All is known where nothing changed, which is a refusal.
pub refused : {Step : Type 0} (x y : Words) (far new : FarState) (s : Shown) (es : List Access)
    → RunsStill x y far s es → IsKnown y new (played es s) → IsStill es s (played es s) → new ≡ far
    → (y ≡ x → Step) → Step × IsStepKnown y far new s
refused x y far new s es runs l still state step =
    let t = played es s in
    let words = stays_still x y far s es runs still in
    let m : IsKnown x far t = subst (λ (f : FarState). IsKnown x f t) state
    (subst (λ (u : Words). IsKnown u new t) words l) in (
      step words,
      record {
        shown = t;
        known = l;
        same_now = λ h. ap (λ (f : FarState). now t f h) state
            ∙ now_same x s t far h runs.known.shows runs.known.sound m.shows m.sound;
      },
    )

by_rule : (x y : Words) (far new : FarState) (r : Reply) (s : Shown) (es : List Access)
    (loose : List ℕ) → RunsStill x y far s es → IsKnown y new (played es s)
    → loose ≡ loose_frames x far → EvictEffect far new r es s (played es s)
    → HasFewSpans far new r loose ⊎ (HasFewNodes far new r loose
    ⊎ HasBoth far new r loose es)
    → IsEvictStep x y far new r × IsStepKnown y far new s
by_rule x y far new r s es loose runs l same effect (inl a) =
    refused x y far new s es runs l (effect.left
    (λ id e. not_few_spans (most_loose far.spans loose) r id a.reply e)) a.state
    (few_spans (subst (HasFewSpans far new r) same a))
by_rule x y far new r s es loose runs l same effect (inr (inl a)) =
    refused x y far new s es runs l (effect.left (λ id e. not_few_nodes _ r id a.reply e)) a.state
    (few_nodes (subst (HasFewNodes far new r) same a))
by_rule x y far new r s es loose runs l same effect (inr (inr a)) =
    let b = subst (λ (frames : List ℕ). HasBoth far new r frames es) same a in
    let z = effect.evicted (record { n = far.counts.sets }) a.reply in (
      made (record {
        pages = b.pages;
        longest = b.longest;
        room = b.room;
        reply = b.reply;
        evicted = evicted_to x y far new s es
            (take far.code.k (loose_of far.spans b.pages (loose_frames x far))) runs b.evicted z
            (loose_spans x far far.code.k b.pages)
            (let n = taken_count far.code.k far.spans (loose_frames x far) b.pages b.longest in
            omega (arith, n));
      }),
      record {
        shown = played es s;
        known = l;
        same_now = λ h. z.same_now h ∙ ap (λ (t : Shown). now t far h) runs.told;
      },
    )

-- Over a still desk of which all is known an eviction is a step, and all is known of it afterwards.
pub evict_step : (x y : Words) (far new : FarState) (r : Reply) (s : Shown)
    → PerformsStill x y far new (EvictRule far new r) (EvictEffect far new r)
    → IsKnown x far s → IsEvictStep x y far new r × IsStepKnown y far new s
evict_step x y far new r s p k =
    let rules = EvictRule far new r in let does = EvictEffect far new r in
    let runs = runs_still x y far new rules does s k p in
    by_rule x y far new r s p.events p.rule.loose runs
    (known_then x y far new rules does s k p)
    (loose_exact p.events x y far p.rule.loose p.ran.0 p.looks_first p.rule.found)
    (p.effect s ((k.sized, k.shows), k.sound)) p.rule.answered

-- So is one that tells both counts, of the spans that are loose at the desk.
pub counted_step : (x y : Words) (far new : FarState) (e : Eviction) (s : Shown)
    → PerformsStill x y far new (CountsRule far new e) (EvictEffect far new (reply_of e))
    → IsKnown x far s → IsCountedStep x y far new e
counted_step x y far new e s p k = record {
  step = (evict_step x y far new (reply_of e) s
      (rule_weaker _ _ _ _ (EvictRule far new (reply_of e)) _ (λ es r. r.rule) p) k).0;
  counts = subst (λ (l : List ℕ). TellsCounts far l e)
      (loose_exact p.events x y far p.rule.rule.loose p.ran.0 p.looks_first p.rule.rule.found)
      p.rule.counts;
}

-- One that found no memory changes no word.
pub evict_stopped : (x y : Words) (far : FarState) (s : Shown)
    → PerformsStill x y far far (TouchesSpans far) IsStill → IsKnown x far s → y ≡ x
evict_stopped x y far s p k =
    stays_still x y far s p.events (runs_still x y far far (TouchesSpans far) IsStill s k p)
    (p.effect s ((k.sized, k.shows), k.sound))
