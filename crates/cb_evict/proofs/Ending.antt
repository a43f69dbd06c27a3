-- The end of an eviction: rows are read and put, objects are put away, or given back.
use Rattle.std.proofs.Common.{◌≡◌, ℕ, ◌+◌, ◌*◌, ◌^◌, ◌<◌, ◌≤◌, Bool, true, false, List, [], ◌++◌, length, get_or, All, Option, Some, sym, refl, ap, ◌∙◌, subst, arith}
use Rattle.std.specs.List.{Contains, slice_get}
use Rattle.std.proofs.lemmas.List.{get_or_default}
use Rattle.std.proofs.lemmas.List.Elements.{All-contains}
use Rattle.std.proofs.lemmas.Option.{slice_get-get_or, slice_get_within, get_or_from_slice_get}
use Rattle.cb_class.proofs.Laws.{pages_few}
use Rattle.cb_gf256.specs.CodeWord.{IsCodeWord}
use Rattle.cb_gf256.specs.InRange.{IsInRange}
use Rattle.cb_gf256.specs.Rows.{row_at, HoldBytes}
use Rattle.cb_member.specs.declared.names.Shard.{Shard}
use Rattle.cb_span.specs.Contents.{Contents}
use Rattle.cb_world.specs.declared.entry.Entry.{Entry}
use Rattle.cb_world.specs.declared.access.Access.{Access}
use Rattle.cb_world.specs.declared.homes.Home.{Home}
use Rattle.cb_world.specs.declared.leaving.Former.{Former}
use Rattle.cb_world.specs.declared.shown.Shown.{Shown}
use Rattle.cb_world.specs.Allowed.{Allowed}
use Rattle.cb_world.specs.Played.{played}
use Rattle.cb_world.specs.Looks.{NoLook}
use Rattle.cb_world.specs.Written.{Writes, written_by}
use Rattle.cb_world.specs.FarState.{FarState, handle_in, pages_at}
use Rattle.cb_world.specs.FrameWords.{OwnsRun}
use Rattle.cb_world.specs.LocalSound.{LocalSound}
use Rattle.cb_world.specs.RowWords.{row_of}
use Rattle.cb_world.specs.Sound.{Sound}
use Rattle.cb_world.proofs.Laws.{allowed_append, played_append, written_append, frame_owned}
use Rattle.cb_evict.specs.Candidates.{candidates}
use Rattle.cb_evict.specs.Beginning.{AreParities}
use Rattle.cb_evict.specs.Claims.{AreClaimed}
use Rattle.cb_evict.specs.Claiming.{IsOne}
use Rattle.cb_evict.specs.Closing.{HaveHomes, with_homes}
use Rattle.cb_evict.specs.Events.{TouchesOnly, AreSteady}
use Rattle.cb_evict.specs.EvictEffect.{IsEvicted}
use Rattle.cb_evict.specs.EvictRule.{HasEvicted}
use Rattle.cb_evict.specs.Evicting.{AreSpansTaken, IsReadyToEvict, TouchesSpans}
use Rattle.cb_evict.specs.Loading.{IsRowOfRun, LiesInOne}
use Rattle.cb_evict.specs.Looking.{IsIn}
use Rattle.cb_evict.specs.Storing.{KeepsSet, with_set}
use Rattle.cb_evict.proofs.Events.{AreAllReads, touches_append, touches_more, no_look_append, told_words, told_objects}
use Rattle.cb_evict.proofs.EvictSound.{EvictDone, after_far, rule_then, sound_then, effect_then, told_before}
use Rattle.cb_evict.proofs.Loads.{span_long}
use Rattle.cb_evict.proofs.Owned.{claimed_held}
use Rattle.cb_evict.proofs.Standing.{IsReadyFrame, ready_frame}
use Rattle.cb_evict.proofs.TakenGroup.{AreRowsCoded, frame_rows, rows_read}

-- ---- the frames that were taken
pub taken_ready : (far : FarState) (frames : List ℕ) (formers : List Former)
    (s : Shown)
    → AreSpansTaken far frames formers → LocalSound s far → (f : ℕ) → Contains frames f
    → IsReadyFrame far f
taken_ready far frames formers s a sound f x =
    ready_frame far s f sound (All-contains (Contains (candidates far)) frames f a.among x)

pub place_in : (frames : List ℕ) (k d : ℕ) → k < length frames → Contains frames (get_or frames k d)
place_in frames k d l = (k, l, get_or_default frames k (get_or frames k d) d l)

pub handles_all : (es : List Access) (s t : Shown) (formers : List Former) (n : ℕ)
    → AreClaimed es s t formers → length t.objects ≡ n → All (λ f. f.handle < n) formers
handles_all es s t formers n a count k d l =
    let h = (a.taken k d l).at.handle in omega (arith, h, count)

-- the caller owns the words of the frames
pub owns_taken : (far : FarState) (frames : List ℕ) (formers : List Former)
    (before : List Access) (s t : Shown) → (a : AreSpansTaken far frames formers)
    → LocalSound s far → LocalSound t far → AreClaimed before s t formers → (f : ℕ)
    → Contains frames f → OwnsRun t f a.pages
owns_taken far frames formers before s t a sound here claimed f x p lies =
    let r = taken_ready far frames formers s a sound f x in
    let long = span_long far.spans a.pages frames f r.span a.long x r.there in
    frame_owned far t f r.span here r.there
    (λ slot h named. claimed_held before s t formers claimed h
    (a.of.all h (f, x, (slot, ap (λ (o : Option Contents). handle_in o slot) r.there ∙ named))))
    p (lies.0, omega (arith, lies.1, long))

-- ---- the eviction
-- the parities of a set that is kept
pub kept_parities : {far mid : FarState} {pages : ℕ} (shards : List Shard) (frames : List ℕ) (n : ℕ)
    (coded : List (List ℕ)) → length shards ≡ n → (kept : KeepsSet far mid pages shards frames coded)
    → AreParities (length frames) n coded kept.parities
kept_parities shards frames n coded count kept =
    record { count = sym kept.count ∙ count; word = kept.word; bytes = kept.bytes }

-- what is known once the rows are read, and coded where the parities are made
abbrev pub are_read_by : (far : FarState) (frames : List ℕ) (formers : List Former) (by : Bool)
    (coded parities : List (List ℕ)) (shows : Shown → Type 0) (before : List Access) (s : Shown)
    → IsInRange far.code.k far.code.r → IsReadyToEvict shows far formers before s
    → (taken : AreSpansTaken far frames formers) → length parities ≡ far.code.r
    → (by ≡ true → AreParities (length frames) (far.code.k + far.code.r) coded parities)
    → length coded ≡ length frames
    → ((p f : ℕ) → slice_get frames p ≡ Some f → IsRowOfRun shows f taken.pages (row_at coded p))
    → AreRowsCoded far frames formers by parities before s (played before s)
    × (coded ≡ frame_rows (played before s) taken.pages frames)
are_read_by far frames formers by coded parities shows before s ok r taken few a count made =
    let t = played before s in
    let owned = owns_taken far frames formers before s t taken r.sound.here r.here r.claimed in
    let same : coded ≡ frame_rows t taken.pages frames = rows_read t taken.pages frames coded count (λ p f at.
    let m = made p f at in
    m.made ∙ ap row_of (m.contents t r.shown (owned f (placed frames p f at)))) in (
      record {
        sound = r.sound;
        claimed = r.claimed;
        here = r.here;
        taken = taken;
        range = ok;
        few = few;
        word = λ yes. subst (λ (rows : List (List ℕ)). IsCodeWord far.code.k far.code.r (rows ++ parities)) same
            (subst (λ (n : ℕ). IsCodeWord n far.code.r (coded ++ parities)) taken.count
            (subst (λ (n : ℕ). IsCodeWord (length frames) n (coded ++ parities)) few (a yes).word));
        bytes = λ yes. subst (λ (rows : List (List ℕ)). HoldBytes (rows ++ parities)) same (a yes).bytes;
        small = λ f (p, within, at).
            let e : slice_get frames p ≡ Some f =
            slice_get-get_or frames p f within ∙ ap (λ (n : ℕ). Some n) at in
            let m = made p f e in
            subst (λ (ws : List ℕ). All (λ w. w < 2 ^ 64) ws)
            (m.contents t r.shown (owned f (p, within, at)))
            m.small;
      },
      same,
    )
  where
    placed : (frames : List ℕ) (p f : ℕ) → slice_get frames p ≡ Some f → Contains frames f
    placed frames p f at = (
      p,
      slice_get_within frames p f at,
      get_or_from_slice_get frames p f f
          at,
    )

-- so, of rows that are coded
abbrev pub are_read : (far : FarState) (frames : List ℕ) (formers : List Former)
    (coded parities : List (List ℕ)) (shows : Shown → Type 0) (before : List Access) (s : Shown)
    → IsInRange far.code.k far.code.r → IsReadyToEvict shows far formers before s
    → (taken : AreSpansTaken far frames formers)
    → AreParities (length frames) (far.code.k + far.code.r) coded parities → length coded ≡ length frames
    → ((p f : ℕ) → slice_get frames p ≡ Some f → IsRowOfRun shows f taken.pages (row_at coded p))
    → AreRowsCoded far frames formers true parities before s (played before s)
    × (coded ≡ frame_rows (played before s) taken.pages frames)
are_read far frames formers coded parities shows before s ok r taken a count made =
    are_read_by far frames formers true coded parities shows before s ok r taken
    (let n = a.count in omega (arith, n, taken.count)) (λ yes. a) count made

-- all that is promised of the events of the end
pub record Ended (far new : FarState) (frames : List ℕ) (before events : List Access)
    (s : Shown) : Type 0 where
  pub evicted : HasEvicted far new frames (before ++ events)
  pub sound : Sound (played (before ++ events) s) new
  pub effect : IsEvicted far new (before ++ events) s (played (before ++ events) s)

-- the events read words and put objects away
pub record IsEvictEnd (q : ℕ → Type 0) (formers : List Former) (ls ss : List Access) : Type 0 where
  pub reads : AreAllReads q ls
  pub touches : TouchesOnly (IsOne formers) (λ p. ⊥) ss
  pub quiet : (k : ℕ) → NoLook k ss

pub end_quiet : (q : ℕ → Type 0) (formers : List Former) (ls ss : List Access)
    → IsEvictEnd q formers ls ss
    → (k : ℕ) → NoLook k (ls ++ ss)
end_quiet q formers ls ss e k = no_look_append k ls ss (e.reads.quiet k) (e.quiet k)

pub end_touches : (q : ℕ → Type 0) (formers : List Former) (ls ss : List Access)
    → IsEvictEnd q formers ls ss → TouchesOnly (IsOne formers) q (ls ++ ss)
end_touches q formers ls ss e = touches_append (IsOne formers) q ls ss
    (touches_more (λ h. ⊥) (IsOne formers) q q ls (λ h x. absurd x) (λ p x. x) e.reads.touches)
    (touches_more (IsOne formers) (IsOne formers) (λ p. ⊥) q ss (λ h x. x) (λ p x. absurd x)
    e.touches)

-- they are allowed, where those that settle are so
pub end_allowed : (q : ℕ → Type 0) (formers : List Former) (before ls ss : List Access) (s : Shown)
    → IsEvictEnd q formers ls ss → Allowed (played before s) ss
    → Allowed (played before s) (ls ++ ss)
end_allowed q formers before ls ss s e may = allowed_append ls ss (played before s)
    (e.reads.steady (played before s)).allowed
    (subst (λ (v : Shown). Allowed v ss) (sym (e.reads.stays (played before s))) may)

pub end_played : (q : ℕ → Type 0) (formers : List Former) (before ls ss : List Access) (s : Shown)
    → IsEvictEnd q formers ls ss → played (before ++ (ls ++ ss)) s ≡ played ss (played before s)
end_played q formers before ls ss s e = played_append before (ls ++ ss) s
    ∙ played_append ls ss (played before s) ∙ ap (played ss) (e.reads.stays (played before s))

pub ended : (far new : FarState) (frames : List ℕ) (formers : List Former)
    (shards : List Shard) (coded parities : List (List ℕ)) (homes : List (Option Home))
    (q o p : ℕ → Type 0) (before ls ss : List Access) (s : Shown)
    → (d : EvictDone far frames formers shards parities homes before s (played before s)
    (played ss (played before s)))
    → coded ≡ frame_rows (played before s) d.read.taken.pages frames → IsEvictEnd q formers ls ss
    → new ≡ after_far far d.read.taken.pages frames shards (coded ++ parities) homes
    → AreSteady before s
    → TouchesOnly o p (before ++ (ls ++ ss)) → Writes ss (played before s) []
    → Ended far new frames before (ls ++ ss) s
ended far new frames formers shards coded parities homes q o p before ls ss s d read e state
    steady
    touches nothing =
    let t = played before s in let u = played ss t in
    let pages = d.read.taken.pages in
    let events = ls ++ ss in let rows = frame_rows t pages frames ++ parities in
    let is : new ≡ after_far far pages frames shards rows homes =
    state ∙ ap (λ (l : List (List ℕ)). after_far far pages frames shards (l ++ parities) homes) read in
    let quiet = end_quiet q formers ls ss e in
    let same = end_played q formers before ls ss s e in
    let words = told_words o p (before ++ events) s s touches refl refl in
    let told = told_before (IsOne formers) q before events s (end_touches q formers ls ss e) quiet
    in
    record {
      evicted = subst (λ (x : FarState). HasEvicted far x frames (before ++ events)) (sym is)
          (rule_then far frames formers shards parities homes before s t u d events quiet);
      sound = subst (λ (x : FarState). Sound (played (before ++ events) s) x) (sym is)
          (subst (λ (v : Shown). Sound v (after_far far pages frames shards rows homes)) (sym same)
          (sound_then far frames formers shards parities homes before s t u d));
      effect = subst (λ (x : FarState). IsEvicted far x (before ++ events) s
          (played (before ++ events) s)) (sym is)
          (subst (λ (v : Shown). IsEvicted far (after_far far pages frames shards rows homes)
          (before ++ events) s v) (sym same)
          (effect_then far frames formers shards parities homes before s t u d events quiet
          (λ h none. d.sent.hots h none
          ∙ ap (λ (l : List Bool). get_or l h false)
          (steady.hots ∙ sym (ap (λ (x : Shown). x.hots) told)))
          (told_objects (before ++ events) s).0
          (sym (ap (λ (x : Shown). x.versions) same) ∙ words.0)
          (sym (ap (λ (x : Shown). x.memory) same) ∙ words.1)
          (λ old. written_append before events s old
          ∙ ap (λ (l : List Entry). written_by events t l) (steady.nothing old)
          ∙ written_append ls ss t old
          ∙ ap (λ (l : List Entry). written_by ss (played ls t) l) ((e.reads.steady t).nothing old)
          ∙ ap (λ (x : Shown). written_by ss x old) (e.reads.stays t) ∙ nothing old)));
    }

-- the far state in which it ends
pub state_then : (far mid new : FarState) (pages : ℕ) (frames : List ℕ) (shards : List Shard)
    (rows : List (List ℕ)) → mid ≡ with_set far pages shards frames rows
    → new ≡ with_homes mid frames new.homes
    → new ≡ after_far far pages frames shards rows new.homes
state_then far mid new pages frames shards rows a b =
    b ∙ ap (λ (x : FarState). with_homes x frames new.homes) a

pub homes_then : (far mid : FarState) (pages : ℕ) (frames : List ℕ) (shards : List Shard)
    (rows : List (List ℕ)) (id : ℕ) (homes : List (Option Home))
    → mid ≡ with_set far pages shards frames rows
    → id ≡ far.counts.sets → HaveHomes mid.spans frames id mid.homes homes
    → HaveHomes far.spans frames far.counts.sets far.homes homes
homes_then far mid pages frames shards rows id homes a e x =
    subst (λ (n : ℕ). HaveHomes far.spans frames n far.homes homes) e
    (subst (λ (y : FarState). HaveHomes y.spans frames id y.homes homes) a x)

-- the events touch objects and words of the frames alone
pub one_in : (far : FarState) (frames : List ℕ) (formers : List Former)
    → All (λ f. IsIn far.spans frames f.handle) formers → (h : ℕ) → IsOne formers h
    → IsIn far.spans frames h
one_in far frames formers only h (f, x, same) = subst (IsIn far.spans frames) same
    (All-contains (λ g. IsIn far.spans frames g.handle) formers f only x)

pub end_in : (far : FarState) (frames : List ℕ) (formers : List Former) (ls ss : List Access)
    → All (λ f. IsIn far.spans frames f.handle) formers
    → IsEvictEnd (LiesInOne far.spans frames) formers ls ss
    → TouchesOnly (IsIn far.spans frames) (LiesInOne far.spans frames) (ls ++ ss)
end_in far frames formers ls ss only e =
    touches_more (IsOne formers) (IsIn far.spans frames) (LiesInOne far.spans frames)
    (LiesInOne far.spans frames) (ls ++ ss) (one_in far frames formers only) (λ p x. x) (end_touches (LiesInOne far.spans frames) formers ls ss e)

-- the frames are candidates
pub spans_touched : (far : FarState) (frames : List ℕ) (before es : List Access)
    → All (Contains (candidates far)) frames → TouchesSpans far before
    → TouchesOnly (IsIn far.spans frames) (LiesInOne far.spans frames) es → TouchesSpans far (before ++ es)
spans_touched far frames before es among touched t =
    touches_append (IsIn far.spans (candidates far)) (LiesInOne far.spans (candidates far)) before es touched
    (touches_more (IsIn far.spans frames) (IsIn far.spans (candidates far)) (LiesInOne far.spans frames)
    (LiesInOne far.spans (candidates far)) es
    (λ h (f, x, named). (f, All-contains (Contains (candidates far)) frames f among x, named))
    (λ p (f, x, lies). (f, All-contains (Contains (candidates far)) frames f among x, lies)) t)

-- the frames of the spans are those that there are
pub frames_below : (far : FarState) (frames : List ℕ) (formers : List Former)
    (s t : Shown) (n : ℕ) → (a : AreSpansTaken far frames formers) → LocalSound s far
    → LocalSound t far → length t.memory ≡ 512 * n → All (λ f. f + a.pages ≤ n) frames
frames_below far frames formers s t n a sound here count k d l =
    let f = get_or frames k d in let c = place_in frames k d l in
    let x = taken_ready far frames formers s a sound f c in
    let long = span_long far.spans a.pages frames f x.span a.long c x.there in
    let w = here.frames.within f x.span x.there in
    omega (arith, w, here.placed.memory, count, long)

-- the length of the spans is that of the first one, and a span has few pages
pub pages_first : (far : FarState) (frames : List ℕ) (formers : List Former) (s : Shown)
    (d : ℕ) → (a : AreSpansTaken far frames formers) → LocalSound s far → 0 < length frames
    → (pages_at far.spans (get_or frames 0 d) ≡ a.pages) × (a.pages ≤ 4)
pages_first far frames formers s d a sound some =
    let f = get_or frames 0 d in let c = place_in frames 0 d some in
    let x = taken_ready far frames formers s a sound f c in
    let long = span_long far.spans a.pages frames f x.span a.long c x.there in
    let few = pages_few x.span.class x.valid.in_table in
    (a.long 0 d some, omega (arith, few, long))

-- so what is read off the first span is the length of all
pub pages_told : (far : FarState) (frames : List ℕ) (formers : List Former) (s : Shown)
    (d n : ℕ) → (a : AreSpansTaken far frames formers) → LocalSound s far → 1 ≤ far.code.k
    → n ≡ pages_at far.spans (get_or frames 0 d) → n ≡ a.pages
pages_told far frames formers s d n a sound some is =
    is ∙ (pages_first far frames formers s d a sound (let c = a.count in omega (arith, c, some))).0
