-- What is left where all that was claimed was given back.
use Rattle.std.proofs.Common.{◌≡◌, ◌≢◌, ℕ, List, [], ◌++◌, All, sym, refl, ap, ◌∙◌, subst, inl, inr}
use Rattle.std.specs.List.{Contains}
use Rattle.std.proofs.lemmas.List.{ext_get_or}
use Rattle.std.proofs.lemmas.List.Elements.{All-nil}
use Rattle.cb_world.specs.declared.access.Access.{Access}
use Rattle.cb_world.specs.declared.leaving.Former.{Former}
use Rattle.cb_world.specs.declared.shown.Shown.{Shown}
use Rattle.cb_world.specs.Shown.{IsHeld, object_at, never}
use Rattle.cb_world.specs.Played.{played}
use Rattle.cb_world.specs.Looks.{NoLook}
use Rattle.cb_world.specs.FarState.{FarState}
use Rattle.cb_world.specs.LocalSound.{LocalSound}
use Rattle.cb_world.specs.Sound.{Sound}
use Rattle.cb_world.proofs.Laws.{keeps_all, sound_near}
use Rattle.cb_evict.specs.Candidates.{candidates}
use Rattle.cb_evict.specs.Claims.{AreClaimed, AreBack}
use Rattle.cb_evict.specs.CallPart.{Settles}
use Rattle.cb_evict.specs.Claiming.{GivesBack, IsOne}
use Rattle.cb_evict.specs.Events.{TouchesOnly, OnlyLooks, AreSteady}
use Rattle.cb_evict.specs.Evicting.{EndsClaimed, IsEnded, IsReadyToEvict, LeavesClaimed, ReadsSpans}
use Rattle.cb_evict.specs.Loading.{LiesInOne}
use Rattle.cb_evict.specs.Looking.{IsIn}
use Rattle.cb_world.specs.Still.{IsStill}
use Rattle.cb_evict.proofs.Claims.{claims_back, sound_hots}
use Rattle.cb_evict.proofs.CallParts.{Joins, part_then, reads_part}
use Rattle.cb_evict.proofs.Ending.{IsEvictEnd, end_allowed, end_in, end_played, end_quiet, one_in, spans_touched}
use Rattle.cb_evict.proofs.Events.{are_reads, told_words, steady_append, looks_steady, looks_change}
use Rattle.cb_evict.proofs.Owned.{span_stays}

-- nothing changed
pub restored : (far : FarState) (es : List Access) (s : Shown) (o p : ℕ → Type 0) → Sound s far
    → AreClaimed es s (played es s) [] → LocalSound (played es s) far → AreSteady es s
    → TouchesOnly o p es → IsStill es s (played es s) × Sound (played es s) far
restored far es s o p sound claimed here steady touches =
    let t = played es s in
    let same : (h : ℕ) → object_at t h ≡ object_at s h =
    λ h. claimed.others h (All-nil (λ f. f.handle ≢ h)) in
    let words = told_words o p es s s touches refl refl in (
      record {
        objects = ext_get_or never t.objects s.objects claimed.keeps.objects (λ h l. same h);
        hots = steady.hots;
        versions = words.0;
        memory = words.1;
        nothing = steady.nothing;
      },
      sound_near s t far far sound here (keeps_all far) (λ h. inl (same h)) (λ b there. record {
        spans = λ f leaves. refl;
        words = λ f leaves. let held = (sound.noted b there).held f leaves in
            span_stays far s t f b.pages held.0 sound.here held.1 held.2
            (λ slot h named.
            let n = (sound.noted b there).each f slot h held.0 leaves held.1 named in
            subst IsHeld (sym n.claimed) tt) claimed.keeps;
      }),
    )

-- looks leave everything
pub looked : (far : FarState) (es : List Access) (s : Shown) → Sound s far → OnlyLooks es
    → Sound (played es s) far × IsStill es s (played es s)
looked far es s sound looks =
    let c = looks_change es s looks in
    let steady = looks_steady es s looks in (
      subst (λ (t : Shown). Sound t far) (sym c.2)
          (sound_near s (record s { hots = c.0 }) far far sound
          (sound_hots far s c.0 sound.here) (keeps_all far) (λ h. inl refl)
          (λ b there. record { spans = λ f leaves. refl; words = λ f leaves. refl })),
      record {
        objects = ap (λ (t : Shown). t.objects) c.2;
        hots = steady.hots;
        versions = ap (λ (t : Shown). t.versions) c.2 ∙ sym (ap (λ (t : Shown). t.versions) c.3);
        memory = ap (λ (t : Shown). t.memory) c.2 ∙ sym (ap (λ (t : Shown). t.memory) c.3);
        nothing = steady.nothing;
      },
    )

-- a batch that was claimed is given back
pub batch_back : (far : FarState) (formers : List Former) (q o p : ℕ → Type 0)
    (before ls bs : List Access) (s : Shown) → Sound s far
    → AreClaimed before s (played before s) formers → AreSteady before s
    → IsEvictEnd q formers ls bs
    → AreBack (played before s) (played bs (played before s)) formers
    → LocalSound (played bs (played before s)) far → AreSteady bs (played before s)
    → TouchesOnly o p (before ++ (ls ++ bs))
    → IsStill (before ++ (ls ++ bs)) s (played (before ++ (ls ++ bs)) s)
    × Sound (played (before ++ (ls ++ bs)) s) far
batch_back far formers q o p before ls bs s sound claimed steady e back here after touches =
    let t = played before s in let u = played bs t in
    let same = end_played q formers before ls bs s e in
    restored far (before ++ (ls ++ bs)) s o p sound
    (subst (λ (v : Shown). AreClaimed (before ++ (ls ++ bs)) s v []) (sym same)
    (claims_back before (ls ++ bs) s t u formers claimed back))
    (subst (λ (v : Shown). LocalSound v far) (sym same) here)
    (steady_append before (ls ++ bs) s steady (steady_append ls bs t (e.reads.steady t)
    (subst (AreSteady bs) (sym (e.reads.stays t)) after)))
    touches

-- words are read, and then claimed objects are settled
pub settled_end : {runsA runsB runsC : List Access → Type 0} {showsA showsB : Shown → Type 0}
    {so ends : List Access → Type 0} {does : List Access → Shown → Shown → Type 0} (far new : FarState)
    (frames : List ℕ) (formers : List Former) → Joins runsA runsB runsC showsA showsB
    → All (λ f. IsIn far.spans frames f.handle) formers → (x : ReadsSpans runsA far.spans frames)
    → (y : Settles runsB (IsOne formers) (λ p. ⊥) so)
    → (IsEvictEnd (LiesInOne far.spans frames) formers x.0 y.events → (before : List Access) (s : Shown)
    → IsReadyToEvict showsA far formers before s → showsB (played before s)
    → IsEnded new before (x.0 ++ y.events) s ends does)
    → EndsClaimed runsC showsA far new frames formers ends does
settled_end {showsA = showsA} {showsB = showsB} {ends = ends} {does = does} far new frames formers j only x y ended =
    let reads = are_reads (LiesInOne far.spans frames) x.0 x.2 in
    let end : IsEvictEnd (LiesInOne far.spans frames) formers x.0 y.events =
    record { reads = reads; touches = y.touches; quiet = y.done.0 } in
    part_then (IsIn far.spans frames) (LiesInOne far.spans frames)
    (λ es. ((k : ℕ) → NoLook k es) × ((before : List Access) (s : Shown)
    → IsReadyToEvict showsA far formers before s → IsEnded new before es s ends does)) j
    (reads_part x.0 x.1 reads) y (λ h e. absurd e) (λ p l. l)
    (one_in far frames formers only) (λ p e. absurd e) (inr (λ h e. absurd e)) (
      end_quiet (LiesInOne far.spans frames) formers x.0 y.events end,
      λ before s r. ended end before s r
          (subst showsB (reads.stays (played before s)) (j.shown x.0 (played before s) x.1 r.shown)),
    )

-- so they are given back
pub gives_back_ends : {runsA runsB runsC : List Access → Type 0} {showsA showsB : Shown → Type 0}
    (far : FarState) (frames : List ℕ) (formers : List Former)
    → Joins runsA runsB runsC showsA showsB → All (Contains (candidates far)) frames
    → All (λ f. IsIn far.spans frames f.handle) formers → ReadsSpans runsA far.spans frames
    → GivesBack runsB showsB formers → LeavesClaimed runsC showsA far frames formers
gives_back_ends far frames formers j among only x y =
    settled_end far far frames formers j only x y (λ end before s r shown.
    let b = y.done.1 (played before s) far shown r.here (λ k d l. (r.claimed.taken k d l).at) in
    let all = batch_back far formers (LiesInOne far.spans frames) _ _ before x.0 y.events s r.sound r.claimed
    r.steady end b.0 b.1 b.2 (spans_touched far frames before (x.0 ++ y.events) among r.touches
    (end_in far frames formers x.0 y.events only end)) in record {
      allowed = end_allowed (LiesInOne far.spans frames) formers before x.0 y.events s end b.2.allowed;
      rule = tt;
      sound = all.1;
      effect = all.0;
    })
