-- A read over a still desk is a step.
use Rattle.std.proofs.Common.{◌≡◌, ◌⊎◌, ℕ, Bool, true, ◌+◌, ◌<◌, ◌≤◌, List, [], ◌∷◌, length, get_or, set, sym, ap, ◌∙◌, subst, arith, inl, inr, if◌then◌else◌, eq-eqb, ne_eqb, get_or-set_other}
use Rattle.std.proofs.lemmas.Bool.{cases_lt}
use Rattle.std.proofs.lemmas.List.{ext_get_or, set-get_or, get_or_past}
use Rattle.cb_ptr.specs.declared.word.State.TheVariants as state
use Rattle.cb_ptr.specs.Word.{state_of, len_of, place_of, pins_of}
use Rattle.cb_types.specs.declared.reply.Reply.{Reply}
use Rattle.cb_types.specs.declared.reply.Reply.TheVariants as answer
use Rattle.cb_world.specs.declared.object.Object.TheVariants as is
use Rattle.cb_world.specs.declared.access.Access.{Access}
use Rattle.cb_world.specs.declared.access.Access.TheVariants.{Looked, Claimed, Told, Loaded, Stored, Stamped, Settled}
use Rattle.cb_world.specs.declared.shown.Shown.{Shown}
use Rattle.cb_world.specs.Memory.{words_for, bytes_in}
use Rattle.cb_world.specs.Shown.{Covers, Spares, object_at, never}
use Rattle.cb_world.specs.Played.{after, played}
use Rattle.cb_world.specs.Plain.{Words, Plain}
use Rattle.cb_world.specs.Allowed.{Allowed, LeavesUnclaimed}
use Rattle.cb_world.specs.Still.{IsStill}
use Rattle.cb_world.specs.FarState.{FarState}
use Rattle.cb_world.specs.World.{word_at, IsKnown}
use Rattle.cb_world.specs.StillWords.{stamp_at, contents_at, with_hot}
use Rattle.cb_world.specs.Pinned.{with_word}
use Rattle.cb_world.specs.StillDesk.{here_is, window_length, plain_follows, plain_stays}
use Rattle.cb_world.proofs.Laws.{window_at, settles_other, busy_leaves, hot_exact, PerformsStill, RunsStill, runs_still, known_then, stays_still}
use Rattle.cb_mutate.specs.ReadRule.{IsLoaded, AreLoaded, ReadHere, ReadRule, ReadEffect, IsShown, IsSeenHere}
use Rattle.cb_mutate.specs.StillReplies.{read_reply}
use Rattle.cb_mutate.specs.CallStep.{ReadChange, IsReadStep, with_seen}
use Rattle.cb_mutate.proofs.Stepping.{IsExact, is_exact, ComesTo, comes, reply_comes}

-- a memory word of an object that stays as it is was read as it stands
loaded_there : (es : List Access) (x y : Words) (s : Shown) (h len place p u : ℕ) → Plain x es y
    → Allowed s es → LeavesUnclaimed h es → object_at s h ≡ is.Here len place → Covers place len p
    → IsLoaded p u es → u ≡ get_or x.memory p 0
loaded_there [] x y s h len place p u run ok leaves here covers loaded = absurd loaded
loaded_there (Looked k w ∷ es) x y s h len place p u run ok leaves here covers loaded =
    loaded_there es x y (after (Looked k w) s) h len place p u run.1 ok.1 leaves here covers loaded
loaded_there (Claimed k w v xs ∷ es) x y s h len place p u run ok leaves here covers loaded =
    loaded_there es (record x { words = set x.words k (w + 1) }) y (after
    (Claimed k w v xs) s) h len
    place p u run.1 ok.1 leaves.1 (get_or-set_other s.objects k h _ never leaves.0 ∙ here) covers
    loaded
loaded_there (Told k v ∷ es) x y s h len place p u run ok leaves here covers loaded =
    loaded_there es x y s h len place p u run.1 ok.1 leaves here covers loaded
loaded_there (Loaded q w ∷ es) x y s h len place p u run ok leaves here covers (inl loaded) =
    loaded_there es x y s h len place p u run.1 ok.1 leaves here covers loaded
loaded_there (Loaded q w ∷ es) x y s h len place p u run ok leaves here covers (inr loaded) =
    sym loaded.1 ∙ sym run.0 ∙ ap (λ (i : ℕ). get_or x.memory i 0) loaded.0
loaded_there (Stored q w ∷ es) x y s h len place p u run ok leaves here covers loaded =
    loaded_there es (record x { memory = set x.memory q w }) y (after
    (Stored q w) s) h len place p u
    run ok.1 leaves here covers loaded
    ∙ get_or-set_other x.memory q p w 0
    (λ e. subst (Spares q) here (ok.0.1 h) (subst (Covers place len) e covers))
loaded_there (Stamped k v ∷ es) x y s h len place p u run ok leaves here covers loaded =
    loaded_there es (record x { versions = set x.versions k v }) y (after
    (Stamped k v) s) h len place
    p u run ok.1 leaves here covers loaded
loaded_there (Settled k w ∷ es) x y s h len place p u run ok leaves here covers loaded =
    loaded_there es (record x { words = set x.words k w }) y (after (Settled k w) s) h len place p u
    run.1 ok.1 leaves
    (get_or-set_other s.objects k h _ never (settles_other s h k w len place here ok.0)
    ∙ here) covers
    loaded

-- a handle with a word that is here is one of those that there are
in_range : (x : Words) (h : ℕ) → state_of (word_at x h) ≡ state.Here → h < length x.words
in_range x h here = elim (cases_lt h (length x.words)) [
  | inl below ↦ below
  | inr past ↦ absurd (empty_here (ap state_of (sym (get_or_past x.words h 0 past)) ∙ here))
]
  where
    empty_here : state.Empty ≡ state.Here → ⊥
    empty_here e = cc

-- an object with pins was read as it stands
pinned_words : (x y : Words) (far : FarState) (s : Shown) (es : List Access) (h : ℕ)
    (words : List ℕ) → RunsStill x y far s es → state_of (word_at x h) ≡ state.Here
    → 1 ≤ pins_of (word_at x h) → length words ≡ words_for (len_of (word_at x h))
    → AreLoaded (place_of (word_at x h)) words es → words ≡ contents_at x h
pinned_words x y far s es h words r here pinned count loaded =
    let w = word_at x h in
    let object : object_at s h ≡ is.Here (len_of w) (place_of w) =
    here_is (object_at s h) w (r.known.shows.fit h (in_range x h here)) here in
    let leaves = busy_leaves es x y s h (len_of w) (place_of w) r.ran r.allowed object
    (λ free. omega (arith, free.1, pinned)) in
    ext_get_or 0 words (contents_at x h)
    (count ∙ sym (window_length x.memory (place_of w) (words_for (len_of w))))
    (λ i below. loaded_there es x y s h (len_of w) (place_of w) (place_of w + i) (get_or words i 0)
    r.ran r.allowed leaves object (omega arith, omega (arith, below, count)) (loaded i below)
    ∙ sym (window_at x.memory (place_of w) (words_for (len_of w)) i (omega (arith, below, count))))

-- every word after a read that was answered bytes
seen : (x y : Words) (far : FarState) (s : Shown) (es : List Access) (h : ℕ)
    → RunsStill x y far s es → IsExact x h es → state_of (word_at x h) ≡ state.Here
    → IsShown h es s (played es s) → y ≡ with_seen x h
seen x y far s es h r exact here z = by (cases_lt 0 (pins_of w))
  where
    w : ℕ
    w = word_at x h

    same : z.word ≡ w
    same = exact.found z.word z.found

    still : 1 ≤ pins_of w → IsStill es s (played es s)
    still pinned = record {
      objects = z.objects;
      hots = z.pinned (subst (λ (n : ℕ). 1 ≤ pins_of n) (sym same) pinned);
      versions = z.versions;
      memory = z.memory;
      nothing = z.nothing;
    }

    by : (0 < pins_of w) ⊎ (pins_of w ≤ 0) → y ≡ with_seen x h
    by (inl pinned) = stays_still x y far s es r (still pinned)
        ∙ sym (ap (λ (b : Bool). with_word x h (if b then with_hot w else w))
        (ne_eqb (pins_of w) 0 (λ e. omega (arith, e, pinned)))
        ∙ ap (λ (l : List ℕ). let q : Words = record x { words = l } in q) (set-get_or x.words h 0))
    by (inr none) =
        let free : pins_of w ≡ 0 = omega (arith, none) in
        let shows = (plain_follows es x y s r.ran r.known.shows).1 in
        let settings = plain_stays x y es r.ran in
        let words = hot_exact x y far s es h r.known r.ran r.allowed (here, free) z.objects
        (z.hot (ap pins_of same ∙ free) ∙ ap (λ (t : Shown). set t.hots h true) r.told) in
        let versions = sym shows.versions ∙ z.versions ∙ ap (λ (t : Shown). t.versions) r.told
        ∙ r.known.shows.versions in
        let memory = sym shows.memory ∙ z.memory ∙ ap (λ (t : Shown). t.memory) r.told
        ∙ r.known.shows.memory in
        let hot : Words = with_word x h (with_hot w) in
        let left : y ≡ hot = λ i. record {
          settings = settings i;
          words = words i;
          versions = versions i;
          memory = memory i;
        } in
        left ∙ sym (ap (λ (b : Bool). with_word x h (if b then with_hot w else w))
        (eq-eqb (pins_of w) 0 free))

-- What a read leaves, by its reply: as its effect says it, and as a step does.
abbrev Does : ℕ → List Access → Shown → Reply → Type 0
Does h es s q = ReadEffect h q es s (played es s)

abbrev Leaves_ : Words → Words → ℕ → Reply → Type 0
Leaves_ x y h q = ReadChange q x y h

here_comes : (x y : Words) (far : FarState) (s : Shown) (es : List Access) (h : ℕ) (r : Reply)
    → RunsStill x y far s es → IsExact x h es → state_of (word_at x h) ≡ state.Here
    → Does h es s r → ReadHere h es r (word_at x h)
    → ComesTo (Does h es s) (Leaves_ x y h) r
    (answer.Bytes (stamp_at x h) (bytes_in (contents_at x h) (len_of (word_at x h))))
here_comes x y far s es h r runs exact here effect (inl (none, (v, words, taken, e))) =
    let told = exact.taken v words taken in
    comes (Does h es s) (Leaves_ x y h) r
    (answer.Bytes (stamp_at x h) (bytes_in (contents_at x h) (len_of (word_at x h))))
    (e ∙ (λ i. answer.Bytes (told.0 i) (bytes_in (told.1 i) (len_of (word_at x h))))) effect
    (seen x y far s es h runs exact here)
here_comes x y far s es h r runs exact here effect
    (inr (pinned, (v, words, told, count, loaded, e))) =
    let same = exact.told v told in
    let contents = pinned_words x y far s es h words runs here pinned count loaded in
    comes (Does h es s) (Leaves_ x y h) r
    (answer.Bytes (stamp_at x h) (bytes_in (contents_at x h) (len_of (word_at x h))))
    (e ∙ (λ i. answer.Bytes (same i) (bytes_in (contents i) (len_of (word_at x h))))) effect
    (seen x y far s es h runs exact here)

-- Over a still desk of which all is known a read is a step, and all is known of it afterwards.
pub read_step : (x y : Words) (far new : FarState) (s : Shown) (h : ℕ) (r : Reply)
    → IsKnown x far s → (p : PerformsStill x y far new (ReadRule h r) (ReadEffect h r))
    → IsReadStep x y h r × IsKnown y new (played p.events s)
read_step x y far new s h r k p =
    let es = p.events in
    let runs = runs_still x y far new (ReadRule h r) (ReadEffect h r) s k p in
    let exact = is_exact x y h es p.ran.0 p.looks_first p.rule.settles_last in
    let effect = p.effect s ((k.sized, k.shows), k.sound) in
    let w = p.rule.word in let e = exact.found w p.rule.found in
    let back = stays_still x y far s es runs in
    let c = subst (λ (n : ℕ). ComesTo (Does h es s) (Leaves_ x y h) r
    (read_reply n (stamp_at x h) (contents_at x h))) e
    (reply_comes (Does h es s) (Leaves_ x y h) (state_of w) (ReadHere h es r)
    (answer.Bytes (stamp_at x h) (bytes_in (contents_at x h) (len_of w))) w h (stamp_at x h) es r
    (record { unmade = back; freed = back; not_here = back; moving = back }) exact.told
    (λ here found. subst (λ (n : ℕ). ComesTo (Does h es s) (Leaves_ x y h) r
    (answer.Bytes (stamp_at x h) (bytes_in (contents_at x h) (len_of n)))) (sym e)
    (here_comes x y far s es h r runs exact (ap state_of (sym e) ∙ here) effect
    (subst (ReadHere h es r) e found)))
    p.rule.answer effect) in (
      record { reply = c.reply; change = c.change },
      known_then x y far new (ReadRule h r) (ReadEffect h r) s k p,
    )

-- the word that one look found is the object's
looked_word : (x y : Words) (h w : ℕ) (es : List Access) → Plain x es y → es ≡ Looked h w ∷ []
    → w ≡ word_at x h
looked_word x y h w es run e =
    let only : Plain x (Looked h w ∷ []) y = subst (λ (l : List Access). Plain x l y) e run in
    sym only.0.0

-- And one that found no memory for the bytes has looked at an object that is here, and left every
-- word.
pub failed_step : (x y : Words) (far new : FarState) (s : Shown) (h : ℕ) → IsKnown x far s
    → (p : PerformsStill x y far new (IsSeenHere h) IsStill)
    → (state_of (word_at x h) ≡ state.Here) × (y ≡ x) × IsKnown y new (played p.events s)
failed_step x y far new s h k p =
    let runs = runs_still x y far new (IsSeenHere h) IsStill s k p in (
      ap state_of (sym (looked_word x y h p.rule.0 p.events p.ran.0 p.rule.1)) ∙ p.rule.2,
      stays_still x y far s p.events runs (p.effect s ((k.sized, k.shows), k.sound)),
      known_then x y far new (IsSeenHere h) IsStill s k p,
    )
