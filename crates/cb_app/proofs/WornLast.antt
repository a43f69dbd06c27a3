-- A write or a free by a turn is answered Worn where 2^40 turns were counted, or where its object
-- had the last version that there is: a claim told it, or the object was far with it when the turn
-- began.
use Rattle.std.proofs.Common.{◌≡◌, ◌⊎◌, ℕ, ◌+◌, ◌-◌, ◌^◌, Bool, true, false, List, [], ◌∷◌, ◌++◌, length, None, Some, refl, sym, ap, ◌∙◌, subst, inl, inr, ⊎_elim, true≢false, get_or-set_other, arith}
use Rattle.std.specs.Prelude.{nat_lt, slice_index_or, ◌==◌, if◌then◌else◌}
use native.Mathlib.Decide.{ℕ_discrete}
use Rattle.cb_ptr.specs.declared.word.State.{State}
use Rattle.cb_ptr.specs.declared.word.State.TheVariants as state
use Rattle.cb_ptr.specs.Word.{len_of, pins_of, state_of}
use Rattle.cb_types.specs.declared.config.Config.{Config}
use Rattle.cb_types.specs.declared.job.Job.{Job}
use Rattle.cb_types.specs.declared.job.Job.TheVariants as job
use Rattle.cb_types.specs.declared.reply.Reply.{Reply}
use Rattle.cb_types.specs.declared.reply.Reply.TheVariants as answer
use Rattle.cb_world.specs.declared.access.Access.{Access}
use Rattle.cb_world.specs.declared.access.Access.TheVariants.{Looked, Claimed, Told, Loaded, Stored, Stamped, Settled}
use Rattle.cb_world.specs.declared.object.Object.{Object}
use Rattle.cb_world.specs.declared.object.Object.TheVariants as is
use Rattle.cb_world.specs.declared.shown.Shown.{Shown}
use Rattle.cb_world.specs.FarState.{FarState}
use Rattle.cb_world.specs.LocalSound.{IsStamped}
use Rattle.cb_world.specs.Looks.{IsFound, IsTaken, IsTold, LooksFirst, NoLook}
use Rattle.cb_world.specs.Played.{Agree, after, played}
use Rattle.cb_world.specs.Shown.{Fits, IsHeld, never, object_at, version_at}
use Rattle.cb_world.specs.Sound.{Sound}
use Rattle.cb_world.specs.Touches.{NoTell, SettlesLast}
use Rattle.cb_world.proofs.Laws.{recounted_sound}
use Rattle.cb_mutate.specs.Answered.{AbsentAs, AnsweredAs}
use Rattle.cb_mutate.specs.FreeRule.{FreeAs}
use Rattle.cb_mutate.specs.WriteRule.{NextVersion, WriteHere}
use Rattle.cb_core.specs.Parts.{Holding, WhereItIs, near, declined, stays_far, brought}
use Rattle.cb_core.specs.Turned.{Brings, Declines, Frees, IsDeclined, Turned, WritesObject, counted, done, worn}
use Rattle.cb_core.proofs.Laws.{absent, brought_unworn, is_worn, worn_off}
use Rattle.cb_rule.specs.Lists.{Has}
use Rattle.cb_record.proofs.Laws.{has_right}
use Rattle.cb_record.specs.Needs.{the_object}
use Rattle.cb_shared.specs.Turning.{ReadsByPin, Slate, held_by, slate_run, slate_shows}

abbrev Hold : Type 0
Hold = Holding Slate

-- ---- what was found and told of an object before it was changed
no_look : (h w : ℕ) (es : List Access) → NoLook h es → IsFound h w es → ⊥
no_look h w [] none found = found
no_look h w (e ∷ es) none (inl later) = no_look h w es none.1 later
no_look h w (e ∷ es) none (inr last) = none.0 w last.0

no_tell : (h n : ℕ) (es : List Access) → NoTell es → IsTold h n es → ⊥
no_tell h n [] none told = told
no_tell h n (Told k u ∷ es) none told = none
no_tell h n (Looked k w ∷ es) none told = no_tell h n es none told
no_tell h n (Claimed k w v words ∷ es) none told = no_tell h n es none told
no_tell h n (Loaded p x ∷ es) none told = no_tell h n es none told
no_tell h n (Stored p x ∷ es) none told = no_tell h n es none told
no_tell h n (Stamped k v ∷ es) none told = no_tell h n es none told
no_tell h n (Settled k w ∷ es) none told = no_tell h n es none told

-- each claim found a word that is Here
abbrev pub ClaimsFoundHere : List Access → Type 0
ClaimsFoundHere es = (h w v : ℕ) (words : List ℕ) → Has (Claimed h w v words) es → state_of w ≡ state.Here

claims_behind : (e : Access) (es : List Access) → ClaimsFoundHere (e ∷ es) → ClaimsFoundHere es
claims_behind e es here h w v words has = here h w v words (inr has)

-- the object is far, with this version
abbrev IsAwayAt : Shown → ℕ → Type 0
IsAwayAt s h = (len v : ℕ) × (words : List ℕ) × (object_at s h ≡ is.Far len v words)

state_off : (a b : State) → (f : State → Bool) → f a ≡ true → f b ≡ false → a ≡ b → ⊥
state_off a b f yes_a no_b e = true≢false (sym yes_a ∙ ap f e ∙ no_b)

abbrev is_far : State → Bool
is_far state.Far = true
is_far q = false

not_far : (q : State) → is_far q ≡ false → state.Far ≡ q → ⊥
not_far q off e = state_off state.Far q is_far refl off e

fits_far : (o : Object) (w : ℕ) → Fits o w → state_of w ≡ state.Far
    → (len v : ℕ) × (words : List ℕ) × (o ≡ is.Far len v words)
fits_far (is.Empty v) w f far = absurd (not_far state.Empty refl (sym far ∙ ap state_of f))
fits_far (is.Far len v words) w f far = (len, v, words, refl)
fits_far (is.Here len place) w f far = absurd (⊎_elim
    (λ (q : state_of w ≡ state.Here). not_far state.Here refl (sym far ∙ q))
    (λ (q : state_of w ≡ state.Moving). not_far state.Moving refl (sym far ∙ q)) f.3)
fits_far (is.Claimed len place v words) w f far =
    absurd (not_far state.Moving refl (sym far ∙ f.4))

-- another object than the one that was claimed or settled is as it was
else_far : (s : Shown) (e : Access) (h : ℕ) → object_at (after e s) h ≡ object_at s h
    → IsAwayAt (after e s) h → IsAwayAt s h
else_far s e h same far = (far.0, far.1, far.2, sym same ∙ far.3)

still_far : (s : Shown) (e : Access) (h : ℕ) → object_at (after e s) h ≡ object_at s h
    → IsAwayAt s h → IsAwayAt (after e s) h
still_far s e h same far = (far.0, far.1, far.2, same ∙ far.3)

-- an object whose word was found to be that of a far one was far before
far_found : (s : Shown) (es : List Access) (h w : ℕ) → Agree s es → LooksFirst es → ClaimsFoundHere es
    → IsFound h w es → state_of w ≡ state.Far → IsAwayAt s h
far_found s [] h w agree first here found far = absurd found
far_found s (Looked k x ∷ es) h w agree first here (inl later) far =
    far_found (after (Looked k x) s) es h w agree.1 first (claims_behind _ es here) later far
far_found s (Looked k x ∷ es) h w agree first here (inr last) far = fits_far (object_at s h) w
    (subst (λ (j : ℕ). Fits (object_at s j) w) last.0.0
    (subst (λ (y : ℕ). Fits (object_at s k) y) last.0.1 agree.0.0)) far
far_found s (Claimed k x v words ∷ es) h w agree first here (inl later) far =
    elim (ℕ_discrete k h) [
      | yes e ↦ absurd (no_look h w es (subst (λ (j : ℕ). NoLook j es) e first.0) later)
      | no ne ↦ else_far s (Claimed k x v words) h
          (get_or-set_other s.objects k h _ _ (λ q. ne (sym q)))
          (far_found (after (Claimed k x v words) s) es h w agree.1 first.1 (claims_behind _ es here)
          later far)
    ]
far_found s (Claimed k x v words ∷ es) h w agree first here (inr last) far = absurd
    (not_far state.Here refl (sym far ∙ ap state_of (sym last.0.1) ∙ here k x v words (inl refl)))
far_found s (Told k v ∷ es) h w agree first here (inl later) far =
    far_found s es h w agree.1 first (claims_behind _ es here) later far
far_found s (Told k v ∷ es) h w agree first here (inr last) far = absurd last.0
far_found s (Loaded p x ∷ es) h w agree first here (inl later) far =
    far_found s es h w agree.1 first (claims_behind _ es here) later far
far_found s (Loaded p x ∷ es) h w agree first here (inr last) far = absurd last.0
far_found s (Stored p x ∷ es) h w agree first here (inl later) far =
    far_found (after (Stored p x) s) es h w agree.1 first.1 (claims_behind _ es here) later far
far_found s (Stored p x ∷ es) h w agree first here (inr last) far = absurd last.0
far_found s (Stamped k v ∷ es) h w agree first here (inl later) far =
    far_found (after (Stamped k v) s) es h w agree.1 first.1 (claims_behind _ es here) later far
far_found s (Stamped k v ∷ es) h w agree first here (inr last) far = absurd last.0
far_found s (Settled k x ∷ es) h w agree first here (inl later) far = elim (ℕ_discrete k h) [
  | yes e ↦ absurd (no_look h w es (subst (λ (j : ℕ). NoLook j es) e first.0) later)
  | no ne ↦ else_far s (Settled k x) h (get_or-set_other s.objects k h _ _ (λ q. ne (sym q)))
      (far_found (after (Settled k x) s) es h w agree.1 first.1 (claims_behind _ es here) later far)
]
far_found s (Settled k x ∷ es) h w agree first here (inr last) far = absurd last.0

far_here : (len v place n : ℕ) (words : List ℕ) → is.Far len v words ≡ is.Here n place → ⊥
far_here len v place n words e = absurd cc

-- the version word that was told of it was known
told_far : (s : Shown) (es : List Access) (h n : ℕ) → Agree s es → SettlesLast es → IsAwayAt s h
    → IsTold h n es → n ≡ version_at s h
told_far s [] h n agree last far told = absurd told
told_far s (Looked k x ∷ es) h n agree last far told =
    told_far (after (Looked k x) s) es h n agree.1 last far told
told_far s (Claimed k x v words ∷ es) h n agree last far told = elim (ℕ_discrete k h) [
  | yes e ↦ absurd (far_here far.0 far.1 _ _ far.2
      (sym far.3 ∙ ap (object_at s) (sym e) ∙ agree.0.0))
  | no ne ↦ told_far (after (Claimed k x v words) s) es h n agree.1 last
      (still_far s (Claimed k x v words) h
      (get_or-set_other s.objects k h _ _ (λ q. ne (sym q))) far) told
      ∙ get_or-set_other s.versions k h v 0 (λ q. ne (sym q))
]
told_far s (Told k u ∷ es) h n agree last far (inl later) =
    told_far s es h n agree.1 last far later
told_far s (Told k u ∷ es) h n agree last far (inr is) = sym is.1
    ∙ agree.0 (subst (λ (j : ℕ). IsHeld (object_at s j)) (sym is.0) (subst IsHeld (sym far.3) tt))
    ∙ ap (version_at s) is.0
told_far s (Loaded p x ∷ es) h n agree last far told = told_far s es h n agree.1 last far told
told_far s (Stored p x ∷ es) h n agree last far told =
    told_far (after (Stored p x) s) es h n agree.1 last far told
told_far s (Stamped k v ∷ es) h n agree last far told = absurd (no_tell h n es last.0 told)
told_far s (Settled k x ∷ es) h n agree last far told = absurd (no_tell h n es last.0 told)

-- ---- the object has its last version
-- a claim among the events told it, or the object was far with it
abbrev pub HadLast : ℕ → Shown → List Access → Type 0
HadLast h start es = ((w : ℕ) × (words : List ℕ) × Has (Claimed h w (2 ^ 64 - 1) words) es)
    ⊎ ((len : ℕ) × (words : List ℕ) × (object_at start h ≡ is.Far len (2 ^ 64 - 1) words))

worn_is : (r : Reply) → is_worn r ≡ false → answer.Worn ≡ r → ⊥
worn_is r off e = true≢false (ap is_worn e ∙ off)

next_worn : (n : ℕ) → NextVersion n answer.Worn → n ≡ 2 ^ 64 - 1
next_worn n (inl x) = x.0
next_worn n (inr x) = absurd (worn_is (answer.Version (n + 1)) refl x.1)

claim_of : (h v : ℕ) (words : List ℕ) (es : List Access) → IsTaken h v words es
    → (w : ℕ) × Has (Claimed h w v words) es
claim_of h v words [] taken = absurd taken
claim_of h v words (Claimed k w u xs ∷ es) (inl later) =
    let z = claim_of h v words es later in (z.0, inr z.1)
claim_of h v words (Claimed k w u xs ∷ es) (inr is) =
    (w, inl (λ i. Claimed (is.0 i) w (is.1 i) (is.2 i)))
claim_of h v words (Looked k w ∷ es) taken = let z = claim_of h v words es taken in (z.0, inr z.1)
claim_of h v words (Told k u ∷ es) taken = let z = claim_of h v words es taken in (z.0, inr z.1)
claim_of h v words (Loaded p x ∷ es) taken = let z = claim_of h v words es taken in (z.0, inr z.1)
claim_of h v words (Stored p x ∷ es) taken = let z = claim_of h v words es taken in (z.0, inr z.1)
claim_of h v words (Stamped k u ∷ es) taken = let z = claim_of h v words es taken in (z.0, inr z.1)
claim_of h v words (Settled k w ∷ es) taken = let z = claim_of h v words es taken in (z.0, inr z.1)

-- a claim that told the last version, among more events
last_claimed : (h n : ℕ) (words : List ℕ) (start : Shown) (before es all : List Access)
    → all ≡ before ++ es → n ≡ 2 ^ 64 - 1 → IsTaken h n words es → HadLast h start all
last_claimed h n words start before es all whole is taken =
    let z = claim_of h n words es taken in inl (
      z.0,
      words,
      subst (λ (l : List Access). Has (Claimed h z.0 (2 ^ 64 - 1) words) l) (sym whole)
          (has_right _ before es (subst (λ (v : ℕ). Has (Claimed h z.0 v words) es) is z.1)),
    )

not_absent : (q : State) (h : ℕ) (es : List Access) → AbsentAs q h es answer.Worn → ⊥
not_absent q h es x = worn_is answer.Worn (worn_off answer.Worn (absent q h es answer.Worn x)) refl

write_worn : (h at : ℕ) (bytes : List ℕ) (start : Shown) (a b : Hold)
    → WritesObject slate_run slate_shows h at bytes a answer.Worn b → HadLast h start b.desk.acts
write_worn h at bytes start a b x = by (state_of z.word) z.answer
  where
    z : Rattle.cb_mutate.specs.WriteRule.WriteRule h at bytes answer.Worn x.events
    z = x.rule.1

    by : (q : State) → AnsweredAs q (WriteHere h at bytes x.events answer.Worn) z.word h x.events
        answer.Worn → HadLast h start b.desk.acts
    by state.Here (inl (past, is)) = absurd (worn_is (answer.Range (len_of z.word)) refl is)
    by state.Here (inr (fits, inl (some, is))) =
        absurd (worn_is (answer.Pinned (pins_of z.word)) refl is)
    by state.Here (inr (fits, inr (none, (n, words, taken, next)))) =
        last_claimed h n words start a.desk.acts x.events b.desk.acts
        (ap (λ (s : Slate). s.acts) x.ran.0) (next_worn n next) taken
    by state.Empty y = absurd (not_absent state.Empty h x.events y)
    by state.Far y = absurd (not_absent state.Far h x.events y)
    by state.Moving y = absurd (not_absent state.Moving h x.events y)

-- the version of a far object is its last complete one
far_last : (s : Shown) (far : FarState) (h n : ℕ) → Sound s far → (x : IsAwayAt s h)
    → n ≡ version_at s h → n ≡ 2 ^ 64 - 1
    → (len : ℕ) × (words : List ℕ) × (object_at s h ≡ is.Far len (2 ^ 64 - 1) words)
far_last s far h n sound x told last =
    let stamped : version_at s h ≡ x.1 =
    subst (λ (o : Object). IsStamped o (version_at s h)) x.3 (sound.here.known.stamped h) in
    let same : x.1 ≡ 2 ^ 64 - 1 = sym stamped ∙ sym told ∙ last in
    (x.0, x.2, x.3 ∙ ap (λ (v : ℕ). is.Far x.0 v x.2) same)

some_worn : (r : Reply) → is_worn r ≡ false → Some answer.Worn ≡ Some r → ⊥
some_worn r off e = worn_is r off (let q : answer.Worn ≡ r = cc in q)

none_some : Some answer.Worn ≡ None → ⊥
none_some e = absurd cc

-- a write of a far object is declined so
refusal_worn : (len n at count : ℕ)
    → Some answer.Worn ≡ (if nat_lt len (at + count) then Some (answer.Range len)
    else if n == 2 ^ 64 - 1 then Some answer.Worn else None) → n ≡ 2 ^ 64 - 1
refusal_worn len n at count = by (nat_lt len (at + count)) (n == 2 ^ 64 - 1) refl
  where
    by : (past last : Bool) → (n == 2 ^ 64 - 1) ≡ last
        → Some answer.Worn ≡ (if past then Some (answer.Range len)
        else if last then Some answer.Worn else None) → n ≡ 2 ^ 64 - 1
    by true last so e = absurd (some_worn (answer.Range len) refl e)
    by false true so e = grind (arith, so)
    by false false so e = absurd (none_some e)

declined_worn : (h at : ℕ) (bytes : List ℕ) (count : ℕ) (a m b : Hold)
    → Sound a.desk.known a.far → WritesObject slate_run slate_shows h at bytes a answer.NotHere m
    → ClaimsFoundHere b.desk.acts
    → Declines slate_run slate_shows h at count m (Some answer.Worn) b
    → HadLast h a.desk.known b.desk.acts
declined_worn h at bytes count a m b sound x here d = by d.1.rule
  where
    claims : ClaimsFoundHere d.1.events
    claims k w v words has = here k w v words (subst (Has (Claimed k w v words))
        (sym (ap (λ (s : Slate). s.acts) d.1.ran.0))
        (has_right _ m.desk.acts d.1.events has))

    known : m.desk.known ≡ played x.events a.desk.known
    known = ap (λ (s : Slate). s.known) x.ran.0

    same : (k : ℕ) → object_at m.desk.known k ≡ object_at a.desk.known k
    same k = ap (λ (s : Shown). object_at s k) known
        ∙ ap (λ (l : List Object). slice_index_or l k never)
        (x.effect a.desk.known (refl, sound)).objects

    sound_then : Sound m.desk.known m.far
    sound_then = subst (λ (s : Shown). Sound s m.far) (sym known)
        (x.sound_after a.desk.known (refl, sound))

    by : IsDeclined h at count m.far (Some answer.Worn) d.1.events
        → HadLast h a.desk.known b.desk.acts
    by (inl (gone, none, idle)) = absurd (none_some none)
    by (inr (there, (w, n, found, far, told, last, is))) =
        let at_far = far_found m.desk.known d.1.events h w d.1.ran.1 d.1.looks_first claims found
        far in
        let z = far_last m.desk.known m.far h n sound_then at_far
        (told_far m.desk.known d.1.events h n d.1.ran.1 last at_far told)
        (refusal_worn (len_of w) n at count is) in
        inr (z.0, z.1, sym (same h) ∙ z.2)

where_worn : (c : Config) (h at : ℕ) (bytes : List ℕ) (a b : Hold) → Sound a.desk.known a.far
    → ClaimsFoundHere b.desk.acts
    → WhereItIs (WritesObject slate_run slate_shows h at bytes)
    (Declines slate_run slate_shows h at (length bytes)) (Brings slate_run slate_shows c h) a
    answer.Worn b → HadLast h a.desk.known b.desk.acts
where_worn c h at bytes a b sound here (near x never) = write_worn h at bytes a.desk.known a b x
where_worn c h at bytes a b sound here (declined m x d) =
    declined_worn h at bytes (length bytes) a m b sound x here d
where_worn c h at bytes a b sound here (stays_far m n x d bring never) =
    absurd (worn_is answer.Worn
    (brought_unworn slate_run slate_shows c h n b answer.Worn bring) refl)
where_worn c h at bytes a b sound here (brought m n o f x d bring y) =
    write_worn h at bytes a.desk.known o b y

-- ---- a free
free_worn : (h : ℕ) (a b : Hold) → Sound a.desk.known a.far → ClaimsFoundHere b.desk.acts
    → Frees slate_run slate_shows h a answer.Worn b → HadLast h a.desk.known b.desk.acts
free_worn h a b sound here x = by (state_of x.rule.reply.word) refl x.rule.reply.answer
  where
    claims : ClaimsFoundHere x.events
    claims k w v words has = here k w v words (subst (Has (Claimed k w v words))
        (sym (ap (λ (s : Slate). s.acts) x.ran.0)) (has_right _ a.desk.acts x.events has))

    by : (q : State) → state_of x.rule.reply.word ≡ q
        → FreeAs q x.rule.reply.word h x.events answer.Worn → HadLast h a.desk.known b.desk.acts
    by state.Far far (n, told, next) =
        let z = x.rule.reply in
        let at_far = far_found a.desk.known x.events h z.word x.ran.1 x.looks_first claims z.found
        far in
        inr (far_last a.desk.known a.far h n sound at_far
        (told_far a.desk.known x.events h n x.ran.1 z.settles_last at_far told) (next_worn n next))
    by state.Here far (inl (some, is)) =
        absurd (worn_is (answer.Pinned (pins_of x.rule.reply.word)) refl is)
    by state.Here far (inr (none, (n, words, taken, next))) =
        last_claimed h n words a.desk.known a.desk.acts x.events b.desk.acts
        (ap (λ (s : Slate). s.acts) x.ran.0) (next_worn n next) taken
    by state.Empty far y = absurd (not_absent state.Empty h x.events y)
    by state.Moving far y = absurd (not_absent state.Moving h x.events y)

-- ---- the turn
module _ (c : Config) (start : Shown) (es : List Access) (took gave : FarState)
    (sound : Sound start took) (here : ClaimsFoundHere es) where
  counted_sound : (j : Job) → Sound start (counted took j)
  counted_sound j = let far : FarState = counted took j in
      recounted_sound start took far.counts.turns far.counts.by_job took.nodes.given sound

  -- where the turn began, one more of this job counted
  abbrev begun : Job → Hold
  begun j = record { desk = record { known = start; acts = [] }; far = counted took j }

  pub write_last : (h at : ℕ) (bytes : List ℕ)
      → Turned slate_run slate_shows ReadsByPin c (job.Write (the_object h) at bytes)
      (held_by start [] took) answer.Worn (held_by (played es start) es gave)
      → (took.counts.turns ≡ 2 ^ 40) ⊎ HadLast h start es
  write_last h at bytes (worn end e same ran) = inl end
  write_last h at bytes (done few does) = inr (where_worn c h at bytes
      (begun (job.Write (the_object h) at bytes)) (held_by (played es start) es gave)
      (counted_sound (job.Write (the_object h) at bytes)) here does)

  pub free_last : (h : ℕ)
      → Turned slate_run slate_shows ReadsByPin c (job.Free (the_object h))
      (held_by start [] took) answer.Worn (held_by (played es start) es gave)
      → (took.counts.turns ≡ 2 ^ 40) ⊎ HadLast h start es
  free_last h (worn end e same ran) = inl end
  free_last h (done few does) =
      inr (free_worn h (begun (job.Free (the_object h))) (held_by (played es start) es gave)
      (counted_sound (job.Free (the_object h))) here does)
