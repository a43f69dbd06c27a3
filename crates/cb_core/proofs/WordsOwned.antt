-- The words that the holder of the far lock owns stay, operation by operation.
use Rattle.std.proofs.Common.{◌≡◌, ℕ, ◌+◌, ◌<◌, Bool, List, [], ◌∷◌, length, get_or, refl, sym, ap, ◌∙◌, subst, arith, inl, inr, length-set, get_or-set_same}
use Rattle.std.proofs.lemmas.Bool.{cases_lt}
use Rattle.std.proofs.lemmas.List.{get_or_past}
use Rattle.cb_ptr.specs.Word.{len_of, place_of}
use Rattle.cb_types.specs.declared.handle.SetId.{SetId}
use Rattle.cb_types.specs.declared.reply.Reply.{Reply}
use Rattle.cb_types.specs.declared.reply.Reply.TheVariants as answer
use Rattle.cb_world.specs.declared.access.Access.{Access}
use Rattle.cb_world.specs.declared.access.Access.TheVariants.{Looked, Claimed, Told, Loaded, Stored, Stamped, Settled}
use Rattle.cb_world.specs.declared.object.Object.{Object}
use Rattle.cb_world.specs.declared.object.Object.TheVariants as is
use Rattle.cb_world.specs.declared.shown.Shown.{Shown}
use Rattle.cb_world.specs.FarState.{FarState}
use Rattle.cb_world.specs.Looks.{IsFound, IsTaken, LooksFirst, NoClaim, NoLook, told_by}
use Rattle.cb_world.specs.Memory.{words_for}
use Rattle.cb_world.specs.Placed.{place_in}
use Rattle.cb_world.specs.Played.{Agree, after, played}
use Rattle.cb_world.specs.Shown.{never, object_at}
use Rattle.cb_world.specs.Still.{IsStill}
use Rattle.cb_mutate.specs.FreeRule.{FreeEffect}
use Rattle.cb_mutate.specs.MakeRule.{IsMade, MakeEffect}
use Rattle.cb_mutate.specs.ReadRule.{ReadEffect}
use Rattle.cb_mutate.specs.WriteRule.{IsWritten, WriteEffect}
use Rattle.cb_evict.specs.AbortRule.{AbortEffect, AbortRule}
use Rattle.cb_evict.specs.BeginEffect.{BeginEffect}
use Rattle.cb_evict.specs.BeginRule.{BeginsBy}
use Rattle.cb_evict.specs.CommitRule.{CommitEffect, CommitRule}
use Rattle.cb_evict.specs.EvictEffect.{EvictEffect}
use Rattle.cb_evict.specs.EvictRule.{EvictRule}
use Rattle.cb_filter.specs.FilterEffect.{FilterChange, FilterEffect, IsMoved}
use Rattle.cb_core.proofs.WordsTold.{KeepsWords, other_object, put_owned, told_kept, told_owned}

-- ---- the object that was claimed
not_seen : (h w : ℕ) (es : List Access) → NoLook h es → IsFound h w es → ⊥
not_seen h w [] none found = found
not_seen h w (e ∷ es) none (inl found) = not_seen h w es none.1 found
not_seen h w (e ∷ es) none (inr found) = none.0 w found.0

not_taken : (h v : ℕ) (words : List ℕ) (es : List Access) → NoClaim es → IsTaken h v words es → ⊥
not_taken h v words [] none taken = taken
not_taken h v words (Claimed k w u xs ∷ es) none taken = none
not_taken h v words (e ∷ es) none taken = not_taken h v words es none taken

-- what was claimed was looked at
taken_seen : (h v : ℕ) (words : List ℕ) (es : List Access) → IsTaken h v words es → NoLook h es → ⊥
taken_seen h v words [] taken none = taken
taken_seen h v words (Claimed k w u xs ∷ es) (inl taken) none =
    taken_seen h v words es taken none.1
taken_seen h v words (Claimed k w u xs ∷ es) (inr taken) none = none.0 w (taken.0, refl)
taken_seen h v words (e ∷ es) taken none = taken_seen h v words es taken none.1

abbrev WasHere : Shown → ℕ → ℕ → List ℕ → Type 0
WasHere u h w words =
    (object_at u h ≡ is.Here (len_of w) (place_of w)) × (length words ≡ words_for (len_of w))

-- it was here, at the word that the claim found
pub taken_was : (es : List Access) (u : Shown) (h w v : ℕ) (words : List ℕ) → Agree u es
    → LooksFirst es → IsFound h w es → IsTaken h v words es → WasHere u h w words
taken_was [] u h w v words agree first found taken = absurd taken
taken_was (Looked k x ∷ es) u h w v words agree first (inl found) taken =
    taken_was es (after (Looked k x) u) h w v words agree.1 first found taken
taken_was (Looked k x ∷ es) u h w v words agree first (inr found) taken =
    absurd (taken_seen h v words es taken found.1)
taken_was (Claimed k x n xs ∷ es) u h w v words agree first (inl found) (inl taken) =
    let y = taken_was es (after (Claimed k x n xs) u) h w v words agree.1 first.1 found taken in (
      sym (other_object u k h _ (λ same. taken_seen h v words es taken
          (subst (λ (i : ℕ). NoLook i es) same first.0))) ∙ y.0,
      y.1,
    )
taken_was (Claimed k x n xs ∷ es) u h w v words agree first (inr found) (inl taken) =
    absurd (taken_seen h v words es taken found.1)
taken_was (Claimed k x n xs ∷ es) u h w v words agree first (inl found) (inr taken) =
    absurd (not_seen h w es (subst (λ (i : ℕ). NoLook i es) taken.0 first.0) found)
taken_was (Claimed k x n xs ∷ es) u h w v words agree first (inr found) (inr taken) = (
  ap (object_at u) (sym found.0.0) ∙ agree.0.0
      ∙ ap (λ (y : ℕ). is.Here (len_of y) (place_of y)) found.0.1,
  ap (λ (l : List ℕ). length l) (sym taken.2) ∙ agree.0.3
      ∙ ap (λ (y : ℕ). words_for (len_of y)) found.0.1,
)
taken_was (Told k n ∷ es) u h w v words agree first (inl found) taken =
    taken_was es u h w v words agree.1 first found taken
taken_was (Told k n ∷ es) u h w v words agree first (inr found) taken = absurd found.0
taken_was (Loaded q x ∷ es) u h w v words agree first (inl found) taken =
    taken_was es u h w v words agree.1 first found taken
taken_was (Loaded q x ∷ es) u h w v words agree first (inr found) taken = absurd found.0
taken_was (Stored q x ∷ es) u h w v words agree first found taken =
    absurd (not_taken h v words es first.0 taken)
taken_was (Stamped k n ∷ es) u h w v words agree first found taken =
    absurd (not_taken h v words es first.0 taken)
taken_was (Settled k x ∷ es) u h w v words agree first (inl found) taken =
    let y = taken_was es (after (Settled k x) u) h w v words agree.1 first.1 found taken in (
      sym (other_object u k h _ (λ same. taken_seen h v words es taken
          (subst (λ (i : ℕ). NoLook i es) same first.0))) ∙ y.0,
      y.1,
    )
taken_was (Settled k x ∷ es) u h w v words agree first (inr found) taken = absurd found.0

here_within : (s : Shown) (h len place : ℕ) → object_at s h ≡ is.Here len place → h < length s.objects
here_within s h len place here = elim (cases_lt h (length s.objects)) [
  | inl within ↦ within
  | inr past ↦ absurd (never_here (sym (get_or_past s.objects h never past) ∙ here))
]
  where
    never_here : never ≡ is.Here len place → ⊥
    never_here e = cc

-- ---- operation by operation
pub still_words : (far new : FarState) (es : List Access) → KeepsWords far new es IsStill
still_words far new es s before behind agree first x =
    told_owned es s (played es s) agree first x.memory

made_words : (h v : ℕ) (bytes : List ℕ) (far new : FarState) (es : List Access)
    → KeepsWords far new es (λ es s t. IsMade h v bytes far new es s t)
made_words h v bytes far new es s before behind agree first x =
    let t = played es s in
    let more = behind.here.known.bounded in
    let made : new.made ≡ far.made + 1 = ap (λ (f : FarState). f.made) x.make.state in
    let next = x.make.next in
    let count : length t.objects ≡ length s.objects =
    ap (λ (l : List Object). length l) x.objects ∙ length-set s.objects h _ in
    let within : h < length s.objects = omega (arith, more, made, next, count) in
    put_owned s t s.memory x.make.words h (length bytes) (place_in x.make.slot)
    (ap (λ (l : List Object). get_or l h never) x.objects
    ∙ get_or-set_same s.objects h (is.Here (length bytes) (place_in x.make.slot)) never within)
    x.make.packed.count x.memory (λ p owns. refl)

pub make_words : (bytes : List ℕ) (far new : FarState) (r : Reply) (es : List Access)
    → KeepsWords far new es (MakeEffect bytes far new r)
make_words bytes far new (answer.Made h v) es s before behind agree first x =
    made_words h.n v bytes far new es s before behind agree first x
make_words bytes far new r es s before behind agree first x =
    still_words far new es s before behind agree first x

pub read_words : (h : ℕ) (far new : FarState) (r : Reply) (es : List Access)
    → KeepsWords far new es (ReadEffect h r)
read_words h far new (answer.Bytes v bytes) es s before behind agree first x =
    told_owned es s (played es s) agree first x.memory
read_words h far new r es s before behind agree first x =
    still_words far new es s before behind agree first x

written_words : (h n at : ℕ) (bytes : List ℕ) (far new : FarState) (es : List Access)
    → KeepsWords far new es (λ es s t. IsWritten h n at bytes es s t)
written_words h n at bytes far new es s before behind agree first x =
    let was = taken_was es s h x.word x.version x.words agree first x.found x.taken in
    put_owned s (played es s) (told_by es s).memory x.new h (len_of x.word) (place_of x.word)
    (ap (λ (l : List Object). get_or l h never) x.objects ∙ was.0) (x.write.sized ∙ was.1) x.memory
    (λ p owns. told_kept es s p agree first owns)

pub write_words : (h at : ℕ) (bytes : List ℕ) (far new : FarState) (r : Reply) (es : List Access)
    → KeepsWords far new es (WriteEffect h at bytes r)
write_words h at bytes far new (answer.Version n) es s before behind agree first x =
    written_words h n at bytes far new es s before behind agree first x
write_words h at bytes far new r es s before behind agree first x =
    still_words far new es s before behind agree first x

pub free_words : (h : ℕ) (far new : FarState) (r : Reply) (es : List Access)
    → KeepsWords far new es (FreeEffect h r)
free_words h far new (answer.Version n) es s before behind agree first x =
    told_owned es s (played es s) agree first x.memory
free_words h far new r es s before behind agree first x =
    still_words far new es s before behind agree first x

moved_words : (h : ℕ) (far new : FarState) (es : List Access)
    → KeepsWords far new es (λ es s t. IsMoved h far new es s t)
moved_words h far new es s before behind agree first x =
    let was = taken_was es s h x.word x.version x.words agree first x.found x.taken in
    put_owned s (played es s) (told_by es s).memory x.words h (len_of x.word) (place_in x.slot)
    (ap (λ (l : List Object). get_or l h never) x.objects
    ∙ get_or-set_same s.objects h (is.Here (len_of x.word) (place_in x.slot)) never
    (here_within s h (len_of x.word) (place_of x.word) was.0)) was.1 x.memory
    (λ p owns. told_kept es s p agree first owns)

filtered_words : (h : ℕ) (far new : FarState) (r : Reply) (es : List Access)
    → KeepsWords far new es (λ es s t. FilterChange h far new r es s t)
filtered_words h far new answer.Moved es s before behind agree first x =
    moved_words h far new es s before behind agree first x
filtered_words h far new answer.Same es s before behind agree first x =
    told_owned es s (played es s) agree first x.memory
filtered_words h far new r es s before behind agree first x =
    still_words far new es s before behind agree first x

pub filter_words : (h : ℕ) (far new : FarState) (r : Reply) (es : List Access)
    → KeepsWords far new es (FilterEffect h far new r)
filter_words h far new r es s before behind agree first x =
    filtered_words h far new r es s before behind agree first x.change

-- ---- spans that leave
pub evict_words : (far new : FarState) (r : Reply) (es : List Access) → EvictRule far new r es
    → KeepsWords far new es (EvictEffect far new r)
evict_words far new r es rule s before behind agree first x = elim rule.answered [
  | inl few ↦ still_words far new es s before behind agree first
      (x.left (λ id e. spans_set _ id r few.reply e))
  | inr (inl few) ↦ still_words far new es s before behind agree first
      (x.left (λ id e. nodes_set _ id r few.reply e))
  | inr (inr both) ↦ told_owned es s (played es s) agree first
      (x.evicted (record { n = far.counts.sets }) both.reply).memory
]
  where
    spans_set : (n : ℕ) (b : SetId) (q : Reply) → q ≡ answer.NoSpans n → q ≡ answer.Set b → ⊥
    spans_set n b q e f = cc

    nodes_set : (n : ℕ) (b : SetId) (q : Reply) → q ≡ answer.NoNodes n → q ≡ answer.Set b → ⊥
    nodes_set n b q e f = cc

pub begin_words : (far new : FarState) (made : Bool) (so : List (List ℕ) → Type 0) (r : Reply)
    (es : List Access) → BeginsBy far new made so r es → KeepsWords far new es (BeginEffect far new r)
begin_words far new made so r es (inl z) s before behind agree first x =
    still_words far new es s before behind agree first
    (x.left (λ id e. leaving_batch (record { n = z.batch.set }) id r z.reply e))
  where
    leaving_batch : (a b : SetId) (q : Reply) → q ≡ answer.Leaving a → q ≡ answer.Batch b → ⊥
    leaving_batch a b q e f = cc
begin_words far new made so r es (inr z) s before behind agree first x = elim z.answered [
  | inl few ↦ still_words far new es s before behind agree first
      (x.left (λ id e. spans_batch _ id r few.reply e))
  | inr (inl few) ↦ still_words far new es s before behind agree first
      (x.left (λ id e. nodes_batch _ id r few.reply e))
  | inr (inr both) ↦ told_owned es s (played es s) agree first
      (x.begun (record { n = far.counts.sets }) both.reply).memory
]
  where
    spans_batch : (n : ℕ) (b : SetId) (q : Reply) → q ≡ answer.NoSpans n → q ≡ answer.Batch b → ⊥
    spans_batch n b q e f = cc

    nodes_batch : (n : ℕ) (b : SetId) (q : Reply) → q ≡ answer.NoNodes n → q ≡ answer.Batch b → ⊥
    nodes_batch n b q e f = cc

pub commit_words : (far new : FarState) (r : Reply) (es : List Access) → CommitRule far new r es
    → KeepsWords far new es (CommitEffect far new r)
commit_words far new r es rule s before behind agree first x = elim rule.answered [
  | inl none ↦ still_words far new es s before behind agree first
      (x.left (λ id e. none_set id r none.reply e))
  | inr (inl short) ↦ still_words far new es s before behind agree first
      (x.left (λ id e. short_set _ id r short.reply e))
  | inr (inr z) ↦ λ p owns still. ap (λ (l : List ℕ). get_or l p 0)
      (x.committed z.batch (record { n = z.batch.set }) z.there z.reply).sent.memory
]
  where
    none_set : (b : SetId) (q : Reply) → q ≡ answer.NoBatch → q ≡ answer.Set b → ⊥
    none_set b q e f = cc

    short_set : (ps : List ℕ) (b : SetId) (q : Reply) → q ≡ answer.Short ps → q ≡ answer.Set b → ⊥
    short_set ps b q e f = cc

pub abort_words : (far new : FarState) (r : Reply) (es : List Access) → AbortRule far new r es
    → KeepsWords far new es (AbortEffect far new)
abort_words far new r es rule s before behind agree first x = elim rule.answered [
  | inl z ↦ still_words far new es s before behind agree first (x.left z.none)
  | inr z ↦ λ p owns still.
      ap (λ (l : List ℕ). get_or l p 0) (x.aborted z.batch z.there).back.memory
]
