-- Words that the holder of the far lock owns stay, where events tell of words; and what is so of every
-- such word leaves each kept order kept.
use Rattle.std.proofs.Common.{◌≡◌, ◌≢◌, ◌⊎◌, ℕ, ◌+◌, ◌*◌, ◌<◌, ◌≤◌, List, [], ◌∷◌, length, get_or, set, Some, refl, sym, ap, ◌∙◌, subst, arith, inl, inr, append-nil, get_or-set_other}
use Rattle.std.proofs.lemmas.Bool.{cases_lt}
use Rattle.std.specs.List.{Contains}
use Rattle.cb_class.specs.Class.{pages_of}
use Rattle.cb_ptr.specs.Word.{len_of, place_of}
use Rattle.cb_world.specs.declared.access.Access.{Access}
use Rattle.cb_world.specs.declared.access.Access.TheVariants.{Looked, Claimed, Told, Loaded, Stored, Stamped, Settled}
use Rattle.cb_world.specs.declared.object.Object.{Object}
use Rattle.cb_world.specs.declared.object.Object.TheVariants as is
use Rattle.cb_world.specs.declared.shown.Shown.{Shown}
use Rattle.cb_world.specs.FarSound.{rows_in}
use Rattle.cb_span.specs.Contents.{Contents}
use Rattle.cb_world.specs.FarState.{FarState, span_in}
use Rattle.cb_world.specs.Leaving.{LeavingState}
use Rattle.cb_world.specs.Looks.{LooksFirst, NoLook, told_by}
use Rattle.cb_world.specs.Memory.{put, words_for}
use Rattle.cb_world.specs.Orders.{LeavesOrders, LeavesWords}
use Rattle.cb_world.specs.Played.{Agree, after, played}
use Rattle.cb_world.specs.Shown.{Covers, Owns, Spares, never, object_at}
use Rattle.cb_world.specs.Sound.{Sound}
use Rattle.cb_world.proofs.Laws.{batch_kept, batch_owned, orders_left, put_else, window_same}

-- ---- what is told
-- no object that is still to be looked at, and that others may change, lies at the word
abbrev SparesSeen : ℕ → List Access → Shown → Type 0
SparesSeen p es s = (k : ℕ) → (NoLook k es → ⊥) → Spares p (object_at s k)

-- another object changes
pub other_object : (s : Shown) (h k : ℕ) (o : Object) → h ≢ k
    → get_or (set s.objects h o) k never ≡ object_at s k
other_object s h k o off = get_or-set_other s.objects h k o never (λ e. off (sym e))

-- a word that an object does not cover stays where the object's words are put
put_beside : (ms words : List ℕ) (place len p : ℕ) → (Covers place len p → ⊥)
    → length words ≡ words_for len → get_or (put ms place words) p 0 ≡ get_or ms p 0
put_beside ms words place len p off count = put_else ms place words p (side (cases_lt p place))
  where
    behind : (p < place + words_for len) ⊎ (place + words_for len ≤ p) → place ≤ p
        → (p < place) ⊎ (place + length words ≤ p)
    behind (inl inside) from = absurd (off (from, inside))
    behind (inr past) from = inr (omega (arith, past, count))

    side : (p < place) ⊎ (place ≤ p) → (p < place) ⊎ (place + length words ≤ p)
    side (inl before) = inl before
    side (inr from) = behind (cases_lt p (place + words_for len)) from

-- the word stays in what events tell
told_word : (es : List Access) (u v : Shown) (p : ℕ) → Agree u es → LooksFirst es
    → SparesSeen p es u → get_or (told_by es v).memory p 0 ≡ get_or v.memory p 0
told_word [] u v p agree first spares = refl
told_word (Looked h w ∷ es) u v p agree first spares =
    told_word es (after (Looked h w) u) (record v { hots = _ }) p agree.1 first
    (λ k looked. spares k (λ none. looked none.1))
told_word (Claimed h w n words ∷ es) u v p agree first spares =
    told_word es (after (Claimed h w n words) u) (record v { hots = _; versions = _; memory = _ }) p
    agree.1 first.1
    (λ k looked. subst (Spares p) (sym (other_object u h k _ (λ same. looked
    (subst (λ (i : ℕ). NoLook i es) same first.0)))) (spares k (λ none. looked none.1)))
    ∙ put_beside v.memory words (place_of w) (len_of w) p
    (subst (Spares p) agree.0.0 (spares h (λ none. none.0 w (refl, refl)))) agree.0.3
told_word (Told h n ∷ es) u v p agree first spares =
    told_word es u v p agree.1 first (λ k looked. spares k (λ none. looked none.1))
told_word (Loaded q x ∷ es) u v p agree first spares =
    told_word es u v p agree.1 first (λ k looked. spares k (λ none. looked none.1))
told_word (Stored q x ∷ es) u v p agree first spares =
    told_word es (after (Stored q x) u) v p agree.1 first.1
    (λ k looked. spares k (λ none. looked none.1))
told_word (Stamped h n ∷ es) u v p agree first spares =
    told_word es (after (Stamped h n) u) v p agree.1 first.1
    (λ k looked. spares k (λ none. looked none.1))
told_word (Settled h w ∷ es) u v p agree first spares =
    told_word es (after (Settled h w) u) v p agree.1 first.1
    (λ k looked. subst (Spares p) (sym (other_object u h k _ (λ same. looked
    (subst (λ (i : ℕ). NoLook i es) same first.0)))) (spares k (λ none. looked none.1)))

-- a word that is owned
pub told_kept : (es : List Access) (s : Shown) (p : ℕ) → Agree s es → LooksFirst es → Owns s p
    → get_or (told_by es s).memory p 0 ≡ get_or s.memory p 0
told_kept es s p agree first owns = told_word es s s p agree first (λ k looked. owns.1 k)

-- ---- every word that is owned before and behind
abbrev pub KeepsOwned : Shown → Shown → Type 0
KeepsOwned s t = (p : ℕ) → Owns s p → Owns t p → get_or t.memory p 0 ≡ get_or s.memory p 0

pub same_owned : (s t : Shown) (ms : List ℕ) → t.memory ≡ ms
    → ((p : ℕ) → Owns s p → get_or ms p 0 ≡ get_or s.memory p 0) → KeepsOwned s t
same_owned s t ms same kept p owns still = ap (λ (l : List ℕ). get_or l p 0) same ∙ kept p owns

-- what an operation does keeps each such word, from a sound world to a sound one
abbrev pub KeepsWords : FarState → FarState → List Access
    → (List Access → Shown → Shown → Type 0) → Type 0
KeepsWords far new es does = (s : Shown) → Sound s far → Sound (played es s) new → Agree s es
    → LooksFirst es → does es s (played es s) → KeepsOwned s (played es s)

-- the memory is what was told
pub told_owned : (es : List Access) (s t : Shown) → Agree s es → LooksFirst es
    → t.memory ≡ (told_by es s).memory → KeepsOwned s t
told_owned es s t agree first same =
    same_owned s t (told_by es s).memory same (λ p owns. told_kept es s p agree first owns)

-- or that with the words of an object which is here now
pub put_owned : (s t : Shown) (ms words : List ℕ) (h len place : ℕ)
    → object_at t h ≡ is.Here len place → length words ≡ words_for len → t.memory ≡ put ms place words
    → ((p : ℕ) → Owns s p → get_or ms p 0 ≡ get_or s.memory p 0) → KeepsOwned s t
put_owned s t ms words h len place here count same kept p owns still =
    ap (λ (l : List ℕ). get_or l p 0) same
    ∙ put_beside ms words place len p (subst (Spares p) here (still.1 h)) count ∙ kept p owns

-- ---- the frames of a batch
rows_same : (s t : Shown) (far new : FarState) (b : LeavingState)
    → ((f : ℕ) → Contains b.frames f → (p : ℕ) → 512 * f ≤ p → p < 512 * f + 512 * b.pages
    → get_or t.memory p 0 ≡ get_or s.memory p 0)
    → rows_in t b.pages b.frames ≡ rows_in s b.pages b.frames
rows_same s t far new b same =
    let bare : LeavingState = record b { parities = [] } in
    sym (append-nil (rows_in t b.pages b.frames))
    ∙ batch_kept s t far far bare (record {
      spans = λ f leaves. refl;
      words = λ f leaves.
          window_same t.memory s.memory (512 * f) (512 * b.pages) (λ p from to. same f leaves p from to);
    })
    ∙ append-nil (rows_in s b.pages b.frames)

-- the rows of a batch that goes on leaving stay
abbrev pub KeepsRows : Shown → FarState → Shown → FarState → Type 0
KeepsRows s far t new = (b : LeavingState) → new.leaving ≡ Some b → b.set < far.counts.sets
    → rows_in t b.pages b.frames ≡ rows_in s b.pages b.frames

-- where words of frames stay that were those of the batch before, and are behind
pub frame_rows : (s t : Shown) (far new : FarState) → Sound s far → Sound t new
    → LeavesWords far new
    → ((f : ℕ) (was is : Contents) → span_in far.spans f ≡ Some was → span_in new.spans f ≡ Some is
    → (p : ℕ) → 512 * f ≤ p → p < 512 * (f + pages_of was.class)
    → p < 512 * (f + pages_of is.class) → Owns s p → Owns t p
    → get_or t.memory p 0 ≡ get_or s.memory p 0)
    → KeepsRows s far t new
frame_rows s t far new before behind leaves kept b at below = let old = leaves.batch b at below in
    rows_same s t far new b (λ f leaving p from to.
    let held = (behind.noted b at).held f leaving in
    let was = (before.noted old.0 old.1).held f
    (subst (λ (l : List ℕ). Contains l f) (sym old.4) leaving) in
    let pages = old.3 in let wide = held.2 in let long = was.2 in
    let first : p < 512 * (f + pages_of was.0.class) = omega (arith, to, pages, long) in
    let last : p < 512 * (f + pages_of held.0.class) = omega (arith, to, wide) in
    kept f was.0 held.0 was.1 held.1 p from first last
    (batch_owned s far old.0 before old.1 f was.0
    (subst (λ (l : List ℕ). Contains l f) (sym old.4) leaving) was.1 p (from, first))
    (batch_owned t new b behind at f held.0 leaving held.1 p (from, last)))

-- so where every word stays that is owned
pub owned_rows : (s t : Shown) (far new : FarState) → Sound s far → Sound t new
    → LeavesWords far new → KeepsOwned s t → KeepsRows s far t new
owned_rows s t far new before behind leaves kept = frame_rows s t far new before behind leaves
    (λ f was is at there p from first last owns still. kept p owns still)

-- what an operation does keeps the rows of the batch, from a sound world to a sound one
abbrev pub KeepsBatch : FarState → FarState → List Access
    → (List Access → Shown → Shown → Type 0) → Type 0
KeepsBatch far new es does = (s : Shown) → Sound s far → Sound (played es s) new
    → LeavesWords far new → Agree s es → LooksFirst es → does es s (played es s)
    → KeepsRows s far (played es s) new

pub by_words : (far new : FarState) (es : List Access) (does : List Access → Shown → Shown → Type 0)
    → KeepsWords far new es does → KeepsBatch far new es does
by_words far new es does kept s before behind leaves agree first x =
    owned_rows s (played es s) far new before behind leaves
    (kept s before behind agree first x)

-- nothing is done at the desk
pub far_orders : (s : Shown) (far new : FarState) → Sound s far → Sound s new → LeavesWords far new
    → LeavesOrders s far s new
far_orders s far new before behind leaves =
    orders_left s s far new before behind leaves (λ b at below. refl)
