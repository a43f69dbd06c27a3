-- At the still desk the spans that were found loose are those that its words say to be loose.
use Rattle.std.proofs.Common.{◌≡◌, ℕ, Bool, true, false, cond, ◌&&◌, ◌<◌, nat_eq, List, [], ◌∷◌, length, get_or, Option, Some, None, refl, sym, ap, ◌∙◌, subst, inl, inr, eq-eqb}
use Rattle.std.specs.List.{Contains, filter}
use Rattle.std.proofs.lemmas.Bool.{cases_lt, and_parts, eqb-true, false≢true}
use Rattle.std.proofs.lemmas.List.{get_or_past, get_or_default}
use Rattle.std.proofs.lemmas.List.Folds.{list_all_at}
use Rattle.std.proofs.lemmas.List.Sums.{AllPass-from_list_all, list_all-from_AllPass}
use Rattle.cb_ptr.specs.declared.word.State.{State}
use Rattle.cb_ptr.specs.declared.word.State.TheVariants as state
use Rattle.cb_ptr.specs.Word.{state_of, pins_of}
use Rattle.cb_span.specs.Contents.{Contents, handle_at}
use Rattle.cb_world.specs.declared.access.Access.{Access}
use Rattle.cb_world.specs.FarState.{FarState, span_in}
use Rattle.cb_world.specs.Grasped.{IsFree}
use Rattle.cb_world.specs.Looks.{LooksFirst}
use Rattle.cb_world.specs.Plain.{Words, Plain}
use Rattle.cb_world.specs.World.{word_at}
use Rattle.cb_world.proofs.Laws.{found_exact}
use Rattle.cb_evict.specs.Candidates.{candidates, IsLoose, IsHeldUp, AreLoose}
use Rattle.cb_evict.specs.Looking.{SpanHas}
use Rattle.cb_evict.specs.EvictStep.{is_here, is_slot_loose, is_loose, loose_frames}
use Rattle.cb_evict.proofs.Loose.{has_names, names_has, contains_head, contains_tail}
use Rattle.cb_evict.proofs.Standing.{is_standing}
use Rattle.cb_evict.proofs.Options.{none_some}

-- ---- one object
-- whether a word can be claimed
abbrev is_free_word : ℕ → Bool
is_free_word w = is_here (state_of w) && nat_eq (pins_of w) 0

free_passes : (w : ℕ) → IsFree w → is_free_word w ≡ true
free_passes w free = ap (λ (q : State). is_here q && nat_eq (pins_of w) 0) free.0
    ∙ eq-eqb (pins_of w) 0 free.1

here_state : (q : State) → is_here q ≡ true → q ≡ state.Here
here_state state.Empty e = absurd (false≢true e)
here_state state.Far e = absurd (false≢true e)
here_state state.Here e = refl
here_state state.Moving e = absurd (false≢true e)

passes_free : (w : ℕ) → is_free_word w ≡ true → IsFree w
passes_free w e = let b = and_parts (is_here (state_of w)) (nat_eq (pins_of w) 0) e in
    (here_state (state_of w) b.0, eqb-true (pins_of w) 0 b.1)

not_free : (w : ℕ) → ¬ (IsFree w) → is_free_word w ≡ false
not_free w held = go (is_free_word w) refl
  where
    go : (b : Bool) → is_free_word w ≡ b → is_free_word w ≡ false
    go true e = absurd (held (passes_free w e))
    go false e = e

slot_passes : (x : Words) (slot : Option ℕ) → ((h : ℕ) → slot ≡ Some h → IsFree (word_at x h))
    → is_slot_loose x slot ≡ true
slot_passes x None free = refl
slot_passes x (Some h) free = free_passes (word_at x h) (free h refl)

-- ---- one span
-- the slot of an object is one that there is
slot_below : (span : Contents) (slot h : ℕ) → handle_at span slot ≡ Some h
    → slot < length span.slots
slot_below span slot h named = elim (cases_lt slot (length span.slots)) [
  | inl below ↦ below
  | inr past ↦ absurd (none_some h (sym (get_or_past span.slots slot None past) ∙ named))
]

span_passes : (x : Words) (span : Contents) → ((h : ℕ) → SpanHas span h → IsFree (word_at x h))
    → is_loose x (Some span) ≡ true
span_passes x span free = list_all-from_AllPass (is_slot_loose x) span.slots
    (λ k d below. slot_passes x (get_or span.slots k d)
    (λ h e. free h (k, get_or_default span.slots k None d below ∙ e)))

-- each object of a loose span can be claimed
pub loose_free : (x : Words) (span : Contents) (h : ℕ) → is_loose x (Some span) ≡ true
    → SpanHas span h → IsFree (word_at x h)
loose_free x span h loose (slot, named) =
    passes_free (word_at x h) (sym (ap (is_slot_loose x) named)
    ∙ AllPass-from_list_all (is_slot_loose x) span.slots loose slot None
    (slot_below span slot h named))

span_fails : (x : Words) (span : Contents) (h : ℕ) → SpanHas span h → ¬ (IsFree (word_at x h))
    → is_loose x (Some span) ≡ false
span_fails x span h (slot, named) held =
    list_all_at (is_slot_loose x) span.slots slot None (slot_below span slot h named)
    (ap (is_slot_loose x) named ∙ not_free (word_at x h) held)

-- ---- the frames
frame_passes : (es : List Access) (x y : Words) (spans : List (Option Contents)) (f : ℕ)
    (span : Contents) → Plain x es y → LooksFirst es → span_in spans f ≡ Some span
    → IsLoose es spans f → is_loose x (span_in spans f) ≡ true
frame_passes es x y spans f span run first there loose =
    ap (is_loose x) there ∙ span_passes x span (λ h has.
    let z = loose h (has_names spans f h span there has) in
    subst IsFree (sym (found_exact es x y h z.0 run first z.1)) z.2)

frame_fails : (es : List Access) (x y : Words) (spans : List (Option Contents)) (f : ℕ)
    (span : Contents) → Plain x es y → LooksFirst es → span_in spans f ≡ Some span
    → IsHeldUp es spans f → is_loose x (span_in spans f) ≡ false
frame_fails es x y spans f span run first there a =
    let b = a.barred in
    ap (is_loose x) there ∙ span_fails x span b.0 (names_has spans f b.0 span there b.2)
    (λ free. b.4 (subst IsFree (found_exact es x y b.0 b.1 run first b.3) free))

-- of frames with spans those that were found loose are those that are loose
exact : (es : List Access) (x y : Words) (spans : List (Option Contents)) (frames loose : List ℕ)
    → Plain x es y → LooksFirst es
    → ((f : ℕ) → Contains frames f → (span : Contents) × (span_in spans f ≡ Some span))
    → AreLoose es spans frames loose
    → loose ≡ filter (λ f. is_loose x (span_in spans f)) frames
exact es x y spans [] [] run first held a = refl
exact es x y spans [] (g ∷ loose) run first held a = absurd a
exact es x y spans (f ∷ frames) [] run first held a =
    let span = held f (contains_head f frames) in
    let rest = filter (λ g. is_loose x (span_in spans g)) frames in
    exact es x y spans frames [] run first
    (λ g c. held g (contains_tail f g frames c)) a.1
    ∙ sym (ap (λ (b : Bool). cond b (f ∷ rest) rest)
    (frame_fails es x y spans f span.0 run first span.1 a.0))
exact es x y spans (f ∷ frames) (g ∷ loose) run first held (inl a) =
    let span = held f (contains_head f frames) in
    let rest = filter (λ n. is_loose x (span_in spans n)) frames in
    exact es x y spans frames (g ∷ loose) run first
    (λ n c. held n (contains_tail f n frames c)) a.1
    ∙ sym (ap (λ (b : Bool). cond b (f ∷ rest) rest)
    (frame_fails es x y spans f span.0 run first span.1 a.0))
exact es x y spans (f ∷ frames) (g ∷ loose) run first held (inr a) =
    let span = held f (contains_head f frames) in
    let rest = filter (λ n. is_loose x (span_in spans n)) frames in
    let then = exact es x y spans frames loose run first
    (λ n c. held n (contains_tail f n frames c)) a.2 in
    (λ i. a.1 i ∷ then i)
    ∙ sym (ap (λ (b : Bool). cond b (f ∷ rest) rest)
    (frame_passes es x y spans f span.0 run first span.1 a.0))

-- of the spans that may leave those that were found loose are those that are loose
pub loose_exact : (es : List Access) (x y : Words) (far : FarState) (loose : List ℕ)
    → Plain x es y → LooksFirst es → AreLoose es far.spans (candidates far) loose
    → loose ≡ loose_frames x far
loose_exact es x y far loose run first found =
    exact es x y far.spans (candidates far) loose run first
    (λ f c. let z = is_standing far f c in (z.span, z.there)) found
