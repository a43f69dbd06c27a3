-- Which spans are loose, as more is looked at.
use Rattle.std.proofs.Common.{◌≡◌, ◌≢◌, ◌⊎◌, ℕ, zero, suc, ◌<◌, ◌≤◌, List, [], ◌∷◌, ◌++◌, length, take, get_or, Option, Some, refl, sym, ap, ◌∙◌, subst, arith, inl, inr}
use Rattle.std.specs.List.{Contains, AllPairs}
use Rattle.std.proofs.lemmas.List.Elements.{All-contains, Contains-append_left, Contains-push}
use Rattle.cb_span.specs.Contents.{Contents, IsSpan, handle_at}
use Rattle.cb_world.specs.declared.leaving.Former.{Former}
use Rattle.cb_world.specs.declared.shown.Shown.{Shown}
use Rattle.cb_evict.specs.Claims.{AreClaimed, IsClaimedBy}
use Rattle.cb_evict.specs.Claiming.{IsOne}
use Rattle.cb_world.specs.declared.access.Access.{Access}
use Rattle.cb_world.specs.Looks.{NoLook, IsFound}
use Rattle.cb_world.specs.Grasped.{IsFree}
use Rattle.cb_world.specs.FarState.{span_in, handle_in}
use Rattle.cb_world.proofs.Laws.{found_more}
use Rattle.cb_evict.specs.Candidates.{SpanNames, IsLoose, IsSeen, IsBarred, IsHeldUp, AreLoose, AreUnique}
use Rattle.cb_evict.specs.Events.{TouchesOnly}
use Rattle.cb_evict.specs.Looking.{IsIn, SpanHas}
use Rattle.cb_evict.proofs.Homing.{none_before, span_slots}
use Rattle.cb_evict.proofs.Events.{touches_quiet, found_after, found_on}

-- ---- the names of a span
pub has_names : (spans : List (Option Contents)) (f h : ℕ) (span : Contents)
    → span_in spans f ≡ Some span → SpanHas span h → SpanNames spans f h
has_names spans f h span there (slot, named) =
    (slot, ap (λ (o : Option Contents). handle_in o slot) there ∙ named)

pub names_has : (spans : List (Option Contents)) (f h : ℕ) (span : Contents)
    → span_in spans f ≡ Some span → SpanNames spans f h → SpanHas span h
names_has spans f h span there (slot, named) =
    (slot, sym (ap (λ (o : Option Contents). handle_in o slot) there) ∙ named)

-- ---- one span
pub loose_more : (spans : List (Option Contents)) (f : ℕ) (es fs : List Access)
    → ((h : ℕ) → SpanNames spans f h → NoLook h fs) → IsLoose es spans f
    → IsLoose (es ++ fs) spans f
loose_more spans f es fs quiet a h named =
    let x = a h named in (x.0, found_more h x.0 es fs x.1 (quiet h named), x.2)

pub held_more : (spans : List (Option Contents)) (f : ℕ) (es fs : List Access)
    → ((h : ℕ) → SpanNames spans f h → NoLook h fs) → IsHeldUp es spans f
    → IsHeldUp (es ++ fs) spans f
held_more spans f es fs quiet a = let b = a.barred in record {
  seen = λ h named. let x = a.seen h named in (x.0, found_more h x.0 es fs x.1 (quiet h named));
  barred = (b.0, b.1, b.2, found_more b.0 b.1 es fs b.3 (quiet b.0 b.2), b.4);
}

pub loose_after : (spans : List (Option Contents)) (f : ℕ) (es fs : List Access)
    → IsLoose fs spans f → IsLoose (es ++ fs) spans f
loose_after spans f es fs a h named = let x = a h named in (x.0, found_after h x.0 es fs x.1, x.2)

pub barred_after : (spans : List (Option Contents)) (f : ℕ) (es fs : List Access)
    → IsBarred fs spans f → IsBarred (es ++ fs) spans f
barred_after spans f es fs (h, w, named, found, not) = (h, w, named, found_after h w es fs found, not)

pub held_after : (spans : List (Option Contents)) (f : ℕ) (es fs : List Access)
    → IsHeldUp fs spans f → IsHeldUp (es ++ fs) spans f
held_after spans f es fs a = record {
  seen = λ h named. let x = a.seen h named in (x.0, found_after h x.0 es fs x.1);
  barred = barred_after spans f es fs a.barred;
}

-- a span with one object, which can't be claimed
pub held_alone : (spans : List (Option Contents)) (f : ℕ) (es : List Access) (h w : ℕ)
    → ((k : ℕ) → SpanNames spans f k → h ≡ k) → SpanNames spans f h → IsFound h w es → ¬ (IsFree w)
    → IsHeldUp es spans f
held_alone spans f es h w only named found held = record {
  seen = λ k n. (w, subst (λ (j : ℕ). IsFound j w es) (only k n) found);
  barred = (h, w, named, found, held);
}

-- each object of a loose span was looked at, and so it is once more is told
pub loose_seen : (spans : List (Option Contents)) (f : ℕ) (es fs : List Access) → IsLoose es spans f
    → IsSeen (es ++ fs) spans f
loose_seen spans f es fs a h named = let x = a h named in found_on h x.0 es fs x.1

-- ---- many spans
pub held_cons : (es : List Access) (spans : List (Option Contents)) (f : ℕ) (frames loose : List ℕ)
    → IsHeldUp es spans f → AreLoose es spans frames loose → AreLoose es spans (f ∷ frames) loose
held_cons es spans f frames [] h a = (h, a)
held_cons es spans f frames (g ∷ loose) h a = inl (h, a)

pub contains_head : {X : Type 0} (x : X) (xs : List X) → Contains (x ∷ xs) x
contains_head x xs = (0, omega arith, refl)

pub contains_tail : {X : Type 0} (x y : X) (xs : List X) → Contains xs y → Contains (x ∷ xs) y
contains_tail x y xs (k, l, e) = (suc k, omega (arith, l), e)

-- the loose ones are among the frames
pub loose_among : (es : List Access) (spans : List (Option Contents)) (frames loose : List ℕ) (g : ℕ)
    → AreLoose es spans frames loose → Contains loose g → Contains frames g
loose_among es spans [] [] g a (k, l, e) = absurd (omega (arith, l))
loose_among es spans [] (x ∷ loose) g a c = absurd a
loose_among es spans (f ∷ frames) [] g a (k, l, e) = absurd (omega (arith, l))
loose_among es spans (f ∷ frames) (x ∷ loose) g (inl a) c =
    contains_tail f g frames (loose_among es spans frames (x ∷ loose) g a.1 c)
loose_among es spans (f ∷ frames) (x ∷ loose) g (inr a) (zero, l, e) =
    subst (Contains (f ∷ frames)) (sym a.1 ∙ e) (contains_head f frames)
loose_among es spans (f ∷ frames) (x ∷ loose) g (inr a) (suc k, l, e) =
    contains_tail f g frames (loose_among es spans frames loose g a.2 (k, omega (arith, l), e))

pub loose_push : (es : List Access) (spans : List (Option Contents)) (frames loose : List ℕ) (f : ℕ)
    → AreLoose es spans frames loose → IsLoose es spans f
    → AreLoose es spans (frames ++ f ∷ []) (loose ++ f ∷ [])
loose_push es spans [] [] f a x = inr (x, refl, tt)
loose_push es spans [] (g ∷ loose) f a x = absurd a
loose_push es spans (h ∷ frames) [] f a x = inl (a.0, loose_push es spans frames [] f a.1 x)
loose_push es spans (h ∷ frames) (g ∷ loose) f (inl a) x =
    inl (a.0, loose_push es spans frames (g ∷ loose) f a.1 x)
loose_push es spans (h ∷ frames) (g ∷ loose) f (inr a) x =
    inr (a.0, a.1, loose_push es spans frames loose f a.2 x)

pub held_push : (es : List Access) (spans : List (Option Contents)) (frames loose : List ℕ) (f : ℕ)
    → AreLoose es spans frames loose → IsHeldUp es spans f
    → AreLoose es spans (frames ++ f ∷ []) loose
held_push es spans [] [] f a x = (x, tt)
held_push es spans [] (g ∷ loose) f a x = absurd a
held_push es spans (h ∷ frames) [] f a x = (a.0, held_push es spans frames [] f a.1 x)
held_push es spans (h ∷ frames) (g ∷ loose) f (inl a) x =
    inl (a.0, held_push es spans frames (g ∷ loose) f a.1 x)
held_push es spans (h ∷ frames) (g ∷ loose) f (inr a) x =
    inr (a.0, a.1, held_push es spans frames loose f a.2 x)

-- what is not looked at again stays as it was found
pub all_quiet : (es fs : List Access) (spans : List (Option Contents)) (frames loose : List ℕ)
    → ((f : ℕ) → Contains frames f → (h : ℕ) → SpanNames spans f h → NoLook h fs)
    → AreLoose es spans frames loose → AreLoose (es ++ fs) spans frames loose
all_quiet es fs spans [] [] quiet a = tt
all_quiet es fs spans [] (g ∷ loose) quiet a = a
all_quiet es fs spans (f ∷ frames) [] quiet a = (
  held_more spans f es fs (quiet f (contains_head f frames)) a.0,
  all_quiet es fs spans frames [] (λ x c. quiet x (contains_tail f x frames c)) a.1,
)
all_quiet es fs spans (f ∷ frames) (g ∷ loose) quiet (inl a) = inl (
  held_more spans f es fs (quiet f (contains_head f frames)) a.0,
  all_quiet es fs spans frames (g ∷ loose) (λ x c. quiet x (contains_tail f x frames c)) a.1,
)
all_quiet es fs spans (f ∷ frames) (g ∷ loose) quiet (inr a) = inr (
  loose_more spans f es fs (quiet f (contains_head f frames)) a.0,
  a.1,
  all_quiet es fs spans frames loose (λ x c. quiet x (contains_tail f x frames c)) a.2,
)

-- ---- one of the spans is tried
pub fresh_head : (f : ℕ) (frames : List ℕ) → AllPairs (λ x y. x ≢ y) (f ∷ frames)
    → Contains frames f → ⊥
fresh_head f frames apart (k, l, e) = apart 0 (suc k) f (omega arith) (omega (arith, l)) (sym e)

pub apart_tail : (f : ℕ) (frames : List ℕ) → AllPairs (λ x y. x ≢ y) (f ∷ frames)
    → AllPairs (λ x y. x ≢ y) frames
apart_tail f frames apart i j d less within =
    apart (suc i) (suc j) d (omega (arith, less)) (omega (arith, within))

-- the spans in other frames are not looked at
pub others_quiet : (spans : List (Option Contents)) (n x : ℕ) (fs : List Access) → AreUnique spans n
    → TouchesOnly (SpanNames spans x) (λ p. ⊥) fs → (f : ℕ) → f ≢ x → (h : ℕ) → SpanNames spans f h → NoLook h fs
others_quiet spans n x fs unique touches f off h named =
    touches_quiet (SpanNames spans x) (λ p. ⊥) h fs (λ other. off (unique.one_frame f x h named other)) touches

-- the frames behind x are others
pub tail_quiet : (spans : List (Option Contents)) (n x : ℕ) (fs : List Access) (frames : List ℕ)
    → AreUnique spans n → TouchesOnly (SpanNames spans x) (λ p. ⊥) fs → (Contains frames x → ⊥)
    → (f : ℕ) → Contains frames f → (h : ℕ) → SpanNames spans f h → NoLook h fs
tail_quiet spans n x fs frames unique touches none f c =
    others_quiet spans n x fs unique touches f (λ e. none (subst (Contains frames) e c))

-- it is loose still
pub loose_kept : (es fs : List Access) (spans : List (Option Contents)) (n x : ℕ)
    (frames loose : List ℕ) → AreUnique spans n → TouchesOnly (SpanNames spans x) (λ p. ⊥) fs
    → AllPairs (λ f g. f ≢ g) frames → IsLoose (es ++ fs) spans x → Contains loose x
    → AreLoose es spans frames loose → AreLoose (es ++ fs) spans frames loose
loose_kept es fs spans n x [] [] unique touches apart now among a = tt
loose_kept es fs spans n x [] (g ∷ loose) unique touches apart now among a = a
loose_kept es fs spans n x (f ∷ frames) [] unique touches apart now (k, l, e) a =
    absurd (omega (arith, l))
loose_kept es fs spans n x (f ∷ frames) (g ∷ loose) unique touches apart now among (inl a) =
    let c = loose_among es spans frames (g ∷ loose) x a.1 among in inl (
      held_more spans f es fs (others_quiet spans n x fs unique touches f (λ e.
          fresh_head f frames apart (subst (Contains frames) (sym e) c))) a.0,
      loose_kept es fs spans n x frames (g ∷ loose) unique touches (apart_tail f frames apart) now among a.1,
    )
loose_kept es fs spans n x (f ∷ frames) (g ∷ loose) unique touches apart now (zero, l, e) (inr a) =
    let same : f ≡ x = sym a.1 ∙ e in inr (
      subst (IsLoose (es ++ fs) spans) (sym same) now,
      a.1,
      all_quiet es fs spans frames loose (tail_quiet spans n x fs frames unique touches (λ c.
          fresh_head f frames apart (subst (Contains frames) (sym same) c))) a.2,
    )
loose_kept es fs spans n x (f ∷ frames) (g ∷ loose) unique touches apart now (suc k, l, e) (inr a) =
    let among : Contains loose x = (k, omega (arith, l), e) in
    let c = loose_among es spans frames loose x a.2 among in inr (
      loose_more spans f es fs (others_quiet spans n x fs unique touches f (λ e.
          fresh_head f frames apart (subst (Contains frames) (sym e) c))) a.0,
      a.1,
      loose_kept es fs spans n x frames loose unique touches (apart_tail f frames apart) now among a.2,
    )

pub middle : (chosen : List ℕ) (x : ℕ) (rest : List ℕ) → Contains (chosen ++ x ∷ rest) x
middle [] x rest = contains_head x rest
middle (c ∷ chosen) x rest = contains_tail c x (chosen ++ x ∷ rest) (middle chosen x rest)

-- an object of it can't be claimed
pub loose_lost : (es fs : List Access) (spans : List (Option Contents)) (n x : ℕ)
    (frames chosen rest : List ℕ) → AreUnique spans n → TouchesOnly (SpanNames spans x) (λ p. ⊥) fs
    → AllPairs (λ f g. f ≢ g) frames → IsBarred (es ++ fs) spans x
    → AreLoose es spans frames (chosen ++ x ∷ rest)
    → AreLoose (es ++ fs) spans frames (chosen ++ rest)
loose_lost es fs spans n x [] [] rest unique touches apart now a = absurd a
loose_lost es fs spans n x [] (c ∷ chosen) rest unique touches apart now a = absurd a
loose_lost es fs spans n x (f ∷ frames) [] rest unique touches apart now (inl a) =
    let c = loose_among es spans frames (x ∷ rest) x a.1 (contains_head x rest) in
    held_cons (es ++ fs) spans f frames rest
    (held_more spans f es fs (others_quiet spans n x fs unique touches f (λ e.
    fresh_head f frames apart (subst (Contains frames) (sym e) c))) a.0)
    (loose_lost es fs spans n x frames [] rest unique touches (apart_tail f frames apart) now a.1)
loose_lost es fs spans n x (f ∷ frames) [] rest unique touches apart now (inr a) =
    held_cons (es ++ fs) spans f frames rest (record {
      seen = loose_seen spans f es fs a.0;
      barred = subst (IsBarred (es ++ fs) spans) a.1 now;
    })
    (all_quiet es fs spans frames rest (tail_quiet spans n x fs frames unique touches (λ c.
    fresh_head f frames apart (subst (Contains frames) a.1 c))) a.2)
loose_lost es fs spans n x (f ∷ frames) (g ∷ chosen) rest unique touches apart now (inl a) =
    let c = loose_among es spans frames (g ∷ (chosen ++ x ∷ rest)) x a.1 (middle (g ∷ chosen) x rest) in
    held_cons (es ++ fs) spans f frames (g ∷ (chosen ++ rest))
    (held_more spans f es fs (others_quiet spans n x fs unique touches f (λ e.
    fresh_head f frames apart (subst (Contains frames) (sym e) c))) a.0)
    (loose_lost es fs spans n x frames (g ∷ chosen) rest unique touches (apart_tail f frames apart) now a.1)
loose_lost es fs spans n x (f ∷ frames) (g ∷ chosen) rest unique touches apart now (inr a) =
    let c = loose_among es spans frames (chosen ++ x ∷ rest) x a.2 (middle chosen x rest) in inr (
      loose_more spans f es fs (others_quiet spans n x fs unique touches f (λ e.
          fresh_head f frames apart (subst (Contains frames) (sym e) c))) a.0,
      a.1,
      loose_lost es fs spans n x frames chosen rest unique touches (apart_tail f frames apart) now a.2,
    )

-- the objects of a span have handles below so many, each in one slot
pub span_below : (spans : List (Option Contents)) (f n : ℕ) (span : Contents)
    → span_in spans f ≡ Some span → AreUnique spans n → (h : ℕ) → SpanHas span h → h < n
span_below spans f n span there unique h has = unique.below f h (has_names spans f h span there has)

pub span_once : (spans : List (Option Contents)) (f n : ℕ) (span : Contents)
    → span_in spans f ≡ Some span → AreUnique spans n
    → (i j h : ℕ) → handle_at span i ≡ Some h → handle_at span j ≡ Some h → i ≡ j
span_once spans f n span there unique i j h a b = unique.one_slot f i j h
    (ap (λ (o : Option Contents). handle_in o i) there ∙ a)
    (ap (λ (o : Option Contents). handle_in o j) there ∙ b)

pub in_more : (spans : List (Option Contents)) (frames : List ℕ) (f h : ℕ) → IsIn spans frames h
    → IsIn spans (frames ++ f ∷ []) h
in_more spans frames f h (g, c, named) = (g, Contains-append_left frames (f ∷ []) g c, named)

pub in_last : (spans : List (Option Contents)) (frames : List ℕ) (f h : ℕ) → SpanNames spans f h
    → IsIn spans (frames ++ f ∷ []) h
in_last spans frames f h named = (f, Contains-push frames f, named)

-- the frame at a place is none of those before it
pub not_before : (frames : List ℕ) (i : ℕ) → AllPairs (λ f g. f ≢ g) frames → i < length frames
    → Contains (take i frames) (get_or frames i 0) → ⊥
not_before frames i apart within (k, l, e) =
    none_before frames i apart within k (get_or frames i 0) l e

-- the next frame was looked at
pub frame_looked : (spans : List (Option Contents)) (n : ℕ) (frames : List ℕ) (i : ℕ)
    (es fs : List Access) (old new : List ℕ) → AreUnique spans n → AllPairs (λ f g. f ≢ g) frames
    → i < length frames → AreLoose es spans (take i frames) old
    → TouchesOnly (SpanNames spans (get_or frames i 0)) (λ p. ⊥) fs
    → (IsLoose fs spans (get_or frames i 0) × (new ≡ old ++ get_or frames i 0 ∷ []))
    ⊎ (IsHeldUp fs spans (get_or frames i 0) × (new ≡ old))
    → AreLoose (es ++ fs) spans (take i frames ++ get_or frames i 0 ∷ []) new
frame_looked spans n frames i es fs old new unique apart within a touches finds =
    let f = get_or frames i 0 in
    let kept = all_quiet es fs spans (take i frames) old
    (tail_quiet spans n f fs (take i frames) unique touches (not_before frames i apart within)) a in
    elim finds [
      | inl (loose, is) ↦ subst (λ (l : List ℕ). AreLoose (es ++ fs) spans (take i frames ++ f ∷ []) l) (sym is)
          (loose_push (es ++ fs) spans (take i frames) old f kept (loose_after spans f es fs loose))
      | inr (held, is) ↦ subst (λ (l : List ℕ). AreLoose (es ++ fs) spans (take i frames ++ f ∷ []) l) (sym is)
          (held_push (es ++ fs) spans (take i frames) old f kept (held_after spans f es fs held))
    ]

-- a span has at most 256 slots
pub span_few_slots : (spans : List (Option Contents)) (f : ℕ) (span : Contents)
    → span_in spans f ≡ Some span → (x : Contents) × (span_in spans f ≡ Some x) × IsSpan x
    → length span.slots ≤ 256
span_few_slots spans f span there (x, is, valid) =
    span_slots span (subst IsSpan (some_same (sym is ∙ there)) valid)
  where
    some_same : Some x ≡ Some span → x ≡ span
    some_same e = cc

-- claimed objects were found at words at which they can be claimed
pub claimed_loose : (es : List Access) (s t : Shown) (formers : List Former)
    → AreClaimed es s t formers → (h : ℕ) → IsOne formers h → (w : ℕ) × IsFound h w es × IsFree w
claimed_loose es s t formers a h (f, c, e) =
    let x = All-contains (IsClaimedBy es t) formers f a.taken c in
    (f.word, subst (λ (k : ℕ). IsFound k f.word es) e x.found, x.at.free)
