-- The frames whose spans may leave, in a sound world.
use Rattle.std.proofs.Common.{◌≡◌, ◌≢◌, ℕ, ◌+◌, ◌-◌, ◌<◌, Bool, true, false, not, ◌&&◌, nat_eq, List, ◌++◌, length, get_or, Option, None, Some, refl, sym, ap, ◌∙◌, subst, arith, inl, inr}
use Rattle.std.specs.List.{Contains, AllPairs, range_with_len}
use Rattle.std.proofs.lemmas.Bool.{cases_lt, false≢true, eq-eqb}
use Rattle.std.proofs.lemmas.List.{get_or_past, get_or_default, length-append, get_or_append_left, get_or-append-add}
use Rattle.std.proofs.lemmas.List.Elements.{Contains-append_cases, All-contains, filter_passes}
use Rattle.std.proofs.lemmas.List.FromFn.{get_or-range_with_len, length-range_with_len}
use Rattle.std.proofs.lemmas.List.Kept.{AllPairs-filter}
use Rattle.std.proofs.lemmas.List.Folds.{list_any_at}
use Rattle.cb_span.specs.declared.temp.Temp.{Temp}
use Rattle.cb_span.specs.declared.temp.Temp.TheVariants.{Hot, Cold}
use Rattle.cb_span.specs.Contents.{Contents, IsSpan, handle_at}
use Rattle.cb_span.specs.Places.{slot_place}
use Rattle.cb_world.specs.declared.object.Object.{Object}
use Rattle.cb_world.specs.declared.shown.Shown.{Shown}
use Rattle.cb_world.specs.Shown.{object_at, never}
use Rattle.cb_world.specs.FarState.{FarState, span_in, resident, handle_in}
use Rattle.cb_world.specs.LocalSound.{LocalSound, LiesAt}
use Rattle.cb_world.proofs.Laws.{one_slot, frame_in_range}
use Rattle.cb_world.specs.Placed.{leaving_frames}
use Rattle.cb_evict.specs.Candidates.{is_among, same_temp, has_temp, may_leave, frames_with, candidates, SpanNames, AreUnique}
use Rattle.cb_evict.proofs.Options.{none_some, some_same}

-- ---- objects of spans
never_lies : (o : Object) (len place : ℕ) → LiesAt o len place → o ≡ never → ⊥
never_lies o len place lies e = subst (λ (q : Object). LiesAt q len place) e lies

-- a frame that names an object holds a span
pub names_span : (spans : List (Option Contents)) (f h : ℕ) → SpanNames spans f h
    → (span : Contents) × (span_in spans f ≡ Some span)
names_span spans f h (slot, named) = go (span_in spans f) refl
  where
    go : (o : Option Contents) → span_in spans f ≡ o → (span : Contents) × (span_in spans f ≡ Some span)
    go (Some span) e = (span, e)
    go None e = absurd (none_some h (sym (ap (λ (o : Option Contents). handle_in o slot) e) ∙ named))

pub named_at : (spans : List (Option Contents)) (f slot h : ℕ) (span : Contents)
    → span_in spans f ≡ Some span → resident spans f slot ≡ Some h → handle_at span slot ≡ Some h
named_at spans f slot h span there named =
    sym (ap (λ (o : Option Contents). handle_in o slot) there) ∙ named

-- an object of a span was made, and its handle is one that there is
object_within : (far : FarState) (s : Shown) (f h : ℕ) → LocalSound s far → SpanNames far.spans f h
    → h < length s.objects
object_within far s f h sound (slot, named) =
    let span = names_span far.spans f h (slot, named) in
    let at = named_at far.spans f slot h span.0 span.1 named in
    let x = sound.placed.named f slot h span.0 span.1 at in
    elim (cases_lt h (length s.objects)) [
      | inl within ↦ within
      | inr past ↦ absurd (never_lies (object_at s h) x.len (slot_place span.0.class f slot) x.lies
          (get_or_past s.objects h never past))
    ]

same_slot : (far : FarState) (s : Shown) (f g i j h : ℕ) → LocalSound s far
    → resident far.spans f i ≡ Some h → resident far.spans g j ≡ Some h → (f ≡ g) × (i ≡ j)
same_slot far s f g i j h sound a b =
    let p = names_span far.spans f h (i, a) in let q = names_span far.spans g h (j, b) in
    let at = named_at far.spans f i h p.0 p.1 a in let bt = named_at far.spans g j h q.0 q.1 b in
    let x = sound.placed.named f i h p.0 p.1 at in
    let c = sound.placed.placed h x.len (slot_place p.0.class f i) x.lies in
    let one = one_slot far s h x.len (slot_place p.0.class f i) f i p.0 sound x.lies c p.1 at in
    let two = one_slot far s h x.len (slot_place p.0.class f i) g j q.0 sound x.lies c q.1 bt in
    (one.0 ∙ sym two.0, one.1 ∙ sym two.1)

pub are_unique : (far : FarState) (s : Shown) (n : ℕ) → LocalSound s far → length s.objects ≡ n
    → AreUnique far.spans n
are_unique far s n sound count = record {
  below = λ f h named. subst (λ (k : ℕ). h < k) count (object_within far s f h sound named);
  one_frame = λ f g h (i, a) (j, b). (same_slot far s f g i j h sound a b).0;
  one_slot = λ f i j h a b. (same_slot far s f f i j h sound a b).1;
}

-- ---- candidates
-- what holds of a frame whose span may leave
pub record IsStanding (far : FarState) (f : ℕ) : Type 0 where
  pub span : Contents
  pub there : span_in far.spans f ≡ Some span
  pub stays : is_among (leaving_frames far.leaving) f ≡ false

both : (a b : Bool) → a && b ≡ true → (a ≡ true) × (b ≡ true)
both true true e = (refl, refl)
both true false e = absurd (false≢true e)
both false b e = absurd (false≢true e)

negated : (b : Bool) → not b ≡ true → b ≡ false
negated false e = refl
negated true e = absurd (false≢true e)

temp_span : (spans : List (Option Contents)) (f : ℕ) (temp : Temp) → (o : Option Contents)
    → span_in spans f ≡ o → has_temp temp o ≡ true
    → (span : Contents) × (span_in spans f ≡ Some span) × (same_temp temp span.temp ≡ true)
temp_span spans f temp None e t = absurd (false≢true t)
temp_span spans f temp (Some span) e t = (span, e, t)

may_stand : (spans : List (Option Contents)) (leaving : List ℕ) (temp : Temp) (f : ℕ)
    → may_leave spans leaving temp f ≡ true
    → ((span : Contents) × (span_in spans f ≡ Some span) × (same_temp temp span.temp ≡ true))
    × (is_among leaving f ≡ false)
may_stand spans leaving temp f e =
    let b = both (has_temp temp (span_in spans f)) (not (is_among leaving f)) e in
    (temp_span spans f temp (span_in spans f) refl b.0, negated (is_among leaving f) b.1)

of_frames : (spans : List (Option Contents)) (leaving : List ℕ) (temp : Temp) (f : ℕ)
    → Contains (frames_with spans leaving temp) f → may_leave spans leaving temp f ≡ true
of_frames spans leaving temp f c =
    All-contains (λ x. may_leave spans leaving temp x ≡ true) (frames_with spans leaving temp) f
    (filter_passes (may_leave spans leaving temp) (range_with_len 0 (length spans))) c

pub is_standing : (far : FarState) (f : ℕ) → Contains (candidates far) f → IsStanding far f
is_standing far f c =
    let leaving = leaving_frames far.leaving in
    elim (Contains-append_cases (frames_with far.spans leaving Cold) (frames_with far.spans leaving Hot) f c) [
      | inl x ↦ let m = may_stand far.spans leaving Cold f (of_frames far.spans leaving Cold f x) in
          record { span = m.0.0; there = m.0.1; stays = m.1 }
      | inr x ↦ let m = may_stand far.spans leaving Hot f (of_frames far.spans leaving Hot f x) in
          record { span = m.0.0; there = m.0.1; stays = m.1 }
    ]

-- the numbers of a range differ
range_apart : (n : ℕ) → AllPairs (λ f g. f ≢ g) (range_with_len 0 n)
range_apart n i j d less within e =
    let c = length-range_with_len 0 n in
    let a = get_or-range_with_len 0 n i d (omega (arith, less, within, c)) in
    let b = get_or-range_with_len 0 n j d (omega (arith, within, c)) in
    absurd (omega (arith, less, a, b, e))

temps_differ : (t : Temp) → same_temp Cold t ≡ true → same_temp Hot t ≡ true → ⊥
temps_differ Hot a b = false≢true a
temps_differ Cold a b = false≢true b

-- pairs of two lists that have nothing in common
pub pairs_append : (xs ys : List ℕ) → AllPairs (λ f g. f ≢ g) xs → AllPairs (λ f g. f ≢ g) ys
    → ((f : ℕ) → Contains xs f → Contains ys f → ⊥) → AllPairs (λ f g. f ≢ g) (xs ++ ys)
pairs_append xs ys a b off i j d less within =
    let count = length-append xs ys in elim (cases_lt i (length xs)) [
      | inl low ↦ elim (cases_lt j (length xs)) [
        | inl same ↦ λ e. a i j d less same (sym (get_or_append_left xs ys d i low) ∙ e
            ∙ get_or_append_left xs ys d j same)
        | inr high ↦
            let m = j - length xs in
            let e : length xs + m ≡ j = omega (arith, high) in
            λ q. off (get_or xs i d) (i, low, at xs i d low) (
              m,
              omega (arith, within, count, e),
              at_as ys m d (get_or xs i d) (omega (arith, within, count, e))
                  (sym (get_or-append-add xs ys m d) ∙ ap (λ (n : ℕ). get_or (xs ++ ys) n d) e
                  ∙ sym q ∙ get_or_append_left xs ys d i low),
            )
      ]
      | inr high ↦
          let m = i - length xs in let n = j - length xs in
          let e : length xs + m ≡ i = omega (arith, high) in
          let g : length xs + n ≡ j = omega (arith, high, less) in
          λ q. b m n d (omega (arith, less, e, g)) (omega (arith, within, count, g))
          (sym (get_or-append-add xs ys m d) ∙ ap (λ (k : ℕ). get_or (xs ++ ys) k d) e ∙ q
          ∙ sym (ap (λ (k : ℕ). get_or (xs ++ ys) k d) g) ∙ get_or-append-add xs ys n d)
    ]
  where
    at : (zs : List ℕ) (k d : ℕ) → k < length zs → get_or zs k (get_or zs k d) ≡ get_or zs k d
    at zs k d l = get_or_default zs k (get_or zs k d) d l

    at_as : (zs : List ℕ) (k d x : ℕ) → k < length zs → get_or zs k d ≡ x → get_or zs k x ≡ x
    at_as zs k d x l e = get_or_default zs k x d l ∙ e

pub candidates_apart : (far : FarState) → AllPairs (λ f g. f ≢ g) (candidates far)
candidates_apart far =
    let leaving = leaving_frames far.leaving in
    let cold = may_leave far.spans leaving Cold in let hot = may_leave far.spans leaving Hot in
    let all = range_with_len 0 (length far.spans) in
    pairs_append (frames_with far.spans leaving Cold) (frames_with far.spans leaving Hot)
    (AllPairs-filter (λ f g. f ≢ g) cold all (range_apart (length far.spans)))
    (AllPairs-filter (λ f g. f ≢ g) hot all (range_apart (length far.spans)))
    (λ f c h.
    let x = (may_stand far.spans leaving Cold f (of_frames far.spans leaving Cold f c)).0 in
    let y = (may_stand far.spans leaving Hot f (of_frames far.spans leaving Hot f h)).0 in
    let same = some_same x.0 y.0 (sym x.1 ∙ y.1) in
    temps_differ x.0.temp x.2 (ap (λ (s : Contents). same_temp Hot s.temp) same ∙ y.2))

-- what holds of a frame that may leave, in a world whose local part is sound
pub record IsReadyFrame (far : FarState) (f : ℕ) : Type 0 where
  pub span : Contents
  pub there : span_in far.spans f ≡ Some span
  pub valid : IsSpan span
  pub within : f < length far.spans
  pub stays : is_among (leaving_frames far.leaving) f ≡ false

pub ready_frame : (far : FarState) (s : Shown) (f : ℕ) → LocalSound s far
    → Contains (candidates far) f → IsReadyFrame far f
ready_frame far s f sound c =
    let x = is_standing far f c in
    record {
      span = x.span;
      there = x.there;
      valid = sound.frames.valid f x.span x.there;
      within = frame_in_range far.spans f x.span x.there;
      stays = x.stays;
    }

-- a frame that is leaving is not one of them
pub not_among : (frames : List ℕ) (f : ℕ) → is_among frames f ≡ false → Contains frames f → ⊥
not_among frames f e (k, l, at) =
    false≢true (sym e ∙ list_any_at (λ g. nat_eq g f) frames k f l (eq-eqb (get_or frames k f) f at))
