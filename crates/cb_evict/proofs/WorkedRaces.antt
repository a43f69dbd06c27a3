-- Worked examples of claims that others race. Of the two loose spans of 4 pages one is pinned
-- between the look and the claim, so the other one is given back, and two of 2 pages are taken. And
-- where three are wanted, one of the three of 1 page is, so that of no length three are loose.
use Rattle.std.proofs.Common.{◌≡◌, ◌⊎◌, ℕ, zero, suc, ◌+◌, ◌<◌, Bool, true, false, not, ◌||◌, ◌&&◌, nat_eq, List, [], ◌∷◌, drop, get_or, None, Some, refl, sym, ap, ◌∙◌, subst, lit<, arith, inl, inr, eq-eqb}
use Rattle.std.specs.List.{Contains}
use Rattle.std.proofs.lemmas.Bool.{eqb-true, false≢true}
use Rattle.std.proofs.lemmas.List.Elements.{All-cons, All-nil}
use Rattle.cb_class.specs.declared.class.Class.{Class}
use Rattle.cb_class.specs.Class.{pages_of}
use Rattle.cb_span.specs.Contents.{span_of}
use Rattle.cb_span.specs.declared.temp.Temp.{Temp}
use Rattle.cb_span.specs.declared.temp.Temp.TheVariants.{Cold, Hot}
use Rattle.cb_world.specs.declared.access.Access.{Access}
use Rattle.cb_world.specs.declared.access.Access.TheVariants.{Looked, Claimed, Told, Loaded, Stored, Stamped, Settled}
use Rattle.cb_world.specs.declared.leaving.Former.{Former}
use Rattle.cb_world.specs.declared.shown.Shown.{Shown}
use Rattle.cb_world.specs.FarState.{FarState, handle_in, pages_at, span_in}
use Rattle.cb_world.specs.Grasped.{IsFree}
use Rattle.cb_world.specs.Looks.{IsFound, IsLook, NoLook}
use Rattle.cb_ptr.specs.Word.{pins_of}
use Rattle.cb_evict.specs.declared.eviction.Eviction.TheVariants.{Refused}
use Rattle.cb_evict.specs.declared.eviction.Lack.TheVariants.{Spans}
use Rattle.cb_evict.specs.Candidates.{AreLoose, IsHeldUp, IsLoose, SpanNames, candidates}
use Rattle.cb_evict.specs.Claiming.{AreOf, IsOne}
use Rattle.cb_evict.specs.Evicting.{AreSpansTaken, TouchesSpans}
use Rattle.cb_evict.specs.Lengths.{batch_pages, has_pages, loose_of, most_loose}
use Rattle.cb_evict.specs.Looking.{IsIn}
use Rattle.cb_evict.specs.Taking.{AreLooseNow, TakesEnough, TakesFew, TriesSpans}
use Rattle.cb_evict.proofs.Loose.{held_alone}
use Rattle.cb_evict.proofs.LooseLengths.{filter_in}
use Rattle.cb_evict.proofs.Options.{none_some, some_same}
use Rattle.cb_evict.proofs.Trying.{taken_of}
use Rattle.cb_evict.proofs.WorkedThreeLengths.{far, far_with, here, spans, three_nodes, two}

-- ---- what some events found, by tests
-- whether the event is a look at the object that found this word; whether it is none at it
abbrev looks : ℕ → ℕ → Access → Bool
looks h w (Looked k x) = nat_eq k h && nat_eq x w
looks h w (Claimed k x v words) = nat_eq k h && nat_eq x w
looks h w (Told k v) = false
looks h w (Loaded p x) = false
looks h w (Stored p x) = false
looks h w (Stamped k v) = false
looks h w (Settled k x) = false

abbrev is_off : ℕ → Access → Bool
is_off h (Looked k x) = not (nat_eq k h)
is_off h (Claimed k x v words) = not (nat_eq k h)
is_off h (Told k v) = true
is_off h (Loaded p x) = true
is_off h (Stored p x) = true
is_off h (Stamped k v) = true
is_off h (Settled k x) = true

abbrev all_off : ℕ → List Access → Bool
all_off h [] = true
all_off h (e ∷ es) = is_off h e && all_off h es

abbrev finds : ℕ → ℕ → List Access → Bool
finds h w [] = false
finds h w (e ∷ es) = finds h w es || (looks h w e && all_off h es)

both : (a b : Bool) → (a && b) ≡ true → (a ≡ true) × (b ≡ true)
both true b e = (refl, e)
both false b e = absurd (false≢true e)

one_of : (a b : Bool) → (a || b) ≡ true → (a ≡ true) ⊎ (b ≡ true)
one_of true b e = inl refl
one_of false b e = inr e

differ : (k h : ℕ) → not (nat_eq k h) ≡ true → k ≡ h → ⊥
differ k h e same = false≢true (sym (ap not (eq-eqb k h same)) ∙ e)

off_look : (h w : ℕ) (e : Access) → is_off h e ≡ true → IsLook h w e → ⊥
off_look h w (Looked k x) e look = differ k h e look.0
off_look h w (Claimed k x v words) e look = differ k h e look.0
off_look h w (Told k v) e look = look
off_look h w (Loaded p x) e look = look
off_look h w (Stored p x) e look = look
off_look h w (Stamped k v) e look = look
off_look h w (Settled k x) e look = look

no_look : (h : ℕ) (es : List Access) → all_off h es ≡ true → NoLook h es
no_look h [] e = tt
no_look h (x ∷ es) e =
    let b = both (is_off h x) (all_off h es) e in (λ w. off_look h w x b.0, no_look h es b.1)

look_is : (h w : ℕ) (e : Access) → looks h w e ≡ true → IsLook h w e
look_is h w (Looked k x) e =
    let b = both (nat_eq k h) (nat_eq x w) e in (eqb-true k h b.0, eqb-true x w b.1)
look_is h w (Claimed k x v words) e =
    let b = both (nat_eq k h) (nat_eq x w) e in (eqb-true k h b.0, eqb-true x w b.1)
look_is h w (Told k v) e = absurd (false≢true e)
look_is h w (Loaded p x) e = absurd (false≢true e)
look_is h w (Stored p x) e = absurd (false≢true e)
look_is h w (Stamped k v) e = absurd (false≢true e)
look_is h w (Settled k x) e = absurd (false≢true e)

found : (h w : ℕ) (es : List Access) → finds h w es ≡ true → IsFound h w es
found h w [] e = absurd (false≢true e)
found h w (x ∷ es) e = elim (one_of (finds h w es) (looks h w x && all_off h es) e) [
  | inl later ↦ inl (found h w es later)
  | inr now ↦ let b = both (looks h w x) (all_off h es) now in
      inr (look_is h w x b.0, no_look h es b.1)
]

-- ---- the events
-- the cold object of 4 pages once it has a pin
abbrev pinned : ℕ
pinned = here 4096 7 + 8

-- all seven are looked at, and found loose; then those of 4 pages are to be claimed, and of 2 pages
abbrev raced : List Access
raced = Looked 0 (here 1024 0) ∷ Looked 2 (here 1536 5) ∷ Looked 3 (here 4096 7)
    ∷ Looked 4 (here 1536 11) ∷ Looked 1 (here 4096 1) ∷ Looked 5 (here 1024 13)
    ∷ Looked 6 (here 1024 14) ∷ Looked 3 pinned ∷ Claimed 1 (here 4096 1) 3 []
    ∷ Settled 1 (here 4096 1) ∷ Claimed 2 (here 1536 5) 3 [] ∷ Claimed 4 (here 1536 11) 3 [] ∷ []

-- ---- the last looks
-- the classes of 1 page and of 4
abbrev short : Class
short = record { index = 11 }

abbrev long : Class
long = record { index = 15 }

only_of_four : (c : Class) (temp : Temp) (k slot h : ℕ)
    → handle_in (Some (span_of c temp (Some k ∷ None ∷ None ∷ None ∷ []))) slot ≡ Some h → k ≡ h
only_of_four c temp k zero h e = some_same k h e
only_of_four c temp k (suc zero) h e = absurd (none_some h e)
only_of_four c temp k (suc (suc zero)) h e = absurd (none_some h e)
only_of_four c temp k (suc (suc (suc zero))) h e = absurd (none_some h e)
only_of_four c temp k (suc (suc (suc (suc n)))) h e = absurd (none_some h e)

only_of_five : (temp : Temp) (k slot h : ℕ) → handle_in (two temp k) slot ≡ Some h → k ≡ h
only_of_five temp k zero h e = some_same k h e
only_of_five temp k (suc zero) h e = absurd (none_some h e)
only_of_five temp k (suc (suc zero)) h e = absurd (none_some h e)
only_of_five temp k (suc (suc (suc zero))) h e = absurd (none_some h e)
only_of_five temp k (suc (suc (suc (suc zero)))) h e = absurd (none_some h e)
only_of_five temp k (suc (suc (suc (suc (suc n))))) h e = absurd (none_some h e)

loose_by : (es : List Access) (f k w : ℕ) → ((h : ℕ) → SpanNames spans f h → k ≡ h)
    → finds k w es ≡ true → IsFree w → IsLoose es spans f
loose_by es f k w only test free h named =
    (w, subst (λ (j : ℕ). IsFound j w es) (only h named) (found k w es test), free)

not_free : (w : ℕ) → pins_of w ≡ 1 → IsFree w → ⊥
not_free w one free = let e = free.1 in omega (arith, e, one)

-- the spans of the world
only_0 : (h : ℕ) → SpanNames spans 0 h → 0 ≡ h
only_0 h n = only_of_four short Cold 0 n.0 h n.1

only_1 : (h : ℕ) → SpanNames spans 1 h → 1 ≡ h
only_1 h n = only_of_four long Hot 1 n.0 h n.1

only_5 : (h : ℕ) → SpanNames spans 5 h → 2 ≡ h
only_5 h n = only_of_five Cold 2 n.0 h n.1

only_7 : (h : ℕ) → SpanNames spans 7 h → 3 ≡ h
only_7 h n = only_of_four long Cold 3 n.0 h n.1

only_11 : (h : ℕ) → SpanNames spans 11 h → 4 ≡ h
only_11 h n = only_of_five Cold 4 n.0 h n.1

only_13 : (h : ℕ) → SpanNames spans 13 h → 5 ≡ h
only_13 h n = only_of_four short Hot 5 n.0 h n.1

only_14 : (h : ℕ) → SpanNames spans 14 h → 6 ≡ h
only_14 h n = only_of_four short Hot 6 n.0 h n.1

held_up : IsHeldUp raced spans 7
held_up = held_alone spans 7 raced 3 pinned only_7 (0, refl) (found 3 pinned raced refl)
    (not_free pinned refl)

-- all but the one that was pinned, the one of 4 pages that was given back among them
abbrev loose : List ℕ
loose = 0 ∷ 5 ∷ 11 ∷ 1 ∷ 13 ∷ 14 ∷ []

are_loose : AreLoose raced spans (candidates far) loose
are_loose = inr (
  at_0,
  refl,
  inr (
    at_5,
    refl,
    inl (
      held_up,
      inr (at_11, refl, inr (at_1, refl, inr (at_13, refl, inr (at_14, refl, tt)))),
    ),
  ),
)
  where
    at_0 : IsLoose raced spans 0
    at_0 = loose_by raced 0 0 (here 1024 0) only_0 refl (refl, refl)

    at_5 : IsLoose raced spans 5
    at_5 = loose_by raced 5 2 (here 1536 5) only_5 refl (refl, refl)

    at_11 : IsLoose raced spans 11
    at_11 = loose_by raced 11 4 (here 1536 11) only_11 refl (refl, refl)

    at_1 : IsLoose raced spans 1
    at_1 = loose_by raced 1 1 (here 4096 1) only_1 refl (refl, refl)

    at_13 : IsLoose raced spans 13
    at_13 = loose_by raced 13 5 (here 1024 13) only_13 refl (refl, refl)

    at_14 : IsLoose raced spans 14
    at_14 = loose_by raced 14 6 (here 1024 14) only_14 refl (refl, refl)

-- ---- the spans that may leave have the seven objects
at_0 : IsIn spans (candidates far) 0
at_0 = (0, (0, lit< tt, refl), (0, refl))

at_1 : IsIn spans (candidates far) 1
at_1 = (1, (4, lit< tt, refl), (0, refl))

at_2 : IsIn spans (candidates far) 2
at_2 = (5, (1, lit< tt, refl), (0, refl))

at_3 : IsIn spans (candidates far) 3
at_3 = (7, (2, lit< tt, refl), (0, refl))

at_4 : IsIn spans (candidates far) 4
at_4 = (11, (3, lit< tt, refl), (0, refl))

at_5 : IsIn spans (candidates far) 5
at_5 = (13, (5, lit< tt, refl), (0, refl))

at_6 : IsIn spans (candidates far) 6
at_6 = (14, (6, lit< tt, refl), (0, refl))

-- ---- the front
abbrev near : Former
near = record { handle = 2; word = here 1536 5 }

abbrev further : Former
further = record { handle = 4; word = here 1536 11 }

-- over a desk of which nothing is known
tries : TriesSpans (λ es. es ≡ raced) (λ s. ⊥) far (AreLooseNow far loose) (near ∷ further ∷ [])
tries = record {
  events = raced;
  ran = refl;
  touches = (at_0, (at_2, (at_3, (at_4, (at_1, (at_5, (at_6, claims)))))));
  first = (
    no_look 1 (drop 9 raced) refl,
    (
      no_look 1 (drop 10 raced) refl,
      (no_look 2 (drop 11 raced) refl, (tt, tt)),
    ),
  );
  done = (are_loose, λ far s none here. absurd none);
}
  where
    claims : TouchesSpans far (drop 7 raced)
    claims = (at_3, (at_1, (at_1, (at_2, (at_4, tt)))))

-- ---- the two of 2 pages
abbrev frames : List ℕ
frames = 5 ∷ 11 ∷ []

two_pages : pages_of (record { index = 12 }) ≡ 2
unfolding pages_of
two_pages = refl

has_near : IsIn spans frames 2
has_near = (5, (0, lit< tt, refl), (0, refl))

has_further : IsIn spans frames 4
has_further = (11, (1, lit< tt, refl), (0, refl))

of_both : AreOf (IsIn spans frames) (near ∷ further ∷ [])
of_both = record {
  all = all;
  only = All-cons (λ (f : Former). IsIn spans frames f.handle) near (further ∷ []) has_near
      (All-cons (λ (f : Former). IsIn spans frames f.handle) further [] has_further
      (All-nil (λ (f : Former). IsIn spans frames f.handle)));
}
  where
    all : (h : ℕ) → IsIn spans frames h → IsOne (near ∷ further ∷ []) h
    all h (f, (zero, l, e), (slot, named)) = (
      near,
      (0, lit< tt, refl),
      only_of_five Cold 2 slot h
          (ap (λ (n : ℕ). handle_in (span_in spans n) slot) e ∙ named),
    )
    all h (f, (suc zero, l, e), (slot, named)) = (
      further,
      (1, lit< tt, refl),
      only_of_five Cold 4 slot h (ap (λ (n : ℕ). handle_in (span_in spans n) slot) e ∙ named),
    )
    all h (f, (suc (suc k), l, e), named) = absurd (omega (arith, l))

taken : AreSpansTaken far frames (near ∷ further ∷ [])
taken = record {
  count = refl;
  among = All-cons (Contains (candidates far)) 5 (11 ∷ []) (1, lit< tt, refl)
      (All-cons (Contains (candidates far)) 11 [] (3, lit< tt, refl)
      (All-nil (Contains (candidates far))));
  apart = frames_apart;
  pages = 2;
  long = All-cons (λ (f : ℕ). pages_at spans f ≡ 2) 5 (11 ∷ []) two_pages
      (All-cons (λ (f : ℕ). pages_at spans f ≡ 2) 11 [] two_pages
      (All-nil (λ (f : ℕ). pages_at spans f ≡ 2)));
  of = of_both;
  order = refl;
  each_once = objects_apart;
}
  where
    frames_apart : (i j d : ℕ) → i < j → j < 2 → get_or frames i d ≡ get_or frames j d → ⊥
    frames_apart zero zero d less within e = omega (arith, less)
    frames_apart zero (suc zero) d less within e = let n : 5 ≡ 11 = e in omega (arith, n)
    frames_apart (suc i) (suc zero) d less within e = omega (arith, less)
    frames_apart (suc i) zero d less within e = omega (arith, less)
    frames_apart i (suc (suc j)) d less within e = omega (arith, within)

    objects_apart : (i j : ℕ) (d : Former) → i < j → j < 2
        → (get_or (near ∷ further ∷ []) i d).handle ≡ (get_or (near ∷ further ∷ []) j d).handle → ⊥
    objects_apart zero zero d less within e = omega (arith, less)
    objects_apart zero (suc zero) d less within e = let n : 2 ≡ 4 = e in omega (arith, n)
    objects_apart (suc i) (suc zero) d less within e = omega (arith, less)
    objects_apart (suc i) zero d less within e = omega (arith, less)
    objects_apart i (suc (suc j)) d less within e = omega (arith, within)

takes : TakesEnough (λ es. es ≡ raced) (λ s. ⊥) far (AreLooseNow far) frames
    (near ∷ further ∷ [])
unfolding pages_of batch_pages
takes = record {
  loose = loose;
  tries = tries;
  pages = 2;
  longest = refl;
  first = refl;
  room = omega (arith, three_nodes);
  taken = taken;
}

-- ---- the one that was pinned is not taken, though the first look found it loose
loose_in : (es : List Access) (frames loose : List ℕ) (f : ℕ) → AreLoose es spans frames loose
    → Contains loose f → IsLoose es spans f
loose_in es [] [] f a (k, l, e) = absurd (omega (arith, l))
loose_in es [] (x ∷ loose) f a c = absurd a
loose_in es (g ∷ frames) [] f a (k, l, e) = absurd (omega (arith, l))
loose_in es (g ∷ frames) (x ∷ loose) f (inl a) c = loose_in es frames (x ∷ loose) f a.1 c
loose_in es (g ∷ frames) (x ∷ loose) f (inr a) (zero, l, e) =
    subst (IsLoose es spans) (sym a.1 ∙ e) a.0
loose_in es (g ∷ frames) (x ∷ loose) f (inr a) (suc k, l, e) =
    loose_in es frames loose f a.2 (k, omega (arith, l), e)

not_seen : (h w : ℕ) (es : List Access) → NoLook h es → IsFound h w es → ⊥
not_seen h w [] n f = f
not_seen h w (e ∷ es) n (inl f) = not_seen h w es n.1 f
not_seen h w (e ∷ es) n (inr f) = n.0 w f.0

one_word : (h w x : ℕ) (e : Access) → IsLook h w e → IsLook h x e → w ≡ x
one_word h w x (Looked k v) a b = sym a.1 ∙ b.1
one_word h w x (Claimed k v u words) a b = sym a.1 ∙ b.1
one_word h w x (Told k v) a b = absurd a
one_word h w x (Loaded p v) a b = absurd a
one_word h w x (Stored p v) a b = absurd a
one_word h w x (Stamped k v) a b = absurd a
one_word h w x (Settled k v) a b = absurd a

found_one : (h w x : ℕ) (es : List Access) → IsFound h w es → IsFound h x es → w ≡ x
found_one h w x [] a b = absurd a
found_one h w x (e ∷ es) (inl a) (inl b) = found_one h w x es a b
found_one h w x (e ∷ es) (inl a) (inr b) = absurd (not_seen h w es b.1 a)
found_one h w x (e ∷ es) (inr a) (inl b) = absurd (not_seen h x es a.1 b)
found_one h w x (e ∷ es) (inr a) (inr b) = one_word h w x e a.0 b.0

not_the_pinned : (shows : Shown → Type 0) (formers : List Former)
    → TakesEnough (λ es. es ≡ raced) shows far (AreLooseNow far) (7 ∷ 1 ∷ []) formers → ⊥
not_the_pinned shows formers a =
    let now = subst (AreLooseNow far a.loose) a.tries.ran a.tries.done.0 in
    let x = loose_in raced (candidates far) a.loose 7 now
    (filter_in (has_pages spans a.pages) a.loose 7 (taken_of (loose_of spans a.pages a.loose) 2 7
    (subst (λ (l : List ℕ). Contains l 7) a.first (0, lit< tt, refl)))) 3 (0, refl) in
    not_free pinned refl
    (subst IsFree (found_one 3 x.0 pinned raced x.1 (found 3 pinned raced refl)) x.2)

-- ---- a refusal by the last looks
-- where three are wanted, the three of 1 page are to be claimed, of which one is pinned since
abbrev more : FarState
more = far_with 3 3

abbrev warm : ℕ
warm = here 1024 13 + 8

abbrev failed : List Access
failed = Looked 0 (here 1024 0) ∷ Looked 2 (here 1536 5) ∷ Looked 3 (here 4096 7)
    ∷ Looked 4 (here 1536 11) ∷ Looked 1 (here 4096 1) ∷ Looked 5 (here 1024 13)
    ∷ Looked 6 (here 1024 14) ∷ Claimed 0 (here 1024 0) 3 [] ∷ Looked 5 warm
    ∷ Claimed 6 (here 1024 14) 3 [] ∷ Settled 0 (here 1024 0) ∷ Settled 6 (here 1024 14) ∷ []

-- two of each length are loose
abbrev pairs : List ℕ
pairs = 0 ∷ 5 ∷ 7 ∷ 11 ∷ 1 ∷ 14 ∷ []

pairs_loose : AreLooseNow more pairs failed
pairs_loose = inr (
  loose_by failed 0 0 (here 1024 0) only_0 refl (refl, refl),
  refl,
  inr (
    loose_by failed 5 2 (here 1536 5) only_5 refl (refl, refl),
    refl,
    inr (
      loose_by failed 7 3 (here 4096 7) only_7 refl (refl, refl),
      refl,
      inr (
        loose_by failed 11 4 (here 1536 11) only_11 refl (refl, refl),
        refl,
        inr (
          loose_by failed 1 1 (here 4096 1) only_1 refl (refl, refl),
          refl,
          inl (
            held_alone spans 13 failed 5 warm only_13 (0, refl) (found 5 warm failed refl)
                (not_free warm refl),
            inr (loose_by failed 14 6 (here 1024 14) only_14 refl (refl, refl), refl, tt),
          ),
        ),
      ),
    ),
  ),
)

few : TakesFew (λ es. es ≡ failed) (λ s. ⊥) more (AreLooseNow more) (Refused Spans 2 3)
unfolding pages_of batch_pages most_loose
few = record {
  loose = pairs;
  tries = record {
    events = failed;
    ran = refl;
    touches = (at_0, (at_2, (at_3, (at_4, (at_1, (at_5, (at_6, claims)))))));
    first = (
      no_look 0 (drop 8 failed) refl,
      (no_look 6 (drop 10 failed) refl, (no_look 0 (drop 11 failed) refl, (tt, tt))),
    );
    done = (pairs_loose, λ far s none here. absurd none);
  };
  few = inl (record { few = refl; reply = refl; state = refl });
  counts = (refl, sym three_nodes);
}
  where
    claims : TouchesSpans more (drop 7 failed)
    claims = (at_0, (at_5, (at_6, (at_0, (at_6, tt)))))

-- the three that the first looks found are not taken
not_the_first_looks : (shows : Shown → Type 0) (formers : List Former)
    → TakesEnough (λ es. es ≡ failed) shows more (AreLooseNow more) (0 ∷ 13 ∷ 14 ∷ []) formers → ⊥
not_the_first_looks shows formers a =
    let now = subst (AreLooseNow more a.loose) a.tries.ran a.tries.done.0 in
    let x = loose_in failed (candidates more) a.loose 13 now
    (filter_in (has_pages spans a.pages) a.loose 13 (taken_of (loose_of spans a.pages a.loose) 3 13
    (subst (λ (l : List ℕ). Contains l 13) a.first (1, lit< tt, refl)))) 5 (0, refl) in
    not_free warm refl
    (subst IsFree (found_one 5 x.0 warm failed x.1 (found 5 warm failed refl)) x.2)
