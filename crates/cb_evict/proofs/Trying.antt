-- Spans that are claimed one after another.
use Rattle.std.proofs.Common.{◌≡◌, ◌≢◌, ◌⊎◌, ℕ, zero, suc, ◌+◌, ◌<◌, ◌≤◌, Bool, true, false, cond, not, ◌||◌, nat_eq, List, [], ◌∷◌, ◌++◌, length, take, drop, get_or, min, All, Option, refl, sym, ap, ◌∙◌, subst, arith, inl, inr, eq-eqb}
use Rattle.std.specs.List.{Contains, AllPairs, filter}
use Rattle.std.proofs.lemmas.Bool.{eqb-true, false≢true}
use Rattle.std.proofs.lemmas.List.{append-nil, append_assoc, flat_map_more, map-append, take_more, take-append-drop, length-take, get_or-take, get_or_default}
use Rattle.std.proofs.lemmas.List.Elements.{All-nil, All-append, All-cons, All-contains, Contains-append_left, Contains-append_cases, Contains-push, filter-append, filter_more, filter_passes}
use Rattle.std.proofs.lemmas.List.Quantifiers.{all_pairs_push}
use Rattle.cb_span.specs.Contents.{Contents}
use Rattle.cb_world.specs.declared.leaving.Former.{Former}
use Rattle.cb_world.specs.declared.access.Access.{Access}
use Rattle.cb_world.specs.declared.shown.Shown.{Shown}
use Rattle.cb_world.specs.FarState.{FarState, pages_at, span_in}
use Rattle.cb_world.specs.Reserved.{table_of}
use Rattle.cb_evict.specs.Candidates.{SpanNames, AreLoose, AreUnique, IsLoose, IsBarred}
use Rattle.cb_evict.specs.Looking.{IsIn}
use Rattle.cb_evict.specs.Claiming.{AreOf, ClaimsFrame, ClaimsObjects, ClaimsSpans}
use Rattle.cb_evict.specs.Lengths.{has_pages, loose_of, without}
use Rattle.cb_evict.specs.Order.{noted_of, objects_in, objects_of}
use Rattle.cb_evict.proofs.Events.{touches_more}
use Rattle.cb_evict.proofs.CallParts.{Joins}
use Rattle.cb_evict.proofs.Gathers.{Gathers, gathers_more}
use Rattle.cb_evict.proofs.LooseLengths.{at_false, at_true, filter_all, filter_has, filter_in, filter_swap, loose_gone, without_more}
use Rattle.cb_evict.proofs.Loose.{loose_kept, loose_after, barred_after, in_more, in_last, not_before}

-- of the spans in the first i frames those of a length were tried, and some of them are lost
pub record Tried (runs : List Access → Type 0) (shows : Shown → Type 0)
    (spans : List (Option Contents)) (loose : List ℕ) (pages i : ℕ) (es : List Access)
    (frames : List ℕ) (formers : List Former) : Type 0 where
  pub lost : ℕ → Bool
  pub gathers : Gathers runs shows (IsIn spans (loose_of spans pages (take i loose)))
      (IsIn spans frames) es formers
  pub found : (before : List Access) (all was : List ℕ) → AllPairs (λ f g. f ≢ g) all
      → loose_of spans pages was ≡ loose_of spans pages loose → AreLoose before spans all was
      → AreLoose (before ++ es) spans all (without lost was)
  pub chosen : without lost (loose_of spans pages (take i loose)) ≡ frames
  pub long : (f : ℕ) → lost f ≡ true → pages_at spans f ≡ pages
  pub tried : (f : ℕ) → lost f ≡ true → Contains (take i loose) f
  pub among : All (Contains (take i loose)) frames
  pub apart : AllPairs (λ f g. f ≢ g) frames
  pub order : noted_of formers ≡ objects_of spans frames

pub tried_none : (runs : List Access → Type 0) (shows : Shown → Type 0)
    (spans : List (Option Contents)) (loose : List ℕ) (pages : ℕ) → runs []
    → ((far : FarState) → ClaimsObjects shows far [] [])
    → Tried runs shows spans loose pages 0 [] [] []
tried_none runs shows spans loose pages ran claims = record {
  lost = λ f. false;
  gathers = record {
    ran = ran;
    touches = tt;
    first = tt;
    of = record {
      all = λ h (f, (k, l, e), named). absurd (omega (arith, l));
      only = All-nil (λ x. IsIn spans [] x.handle);
    };
    within = λ h (f, (k, l, e), named). absurd (omega (arith, l));
    each_once = λ i j d less within. absurd (omega (arith, within));
    claims = claims;
  };
  found = λ before all was apart same a.
      subst (λ (l : List ℕ). AreLoose (before ++ []) spans all l)
      (sym (filter_all (λ f. true) was (λ f c. refl)))
      (subst (λ (l : List Access). AreLoose l spans all was) (sym (append-nil before)) a);
  chosen = refl;
  long = λ f e. absurd (false≢true e);
  tried = λ f e. absurd (false≢true e);
  among = All-nil (Contains []);
  apart = λ i j d less within. absurd (omega (arith, within));
  order = refl;
}

-- what the claim of one frame gathers
frame_claimed : (runs : List Access → Type 0) (shows : Shown → Type 0)
    (spans : List (Option Contents)) (f : ℕ) (old new : List ℕ) (before after : List Former)
    → (x : ClaimsFrame runs shows spans f old new before after) → AreOf (SpanNames spans f) x.more
    → Gathers runs shows (SpanNames spans f) (SpanNames spans f) x.part.events x.more
frame_claimed runs shows spans f old new before after x of = record {
  ran = x.part.ran;
  touches = x.part.touches;
  first = x.part.first;
  of = of;
  within = λ h y. y;
  each_once = x.each_once;
  claims = x.part.done.1;
}

frame_left : (runs : List Access → Type 0) (shows : Shown → Type 0)
    (spans : List (Option Contents)) (f : ℕ) (old new : List ℕ) (before after : List Former)
    → (x : ClaimsFrame runs shows spans f old new before after) → x.more ≡ []
    → Gathers runs shows (SpanNames spans f) (λ h. ⊥) x.part.events x.more
frame_left runs shows spans f old new before after x none = record {
  ran = x.part.ran;
  touches = x.part.touches;
  first = x.part.first;
  of = record {
    all = λ h y. absurd y;
    only = subst (λ (l : List Former). All (λ g. ⊥) l) (sym none) (All-nil (λ g. ⊥));
  };
  within = λ h y. absurd y;
  each_once = x.each_once;
  claims = x.part.done.1;
}

in_split : (spans : List (Option Contents)) (frames : List ℕ) (f h : ℕ)
    → IsIn spans (frames ++ f ∷ []) h → IsIn spans frames h ⊎ SpanNames spans f h
in_split spans frames f h (g, c, named) = elim (Contains-append_cases frames (f ∷ []) g c) [
  | inl old ↦ inl (g, old, named)
  | inr (k, l, e) ↦ inr (subst (λ (n : ℕ). SpanNames spans n h) (last k g l e) named)
]
  where
    last : (k g : ℕ) → k < 1 → get_or (f ∷ []) k g ≡ g → g ≡ f
    last zero g l e = sym e
    last (suc k) g l e = absurd (omega (arith, l))

-- an object of the next frame is none of those before
in_apart : (spans : List (Option Contents)) (n : ℕ) (loose : List ℕ) (pages i h : ℕ)
    → AreUnique spans n → AllPairs (λ f g. f ≢ g) loose → i < length loose
    → IsIn spans (loose_of spans pages (take i loose)) h → SpanNames spans (get_or loose i 0) h → ⊥
in_apart spans n loose pages i h unique apart within (g, c, named) next =
    not_before loose i apart within
    (subst (Contains (take i loose)) (unique.one_frame g (get_or loose i 0) h named next)
    (filter_in (has_pages spans pages) (take i loose) g c))

-- the frames of the length, as one more was tried
one_fits : (spans : List (Option Contents)) (loose : List ℕ) (pages i : ℕ) → i < length loose
    → has_pages spans pages (get_or loose i 0) ≡ true
    → loose_of spans pages (take (i + 1) loose)
    ≡ loose_of spans pages (take i loose) ++ get_or loose i 0 ∷ []
one_fits spans loose pages i within fits =
    let f = get_or loose i 0 in let p = has_pages spans pages in
    filter_more p loose i 0 within
    ∙ ap (λ (b : Bool). filter p (take i loose) ++ cond b (f ∷ []) []) fits

one_other : (spans : List (Option Contents)) (loose : List ℕ) (pages i : ℕ) → i < length loose
    → has_pages spans pages (get_or loose i 0) ≡ false
    → loose_of spans pages (take (i + 1) loose) ≡ loose_of spans pages (take i loose)
one_other spans loose pages i within other =
    let f = get_or loose i 0 in let p = has_pages spans pages in
    filter_more p loose i 0 within
    ∙ ap (λ (b : Bool). filter p (take i loose) ++ cond b (f ∷ []) []) other
    ∙ append-nil (filter p (take i loose))

-- ---- the tests of one frame
-- the frame at the next place is loose still, where its span has the length
module _ (runs : List Access → Type 0) (shows : Shown → Type 0)
    (spans : List (Option Contents)) (loose : List ℕ) (pages i : ℕ) (es : List Access)
    (frames : List ℕ) (formers : List Former)
    (a : Tried runs shows spans loose pages i es frames formers)
    (apart : AllPairs (λ f g. f ≢ g) loose) (within : i < length loose) where
  not_lost : a.lost (get_or loose i 0) ≡ false
  not_lost = by (a.lost (get_or loose i 0)) refl
    where
      by : (b : Bool) → a.lost (get_or loose i 0) ≡ b → a.lost (get_or loose i 0) ≡ false
      by false e = e
      by true e = absurd (not_before loose i apart within (a.tried (get_or loose i 0) e))

  not_chosen : (g : ℕ) → Contains frames g → nat_eq (get_or loose i 0) g ≡ false
  not_chosen g c = by (nat_eq (get_or loose i 0) g) refl
    where
      by : (b : Bool) → nat_eq (get_or loose i 0) g ≡ b → nat_eq (get_or loose i 0) g ≡ false
      by false e = e
      by true e = absurd (not_before loose i apart within
          (subst (Contains (take i loose)) (sym (eqb-true (get_or loose i 0) g e))
          (All-contains (Contains (take i loose)) frames g a.among c)))

  module _ (fits : has_pages spans pages (get_or loose i 0) ≡ true) where
    next_chosen : without a.lost (loose_of spans pages (take (i + 1) loose))
        ≡ frames ++ get_or loose i 0 ∷ []
    next_chosen =
        let f = get_or loose i 0 in let p = has_pages spans pages in
        ap (without a.lost) (one_fits spans loose pages i within fits)
        ∙ filter-append (λ g. not (a.lost g)) (filter p (take i loose)) (f ∷ [])
        ∙ (λ j. a.chosen j ++ at_true (λ g. not (a.lost g)) f [] (ap not not_lost) j)

    still_in : (was : List ℕ) → loose_of spans pages was ≡ loose_of spans pages loose
        → Contains (without a.lost was) (get_or loose i 0)
    still_in was same =
        let f = get_or loose i 0 in let p = has_pages spans pages in
        filter_has (λ g. not (a.lost g)) was f
        (filter_in p was f (subst (λ (l : List ℕ). Contains l f) (sym same)
        (filter_has p loose f (i, within, get_or_default loose i f 0 within) fits)))
        (ap not not_lost)

-- one frame more, whose span has another length
pub tried_passed : (runs : List Access → Type 0) (shows : Shown → Type 0)
    (spans : List (Option Contents)) (loose : List ℕ) (pages i : ℕ) (es : List Access)
    (frames : List ℕ) (formers : List Former)
    → Tried runs shows spans loose pages i es frames formers → i < length loose
    → has_pages spans pages (get_or loose i 0) ≡ false
    → Tried runs shows spans loose pages (i + 1) es frames formers
tried_passed runs shows spans loose pages i es frames formers a within other =
    let f = get_or loose i 0 in
    let more = take_more loose i 0 within in
    let wider : (g : ℕ) → Contains (take i loose) g → Contains (take (i + 1) loose) g =
    λ g c. subst (λ (l : List ℕ). Contains l g) (sym more) (Contains-append_left (take i loose) (f ∷ []) g c) in
    let same = one_other spans loose pages i within other in record {
      lost = a.lost;
      gathers = subst (λ (l : List ℕ). Gathers runs shows (IsIn spans l) (IsIn spans frames) es formers)
          (sym same) a.gathers;
      found = a.found;
      chosen = ap (without a.lost) same ∙ a.chosen;
      long = a.long;
      tried = λ g e. wider g (a.tried g e);
      among = λ k d l. wider (get_or frames k d) (a.among k d l);
      apart = a.apart;
      order = a.order;
    }

-- one frame more, whose objects were claimed
tried_claimed : (runsA runsB runsC : List Access → Type 0) (showsA showsB : Shown → Type 0)
    (spans : List (Option Contents)) (n : ℕ) (loose : List ℕ) (pages i : ℕ) (es : List Access)
    (frames new : List ℕ) (formers after : List Former)
    → Tried runsA showsA spans loose pages i es frames formers
    → has_pages spans pages (get_or loose i 0) ≡ true
    → (x : ClaimsFrame runsB showsB spans (get_or loose i 0) frames new formers after)
    → AreOf (SpanNames spans (get_or loose i 0)) x.more
    → IsLoose x.part.events spans (get_or loose i 0)
    → noted_of x.more ≡ objects_in (table_of (span_in spans (get_or loose i 0)))
    → AreUnique spans n → AllPairs (λ f g. f ≢ g) loose → i < length loose
    → Joins runsA runsB runsC showsA showsB
    → Tried runsC showsA spans loose pages (i + 1) (es ++ x.part.events)
    (frames ++ get_or loose i 0 ∷ []) (formers ++ x.more)
tried_claimed runsA runsB runsC showsA showsB spans n loose pages i es frames new formers after a fits x
    of now order unique apart within j =
    let f = get_or loose i 0 in
    let more = take_more loose i 0 within in record {
      lost = a.lost;
      gathers = subst (λ (l : List ℕ). Gathers runsC showsA (IsIn spans l) (IsIn spans (frames ++ f ∷ []))
          (es ++ x.part.events) (formers ++ x.more)) (sym (one_fits spans loose pages i within fits))
          (gathers_more runsA runsB runsC showsA showsB
          (IsIn spans (loose_of spans pages (take i loose))) (SpanNames spans f)
          (IsIn spans (loose_of spans pages (take i loose) ++ f ∷ [])) (IsIn spans frames)
          (SpanNames spans f) (IsIn spans (frames ++ f ∷ [])) es x.part.events formers x.more a.gathers
          (frame_claimed runsB showsB spans f frames new formers after x of) j
          (λ h. in_apart spans n loose pages i h unique apart within)
          (in_more spans (loose_of spans pages (take i loose)) f)
          (in_last spans (loose_of spans pages (take i loose)) f) (in_more spans frames f) (in_last spans frames f) (in_split spans frames f));
      found = λ before all was apart_all same had.
          subst (λ (l : List Access). AreLoose l spans all (without a.lost was))
          (append_assoc before es x.part.events)
          (loose_kept (before ++ es) x.part.events spans n f all (without a.lost was)
          unique x.part.touches apart_all (loose_after spans f (before ++ es) x.part.events now)
          (still_in runsA showsA spans loose pages i es frames formers a apart within fits was same)
          (a.found before all was apart_all same had));
      chosen = next_chosen runsA showsA spans loose pages i es frames formers a apart within fits;
      long = a.long;
      tried = λ g e. subst (λ (l : List ℕ). Contains l g) (sym more)
          (Contains-append_left (take i loose) (f ∷ []) g (a.tried g e));
      among = subst (λ (l : List ℕ). All (Contains l) (frames ++ f ∷ [])) (sym more)
          (All-append (Contains (take i loose ++ f ∷ [])) frames (f ∷ [])
          (λ k d l. Contains-append_left (take i loose) (f ∷ []) (get_or frames k d) (a.among k d l))
          (All-cons (Contains (take i loose ++ f ∷ [])) f [] (Contains-push (take i loose) f)
          (All-nil (Contains (take i loose ++ f ∷ [])))));
      apart = all_pairs_push (λ g h. g ≢ h) frames f a.apart (λ k d l same.
          not_before loose i apart within (subst (Contains (take i loose)) same (a.among k d l)));
      order = map-append (λ (former : Former). former.handle) formers x.more
          ∙ ap (λ (l : List ℕ). l ++ noted_of x.more) a.order
          ∙ ap (λ (l : List ℕ). objects_of spans frames ++ l) order
          ∙ flat_map_more (λ (g : ℕ). objects_in (table_of (span_in spans g))) [] frames f;
    }

-- a lost frame is the new one, or was lost before
one_lost : (f g : ℕ) (lost : ℕ → Bool) → (nat_eq f g || lost g) ≡ true → (P : Type 0)
    → (f ≡ g → P) → (lost g ≡ true → P) → P
one_lost f g lost e P new old = by (nat_eq f g) refl
  where
    by : (b : Bool) → nat_eq f g ≡ b → P
    by true is = new (eqb-true f g is)
    by false is = old (sym (ap (λ (b : Bool). b || lost g) is) ∙ e)

-- one frame more, of which an object could not be claimed
tried_left : (runsA runsB runsC : List Access → Type 0) (showsA showsB : Shown → Type 0)
    (spans : List (Option Contents)) (n : ℕ) (loose : List ℕ) (pages i : ℕ) (es : List Access)
    (frames new : List ℕ) (formers after : List Former)
    → Tried runsA showsA spans loose pages i es frames formers
    → has_pages spans pages (get_or loose i 0) ≡ true
    → (x : ClaimsFrame runsB showsB spans (get_or loose i 0) frames new formers after)
    → x.more ≡ [] → IsBarred x.part.events spans (get_or loose i 0)
    → AreUnique spans n → AllPairs (λ f g. f ≢ g) loose → i < length loose
    → Joins runsA runsB runsC showsA showsB
    → Tried runsC showsA spans loose pages (i + 1) (es ++ x.part.events) frames (formers ++ x.more)
tried_left runsA runsB runsC showsA showsB spans n loose pages i es frames new formers after a fits x
    none now unique apart within j =
    let f = get_or loose i 0 in
    let more = take_more loose i 0 within in
    let off = not_chosen runsA showsA spans loose pages i es frames formers a apart within in record {
      lost = λ g. nat_eq f g || a.lost g;
      gathers = subst (λ (l : List ℕ). Gathers runsC showsA (IsIn spans l) (IsIn spans frames)
          (es ++ x.part.events) (formers ++ x.more)) (sym (one_fits spans loose pages i within fits))
          (gathers_more runsA runsB runsC showsA showsB
          (IsIn spans (loose_of spans pages (take i loose))) (SpanNames spans f)
          (IsIn spans (loose_of spans pages (take i loose) ++ f ∷ [])) (IsIn spans frames) (λ h. ⊥)
          (IsIn spans frames) es x.part.events formers x.more a.gathers
          (frame_left runsB showsB spans f frames new formers after x none) j
          (λ h. in_apart spans n loose pages i h unique apart within)
          (in_more spans (loose_of spans pages (take i loose)) f)
          (in_last spans (loose_of spans pages (take i loose)) f)
          (λ h y. y) (λ h y. absurd y) (λ h y. inl y));
      found = λ before all was apart_all same had.
          subst (λ (l : List Access). AreLoose l spans all (without (λ g. nat_eq f g || a.lost g) was))
          (append_assoc before es x.part.events)
          (subst (λ (l : List ℕ). AreLoose ((before ++ es) ++ x.part.events) spans all l)
          (sym (without_more f a.lost was))
          (loose_gone (before ++ es) x.part.events spans n f all (without a.lost was)
          unique x.part.touches apart_all (barred_after spans f (before ++ es) x.part.events now)
          (still_in runsA showsA spans loose pages i es frames formers a apart within fits was same)
          (a.found before all was apart_all same had)));
      chosen = without_more f a.lost (loose_of spans pages (take (i + 1) loose))
          ∙ ap (without (nat_eq f))
          (next_chosen runsA showsA spans loose pages i es frames formers a apart within fits)
          ∙ filter-append (λ g. not (nat_eq f g)) frames (f ∷ [])
          ∙ (λ j. filter_all (λ g. not (nat_eq f g)) frames (λ g c. ap not (off g c)) j
          ++ at_false (λ g. not (nat_eq f g)) f [] (ap not (eq-eqb f f refl)) j)
          ∙ append-nil frames;
      long = λ g e. one_lost f g a.lost e (pages_at spans g ≡ pages)
          (λ same. ap (pages_at spans) (sym same) ∙ eqb-true (pages_at spans f) pages fits)
          (a.long g);
      tried = λ g e. one_lost f g a.lost e (Contains (take (i + 1) loose) g)
          (λ same. subst (Contains (take (i + 1) loose)) same
          (subst (λ (l : List ℕ). Contains l f) (sym more) (Contains-push (take i loose) f)))
          (λ is. subst (λ (l : List ℕ). Contains l g) (sym more)
          (Contains-append_left (take i loose) (f ∷ []) g (a.tried g is)));
      among = subst (λ (l : List ℕ). All (Contains l) frames) (sym more)
          (λ k d l. Contains-append_left (take i loose) (f ∷ []) (get_or frames k d) (a.among k d l));
      apart = a.apart;
      order = ap (λ (l : List Former). noted_of (formers ++ l)) none
          ∙ ap noted_of (append-nil formers) ∙ a.order;
    }

-- one frame more
pub tried_more : (runsA runsB runsC : List Access → Type 0) (showsA showsB : Shown → Type 0)
    (spans : List (Option Contents)) (n : ℕ) (loose : List ℕ) (pages i : ℕ) (es : List Access)
    (frames new : List ℕ) (formers after : List Former)
    → Tried runsA showsA spans loose pages i es frames formers
    → has_pages spans pages (get_or loose i 0) ≡ true
    → (x : ClaimsFrame runsB showsB spans (get_or loose i 0) frames new formers after)
    → AreUnique spans n → AllPairs (λ f g. f ≢ g) loose → i < length loose
    → Joins runsA runsB runsC showsA showsB
    → Tried runsC showsA spans loose pages (i + 1) (es ++ x.part.events) new after
tried_more runsA runsB runsC showsA showsB spans n loose pages i es frames new formers after a fits x
    unique apart within j =
    subst (λ (l : List Former). Tried runsC showsA spans loose pages (i + 1) (es ++ x.part.events) new l)
    (sym x.noted) (elim x.part.done.0 [
      | inl (of, is, now, order) ↦
          subst (λ (l : List ℕ). Tried runsC showsA spans loose pages (i + 1) (es ++ x.part.events) l (formers ++ x.more))
          (sym is) (tried_claimed runsA runsB runsC showsA showsB spans n loose pages i es frames new
          formers after a fits x of now order unique apart within j)
      | inr (none, is, now) ↦
          subst (λ (l : List ℕ). Tried runsC showsA spans loose pages (i + 1) (es ++ x.part.events) l (formers ++ x.more))
          (sym is) (tried_left runsA runsB runsC showsA showsB spans n loose pages i es frames new formers
          after a fits x none now unique apart within j)
    ])

pub taken_of : (xs : List ℕ) (i x : ℕ) → Contains (take i xs) x → Contains xs x
taken_of xs i x (k, l, e) =
    let n = length-take i xs in
    let m = min_both i (length xs) in
    (k, omega (arith, l, n, m), sym (get_or-take i xs k x (omega (arith, l, n, m))) ∙ e)
  where
    min_both : (a b : ℕ) → (min a b ≤ a) × (min a b ≤ b)
    min_both a b = (omega arith, omega arith)

-- the first ones of a length are some of all
pub taken_in : (k : ℕ) (spans : List (Option Contents)) (pages : ℕ) (loose : List ℕ) (f : ℕ)
    → Contains (take k (loose_of spans pages loose)) f → Contains loose f
taken_in k spans pages loose f c = filter_in (has_pages spans pages) loose f
    (taken_of (loose_of spans pages loose) k f c)

-- what passes a test in a front of a list does so in the list
filter_taken : (p : ℕ → Bool) (xs : List ℕ) (i x : ℕ) → Contains (filter p (take i xs)) x
    → Contains (filter p xs) x
filter_taken p xs i x c = filter_has p xs x (taken_of xs i x (filter_in p (take i xs) x c))
    (All-contains (λ (y : ℕ). p y ≡ true) (filter p (take i xs)) x (filter_passes p (take i xs)) c)

-- the claims of the spans, once no more are tried
pub all_tried : (runs : List Access → Type 0) (shows : Shown → Type 0)
    (spans : List (Option Contents)) (loose : List ℕ) (pages k i : ℕ) (es : List Access)
    (frames : List ℕ) (formers : List Former) → Tried runs shows spans loose pages i es frames formers
    → length frames ≤ k → (length frames ≡ k) ⊎ (drop i loose ≡ [])
    → ClaimsSpans runs shows spans loose pages k frames formers
all_tried runs shows spans loose pages k i es frames formers a few stops = record {
  lost = a.lost;
  rest = without a.lost (loose_of spans pages (drop i loose));
  few = few;
  stops = elim stops [
    | inl e ↦ inl e
    | inr e ↦ inr (ap (λ (l : List ℕ). without a.lost (loose_of spans pages l)) e)
  ];
  chosen = filter_swap (has_pages spans pages) (λ f. not (a.lost f)) loose
      ∙ ap (λ (l : List ℕ). without a.lost (loose_of spans pages l)) (sym (take-append-drop i loose))
      ∙ ap (without a.lost) (filter-append (has_pages spans pages) (take i loose) (drop i loose))
      ∙ filter-append (λ f. not (a.lost f)) (loose_of spans pages (take i loose))
      (loose_of spans pages (drop i loose))
      ∙ ap (λ (l : List ℕ). l ++ without a.lost (loose_of spans pages (drop i loose))) a.chosen;
  long = a.long;
  among = λ n d l. taken_of loose i (get_or frames n d) (a.among n d l);
  apart = a.apart;
  of = a.gathers.of;
  order = a.order;
  each_once = a.gathers.each_once;
  part = record {
    events = es;
    ran = a.gathers.ran;
    touches = touches_more (IsIn spans (loose_of spans pages (take i loose)))
        (IsIn spans (loose_of spans pages loose)) (λ p. ⊥) (λ p. ⊥) es
        (λ h (f, c, named). (f, filter_taken (has_pages spans pages) loose i f c, named)) (λ p y. y)
        a.gathers.touches;
    first = a.gathers.first;
    done = (a.found, a.gathers.claims);
  };
}
