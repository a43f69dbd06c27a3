-- Claims that follow one another, and claims that are given back.
use Rattle.std.proofs.Common.{◌≡◌, ◌≢◌, ◌⊎◌, ℕ, ◌+◌, ◌-◌, List, [], ◌++◌, length, get_or, All, sym, subst, arith, inl, inr}
use Rattle.std.proofs.lemmas.List.{get_or_append_left, get_or-append-add, length-append}
use Rattle.std.proofs.lemmas.Bool.{cases_lt}
use Rattle.std.proofs.lemmas.List.Elements.{All-nil, All-append, All-contains, Contains-append_left, Contains-append_right}
use Rattle.cb_world.specs.declared.leaving.Former.{Former}
use Rattle.cb_world.specs.declared.access.Access.{Access}
use Rattle.cb_world.specs.declared.shown.Shown.{Shown}
use Rattle.cb_world.specs.Played.{played}
use Rattle.cb_world.specs.Looks.{LooksFirst, NoLook}
use Rattle.cb_world.specs.FarState.{FarState}
use Rattle.cb_world.specs.LocalSound.{LocalSound}
use Rattle.cb_world.proofs.Laws.{played_append}
use Rattle.cb_evict.specs.Events.{AreSteady, TouchesOnly}
use Rattle.cb_evict.specs.Claims.{AreClaimed, AreApart, IsNone}
use Rattle.cb_evict.specs.Claiming.{IsOne, ClaimsObjects, AreOf, GivesBack}
use Rattle.cb_evict.proofs.CallParts.{Joins}
use Rattle.cb_evict.proofs.Events.{touches_append, touches_more, touches_quiet, first_append, steady_append}
use Rattle.cb_evict.proofs.Claims.{claims_append, claims_back}

-- the events touch such objects, and claim those that are noted
pub record Gathers (runs : List Access → Type 0) (shows : Shown → Type 0) (touched has : ℕ → Type 0)
    (es : List Access) (more : List Former) : Type 0 where
  pub ran : runs es
  pub touches : TouchesOnly touched (λ p. ⊥) es
  pub first : LooksFirst es
  pub of : AreOf has more
  pub within : (h : ℕ) → has h → touched h
  pub each_once : AreApart more
  pub claims : (far : FarState) → ClaimsObjects shows far es more

-- the objects that are noted are none of those that others touch
pub none_of : (has other : ℕ → Type 0) (xs ys : List Former) → AreOf has xs → AreOf other ys
    → ((h : ℕ) → has h → other h → ⊥) → All (λ x. IsNone ys x.handle) xs
none_of has other xs ys a b apart k d l j e m same =
    apart (get_or xs k d).handle (a.only k d l)
    (subst other same (b.only j e m))

pub apart_append : (xs ys : List Former) → AreApart xs → AreApart ys
    → All (λ x. IsNone ys x.handle) xs → AreApart (xs ++ ys)
apart_append xs ys a b off i j d less within =
    let count = length-append xs ys in elim (cases_lt i (length xs)) [
      | inl low ↦ elim (cases_lt j (length xs)) [
        | inl both ↦ subst (λ (f : Former). f.handle ≢ (get_or (xs ++ ys) j d).handle)
            (sym (get_or_append_left xs ys d i low))
            (subst (λ (f : Former). (get_or xs i d).handle ≢ f.handle)
            (sym (get_or_append_left xs ys d j both)) (a i j d less both))
        | inr high ↦
            let m = j - length xs in
            let e : length xs + m ≡ j = omega (arith, high) in
            subst (λ (f : Former). f.handle ≢ (get_or (xs ++ ys) j d).handle)
            (sym (get_or_append_left xs ys d i low))
            (subst (λ (n : ℕ). (get_or xs i d).handle ≢ (get_or (xs ++ ys) n d).handle) e
            (subst (λ (f : Former). (get_or xs i d).handle ≢ f.handle)
            (sym (get_or-append-add xs ys m d))
            (λ same. off i d low m d (omega (arith, within, count, e)) (sym same))))
      ]
      | inr high ↦
          let m = i - length xs in let n = j - length xs in
          let e : length xs + m ≡ i = omega (arith, high) in
          let g : length xs + n ≡ j = omega (arith, high, less) in
          subst (λ (p : ℕ). (get_or (xs ++ ys) p d).handle ≢ (get_or (xs ++ ys) j d).handle) e
          (subst (λ (p : ℕ). (get_or (xs ++ ys) (length xs + m) d).handle ≢ (get_or (xs ++ ys) p d).handle) g
          (subst (λ (f : Former). f.handle ≢ (get_or (xs ++ ys) (length xs + n) d).handle)
          (sym (get_or-append-add xs ys m d))
          (subst (λ (f : Former). (get_or ys m d).handle ≢ f.handle) (sym (get_or-append-add xs ys n d))
          (b m n d (omega (arith, less, e, g)) (omega (arith, within, count, g))))))
    ]

pub of_append : (hasA hasB hasC : ℕ → Type 0) (xs ys : List Former) → AreOf hasA xs → AreOf hasB ys
    → ((h : ℕ) → hasA h → hasC h) → ((h : ℕ) → hasB h → hasC h)
    → ((h : ℕ) → hasC h → hasA h ⊎ hasB h) → AreOf hasC (xs ++ ys)
of_append hasA hasB hasC xs ys a b left right split = record {
  all = λ h c. elim (split h c) [
    | inl x ↦ let y = a.all h x in (y.0, Contains-append_left xs ys y.0 y.1, y.2)
    | inr x ↦ let y = b.all h x in (y.0, Contains-append_right xs ys y.0 y.1, y.2)
  ];
  only = All-append (λ f. hasC f.handle) xs ys
      (λ k d l. left (get_or xs k d).handle (a.only k d l))
      (λ k d l. right (get_or ys k d).handle (b.only k d l));
}

-- claims and then more claims, of other objects, at which the first ones' objects are not looked at
pub claims_then : {showsB : Shown → Type 0} (far : FarState) (es fs : List Access) (s : Shown)
    (xs ys : List Former)
    → AreClaimed es s (played es s) xs × LocalSound (played es s) far × AreSteady es s
    → showsB (played es s) → ((at : FarState) → ClaimsObjects showsB at fs ys)
    → All (λ x. IsNone ys x.handle) xs → All (λ x. NoLook x.handle fs) xs
    → All (λ y. IsNone xs y.handle) ys
    → AreClaimed (es ++ fs) s (played (es ++ fs) s) (xs ++ ys)
    × LocalSound (played (es ++ fs) s) far × AreSteady (es ++ fs) s
claims_then far es fs s xs ys x shown claims none quiet other =
    let y = claims far (played es s) shown x.1 in (
      subst (λ (u : Shown). AreClaimed (es ++ fs) s u (xs ++ ys)) (sym (played_append es fs s))
          (claims_append far es fs s (played es s) (played fs (played es s)) xs ys x.1 x.0 y.0 none
          quiet other),
      subst (λ (u : Shown). LocalSound u far) (sym (played_append es fs s)) y.1,
      steady_append es fs s x.2 y.2,
    )

-- claims and then more claims, of other objects
pub gathers_more : (runsA runsB runsC : List Access → Type 0) (showsA showsB : Shown → Type 0)
    (touchedA touchedB touchedC hasA hasB hasC : ℕ → Type 0) (es fs : List Access)
    (xs ys : List Former) → Gathers runsA showsA touchedA hasA es xs
    → Gathers runsB showsB touchedB hasB fs ys
    → Joins runsA runsB runsC showsA showsB
    → ((h : ℕ) → touchedA h → touchedB h → ⊥)
    → ((h : ℕ) → touchedA h → touchedC h) → ((h : ℕ) → touchedB h → touchedC h)
    → ((h : ℕ) → hasA h → hasC h) → ((h : ℕ) → hasB h → hasC h)
    → ((h : ℕ) → hasC h → hasA h ⊎ hasB h)
    → Gathers runsC showsA touchedC hasC (es ++ fs) (xs ++ ys)
gathers_more runsA runsB runsC showsA showsB touchedA touchedB touchedC hasA hasB hasC es fs xs ys
    a b j apart tl tr left right split =
    let off : (h : ℕ) → hasA h → hasB h → ⊥ = λ h x y. apart h (a.within h x) (b.within h y) in
    let none = none_of hasA hasB xs ys a.of b.of off in
    let other = none_of hasB hasA ys xs b.of a.of (λ h x y. off h y x) in
    record {
      ran = j.more es fs a.ran b.ran;
      touches = touches_append touchedC (λ p. ⊥) es fs
          (touches_more touchedA touchedC (λ p. ⊥) (λ p. ⊥) es tl (λ p x. x) a.touches)
          (touches_more touchedB touchedC (λ p. ⊥) (λ p. ⊥) fs tr (λ p x. x) b.touches);
      first = first_append touchedA (λ p. ⊥) es fs a.touches a.first b.first
          (λ h t. touches_quiet touchedB (λ p. ⊥) h fs (apart h t) b.touches);
      of = of_append hasA hasB hasC xs ys a.of b.of left right split;
      within = λ h c. elim (split h c) [
        | inl x ↦ tl h (a.within h x)
        | inr x ↦ tr h (b.within h x)
      ];
      each_once = apart_append xs ys a.each_once b.each_once none;
      claims = λ far s knows sound.
          let x = a.claims far s knows sound in
          claims_then far es fs s xs ys x (j.shown es s a.ran knows) b.claims none
          (λ k d l. touches_quiet touchedB (λ p. ⊥) (get_or xs k d).handle fs
          (apart (get_or xs k d).handle (a.within (get_or xs k d).handle (a.of.only k d l)))
          b.touches) other;
    }

-- claims that are given back
pub gathers_back : (runsA runsB runsC : List Access → Type 0) (showsA showsB : Shown → Type 0)
    (touched has : ℕ → Type 0) (es : List Access) (xs : List Former)
    → Gathers runsA showsA touched has es xs → (b : GivesBack runsB showsB xs)
    → Joins runsA runsB runsC showsA showsB
    → Gathers runsC showsA touched (λ h. ⊥) (es ++ b.events) []
gathers_back runsA runsB runsC showsA showsB touched has es xs a b j = record {
  ran = j.more es b.events a.ran b.ran;
  touches = touches_append touched (λ p. ⊥) es b.events a.touches
      (touches_more (IsOne xs) touched (λ p. ⊥) (λ p. ⊥) b.events (λ h (f, c, e).
      subst touched e (a.within f.handle (All-contains (λ x. has x.handle) xs f a.of.only c)))
      (λ p x. x) b.touches);
  first = first_append touched (λ p. ⊥) es b.events a.touches a.first b.first (λ h t. b.done.0 h);
  of = record { all = λ h x. absurd x; only = All-nil (λ f. ⊥) };
  within = λ h x. absurd x;
  each_once = λ i j d less within. absurd (omega (arith, within));
  claims = λ far s knows sound.
      let x = a.claims far s knows sound in
      let y = b.done.1 (played es s) far (j.shown es s a.ran knows) x.1 (λ k d l. (x.0.taken k d l).at) in (
        subst (λ (u : Shown). AreClaimed (es ++ b.events) s u []) (sym (played_append es b.events s))
            (claims_back es b.events s (played es s) (played b.events (played es s)) xs x.0 y.0),
        subst (λ (u : Shown). LocalSound u far) (sym (played_append es b.events s)) y.1,
        steady_append es b.events s x.2 y.2,
      );
}
