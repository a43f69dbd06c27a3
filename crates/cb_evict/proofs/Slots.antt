-- The events of a look or a claim.
use Rattle.std.proofs.Common.{◌≡◌, ◌⊎◌, ℕ, ◌+◌, ◌<◌, ◌≤◌, true, false, List, [], ◌∷◌, ◌++◌, length, drop, get_or, take, All, Option, None, Some, refl, ap, sym, ◌∙◌, subst, arith, inl, inr, Bool, ◌&&◌}
use Rattle.std.specs.Option.{IfSome}
use Rattle.std.proofs.lemmas.Bool.{cases_eq}
use Rattle.std.proofs.lemmas.List.{append_assoc, drop_at, flat_map_more, map-append, take_at, take_more}
use Rattle.std.proofs.lemmas.List.Elements.{All-nil, All-cons}
use Rattle.cb_span.specs.Contents.{Contents, handle_at}
use Rattle.cb_span.proofs.Laws.{slot_in_range}
use Rattle.cb_world.specs.declared.leaving.Former.{Former}
use Rattle.cb_world.specs.declared.shown.Shown.{Shown}
use Rattle.cb_world.specs.declared.access.Access.{Access}
use Rattle.cb_world.specs.declared.access.Access.TheVariants.{Looked, Claimed, Told, Loaded, Stored, Stamped, Settled}
use Rattle.cb_world.specs.Looks.{AreLooks, IsFound, LooksFirst, NoLook}
use Rattle.cb_world.specs.Grasped.{IsFree}
use Rattle.cb_world.proofs.Laws.{found_more}
use Rattle.cb_evict.specs.Looking.{IsSlotLoose, IsSlotHeldUp, SlotFinds, SpanFinds}
use Rattle.cb_evict.proofs.Events.{touches_quiet, found_after}
use Rattle.cb_world.specs.FarState.{FarState}
use Rattle.cb_evict.specs.Events.{TouchesOnly}
use Rattle.cb_evict.specs.Claims.{AreApart}
use Rattle.cb_evict.specs.Looking.{SpanHas}
use Rattle.cb_evict.specs.Claiming.{AreOf, ClaimsObjects, ClaimsSlot, SlotNotes}
use Rattle.cb_evict.specs.Order.{noted_of, objects_in, one_of}
use Rattle.cb_evict.proofs.Claims.{claim_of}
use Rattle.cb_evict.proofs.CallParts.{Joins}
use Rattle.cb_evict.proofs.Gathers.{Gathers, gathers_more}
use Rattle.cb_evict.proofs.Options.{none_some, some_same}

pub claim_touches : (before : List Access) (h w v : ℕ) (words : List ℕ) → AreLooks h before
    → TouchesOnly (λ k. Some h ≡ Some k) (λ p. ⊥) (claim_of before h w v words)
claim_touches [] h w v words a = (refl, tt)
claim_touches (Looked k x ∷ es) h w v words a =
    (ap (λ (n : ℕ). Some n) (sym a.0), claim_touches es h w v words a.1)
claim_touches (Claimed k x u xs ∷ es) h w v words a = absurd a
claim_touches (Settled k x ∷ es) h w v words a = absurd a
claim_touches (Loaded p x ∷ es) h w v words a = absurd a
claim_touches (Told k u ∷ es) h w v words a = absurd a
claim_touches (Stored p x ∷ es) h w v words a = absurd a
claim_touches (Stamped k u ∷ es) h w v words a = absurd a

pub claim_looks_first : (before : List Access) (h w v : ℕ) (words : List ℕ) → AreLooks h before
    → LooksFirst (claim_of before h w v words)
claim_looks_first [] h w v words a = (tt, tt)
claim_looks_first (Looked k x ∷ es) h w v words a = claim_looks_first es h w v words a.1
claim_looks_first (Claimed k x u xs ∷ es) h w v words a = absurd a
claim_looks_first (Settled k x ∷ es) h w v words a = absurd a
claim_looks_first (Loaded p x ∷ es) h w v words a = absurd a
claim_looks_first (Told k u ∷ es) h w v words a = absurd a
claim_looks_first (Stored p x ∷ es) h w v words a = absurd a
claim_looks_first (Stamped k u ∷ es) h w v words a = absurd a

pub look_touches : (before : List Access) (h w : ℕ) → AreLooks h before
    → TouchesOnly (λ k. Some h ≡ Some k) (λ p. ⊥) (before ++ Looked h w ∷ [])
look_touches [] h w a = (refl, tt)
look_touches (Looked k x ∷ es) h w a = (ap (λ (n : ℕ). Some n) (sym a.0), look_touches es h w a.1)
look_touches (Claimed k x u xs ∷ es) h w a = absurd a
look_touches (Settled k x ∷ es) h w a = absurd a
look_touches (Loaded p x ∷ es) h w a = absurd a
look_touches (Told k u ∷ es) h w a = absurd a
look_touches (Stored p x ∷ es) h w a = absurd a
look_touches (Stamped k u ∷ es) h w a = absurd a

pub looks_first : (before : List Access) (h w : ℕ) → AreLooks h before
    → LooksFirst (before ++ Looked h w ∷ [])
looks_first [] h w a = tt
looks_first (Looked k x ∷ es) h w a = looks_first es h w a.1
looks_first (Claimed k x u xs ∷ es) h w a = absurd a
looks_first (Settled k x ∷ es) h w a = absurd a
looks_first (Loaded p x ∷ es) h w a = absurd a
looks_first (Told k u ∷ es) h w a = absurd a
looks_first (Stored p x ∷ es) h w a = absurd a
looks_first (Stamped k u ∷ es) h w a = absurd a

-- the span has the object in a slot below i
abbrev pub HasBelow : Contents → ℕ → ℕ → Type 0
HasBelow span i h = (slot : ℕ) × (slot < i) × (handle_at span slot ≡ Some h)

-- ---- the claims of slots
pub slot_of : (slot : Option ℕ) (es : List Access) (more : List Former) → SlotNotes true es slot more
    → AreOf (λ h. slot ≡ Some h) more × AreApart more
slot_of None es more e = subst (λ (l : List Former). AreOf (λ h. None ≡ Some h) l × AreApart l) (sym e) (
  record { all = λ h x. absurd (none_some h x); only = All-nil (λ f. None ≡ Some f.handle) },
  λ i j d less within. absurd (omega (arith, within)),
)
slot_of (Some h) es more (w, e) =
    let f : Former = record { handle = h; word = w } in
    subst (λ (l : List Former). AreOf (λ k. Some h ≡ Some k) l × AreApart l) (sym e) (
      record {
        all = λ k x. (f, (0, omega arith, refl), some_same k x);
        only = All-cons (λ g. Some h ≡ Some g.handle) f [] refl (All-nil (λ g. Some h ≡ Some g.handle));
      },
      λ i j d less within. absurd (omega (arith, less, within)),
    )
  where
    some_same : (k : ℕ) → Some h ≡ Some k → h ≡ k
    some_same k e = cc

-- the claimed objects are in order of slot
slot_noted : (slot : Option ℕ) (es : List Access) (more : List Former) → SlotNotes true es slot more
    → noted_of more ≡ one_of slot
slot_noted None es more e = ap noted_of e
slot_noted (Some h) es more (w, e) = ap noted_of e

pub noted_more : (slots : List (Option ℕ)) (i : ℕ) (slot : Option ℕ) (es : List Access)
    (xs more : List Former) → noted_of xs ≡ objects_in (take i slots) → SlotNotes true es slot more
    → slot ≡ get_or slots i None → i < length slots
    → noted_of (xs ++ more) ≡ objects_in (take (i + 1) slots)
noted_more slots i slot es xs more was now at within =
    map-append (λ (former : Former). former.handle) xs more
    ∙ ap (λ (l : List ℕ). l ++ noted_of more) was
    ∙ ap (λ (l : List ℕ). objects_in (take i slots) ++ l)
    (slot_noted slot es more now ∙ ap one_of at)
    ∙ flat_map_more one_of [] (take i slots) (get_or slots i None)
    ∙ ap objects_in (sym (take_more slots i None within))

pub slot_claimed : (runs : List Access → Type 0) (shows : Shown → Type 0) (slot : Option ℕ)
    (old new : List Former) → (c : ClaimsSlot runs shows slot true old new)
    → Gathers runs shows (λ h. slot ≡ Some h) (λ h. slot ≡ Some h) c.part.events c.more
slot_claimed runs shows slot old new c = let x = slot_of slot c.part.events c.more c.part.done.0 in record {
  ran = c.part.ran;
  touches = c.part.touches;
  first = c.part.first;
  of = x.0;
  within = λ h e. e;
  each_once = x.1;
  claims = c.part.done.1;
}

pub slot_left : (runs : List Access → Type 0) (shows : Shown → Type 0) (slot : Option ℕ)
    (old new : List Former) → (c : ClaimsSlot runs shows slot false old new)
    → Gathers runs shows (λ h. slot ≡ Some h) (λ h. ⊥) c.part.events c.more
slot_left runs shows slot old new c = record {
  ran = c.part.ran;
  touches = c.part.touches;
  first = c.part.first;
  of = record {
    all = λ h x. absurd x;
    only = subst (λ (l : List Former). All (λ f. ⊥) l) (sym c.part.done.0.0) (All-nil (λ f. ⊥));
  };
  within = λ h x. absurd x;
  each_once = subst AreApart (sym c.part.done.0.0) (λ i j d less within. absurd (omega (arith, within)));
  claims = c.part.done.1;
}

-- the next slot's object is another than those before
pub slot_apart : (span : Contents) (i : ℕ) (slot : Option ℕ) → slot ≡ handle_at span i
    → ((i j h : ℕ) → handle_at span i ≡ Some h → handle_at span j ≡ Some h → i ≡ j)
    → (h : ℕ) → HasBelow span i h → slot ≡ Some h → ⊥
slot_apart span i slot e apart h (j, less, named) is =
    let same = apart j i h named (sym e ∙ is) in absurd (omega (arith, less, same))

pub slot_more : (span : Contents) (i : ℕ) (slot : Option ℕ) → slot ≡ handle_at span i → (h : ℕ)
    → slot ≡ Some h → HasBelow span (i + 1) h
slot_more span i slot e h is = (i, omega arith, sym e ∙ is)

pub below_more : (span : Contents) (i h : ℕ) → HasBelow span i h → HasBelow span (i + 1) h
below_more span i h (slot, less, named) = (slot, omega (arith, less), named)

pub below_split : (span : Contents) (i : ℕ) (slot : Option ℕ) → slot ≡ handle_at span i → (h : ℕ)
    → HasBelow span (i + 1) h → HasBelow span i h ⊎ (slot ≡ Some h)
below_split span i slot e h (j, less, named) = elim (cases_eq j i) [
  | inl same ↦ inr (e ∙ ap (λ (k : ℕ). handle_at span k) (sym same) ∙ named)
  | inr off ↦ inl (j, omega (arith, less, off), named)
]

pub below_all : (span : Contents) (n h : ℕ) → length span.slots ≤ n → SpanHas span h
    → HasBelow span n h
below_all span n h all (slot, named) =
    let w = slot_in_range span slot h named in (slot, omega (arith, w, all), named)

pub below_has : (span : Contents) (n h : ℕ) → HasBelow span n h → SpanHas span h
below_has span n h (slot, less, named) = (slot, named)

-- no slot is below the first
pub nothing_yet : (runs : List Access → Type 0) (shows : Shown → Type 0) (span : Contents) → runs []
    → ((far : FarState) → ClaimsObjects shows far [] [])
    → Gathers runs shows (HasBelow span 0) (HasBelow span 0) [] []
nothing_yet runs shows span ran claims = record {
  ran = ran;
  touches = tt;
  first = tt;
  of = record {
    all = λ h (slot, less, named). absurd (omega (arith, less));
    only = All-nil (λ f. HasBelow span 0 f.handle);
  };
  within = λ h x. x;
  each_once = λ i j d less within. absurd (omega (arith, within));
  claims = claims;
}

pub slot_handle : (span : Contents) (i n : ℕ) (slot : Option ℕ) → slot ≡ handle_at span i
    → ((h : ℕ) → SpanHas span h → h < n) → IfSome slot (λ h. h < n)
slot_handle span i n None e below = tt
slot_handle span i n (Some h) e below = below h (i, sym e)

-- one slot more, whose object could not be claimed
pub slot_failed : (runsA runsB runsC : List Access → Type 0) (showsA showsB : Shown → Type 0)
    (span : Contents) (i : ℕ) (slot : Option ℕ) (old new : List Former) (es : List Access)
    (more : List Former)
    → Gathers runsA showsA (HasBelow span i) (HasBelow span i) es more
    → (x : ClaimsSlot runsB showsB slot false old new) → slot ≡ handle_at span i
    → ((i j h : ℕ) → handle_at span i ≡ Some h → handle_at span j ≡ Some h → i ≡ j)
    → Joins runsA runsB runsC showsA showsB
    → Gathers runsC showsA (HasBelow span (i + 1)) (HasBelow span i) (es ++ x.part.events) (more ++ x.more)
slot_failed runsA runsB runsC showsA showsB span i slot old new es more a x e apart j =
    gathers_more runsA runsB runsC showsA showsB (HasBelow span i) (λ h. slot ≡ Some h)
    (HasBelow span (i + 1)) (HasBelow span i) (λ h. ⊥) (HasBelow span i) es x.part.events more x.more a
    (slot_left runsB showsB slot old new x) j (slot_apart span i slot e apart)
    (below_more span i) (slot_more span i slot e) (λ h y. y) (λ h y. absurd y) (λ h y. inl y)

-- so those that were noted from the start on are to be given back
pub record ToUndo (runs : List Access → Type 0) (shows : Shown → Type 0) (span : Contents) (i : ℕ)
    (old new : List Former) (start : ℕ) (es : List Access) (more : List Former) : Type 0 where
  pub joint : Gathers runs shows (HasBelow span (i + 1)) (HasBelow span i) es more
  pub whole : new ≡ old ++ more
  pub rest : drop start new ≡ more
  pub kept : take start new ≡ old

pub to_undo : {runsA runsB runsC : List Access → Type 0} {showsA showsB : Shown → Type 0}
    {span : Contents} {i : ℕ} {slot : Option ℕ} {old mid new : List Former} {start : ℕ}
    {es : List Access} {more : List Former} → Joins runsA runsB runsC showsA showsB
    → Gathers runsA showsA (HasBelow span i) (HasBelow span i) es more
    → (x : ClaimsSlot runsB showsB slot false mid new) → slot ≡ handle_at span i
    → ((i j h : ℕ) → handle_at span i ≡ Some h → handle_at span j ≡ Some h → i ≡ j)
    → mid ≡ old ++ more → length old ≡ start
    → ToUndo runsC showsA span i old new start (es ++ x.part.events) (more ++ x.more)
to_undo {span = span} {i = i} {slot = slot} {old = old} {mid = mid} {new = new} {start = start}
    {es = es} {more = more} j a x e apart noted is =
    let whole = x.noted ∙ ap (λ (l : List Former). l ++ x.more) noted
    ∙ append_assoc old more x.more in record {
      joint = slot_failed _ _ _ _ _ span i slot mid new es more a x e apart j;
      whole = whole;
      rest = ap (λ (l : List Former). drop start l) whole ∙ drop_at old (more ++ x.more) start is;
      kept = ap (λ (l : List Former). take start l) whole ∙ take_at old (more ++ x.more) start is;
    }

-- one slot more, whose object was claimed, if there is one
pub slot_succeeded : (runsA runsB runsC : List Access → Type 0) (showsA showsB : Shown → Type 0)
    (span : Contents) (i : ℕ) (slot : Option ℕ) (old new : List Former) (es : List Access)
    (more : List Former)
    → Gathers runsA showsA (HasBelow span i) (HasBelow span i) es more
    → (x : ClaimsSlot runsB showsB slot true old new) → slot ≡ handle_at span i
    → ((i j h : ℕ) → handle_at span i ≡ Some h → handle_at span j ≡ Some h → i ≡ j)
    → Joins runsA runsB runsC showsA showsB
    → Gathers runsC showsA (HasBelow span (i + 1)) (HasBelow span (i + 1)) (es ++ x.part.events) (more ++ x.more)
slot_succeeded runsA runsB runsC showsA showsB span i slot old new es more a x e apart j =
    gathers_more runsA runsB runsC showsA showsB (HasBelow span i) (λ h. slot ≡ Some h)
    (HasBelow span (i + 1)) (HasBelow span i) (λ h. slot ≡ Some h) (HasBelow span (i + 1))
    es x.part.events more x.more a
    (slot_claimed runsB showsB slot old new x) j (slot_apart span i slot e apart)
    (below_more span i) (slot_more span i slot e) (below_more span i) (slot_more span i slot e)
    (below_split span i slot e)

-- ---- looks at the slots of a span
-- each object in the first i slots was looked at
abbrev pub SeesBelow : Contents → ℕ → List Access → Type 0
SeesBelow span i es = (h : ℕ) → HasBelow span i h → (w : ℕ) × IsFound h w es

-- and by the answer each of them can be claimed, or one can't
abbrev pub FindsBelow : Bool → Contents → ℕ → List Access → Type 0
FindsBelow true span i es = (h : ℕ) → HasBelow span i h → (w : ℕ) × IsFound h w es × IsFree w
FindsBelow false span i es = (h w : ℕ) × HasBelow span i h × IsFound h w es × ¬ (IsFree w)

-- one slot more was looked at
module _ (span : Contents) (i : ℕ) (slot : Option ℕ) (es fs : List Access)
    (e : slot ≡ handle_at span i)
    (apart : (i j h : ℕ) → handle_at span i ≡ Some h → handle_at span j ≡ Some h → i ≡ j)
    (touches : TouchesOnly (λ h. slot ≡ Some h) (λ p. ⊥) fs) where
  quiet_below : (h : ℕ) → HasBelow span i h → NoLook h fs
  quiet_below h old =
      touches_quiet (λ k. slot ≡ Some k) (λ p. ⊥) h fs (slot_apart span i slot e apart h old) touches

  slot_looks : ((h : ℕ) → HasBelow span i h → (w : ℕ) × IsFound h w es × IsFree w)
      → IsSlotLoose fs slot
      → (h : ℕ) → HasBelow span (i + 1) h → (w : ℕ) × IsFound h w (es ++ fs) × IsFree w
  slot_looks a b h below = elim (below_split span i slot e h below) [
    | inl old ↦ let x = a h old in
        (x.0, found_more h x.0 es fs x.1 (quiet_below h old), x.2)
    | inr new ↦ let x = b h new in (x.0, found_after h x.0 es fs x.1, x.2)
  ]

  sees : (found : Bool) → SlotFinds found fs slot → (h : ℕ) → slot ≡ Some h
      → (w : ℕ) × IsFound h w fs
  sees true b h is = let x = b h is in (x.0, x.1)
  sees false (k, w, named, found, held) h is =
      (w, subst (λ (n : ℕ). IsFound n w fs) (some_same k h (sym named ∙ is)) found)

  pub slot_seen : (found : Bool) → SeesBelow span i es → SlotFinds found fs slot
      → SeesBelow span (i + 1) (es ++ fs)
  slot_seen found a b h below = elim (below_split span i slot e h below) [
    | inl old ↦ let x = a h old in (x.0, found_more h x.0 es fs x.1 (quiet_below h old))
    | inr new ↦ let x = sees found b h new in (x.0, found_after h x.0 es fs x.1)
  ]

  held_still : FindsBelow false span i es → FindsBelow false span (i + 1) (es ++ fs)
  held_still (h, w, below, found, held) = (
    h,
    w,
    below_more span i h below,
    found_more h w es fs found (quiet_below h below),
    held,
  )

  held_now : IsSlotHeldUp fs slot → FindsBelow false span (i + 1) (es ++ fs)
  held_now (h, w, is, found, held) =
      (h, w, slot_more span i slot e h is, found_after h w es fs found, held)

  pub slot_found : (was now : Bool) → FindsBelow was span i es → SlotFinds now fs slot
      → FindsBelow (was && now) span (i + 1) (es ++ fs)
  slot_found true true a b = slot_looks a b
  slot_found true false a b = held_now b
  slot_found false now a b = held_still a

-- all slots were looked at
pub all_found : (span : Contents) (n : ℕ) (es : List Access) (loose : Bool) → length span.slots ≤ n
    → FindsBelow loose span n es → SpanFinds loose es span
all_found span n es true all a = λ h has. a h (below_all span n h all has)
all_found span n es false all (h, w, below, found, held) =
    (h, w, below_has span n h below, found, held)
