-- The handles that the first slots of a table name.
use Rattle.std.proofs.Common.{◌≡◌, ◌≢◌, ◌⊎◌, ℕ, zero, suc, ◌+◌, ◌<◌, ◌≤◌, List, [], ◌∷◌, ◌++◌, length, get_or, set, Option, Some, None, sym, refl, ap, ◌∙◌, subst, arith, inl, inr, length-set, get_or-set_same, get_or-set_other}
use Rattle.std.proofs.lemmas.Bool.{cases_eq, cases_lt}
use Rattle.std.proofs.lemmas.List.{get_or_past}
use Rattle.cb_world.specs.declared.access.Access.{Access}
use Rattle.cb_world.specs.declared.access.Access.TheVariants.{Looked, Settled}
use Rattle.cb_world.specs.declared.homes.Home.{Home}
use Rattle.cb_world.specs.Homes.{home_at}
use Rattle.cb_world.specs.Looks.{LooksFirst, NoLook}
use Rattle.cb_swapin.specs.Named.{NamesHandle, IsNamed, NamesApart, AreCleared}
use Rattle.cb_world.specs.declared.shown.Shown.{Shown}
use Rattle.cb_swapin.specs.Brings.{BringsSlots}
use Rattle.cb_swapin.specs.BroughtIn.{BringsSlot}

pub no_name : (h : ℕ) → None ≡ Some h → ⊥
no_name h e = cc

pub name_same : (a b : ℕ) → Some a ≡ Some b → a ≡ b
name_same a b e = cc

-- a slot below n names the handle
abbrev pub NamedBelow : ℕ → List (Option ℕ) → ℕ → Type 0
NamedBelow n slots h = (slot : ℕ) × (slot < n) × NamesHandle slots slot h

is_name : (o : Option ℕ) (h : ℕ) → (o ≡ Some h) ⊎ (o ≡ Some h → ⊥)
is_name None h = inr (λ e. no_name h e)
is_name (Some k) h = elim (cases_eq k h) [
  | inl e ↦ inl (ap (λ (n : ℕ). Some n) e)
  | inr off ↦ inr (λ e. off (name_same k h e))
]

pub named_below : (n : ℕ) (slots : List (Option ℕ)) (h : ℕ)
    → NamedBelow n slots h ⊎ (NamedBelow n slots h → ⊥)
named_below zero slots h = inr (λ x. omega (arith, x.1))
named_below (suc n) slots h = elim (is_name (get_or slots n None) h) [
  | inl here ↦ inl (n, omega arith, here)
  | inr off ↦ elim (named_below n slots h) [
    | inl x ↦ inl (x.0, omega (arith, x.1), x.2)
    | inr none ↦ inr (λ x. elim (cases_eq x.0 n) [
      | inl same ↦ off (subst (λ (i : ℕ). NamesHandle slots i h) same x.2)
      | inr other ↦ none (x.0, omega (arith, x.1, other), x.2)
    ])
  ]
]

-- a slot that names a handle is one of the table
pub named_within : (slots : List (Option ℕ)) (slot h : ℕ) → NamesHandle slots slot h
    → slot < length slots
named_within slots slot h e = elim (cases_lt slot (length slots)) [
  | inl within ↦ within
  | inr past ↦ absurd (no_name h (sym (get_or_past slots slot None past) ∙ e))
]

-- a handle is named by a slot, or by none
pub named_or_not : (slots : List (Option ℕ)) (h : ℕ) → IsNamed slots h ⊎ (IsNamed slots h → ⊥)
named_or_not slots h = elim (named_below (length slots) slots h) [
  | inl x ↦ inl (x.0, x.2)
  | inr none ↦ inr (λ x. none (x.0, named_within slots x.0 h x.1, x.1))
]

-- the next slot names a handle that none before it does
pub not_before : (slots : List (Option ℕ)) (i h : ℕ) → NamesApart slots → NamesHandle slots i h
    → NamedBelow i slots h → ⊥
not_before slots i h apart e x = let same = apart x.0 i h x.2 e in omega (arith, same, x.1)

-- ---- events
-- objects of the first n slots are looked at and settled, and nothing else is done
abbrev pub BringsBelow : ℕ → List (Option ℕ) → List Access → Type 0
BringsBelow n slots [] = Unit {0}
BringsBelow n slots (Looked h w ∷ es) = NamedBelow n slots h × BringsBelow n slots es
BringsBelow n slots (Settled h w ∷ es) = NamedBelow n slots h × BringsBelow n slots es
BringsBelow n slots (e ∷ es) = ⊥

pub below_append : (n : ℕ) (slots : List (Option ℕ)) (es fs : List Access) → BringsBelow n slots es
    → BringsBelow n slots fs → BringsBelow n slots (es ++ fs)
below_append n slots [] fs a b = b
below_append n slots (Looked h w ∷ es) fs a b = (a.0, below_append n slots es fs a.1 b)
below_append n slots (Settled h w ∷ es) fs a b = (a.0, below_append n slots es fs a.1 b)
below_append n slots (e ∷ es) fs a b = absurd a

pub below_more : (n : ℕ) (slots : List (Option ℕ)) (es : List Access) → BringsBelow n slots es
    → BringsBelow (n + 1) slots es
below_more n slots [] a = tt
below_more n slots (Looked h w ∷ es) a =
    ((a.0.0, omega (arith, a.0.1), a.0.2), below_more n slots es a.1)
below_more n slots (Settled h w ∷ es) a =
    ((a.0.0, omega (arith, a.0.1), a.0.2), below_more n slots es a.1)
below_more n slots (e ∷ es) a = absurd a

pub below_brings : (n : ℕ) (slots : List (Option ℕ)) (f pages : ℕ) (es : List Access)
    → BringsBelow n slots es → BringsSlots slots f pages es
below_brings n slots f pages [] a = tt
below_brings n slots f pages (Looked h w ∷ es) a =
    ((a.0.0, a.0.2), below_brings n slots f pages es a.1)
below_brings n slots f pages (Settled h w ∷ es) a =
    ((a.0.0, a.0.2), below_brings n slots f pages es a.1)
below_brings n slots f pages (e ∷ es) a = absurd a

-- the next object is another than those that were settled
below_no_look : (k h w x : ℕ) (es : List Access) → k ≢ h → NoLook k es
    → NoLook k (es ++ Looked h w ∷ Settled h x ∷ [])
below_no_look k h w x [] off none = ((λ v e. off (sym e.0)), ((λ v e. e), tt))
below_no_look k h w x (e ∷ es) off none = (none.0, below_no_look k h w x es off none.1)

pub below_first : (i : ℕ) (slots : List (Option ℕ)) (h w x : ℕ) (es : List Access)
    → NamesApart slots → NamesHandle slots i h → BringsBelow i slots es → LooksFirst es
    → LooksFirst (es ++ Looked h w ∷ Settled h x ∷ [])
below_first i slots h w x [] apart e a first = (tt, tt)
below_first i slots h w x (Looked k v ∷ es) apart e a first =
    below_first i slots h w x es apart e a.1 first
below_first i slots h w x (Settled k v ∷ es) apart e a first = (
  below_no_look k h w x es (λ same. not_before slots i h apart e
      (subst (NamedBelow i slots) same a.0)) first.0,
  below_first i slots h w x es apart e a.1 first.1,
)
below_first i slots h w x (_ ∷ es) apart e a first = absurd a

-- ---- homes
-- the homes of the objects of the first n slots are taken away
pub record ClearedBelow (n : ℕ) (slots : List (Option ℕ)) (old new : List (Option Home))
    : Type 0 where
  pub count : length new ≡ length old
  pub named : (h : ℕ) → NamedBelow n slots h → home_at new h ≡ None
  pub others : (h : ℕ) → (NamedBelow n slots h → ⊥) → home_at new h ≡ home_at old h

pub none_cleared : (slots : List (Option ℕ)) (homes : List (Option Home))
    → ClearedBelow 0 slots homes homes
none_cleared slots homes = record {
  count = refl;
  named = λ h x. absurd (omega (arith, x.1));
  others = λ h none. refl;
}

pub all_cleared : (n : ℕ) (slots : List (Option ℕ)) (old new : List (Option Home))
    → length slots ≤ n → ClearedBelow n slots old new → AreCleared slots old new
all_cleared n slots old new past x = record {
  count = x.count;
  named = λ h is. x.named h
      (is.0, (let w = named_within slots is.0 h is.1 in omega (arith, w, past)), is.1);
  others = λ h none. x.others h (λ is. none (is.0, is.2));
}

-- the next slot names no handle
pub skip_cleared : (n : ℕ) (slots : List (Option ℕ)) (old new last : List (Option Home))
    → ClearedBelow n slots old new → get_or slots n None ≡ None → last ≡ new
    → ClearedBelow (n + 1) slots old last
skip_cleared n slots old new last x empty e =
    subst (ClearedBelow (n + 1) slots old) (sym e) (record {
      count = x.count;
      named = λ h is. elim (cases_eq is.0 n) [
        | inl same ↦ absurd (no_name h (sym (ap (λ (i : ℕ). get_or slots i None) same ∙ empty)
            ∙ is.2))
        | inr off ↦ x.named h (is.0, omega (arith, is.1, off), is.2)
      ];
      others = λ h none. x.others h (λ is. none (is.0, omega (arith, is.1), is.2));
    })

pub one_cleared : (n : ℕ) (slots : List (Option ℕ)) (old new last : List (Option Home)) (k : ℕ)
    → ClearedBelow n slots old new → NamesHandle slots n k → k < length old → last ≡ set new k None
    → ClearedBelow (n + 1) slots old last
one_cleared n slots old new last k x e within is =
    subst (ClearedBelow (n + 1) slots old) (sym is) (record {
      count = length-set new k None ∙ x.count;
      named = λ h y. elim (cases_eq h k) [
        | inl same ↦ ap (home_at (set new k None)) same
            ∙ get_or-set_same new k None None (omega (arith, within, x.count))
        | inr off ↦ get_or-set_other new k h None None off ∙ x.named h (
          y.0,
          (let other : y.0 ≢ n = λ same. off (name_same h k (sym (subst (λ (i : ℕ).
              NamesHandle slots i h) same y.2) ∙ e)) in omega (arith, y.1, other)),
          y.2,
        )
      ];
      others = λ h none.
          get_or-set_other new k h None None (λ same. none (
            n,
            omega arith,
            subst (NamesHandle slots n)
                (sym same) e,
          ))
          ∙ x.others h (λ y. none (y.0, omega (arith, y.1), y.2));
    })

-- one slot more
pub slot_cleared : (runs : List Access → Type 0) (shows : Shown → Type 0) (n place : ℕ)
    (slots : List (Option ℕ)) (old new last : List (Option Home)) → ClearedBelow n slots old new
    → ((h : ℕ) → IsNamed slots h → h < length old) → (o : Option ℕ) → get_or slots n None ≡ o
    → BringsSlot runs shows new last place o → ClearedBelow (n + 1) slots old last
slot_cleared runs shows n place slots old new last x within None e done =
    skip_cleared n slots old new last x e done.1
slot_cleared runs shows n place slots old new last x within (Some h) e done =
    one_cleared n slots old new last h x e (within h (n, e)) done.3
