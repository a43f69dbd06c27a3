-- Objects get their homes in a set, one slot after another.
use Rattle.std.proofs.Common.{◌≡◌, ℕ, zero, suc, ◌+◌, ◌<◌, ◌≤◌, List, [], ◌∷◌, length, set, get_or, Option, Some, None, sym, refl, ap, ◌∙◌, subst, arith, inl, inr, length-set, get_or-set_same, get_or-set_other}
use Rattle.std.specs.Option.{IfSome}
use Rattle.std.proofs.lemmas.Bool.{cases_eq}
use Rattle.cb_world.specs.declared.homes.Home.{Home}
use Rattle.cb_world.specs.Homes.{HasHomes, home_at}

-- the objects in the slots below n have their homes
pub record HasSome (slots : List (Option ℕ)) (n id position : ℕ) (old new : List (Option Home))
    : Type 0 where
  pub count : length new ≡ length old
  pub here : (slot h : ℕ) → slot < n → get_or slots slot None ≡ Some h
      → home_at new h ≡ Some (record { set = id; position = position; slot = slot })
  pub others : (h : ℕ) → ((slot : ℕ) → slot < n → get_or slots slot None ≡ Some h → ⊥)
      → home_at new h ≡ home_at old h

-- an empty slot gives no home
pub home_skipped : (slots : List (Option ℕ)) (n id position : ℕ) (old now : List (Option Home))
    → HasSome slots n id position old now → get_or slots n None ≡ None
    → HasSome slots (n + 1) id position old now
home_skipped slots n id position old now a empty = record {
  count = a.count;
  here = λ slot h below named. elim (cases_eq slot n) [
    | inl e ↦ absurd (none_some h (sym empty ∙ ap (λ (k : ℕ). get_or slots k None) (sym e) ∙
        named))
    | inr off ↦ a.here slot h (omega (arith, below, off)) named
  ];
  others = λ h none. a.others h (λ slot below named. none slot (omega (arith, below)) named);
}
  where
    none_some : (h : ℕ) → None ≡ Some h → ⊥
    none_some h e = cc

-- the object in the next slot gets its home
pub home_more : (slots : List (Option ℕ)) (n id position h : ℕ) (old now : List (Option Home))
    → HasSome slots n id position old now → get_or slots n None ≡ Some h → h < length old
    → ((i j k : ℕ) → get_or slots i None ≡ Some k → get_or slots j None ≡ Some k → i ≡ j)
    → HasSome slots (n + 1) id position old
    (set now h (Some (record { set = id; position = position; slot = n })))
home_more slots n id position h old now a named within apart =
    let home : Home = record { set = id; position = position; slot = n } in record {
      count = length-set now h (Some home) ∙ a.count;
      here = λ slot k below there. elim (cases_eq slot n) [
        | inl e ↦
            let same : k ≡ h = some_same (sym there ∙ ap (λ (i : ℕ). get_or slots i None) e ∙
            named) in
            subst (λ (i : ℕ). home_at (set now h (Some home)) i
            ≡ Some (record { set = id; position = position; slot = slot })) (sym same)
            (get_or-set_same now h (Some home) None (omega (arith, within, a.count))
            ∙ ap (λ (i : ℕ). let x : Home = record { set = id; position = position; slot = i } in
            Some x) (sym e))
        | inr off ↦
            get_or-set_other now h k (Some home) None
            (λ same. off (apart slot n h (subst (λ (i : ℕ). get_or slots slot None ≡ Some i) same
            there) named))
            ∙ a.here slot k (omega (arith, below, off)) there
      ];
      others = λ k none.
          get_or-set_other now h k (Some home) None
          (λ same. none n (omega arith) (subst (λ (i : ℕ). get_or slots n None ≡ Some i) (sym
          same) named))
          ∙ a.others k (λ slot below there. none slot (omega (arith, below)) there);
    }
  where
    some_same : {x y : ℕ} → Some x ≡ Some y → x ≡ y
    some_same e = cc

pub homes_all : (slots : List (Option ℕ)) (n id position : ℕ) (old new : List (Option Home))
    → HasSome slots n id position old new → length slots ≤ n → HasHomes slots id position old new
homes_all slots n id position old new a all = record {
  count = a.count;
  here = λ slot h named. a.here slot h (below slot h named) named;
  others = λ h none. a.others h (λ slot l named. none slot named);
}
  where
    below : (slot h : ℕ) → get_or slots slot None ≡ Some h → slot < n
    below slot h named = let w = in_range slots slot h named in omega (arith, w, all)
      where
        in_range : (xs : List (Option ℕ)) (i k : ℕ) → get_or xs i None ≡ Some k → i < length xs
        in_range [] i k e = absurd (none_some e)
          where
            none_some : None ≡ Some k → ⊥
            none_some e = cc
        in_range (x ∷ xs) zero k e = omega arith
        in_range (x ∷ xs) (suc i) k e = let r = in_range xs i k e in omega (arith, r)

pub homes_step : (slots : List (Option ℕ)) (n id position : ℕ) (old now new : List (Option Home))
    → HasSome slots n id position old now
    → ((slot h : ℕ) → get_or slots slot None ≡ Some h → h < length old)
    → ((i j k : ℕ) → get_or slots i None ≡ Some k → get_or slots j None ≡ Some k → i ≡ j)
    → ((h : ℕ) → get_or slots n None ≡ Some h
    → new ≡ set now h (Some (record { set = id; position = position; slot = n })))
    → (get_or slots n None ≡ None → new ≡ now)
    → HasSome slots (n + 1) id position old new
homes_step slots n id position old now new a below apart put none = step (get_or slots n None) refl
  where
    step : (o : Option ℕ) → get_or slots n None ≡ o → HasSome slots (n + 1) id position old new
    step None e = subst (HasSome slots (n + 1) id position old) (sym (none e))
        (home_skipped slots n id position old now a e)
    step (Some h) e = subst (HasSome slots (n + 1) id position old) (sym (put h e))
        (home_more slots n id position h old now a e (below n h e) apart)

pub object_below : (slots : List (Option ℕ)) (n count now : ℕ)
    → ((slot h : ℕ) → get_or slots slot None ≡ Some h → h < count) → now ≡ count
    → IfSome (get_or slots n None) (λ h. h < now)
object_below slots n count now below same = step (get_or slots n None) refl
  where
    step : (o : Option ℕ) → get_or slots n None ≡ o → IfSome o (λ h. h < now)
    step None e = tt
    step (Some h) e = let b = below n h e in omega (arith, b, same)
