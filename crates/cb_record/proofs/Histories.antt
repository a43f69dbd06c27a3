-- A closed record's histories: the changes at each object, in order of their versions, are its entries.
use Rattle.std.proofs.Common.{◌≡◌, ◌⊎◌, ℕ, zero, suc, ◌+◌, ◌<◌, ◌≤◌, ◌&&◌, false, cond, eqb, List, [], ◌∷◌, ◌++◌, sym, refl, ap, ◌∙◌, subst, inl, inr, ⊎_elim, eqb-true, arith}
use native.Mathlib.Decide.{ℕ_discrete}
use mathlib.Core.Option.{some-injective, some-ne-none}
use Rattle.std.specs.List.{AllByRecursion}
use Rattle.std.proofs.lemmas.Bool.{cases_lt}
use Rattle.cb_world.specs.declared.entry.Entry.{Entry}
use Rattle.cb_rule.specs.declared.view.View.{View}
use Rattle.cb_rule.specs.History.{is_version}
use Rattle.cb_rule.specs.Lists.{times, Has}
use Rattle.cb_rule.specs.Promised.{EntriesStand, Is, IsLast, Wrote}
use Rattle.cb_rule.proofs.Laws.{by_case}
use Rattle.cb_model.specs.Now.{Change}
use Rattle.cb_model.specs.History.{by_version}
use Rattle.cb_record.specs.Lists.{HasOne}
use Rattle.cb_record.specs.Upheld.{OneLength}
use Rattle.cb_record.proofs.Links.{Any, AreLinked, AreTrue, GoesUp, IsEntered, IsFirstMake, StandsFor, are_true}
use Rattle.cb_record.proofs.Ordering.{all_by_version, changes_at, one_by_version, ordered_by_version, stands, times_by_version, versions_run}
use Rattle.cb_record.proofs.Pieces.{IsPiece}

none_counted : (h k : ℕ) (es : List Entry)
    → ((e : Entry) → Has e es → e.handle ≡ h → e.version ≡ k → ⊥) → times (is_version h k) es ≡ 0
none_counted h k [] no_one = refl
none_counted h k (x ∷ xs) no_one =
    let rest : times (is_version h k) xs ≡ 0 =
    none_counted h k xs (λ e there. no_one e (inr there)) in
    by_case (λ b. eqb x.handle h ≡ b
    → cond {A = ℕ} (b && eqb x.version k) 1 0 + times (is_version h k) xs ≡ 0) (eqb x.handle h)
    (λ at _. by_case (λ b. eqb x.version k ≡ b
    → cond {A = ℕ} b 1 0 + times (is_version h k) xs ≡ 0) (eqb x.version k)
    (λ is _. absurd (no_one x (inl refl) (eqb-true x.handle h at) (eqb-true x.version k is)))
    (λ _ _. omega (arith, rest)) refl)
    (λ _ _. omega (arith, rest)) refl

-- an entry of the object with its greatest version
pub record IsTop (h : ℕ) (es : List Entry) (e : Entry) : Type 0 where
  pub there : Has e es
  pub handle : e.handle ≡ h
  pub greatest : (x : Entry) → Has x es → x.handle ≡ h → x.version ≤ e.version

-- there is one, or no entry of the object
pub find_top : (h : ℕ) (es : List Entry)
    → ((e : Entry) × IsTop h es e) ⊎ ((e : Entry) → Has e es → e.handle ≡ h → ⊥)
find_top h [] = inr (λ e there on. there)
find_top h (x ∷ xs) = with_one (ℕ_discrete x.handle h) (find_top h xs)
  where
    with_one : Dec (x.handle ≡ h)
        → ((e : Entry) × IsTop h xs e) ⊎ ((e : Entry) → Has e xs → e.handle ≡ h → ⊥)
        → ((e : Entry) × IsTop h (x ∷ xs) e) ⊎ ((e : Entry) → Has e (x ∷ xs) → e.handle ≡ h → ⊥)
    with_one (no off) (inr none) = inr (λ e there on. ⊎_elim
        (λ (is : x ≡ e). off (ap (λ (y : Entry). y.handle) is ∙ on))
        (λ (more : Has e xs). none e more on) there)
    with_one (no off) (inl top) = inl (
      top.0,
      record {
        there = inr top.1.there;
        handle = top.1.handle;
        greatest = λ e there on. ⊎_elim
            (λ (is : x ≡ e). absurd (off (ap (λ (y : Entry). y.handle) is ∙ on)))
            (λ (more : Has e xs). top.1.greatest e more on) there;
      },
    )
    with_one (yes on_x) (inr none) = inl (
      x,
      record {
        there = inl refl;
        handle = on_x;
        greatest = λ e there on. ⊎_elim
            (λ (is : x ≡ e). (let v = ap (λ (y : Entry). y.version) is in omega arith))
            (λ (more : Has e xs). absurd (none e more on)) there;
      },
    )
    with_one (yes on_x) (inl top) = ⊎_elim
        (λ (lt : top.0.version < x.version). inl (
          x,
          record {
            there = inl refl;
            handle = on_x;
            greatest = λ e there on. ⊎_elim
                (λ (is : x ≡ e). (let v = ap (λ (y : Entry). y.version) is in omega arith))
                (λ (more : Has e xs). (let g = top.1.greatest e more on in omega (arith, g, lt))) there;
          },
        ))
        (λ (ge : x.version ≤ top.0.version). inl (
          top.0,
          record {
            there = inr top.1.there;
            handle = top.1.handle;
            greatest = λ e there on. ⊎_elim
                (λ (is : x ≡ e). (let v = ap (λ (y : Entry). y.version) is in omega (arith, v, ge)))
                (λ (more : Has e xs). top.1.greatest e more on) there;
          },
        ))
        (cases_lt top.0.version x.version)

module _ (first : ℕ) (v : View) (entries : EntriesStand first (v ∷ [])) (quiet : v.fresh ≡ []) where
  -- what stands in the one record, and what is written in it
  pub wrote : (e : Entry) → Has e v.written → Wrote (v ∷ []) e
  wrote e there = (v, (0, refl), subst (λ (fs : List Entry). Has e (fs ++ v.written)) (sym quiet) there)

  only : (u : View) → Is (v ∷ []) u → u ≡ v
  only u (zero, e) = sym (some-injective v u e)
  only u (suc j, e) = absurd (some-ne-none u (sym e))

  pub written : (e : Entry) → Wrote (v ∷ []) e → Has e v.written
  written e w = subst (λ (fs : List Entry). Has e (fs ++ v.written)) quiet
      (subst (λ (u : View). Has e (u.fresh ++ u.written)) (only w.0 w.1) w.2)

  -- an entry that is not the freed one is as long as its object's first
  made_long : (n : ℕ) (e : Entry) → Has e v.written → e.version ≤ n → e.freed ≡ false
      → (x : Entry) × Has x v.written × (x.handle ≡ e.handle) × (x.version ≡ first)
      × (e.len ≡ x.len)
  made_long zero e he low kept = ⊎_elim
      (λ (z : (e.version ≡ first) × (e.before ≡ []) × (e.freed ≡ false)). (e, he, refl, z.0, refl))
      (λ (z : _). absurd (let next = z.3 in omega (arith, next, low)))
      (entries.goes_on e (wrote e he))
  made_long (suc n) e he low kept = ⊎_elim
      (λ (z : (e.version ≡ first) × (e.before ≡ []) × (e.freed ≡ false)). (e, he, refl, z.0, refl))
      (λ (z : _).
      let x = made_long n z.0 (written z.0 z.1) (let next = z.3 in omega (arith, next, low)) z.5 in
      (x.0, x.1, x.2 ∙ z.2, x.3, z.6 kept ∙ x.4)) (entries.goes_on e (wrote e he))

  -- so all of them have one length
  pub one_length : OneLength v.written
  one_length e x he hx on ke kx =
      let a = made_long e.version e he (omega arith) ke in
      let b = made_long x.version x hx (omega arith) kx in
      a.4 ∙ ap (λ (y : Entry). y.len) (entries.same a.0 b.0 (wrote a.0 a.1) (wrote b.0 b.1)
      (a.2 ∙ on ∙ sym b.2) (a.3 ∙ sym b.3)) ∙ sym b.4

  pub linked : AreLinked first v.written
  linked = record {
    same = λ e x he hx on at. entries.same e x (wrote e he) (wrote x hx) on at;
    born = λ e he. entries.born e (wrote e he);
    goes_on = λ e he. ⊎_elim (λ (z : (e.version ≡ first) × (e.before ≡ []) × (e.freed ≡ false)). inl z.0)
        (λ (z : _). inr (z.0, written z.0 z.1, z.2, z.3, z.4, z.5)) (entries.goes_on e (wrote e he));
    long = one_length;
  }

  -- each version from the first to the last is written once, and no other
  counted : (h : ℕ) (e : Entry) → IsTop h v.written e → (k : ℕ)
      → times (is_version h k) v.written ≡ stands first k e.version
  counted h e top k = by (cases_lt k first) (cases_lt e.version k)
    where
      last : IsLast (v ∷ []) e
      last = (wrote e top.there, λ x w on. top.greatest x (written x w) (on ∙ top.handle))

      by : (k < first) ⊎ (first ≤ k) → (e.version < k) ⊎ (k ≤ e.version)
          → times (is_version h k) v.written ≡ stands first k e.version
      by (inl low) other =
          let z = none_counted h k v.written (λ x there on at. (let b = entries.born x (wrote x there) in omega (arith, b, at, low))) in
          omega (arith, z, low)
      by (inr ge) (inl high) =
          let z = none_counted h k v.written (λ x there on at. (let b = top.greatest x there on in omega (arith, b, at, high))) in
          omega (arith, z, high)
      by (inr ge) (inr le) =
          let o = entries.once e k last ge le in
          let f : times (is_version e.handle k) v.fresh ≡ 0 = ap (times (is_version e.handle k)) quiet in
          let n : times (is_version e.handle k) v.written ≡ 1 = omega (arith, o, f) in
          let m : times (is_version h k) v.written ≡ 1 = subst (λ (g : ℕ). times (is_version g k) v.written ≡ 1) top.handle n in
          omega (arith, m, ge, le)

  run_none : (n h : ℕ) (cs : List (ℕ × Change))
      → ((e : Entry) → Has e v.written → e.handle ≡ h → ⊥)
      → AllByRecursion (IsEntered first v.written h) cs → GoesUp n cs
  run_none n h [] none all = tt
  run_none n h (c ∷ cs) none all =
      absurd (none all.0.entry all.0.there all.0.stands.handle)

  still_any : (cs : List (ℕ × Change)) → HasOne Any (by_version cs) → HasOne Any cs
  still_any [] one = one
  still_any (c ∷ cs) one = inl tt

  -- the changes at an object, in order, are its entries
  pub histories : (h : ℕ) (cs : List (ℕ × Change))
      → IsPiece first v.written h cs v.written → (HasOne Any cs → HasOne (IsFirstMake first) cs)
      → AreTrue first v.written h linked (by_version cs)
  histories h cs piece made = are_true first v.written h linked (by_version cs)
      (⊎_elim (λ (z : (e : Entry) × IsTop h v.written e).
      versions_run first z.0.version (by_version cs) (ordered_by_version cs)
      (λ k. times_by_version (changes_at k) cs ∙ piece.counts k ∙ counted h z.0 z.1 k))
      (λ (none : (e : Entry) → Has e v.written → e.handle ≡ h → ⊥).
      run_none first h (by_version cs) none each) (find_top h v.written))
      each
      (λ e there on. one_by_version (StandsFor h e) cs (piece.all e there on))
      (λ one. one_by_version (IsFirstMake first) cs (made (still_any cs one)))
    where
      each : AllByRecursion (IsEntered first v.written h) (by_version cs)
      each = all_by_version (IsEntered first v.written h) cs piece.each
