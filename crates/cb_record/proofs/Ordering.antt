-- Changes put in order of their versions: what holds of them, and that they run without a gap where
-- each version stands as often as in a run.
use Rattle.std.proofs.Common.{◌≡◌, ◌≢◌, ◌⊎◌, ℕ, ◌+◌, ◌-◌, ◌<◌, ◌≤◌, min, nat_le, Bool, cond, eqb, List, [], ◌∷◌, sym, refl, ap, ◌∙◌, subst, inl, inr, ⊎_elim, eq-eqb, ne_eqb, eqb-true, true≢false, arith}
use Rattle.std.specs.List.{AllByRecursion}
use Rattle.std.proofs.lemmas.Bool.{leb-true, leb-false}
use Rattle.cb_rule.specs.Lists.{times}
use Rattle.cb_rule.proofs.Laws.{by_case, hit}
use Rattle.cb_model.specs.Now.{Change}
use Rattle.cb_model.specs.History.{by_version, placed}
use Rattle.cb_record.specs.Lists.{HasOne}
use Rattle.cb_record.proofs.Links.{GoesUp}
use Rattle.cb_record.proofs.Listing.{all_map}

-- whether it is the change of this version
abbrev pub changes_at : ℕ → ℕ × Change → Bool
changes_at k c = eqb c.0 k

-- 1 for the versions from the first to the last, and else 0
abbrev pub stands : ℕ → ℕ → ℕ → ℕ
stands first k top = min 1 (k + 1 - first) - (k - top)

-- no change is of a lower version than one before it
abbrev pub IsOrdered : List (ℕ × Change) → Type 0
IsOrdered [] = Unit {0}
IsOrdered (c ∷ cs) = AllByRecursion (λ (d : ℕ × Change). c.0 ≤ d.0) cs × IsOrdered cs

module _ (P : ℕ × Change → Type 0) where
  all_placed : (c : ℕ × Change) (cs : List (ℕ × Change)) → P c → AllByRecursion P cs
      → AllByRecursion P (placed c cs)
  all_placed c [] p h = (p, tt)
  all_placed c (d ∷ ds) p h = by_case
      (λ b. AllByRecursion P (cond b (c ∷ d ∷ ds) (d ∷ placed c ds))) (nat_le c.0 d.0)
      (λ _. (p, h)) (λ _. (h.0, all_placed c ds p h.1))

  pub all_by_version : (cs : List (ℕ × Change)) → AllByRecursion P cs
      → AllByRecursion P (by_version cs)
  all_by_version [] h = tt
  all_by_version (c ∷ cs) h = all_placed c (by_version cs) h.0 (all_by_version cs h.1)

  one_placed : (c : ℕ × Change) (cs : List (ℕ × Change)) → P c ⊎ HasOne P cs
      → HasOne P (placed c cs)
  one_placed c [] h = h
  one_placed c (d ∷ ds) h = by_case
      (λ b. HasOne P (cond b (c ∷ d ∷ ds) (d ∷ placed c ds))) (nat_le c.0 d.0)
      (λ _. h) (λ _. ⊎_elim (λ (p : P c). inr (one_placed c ds (inl p)))
      (λ (q : P d ⊎ HasOne P ds). ⊎_elim (λ (p : P d). inl p)
      (λ (r : HasOne P ds). inr (one_placed c ds (inr r))) q) h)

  pub one_by_version : (cs : List (ℕ × Change)) → HasOne P cs → HasOne P (by_version cs)
  one_by_version [] h = h
  one_by_version (c ∷ cs) h = one_placed c (by_version cs)
      (⊎_elim (λ (p : P c). inl p) (λ (q : HasOne P cs). inr (one_by_version cs q)) h)

module _ (t : ℕ × Change → Bool) where
  times_placed : (c : ℕ × Change) (cs : List (ℕ × Change))
      → times t (placed c cs) ≡ cond (t c) 1 0 + times t cs
  times_placed c [] = refl
  times_placed c (d ∷ ds) = by_case
      (λ b. times t (cond b (c ∷ d ∷ ds) (d ∷ placed c ds))
      ≡ cond (t c) 1 0 + (cond (t d) 1 0 + times t ds)) (nat_le c.0 d.0)
      (λ _. refl) (λ _. let rest = times_placed c ds in omega arith)

  pub times_by_version : (cs : List (ℕ × Change)) → times t (by_version cs) ≡ times t cs
  times_by_version [] = refl
  times_by_version (c ∷ cs) =
      let placing = times_placed c (by_version cs) in
      let rest = times_by_version cs in omega arith

ordered_placed : (c : ℕ × Change) (cs : List (ℕ × Change)) → IsOrdered cs
    → IsOrdered (placed c cs)
ordered_placed c [] o = (tt, tt)
ordered_placed c (d ∷ ds) o = by_case
    (λ b. IsOrdered (cond b (c ∷ d ∷ ds) (d ∷ placed c ds))) (nat_le c.0 d.0)
    (λ is. let le = leb-true c.0 d.0 is in (
      (
        le,
        all_map (λ (e : ℕ × Change). d.0 ≤ e.0) (λ (e : ℕ × Change). c.0 ≤ e.0) ds
            (λ e l. omega (arith, le, l)) o.0,
      ),
      o,
    ))
    (λ is. let gt = leb-false c.0 d.0 is in
    (all_placed (λ (e : ℕ × Change). d.0 ≤ e.0) c ds (omega (arith, gt)) o.0, ordered_placed c ds o.1))

pub ordered_by_version : (cs : List (ℕ × Change)) → IsOrdered (by_version cs)
ordered_by_version [] = tt
ordered_by_version (c ∷ cs) = ordered_placed c (by_version cs) (ordered_by_version cs)

own : (y : ℕ) → cond {A = ℕ} (eqb y y) 1 0 ≡ 1
own y = hit (eqb y y) (eq-eqb y y refl)

other : (y k : ℕ) → y ≢ k → cond {A = ℕ} (eqb y k) 1 0 ≡ 0
other y k ne = ap (λ (b : Bool). cond {A = ℕ} b 1 0) (ne_eqb y k ne)

below_none : (n x : ℕ) (cs : List (ℕ × Change)) → n < x
    → AllByRecursion (λ (d : ℕ × Change). x ≤ d.0) cs → times (changes_at n) cs ≡ 0
below_none n x [] l s = refl
below_none n x (c ∷ cs) l s =
    let here = other c.0 n (λ e. let a = s.0 in absurd (omega arith)) in
    let rest = below_none n x cs l s.1 in omega arith

-- changes in order, each version as often as in a run, go up one by one
pub versions_run : (n top : ℕ) (cs : List (ℕ × Change)) → IsOrdered cs
    → ((k : ℕ) → times (changes_at k) cs ≡ stands n k top) → GoesUp n cs
versions_run n top [] s h = tt
versions_run n top (c ∷ cs) s h =
    let at_y = h c.0 in let own_y = own c.0 in
    let low : n ≤ c.0 = omega arith in
    let high : c.0 ≤ top = omega arith in
    let not_above : (n < c.0 → ⊥) = λ l. (let z = below_none n c.0 cs l s.0 in
    let o = other c.0 n (λ e. absurd (omega arith)) in let k = h n in absurd (omega arith)) in
    let same : c.0 ≡ n = omega (arith, not_above) in (
      same,
      versions_run (n + 1) top cs s.1 (λ k. let m = h k in
          by_case (λ b. eqb c.0 k ≡ b → times (changes_at k) cs ≡ stands (n + 1) k top) (eqb c.0 k)
          (λ e _. let q : c.0 ≡ k = eqb-true c.0 k e in let o = own c.0 in
          let d = subst (λ (j : ℕ). times (changes_at j) (c ∷ cs) ≡ stands n j top) (sym q) m in
          subst (λ (j : ℕ). times (changes_at j) cs ≡ stands (n + 1) j top) q (omega arith))
          (λ e _. let ne : c.0 ≢ k = (λ q. true≢false (sym (eq-eqb c.0 k q) ∙ e)) in
          let o = other c.0 k ne in omega arith) refl),
    )
