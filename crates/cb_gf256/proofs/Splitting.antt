-- How positions split into present and lost ones: one position after another.
use Rattle.std.proofs.Common.{◌≡◌, ℕ, zero, suc, ◌+◌, ◌-◌, ◌<◌, ◌≤◌, List, get_or, cond, eqb, ◌⊎◌, inl, inr, refl, sym, ap, ap₂, subst, ◌∙◌, ⊎_elim, arith, add-one}
use Rattle.std.proofs.lemmas.Bool.{cases_lt, cases_eq, eq-eqb, ne_eqb}
use lib.Bits.{xor_assoc, xor_comm}
use Rattle.cb_gf256.specs.Sum.{◌⊕◌, sum_over}
use Rattle.cb_gf256.specs.Split.{Splits}
use Rattle.cb_gf256.specs.Positions.{ArePositions}
use Rattle.cb_gf256.proofs.Linear.{sum_over-same}
use Rattle.cb_gf256.proofs.SumLaws.{sum_over-add}

-- no position
pub split_none : (present lost : ℕ → ℕ) → Splits 0 0 0 present lost
split_none present lost = record {
  count = refl;
  present_below = λ i h. absurd (omega arith);
  lost_below = λ e h. absurd (omega arith);
  lost_ascend = λ d e h l. absurd (omega arith);
  apart = λ i e h. absurd (omega arith);
  covers = λ p h. absurd (omega arith);
  sums = λ f. refl;
}

-- the next position is present
pub split_present : (n k r : ℕ) (present lost : ℕ → ℕ) → Splits n k r present lost → present k ≡ n → Splits (suc n) (suc k) r present lost
split_present n k r present lost split next = record {
  count = omega (arith, split.count);
  present_below = λ i h. ⊎_elim (λ l. omega (arith, split.present_below i l)) (λ l. let same : i ≡ k = omega arith in omega (arith, ap present same)) (cases_lt i k);
  lost_below = λ e h. omega (arith, split.lost_below e h);
  lost_ascend = split.lost_ascend;
  apart = λ i e h l.
      ⊎_elim (λ m. split.apart i e m l) (λ m same. let own : i ≡ k = omega arith in omega (arith, ap present own, split.lost_below e l)) (cases_lt i k);
  covers = λ p h.
      ⊎_elim
      (λ l. ⊎_elim (λ (i, q, e). inl (i, omega arith, e)) (λ (m, q, e). inr (m, q, e)) (split.covers p l))
      (λ l. inl (k, omega arith, next ∙ omega arith))
      (cases_lt p n);
  sums = λ f.
      ap₂ ◌⊕◌ (split.sums f) (ap f (sym next))
      ∙ xor_assoc (sum_over k (λ i. f (present i))) (sum_over r (λ e. f (lost e))) (f (present k))
      ∙ ap (λ v. sum_over k (λ i. f (present i)) ⊕ v) (xor_comm (sum_over r (λ e. f (lost e))) (f (present k)))
      ∙ sym (xor_assoc (sum_over k (λ i. f (present i))) (f (present k)) (sum_over r (λ e. f (lost e))));
}

-- the next position is lost
pub split_lost : (n k r : ℕ) (present lost : ℕ → ℕ) → Splits n k r present lost → lost r ≡ n → Splits (suc n) k (suc r) present lost
split_lost n k r present lost split next = record {
  count = omega (arith, split.count);
  present_below = λ i h. omega (arith, split.present_below i h);
  lost_below = λ e h. ⊎_elim (λ l. omega (arith, split.lost_below e l)) (λ l. let same : e ≡ r = omega arith in omega (arith, ap lost same)) (cases_lt e r);
  lost_ascend = λ d e h l.
      ⊎_elim (λ m. split.lost_ascend d e h m) (λ m. let same : e ≡ r = omega arith in omega (arith, ap lost same, split.lost_below d (omega arith))) (cases_lt e r);
  apart = λ i e h l.
      ⊎_elim (λ m. split.apart i e h m) (λ m same. let own : e ≡ r = omega arith in omega (arith, ap lost own, split.present_below i h)) (cases_lt e r);
  covers = λ p h.
      ⊎_elim
      (λ l. ⊎_elim (λ (i, q, e). inl (i, q, e)) (λ (m, q, e). inr (m, omega arith, e)) (split.covers p l))
      (λ l. inr (r, omega arith, next ∙ omega arith))
      (cases_lt p n);
  sums = λ f.
      ap₂ ◌⊕◌ (split.sums f) (ap f (sym next)) ∙ xor_assoc (sum_over k (λ i. f (present i))) (sum_over r (λ e. f (lost e))) (f (lost r));
}

-- what stands past the lost positions does not matter
pub split_same : (n k r : ℕ) (present lost other : ℕ → ℕ) → Splits n k r present lost → ((e : ℕ) → e < r → other e ≡ lost e) → Splits n k r present other
split_same n k r present lost other split same = record {
  count = split.count;
  present_below = split.present_below;
  lost_below = λ e h. omega (arith, same e h, split.lost_below e h);
  lost_ascend = λ d e h l. omega (arith, same d (omega arith), same e l, split.lost_ascend d e h l);
  apart = λ i e h l equal. split.apart i e h l (equal ∙ same e l);
  covers = λ p h. ⊎_elim (λ (i, q, e). inl (i, q, e)) (λ (m, q, e). inr (m, q, same m q ∙ e)) (split.covers p h);
  sums = λ f. split.sums f ∙ ap (λ v. sum_over k (λ i. f (present i)) ⊕ v) (sum_over-same r (λ e. f (lost e)) (λ e. f (other e)) (λ e h. ap f (sym (same e h))));
}

-- the data positions are present and the parities are lost
pub splits_parities : (k r : ℕ) → Splits (k + r) k r (λ i. i) (λ e. k + e)
splits_parities k r = record {
  count = refl;
  present_below = λ i h. omega arith;
  lost_below = λ e h. omega arith;
  lost_ascend = λ d e h l. omega arith;
  apart = λ i e h l equal. omega arith;
  covers = λ p h. ⊎_elim (λ l. inl (p, l, refl)) (λ l. let e : k + (p - k) ≡ p = omega arith in inr (p - k, omega arith, e)) (cases_lt p k);
  sums = λ f. sum_over-add k r f;
}

-- ---- ascending positions
at_most : (n k : ℕ) (positions : List ℕ) → ArePositions n k positions → (d i : ℕ) → i + suc d ≡ k → get_or positions i 0 + suc d ≤ n
at_most n k positions h zero i e = omega (arith, h.below i 0 (omega (arith, h.count)))
at_most n k positions h (suc d) i e = omega (arith, at_most n k positions h d (i + 1) (omega arith), h.ascend i (omega (arith, h.count)))

-- as many positions are left below n as stand from i on
pub position_at_most : (n k : ℕ) (positions : List ℕ) → ArePositions n k positions → (i : ℕ) → i < k → get_or positions i 0 + k ≤ n + i
position_at_most n k positions h i l = let d : i + suc (k - suc i) ≡ k = omega arith in omega (arith, at_most n k positions h (k - suc i) i d)

next_above : (n k : ℕ) (positions : List ℕ) → ArePositions n k positions → (i : ℕ) → suc i < k → get_or positions i 0 < get_or positions (suc i) 0
next_above n k positions h i l = subst (λ j. get_or positions i 0 < get_or positions j 0) (add-one i) (h.ascend i (omega (arith, h.count)))

-- the split of the positions below n, from the split of those below p: s are present so far
record Walk (n k : ℕ) (present : ℕ → ℕ) (p : ℕ) : Type 0 where
  seen : ℕ
  gone : ℕ
  lost : ℕ → ℕ
  within : seen ≤ k
  next : seen < k → p ≤ present seen
  split : Splits p seen gone present lost

walk : (n k : ℕ) (positions : List ℕ) → ArePositions n k positions → (p : ℕ) → p ≤ n → Walk n k (λ i. get_or positions i 0) p
walk n k positions h zero l = record {
  seen = 0;
  gone = 0;
  lost = λ e. 0;
  within = omega arith;
  next = λ m. omega arith;
  split = split_none (λ i. get_or positions i 0) (λ e. 0);
}
walk n k positions h (suc p) l =
    let before = walk n k positions h p (omega arith) in
    let present : ℕ → ℕ = λ i. get_or positions i 0 in
    let past : before.seen ≡ k ⊎ before.seen < k = ⊎_elim (λ m. inr m) (λ m. inl (omega (arith, before.within))) (cases_lt before.seen k) in
    let lost : ℕ → ℕ = λ e. cond (eqb e before.gone) p (before.lost e) in
    let own : lost before.gone ≡ p = ap (λ b. cond b p (before.lost before.gone)) (eq-eqb before.gone before.gone refl) in
    let other : (e : ℕ) → e < before.gone → lost e ≡ before.lost e = λ e m. ap (λ b. cond b p (before.lost e)) (ne_eqb e before.gone (λ s. omega arith)) in
    let longer : Splits (suc p) before.seen (suc before.gone) present lost = split_lost p before.seen before.gone present lost (split_same p before.seen before.gone present before.lost lost before.split other) own in
    ⊎_elim
    (λ all. record {
      seen = before.seen;
      gone = suc before.gone;
      lost = lost;
      within = before.within;
      next = λ m. absurd (omega arith);
      split = longer;
    })
    (λ some.
    ⊎_elim
    (λ same. record {
      seen = suc before.seen;
      gone = before.gone;
      lost = before.lost;
      within = omega arith;
      next = λ m. omega (arith, next_above n k positions h before.seen m);
      split = split_present p before.seen before.gone present before.lost before.split same;
    })
    (λ differs. record {
      seen = before.seen;
      gone = suc before.gone;
      lost = lost;
      within = before.within;
      next = λ m. omega (arith, before.next some);
      split = longer;
    })
    (cases_eq (present before.seen) p))
    past

-- each list of ascending positions has its lost ones
pub splits_positions : (n k r : ℕ) (positions : List ℕ) → n ≡ k + r → ArePositions n k positions → (lost : ℕ → ℕ) × Splits n k r (λ i. get_or positions i 0) lost
splits_positions n k r positions e h =
    let whole = walk n k positions h n (omega arith) in
    let all : whole.seen ≡ k = ⊎_elim (λ m. absurd (omega (arith, whole.next m, h.below whole.seen 0 (omega (arith, h.count))))) (λ m. omega (arith, whole.within)) (cases_lt whole.seen k) in
    let rest : whole.gone ≡ r = omega (arith, whole.split.count) in
    (whole.lost, subst (λ g. Splits n k g (λ i. get_or positions i 0) whole.lost) rest (subst (λ s. Splits n s whole.gone (λ i. get_or positions i 0) whole.lost) all whole.split))

pub split_with_present : (n k r : ℕ) (present lost : ℕ → ℕ) → Splits n k r present lost → present k ≡ n → Splits (n + 1) (k + 1) r present lost
split_with_present n k r present lost split next =
    subst (λ m. Splits m (k + 1) r present lost) (sym (add-one n)) (subst (λ m. Splits (suc n) m r present lost) (sym (add-one k)) (split_present n k r present lost split next))

pub split_with_lost : (n k r : ℕ) (present lost : ℕ → ℕ) → Splits n k r present lost → lost r ≡ n → Splits (n + 1) k (r + 1) present lost
split_with_lost n k r present lost split next =
    subst (λ m. Splits m k (r + 1) present lost) (sym (add-one n)) (subst (λ m. Splits (suc n) k m present lost) (sym (add-one r)) (split_lost n k r present lost split next))
