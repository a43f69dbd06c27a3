-- The walk over the positions that tells the present ones from the lost ones.
use Rattle.std.proofs.Common.{◌≡◌, ◌≢◌, ℕ, ◌+◌, ◌-◌, ◌<◌, ◌≤◌, List, length, get_or, set, sym, subst, ◌∙◌, ⊎_elim, arith}
use Rattle.std.proofs.lemmas.Bool.{cases_lt}
use Rattle.std.proofs.lemmas.List.{get_or-set_same, get_or-set_other, length-set}
use Rattle.cb_gf256.specs.InRange.{IsInRange}
use Rattle.cb_gf256.specs.Positions.{ArePositions}
use Rattle.cb_gf256.specs.Split.{Splits}
use Rattle.cb_gf256.proofs.PublicLaws.{split_of_none, split_with_present, split_with_lost, split_of_same, position_is_at_most}

-- the positions below p are told apart: the first seen present ones, and the others
pub record Walked (k : ℕ) (present lost : List ℕ) (seen p : ℕ) : Type 0 where
  pub size : length lost ≡ 4
  pub within : seen ≤ k
  pub behind : seen ≤ p
  pub next : seen < k → p ≤ get_or present seen 0
  pub split : Splits p seen (p - seen) (λ i. get_or present i 0) (λ e. get_or lost e 0)

pub walked_none : (k : ℕ) (present lost : List ℕ) → length lost ≡ 4 → Walked k present lost 0 0
walked_none k present lost size = record {
  size = size;
  within = omega arith;
  behind = omega arith;
  next = λ l. omega arith;
  split = split_of_none (λ i. get_or present i 0) (λ e. get_or lost e 0);
}

next_above : (n k : ℕ) (positions : List ℕ) → ArePositions n k positions → (i : ℕ) → i + 1 < k → get_or positions i 0 < get_or positions (i + 1) 0
next_above n k positions h i l = h.ascend i (omega (arith, h.count))

pub walked_present : (n k : ℕ) (present lost : List ℕ) (seen p : ℕ) → ArePositions n k present → Walked k present lost seen p → seen < k → get_or present seen 0 ≡ p → Walked k present lost (seen + 1) (p + 1)
walked_present n k present lost seen p h walked l here =
    let gone : p + 1 - (seen + 1) ≡ p - seen = omega arith in
    record {
      size = walked.size;
      within = omega arith;
      behind = omega (arith, walked.behind);
      next = λ m. omega (arith, next_above n k present h seen m);
      split =
          subst (λ g. Splits (p + 1) (seen + 1) g (λ i. get_or present i 0) (λ e. get_or lost e 0)) (sym gone)
          (split_with_present p seen (p - seen) (λ i. get_or present i 0) (λ e. get_or lost e 0) walked.split here);
    }

-- there is room for a lost position
pub room_for_lost : (k r : ℕ) (present lost : List ℕ) (seen p : ℕ) → ArePositions (k + r) k present → Walked k present lost seen p → p < k + r → (seen < k → get_or present seen 0 ≢ p) → p - seen < r
room_for_lost k r present lost seen p h walked l differs =
    ⊎_elim
    (λ m. let other : get_or present seen 0 ≢ p = differs m in omega (arith, walked.next m, position_is_at_most (k + r) k present h seen m, walked.behind))
    (λ m. omega (arith, walked.behind))
    (cases_lt seen k)

pub walked_lost : (k r : ℕ) (present lost : List ℕ) (seen p : ℕ) → IsInRange k r → ArePositions (k + r) k present → Walked k present lost seen p → p < k + r → (seen < k → get_or present seen 0 ≢ p) → Walked k present (set lost (p - seen) p) seen (p + 1)
walked_lost k r present lost seen p range h walked l differs =
    let room : p - seen < length lost = omega (arith, room_for_lost k r present lost seen p h walked l differs, range.parities_most, walked.size) in
    let gone : p + 1 - seen ≡ p - seen + 1 = omega (arith, walked.behind) in
    let now : (e : ℕ) → ℕ = λ e. get_or (set lost (p - seen) p) e 0 in
    record {
      size = length-set lost (p - seen) p ∙ walked.size;
      within = walked.within;
      behind = omega (arith, walked.behind);
      next = λ m. let other : get_or present seen 0 ≢ p = differs m in omega (arith, walked.next m);
      split =
          subst (λ g. Splits (p + 1) seen g (λ i. get_or present i 0) now) (sym gone)
          (split_with_lost p seen (p - seen) (λ i. get_or present i 0) now
          (split_of_same p seen (p - seen) (λ i. get_or present i 0) (λ e. get_or lost e 0) now walked.split (λ e m. get_or-set_other lost (p - seen) e p 0 (λ s. omega arith)))
          (get_or-set_same lost (p - seen) p 0 room));
    }

pub walked_all : (k r : ℕ) (present lost : List ℕ) (seen p : ℕ) → ArePositions (k + r) k present → Walked k present lost seen p → p ≡ k + r → Splits (k + r) k r (λ i. get_or present i 0) (λ e. get_or lost e 0)
walked_all k r present lost seen p h walked e =
    let all : seen ≡ k =
    ⊎_elim (λ m. absurd (omega (arith, walked.next m, h.below seen 0 (omega (arith, h.count))))) (λ m. omega (arith, walked.within)) (cases_lt seen k) in
    let rest : p - seen ≡ r = omega arith in
    subst (λ s. Splits (k + r) s r (λ i. get_or present i 0) (λ x. get_or lost x 0)) all
    (subst (λ g. Splits (k + r) seen g (λ i. get_or present i 0) (λ x. get_or lost x 0)) rest
    (subst (λ n. Splits n seen (p - seen) (λ i. get_or present i 0) (λ x. get_or lost x 0)) e walked.split))
