-- How many pins the seats have, by the lanes that pin.
use Rattle.std.proofs.Common.{◌≡◌, ◌≢◌, ℕ, zero, suc, ◌+◌, ◌*◌, ◌<◌, ◌≤◌, Bool, List, [], ◌∷◌}
use Rattle.std.proofs.Common.{length, get_or, refl, ap, arith}
use native.Mathlib.Numerals.{unary_clauses}
use Rattle.std.specs.List.{count_by, range_with_len, sum_by}
use Rattle.std.proofs.lemmas.List.Sums.{sum_by-cons}
use Rattle.cb_world.specs.Seats.{SeatState}
use Rattle.cb_lanes.proofs.Lists.{one_if}

abbrev pub pins_in : SeatState → ℕ
pins_in seat = length seat.pins

-- Of so many seats each has as many pins as it may where it pins, and none else; the seats behind
-- them have none.
pub record AreFew (n from : ℕ) (pins : ℕ → Bool) (seats : List SeatState)
    (idle : SeatState) : Type 0 where
  pub few : (k : ℕ) → k < n → k < length seats
      → length (get_or seats k idle).pins ≤ 16 * one_if (pins (from + k))
  pub none : (k : ℕ) → n ≤ k → k < length seats → length (get_or seats k idle).pins ≡ 0

pub pins_few : (n from : ℕ) (pins : ℕ → Bool) (seats : List SeatState) (idle : SeatState)
    → AreFew n from pins seats idle
    → sum_by (λ seat. length seat.pins) seats ≤ 16 * count_by pins (range_with_len from n)
pins_few n from pins [] idle are = omega arith
pins_few zero from pins (seat ∷ seats) idle are =
    let here = are.none 0 (omega arith) (omega arith) in
    let rest = pins_few zero from pins seats idle (record {
      few = λ k low below. absurd (omega (arith, low));
      none = λ k high below. are.none (suc k) (omega arith) (omega (arith, below));
    }) in
    let all = sum_by-cons pins_in seat seats in
    omega (arith, here, rest, all)
pins_few (suc n) from pins (seat ∷ seats) idle are =
    let here = are.few 0 (omega arith) (omega arith) in
    let at : from + 0 ≡ from = omega arith in
    let one : one_if (pins (from + 0)) ≡ one_if (pins from) = ap (λ (k : ℕ). one_if (pins k)) at in
    let rest = pins_few n (from + 1) pins seats idle (record {
      few = λ k low below.
          let f = are.few (suc k) (omega (arith, low)) (omega (arith, below)) in
          let e : from + suc k ≡ from + 1 + k = omega arith in
          let same = ap (λ (j : ℕ). one_if (pins j)) e in omega (arith, f, same);
      none = λ k high below. are.none (suc k) (omega (arith, high)) (omega (arith, below));
    }) in
    let all = sum_by-cons pins_in seat seats in
    let more = sum_by-cons (λ (k : ℕ). one_if (pins k)) from (range_with_len (from + 1) n) in
    let range : range_with_len from (suc n) ≡ from ∷ range_with_len (from + 1) n =
    simp unary_clauses refl in
    let count = ap (count_by pins) range in
    omega (arith, here, one, rest, all, more, count)

-- where all but one of some numbers are 0, that one is their sum
pub sum_one : {X : Type 0} (f : X → ℕ) (xs : List X) (i : ℕ) (d : X) → i < length xs
    → ((k : ℕ) → k ≢ i → k < length xs → f (get_or xs k d) ≡ 0) → sum_by f xs ≡ f (get_or xs i d)
sum_one f [] i d below off = absurd (omega (arith, below))
sum_one f (x ∷ xs) zero d below off =
    let rest = sum_none f xs d
    (λ k lt. off (suc k) (λ e. absurd (omega (arith, e))) (omega (arith, lt))) in
    let all = sum_by-cons f x xs in omega (arith, rest, all)
  where
    sum_none : {X : Type 0} (f : X → ℕ) (xs : List X) (d : X)
        → ((k : ℕ) → k < length xs → f (get_or xs k d) ≡ 0) → sum_by f xs ≡ 0
    sum_none f [] d off = refl
    sum_none f (x ∷ xs) d off =
        let here = off 0 (omega arith) in
        let rest = sum_none f xs d (λ k lt. off (suc k) (omega (arith, lt))) in
        let all = sum_by-cons f x xs in omega (arith, here, rest, all)
sum_one f (x ∷ xs) (suc i) d below off =
    let here = off 0 (λ e. absurd (omega (arith, e))) (omega arith) in
    let rest = sum_one f xs i d (omega (arith, below))
    (λ k differs lt. off (suc k) (λ e. differs (omega (arith, e))) (omega (arith, lt))) in
    let all = sum_by-cons f x xs in omega (arith, here, rest, all)
