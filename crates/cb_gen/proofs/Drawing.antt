-- One draw after the other.
use Rattle.std.proofs.Common.{◌≡◌, ℕ, suc, ◌+◌, ◌<◌, ◌≤◌, ◌^◌, ◌/◌, ◌%◌, List, [], ◌∷◌, ◌++◌, length, get_or, sym, ap, ◌∙◌, arith}
use Rattle.std.specs.List.{All}
use Rattle.std.proofs.lemmas.List.FromFn.{length-map-range_with_len, get_or-map-range_with_len, map-range_with_len_more}
use Rattle.cb_gen.specs.Draws.{next_state, state_after, drawn, drawn_bytes}

pub after_more : (x i y z : ℕ) → y ≡ state_after x i → z ≡ next_state y → z ≡ state_after x (i + 1)
after_more x i y z is then_is =
    let one : suc i ≡ i + 1 = omega arith in
    then_is ∙ ap next_state is ∙ ap (state_after x) one

pub bytes_more : (x i y b : ℕ) (bytes more : List ℕ) → bytes ≡ drawn_bytes x i → y ≡ state_after x i
    → b ≡ drawn y 0 256 → more ≡ bytes ++ b ∷ []
    → more ≡ drawn_bytes x (i + 1)
bytes_more x i y b bytes more so_far state is pushed =
    let byte : b ≡ drawn x i 256 = is ∙ ap (λ (s : ℕ). next_state s / 2 ^ 33 % 256) state in
    pushed ∙ (λ j. so_far j ++ byte j ∷ [])
    ∙ sym (map-range_with_len_more (λ n. drawn x n 256) 0 i i (omega arith))

-- a number is drawn below its bound
pub drawn_low : (x n m : ℕ) → 1 ≤ m → drawn x n m < m
drawn_low x n m some = omega (arith, some)

pub bytes_count : (x count : ℕ) → length (drawn_bytes x count) ≡ count
bytes_count x count = length-map-range_with_len (λ n. drawn x n 256) 0 count

pub bytes_low : (x count : ℕ) → All (λ b. b < 256) (drawn_bytes x count)
bytes_low x count k d within =
    let place : k < count = omega (arith, bytes_count x count, within) in
    let is : get_or (drawn_bytes x count) k d ≡ drawn x k 256 =
    get_or-map-range_with_len (λ n. drawn x n 256) 0 count k k d place (omega arith) in
    omega (arith, is, drawn_low x k 256 (omega arith))
