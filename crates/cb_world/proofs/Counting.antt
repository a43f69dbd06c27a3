-- Counts of the numbers below one that pass a test.
use Rattle.std.proofs.Common.{◌≡◌, ◌≢◌, ℕ, zero, suc, ◌+◌, ◌<◌, Bool, false, refl, sym, ap, ◌∙◌, arith}
use Rattle.std.specs.List.{count_by, range_with_len}
use Rattle.cb_world.proofs.Choices.{count_more, number}

abbrev pub count_below : (ℕ → Bool) → ℕ → ℕ
count_below f n = count_by f (range_with_len 0 n)

-- one number more
pub count_next : (f : ℕ → Bool) (n : ℕ) → count_below f (n + 1) ≡ count_below f n + number (f n)
count_next f n = let z : 0 + n ≡ n = omega arith in
    let more = count_more f 0 n in
    let here = ap (λ (k : ℕ). number (f k)) z in
    omega (arith, more, here)

-- tests that are the same below a number count the same
pub count_same : (f g : ℕ → Bool) (n : ℕ) → ((j : ℕ) → j < n → f j ≡ g j)
    → count_below f n ≡ count_below g n
count_same f g zero same = refl
count_same f g (suc n) same =
    let e : suc n ≡ n + 1 = omega arith in
    let rest = count_same f g n (λ j l. same j (omega (arith, l))) in
    let here = ap number (same n (omega arith)) in
    let a = count_next f n in let b = count_next g n in
    ap (count_below f) e ∙ (let x : count_below f (n + 1) ≡ count_below g (n + 1) =
    omega (arith, a, b, here, rest) in x) ∙ sym (ap (count_below g) e)

-- a number below that passes no more
pub count_less : (f g : ℕ → Bool) (id d : ℕ) → ((j : ℕ) → j ≢ id → f j ≡ g j) → g id ≡ false
    → count_below f (id + 1 + d) ≡ count_below g (id + 1 + d) + number (f id)
count_less f g id zero same not =
    let e : id + 1 + 0 ≡ id + 1 = omega arith in
    let rest = count_same f g id (λ j l. same j (λ e. absurd (omega (arith, l, e)))) in
    let none = ap number not in
    let a = count_next f id in let b = count_next g id in
    let x = ap (count_below f) e in let y = ap (count_below g) e in
    omega (arith, a, b, none, rest, x, y)
count_less f g id (suc d) same not =
    let e : id + 1 + suc d ≡ id + 1 + d + 1 = omega arith in
    let rest = count_less f g id d same not in
    let here = ap number (same (id + 1 + d) (λ e. absurd (omega (arith, e)))) in
    let a = count_next f (id + 1 + d) in let b = count_next g (id + 1 + d) in
    let x = ap (count_below f) e in let y = ap (count_below g) e in
    omega (arith, a, b, here, rest, x, y)
