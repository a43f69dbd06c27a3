-- Words read from memory and put there.
use Rattle.std.proofs.Common.{◌≡◌, ◌⊎◌, ℕ, zero, suc, ◌+◌, ◌<◌, ◌≤◌, List, [], ◌∷◌, ◌++◌, length, get_or, set, refl, ap, ◌∙◌, arith, inl, inr, length-set, get_or-set_other, get_or-set_same}
use Rattle.std.proofs.lemmas.List.{set-set, set_comm}
use Rattle.cb_world.specs.Memory.{window, put}

pub length_put : (ms : List ℕ) (p : ℕ) (xs : List ℕ) → length (put ms p xs) ≡ length ms
unfolding put
length_put ms p [] = refl
length_put ms p (x ∷ xs) = length_put (set ms p x) (p + 1) xs ∙ length-set ms p x

-- a word before those that are put, or behind them, is as it was
pub put_else : (ms : List ℕ) (p : ℕ) (xs : List ℕ) (i : ℕ) → (i < p) ⊎ (p + length xs ≤ i)
    → get_or (put ms p xs) i 0 ≡ get_or ms i 0
unfolding put
put_else ms p [] i e = refl
put_else ms p (x ∷ xs) i (inl e) = put_else (set ms p x) (p + 1) xs i (inl (omega arith))
    ∙ get_or-set_other ms p i x 0 (λ q. omega (arith, q, e))
put_else ms p (x ∷ xs) i (inr e) = put_else (set ms p x) (p + 1) xs i (inr (omega (arith, e)))
    ∙ get_or-set_other ms p i x 0 (λ q. omega (arith, q, e))

-- the words that were put are read back
pub put_at : (ms : List ℕ) (p : ℕ) (xs : List ℕ) (i : ℕ) → i < length xs → p + length xs ≤ length ms
    → get_or (put ms p xs) (p + i) 0 ≡ get_or xs i 0
unfolding put
put_at ms p [] i e fits = absurd (omega arith)
put_at ms p (x ∷ xs) zero e fits =
    let at : get_or (put (set ms p x) (p + 1) xs) p 0 ≡ get_or (set ms p x) p 0 =
    put_else (set ms p x) (p + 1) xs p (inl (omega arith)) in
    let zeroth : p + 0 ≡ p = omega arith in
    ap (λ (j : ℕ). get_or (put (set ms p x) (p + 1) xs) j 0) zeroth ∙ at
    ∙ get_or-set_same ms p x 0 (omega (arith, fits))
put_at ms p (x ∷ xs) (suc i) e fits =
    let here : get_or (put (set ms p x) (p + 1) xs) ((p + 1) + i) 0 ≡ get_or xs i 0 =
    put_at (set ms p x) (p + 1) xs i (omega (arith, e)) (omega (
      arith,
      fits,
      length-set ms p x,
    )) in
    let same : p + suc i ≡ (p + 1) + i = omega arith in
    ap (λ (j : ℕ). get_or (put (set ms p x) (p + 1) xs) j 0) same ∙ here

pub window_at : (ms : List ℕ) (p n i : ℕ) → i < n → get_or (window ms p n) i 0 ≡ get_or ms (p + i) 0
unfolding window
window_at ms p zero i e = absurd (omega arith)
window_at ms p (suc n) zero e = ap (λ (j : ℕ). get_or ms j 0) (omega arith)
window_at ms p (suc n) (suc i) e = window_at ms (p + 1) n i (omega (arith, e))
    ∙ ap (λ (j : ℕ). get_or ms j 0) (let q : (p + 1) + i ≡ p + suc i = omega arith in q)

-- a window with one word more
window_next : (ms : List ℕ) (p n : ℕ)
    → window ms p (suc n) ≡ window ms p n ++ get_or ms (p + n) 0 ∷ []
unfolding window
window_next ms p zero =
    ap (λ (i : ℕ). get_or ms i 0 ∷ []) (let q : p ≡ p + 0 = omega arith in q)
window_next ms p (suc n) = ap (λ (l : List ℕ). get_or ms p 0 ∷ l) (window_next ms (p + 1) n
    ∙ ap (λ (i : ℕ). window ms (p + 1) n ++ get_or ms i 0 ∷ [])
    (let q : (p + 1) + n ≡ p + suc n = omega arith in q))

pub window_more : (ms : List ℕ) (p n : ℕ)
    → window ms p (n + 1) ≡ window ms p n ++ get_or ms (p + n) 0 ∷ []
window_more ms p n =
    ap (window ms p) (let q : n + 1 ≡ suc n = omega arith in q) ∙ window_next ms p n

-- two windows whose words agree are one
pub window_same : (ms ns : List ℕ) (p n : ℕ)
    → ((i : ℕ) → p ≤ i → i < p + n → get_or ms i 0 ≡ get_or ns i 0) → window ms p n ≡ window ns p n
unfolding window
window_same ms ns p zero e = refl
window_same ms ns p (suc n) e =
    ap (λ (x : ℕ). x ∷ window ms (p + 1) n) (e p (omega arith) (omega arith))
    ∙ ap (λ (l : List ℕ).
    get_or ns p 0 ∷ l) (window_same ms ns (p + 1) n (λ i low high.
    e i (omega (arith, low)) (omega (arith, high))))

window_of : (ms : List ℕ) (p : ℕ) (xs : List ℕ)
    → ((i : ℕ) → i < length xs → get_or ms (p + i) 0 ≡ get_or xs i 0) → window ms p (length xs) ≡ xs
unfolding window
window_of ms p [] e = refl
window_of ms p (x ∷ xs) e =
    let first : get_or ms p 0 ≡ x =
    ap (λ (j : ℕ). get_or ms j 0) (let q : p ≡ p + 0 = omega arith in q) ∙ e 0 (omega arith) in
    ap (λ (y : ℕ). y ∷ window ms (p + 1) (length xs)) first
    ∙ ap (λ (l : List ℕ).
    x ∷ l) (window_of ms (p + 1) xs (λ i below.
    ap (λ (j : ℕ). get_or ms j 0) (let q : (p + 1) + i ≡ p + suc i = omega arith in q)
    ∙ e (suc i) (omega (arith, below))))

pub window_put : (ms : List ℕ) (p : ℕ) (xs : List ℕ) → p + length xs ≤ length ms
    → window (put ms p xs) p (length xs) ≡ xs
window_put ms p xs fits = window_of (put ms p xs) p xs (λ i below. put_at ms p xs i below fits)

-- a word before those that are put can be changed first
put_early : (ms : List ℕ) (q p : ℕ) (xs : List ℕ) (y : ℕ) → q < p
    → set (put ms p xs) q y ≡ put (set ms q y) p xs
unfolding put
put_early ms q p [] y e = refl
put_early ms q p (x ∷ xs) y e = put_early (set ms p x) q (p + 1) xs y (omega (arith, e))
    ∙ ap (λ (l : List ℕ). put l (p + 1) xs) (set_comm ms p q x y (λ z. omega (arith, z, e)))

-- one of the words that are put is changed
pub set_put : (ms : List ℕ) (p : ℕ) (xs : List ℕ) (i y : ℕ) → i < length xs
    → set (put ms p xs) (p + i) y ≡ put ms p (set xs i y)
unfolding put
set_put ms p [] i y e = absurd (omega arith)
set_put ms p (x ∷ xs) zero y e =
    let at : p + 0 ≡ p = omega arith in
    ap (λ (j : ℕ). set (put (set ms p x) (p + 1) xs) j y) at
    ∙ put_early (set ms p x) p (p + 1) xs y (omega arith)
    ∙ ap (λ (l : List ℕ). put l (p + 1) xs) (set-set ms p x y)
set_put ms p (x ∷ xs) (suc i) y e =
    ap (λ (j : ℕ). set (put (set ms p x) (p + 1) xs) j y) (let q : p + suc i ≡ (p + 1) + i =
    omega arith in q) ∙ set_put (set ms p x) (p + 1) xs i y (omega (arith, e))
