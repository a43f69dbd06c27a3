-- A loop that writes at one place after another: what holds at the places of the steps below i holds after step i too.
use Rattle.std.proofs.Common.{◌≡◌, ◌≢◌, ℕ, ◌+◌, ◌<◌, List, length, get_or, set, sym, subst, ⊎_elim, arith}
use Rattle.std.proofs.lemmas.Bool.{cases_lt}
use Rattle.std.proofs.lemmas.List.{get_or-set_same, get_or-set_other}

pub placed_more : {X : Type 0} (P : ℕ → X → Type 0) (place : ℕ → ℕ) (xs : List X) (i : ℕ) (v d : X) → place i < length xs → ((m : ℕ) → m < i → place m ≢ place i) → ((m : ℕ) → m < i → P m (get_or xs (place m) d)) → P i v → (m : ℕ) → m < i + 1 → P m (get_or (set xs (place i) v) (place m) d)
placed_more P place xs i v d within apart below here m l =
    ⊎_elim
    (λ k. subst (P m) (sym (get_or-set_other xs (place i) (place m) v d (apart m k))) (below m k))
    (λ k. let same : i ≡ m = omega arith in subst (λ n. P n (get_or (set xs (place i) v) (place n) d)) same (subst (P i) (sym (get_or-set_same xs (place i) v d within)) here))
    (cases_lt m i)
