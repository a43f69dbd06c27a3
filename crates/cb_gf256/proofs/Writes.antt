-- A loop that fills a list: what holds of the places below i holds of those below i + 1 once place i is written.
use Rattle.std.proofs.Common.{◌≡◌, ℕ, ◌+◌, ◌<◌, List, length, get_or, set, sym, subst, ⊎_elim, arith}
use Rattle.std.proofs.lemmas.Bool.{cases_lt}
use Rattle.std.proofs.lemmas.List.{get_or-set_same, get_or-set_other}

pub below_more_set : {X : Type 0} (P : ℕ → X → Type 0) (xs : List X) (i : ℕ) (v d : X) → i < length xs → ((m : ℕ) → m < i → P m (get_or xs m d)) → P i v → (m : ℕ) → m < i + 1 → P m (get_or (set xs i v) m d)
below_more_set P xs i v d within below here m l =
    ⊎_elim
    (λ k. subst (P m) (sym (get_or-set_other xs i m v d (λ s. omega arith))) (below m k))
    (λ k. let same : i ≡ m = omega arith in subst (λ n. P n (get_or (set xs i v) n d)) same (subst (P i) (sym (get_or-set_same xs i v d within)) here))
    (cases_lt m i)
