-- The rows beside which new ones stand are dropped one after another.
use Rattle.std.proofs.Common.{◌≡◌, ℕ, zero, suc, ◌+◌, ◌<◌, ◌≤◌, List, [], ◌∷◌, length, drop, get_or, Option, None, Some, sym, refl, ap, ◌∙◌, arith, drop-cons}
use Rattle.cb_member.specs.declared.names.Shard.{Shard}
use Rattle.cb_node.specs.NodesState.{NodesState}
use Rattle.cb_world.specs.Stored.{all_dropped}
use Rattle.cb_compact.specs.MergeStep.{replaced_shards}

replaced_one : (nodes : NodesState) (step : Option Shard) (old : Shard)
    (steps : List (Option Shard)) (olds : List Shard)
    → all_dropped (all_dropped nodes (replaced_shards (step ∷ []) (old ∷ [])))
    (replaced_shards steps olds) ≡ all_dropped nodes (replaced_shards (step ∷ steps) (old ∷ olds))
replaced_one nodes None old steps olds = refl
replaced_one nodes (Some shard) old steps olds = refl

pub replaced_more : (nodes : NodesState) (steps : List (Option Shard)) (olds : List Shard) (i : ℕ)
    (d : Option Shard) (e : Shard) → i < length steps → i < length olds
    → all_dropped (all_dropped nodes (replaced_shards (get_or steps i d ∷ []) (get_or olds i e ∷
    [])))
    (replaced_shards (drop (i + 1) steps) (drop (i + 1) olds))
    ≡ all_dropped nodes (replaced_shards (drop i steps) (drop i olds))
replaced_more nodes steps olds i d e within inside =
    let next : suc i ≡ i + 1 = omega arith in
    replaced_one nodes (get_or steps i d) (get_or olds i e) (drop (i + 1) steps) (drop (i + 1)
    olds)
    ∙ sym (ap (λ (l : List (Option Shard)). all_dropped nodes (replaced_shards l (drop i olds)))
    (drop-cons steps i d within ∙ ap (λ (n : ℕ). get_or steps i d ∷ drop n steps) next)
    ∙ ap (λ (l : List Shard). all_dropped nodes
    (replaced_shards (get_or steps i d ∷ drop (i + 1) steps) l))
    (drop-cons olds i e inside ∙ ap (λ (n : ℕ). get_or olds i e ∷ drop n olds) next))

pub replaced_end : (nodes : NodesState) (steps : List (Option Shard)) (olds : List Shard) (i : ℕ)
    → length steps ≤ i → nodes ≡ all_dropped nodes (replaced_shards (drop i steps) (drop i olds))
replaced_end nodes steps olds i past =
    sym (ap (λ (l : List (Option Shard)). all_dropped nodes (replaced_shards l (drop i olds)))
    (nothing_left steps i past))
  where
    nothing_left : (xs : List (Option Shard)) (n : ℕ) → length xs ≤ n → drop n xs ≡ []
    nothing_left [] zero l = refl
    nothing_left [] (suc n) l = refl
    nothing_left (x ∷ xs) zero l = absurd (omega (arith, l))
    nothing_left (x ∷ xs) (suc n) l = nothing_left xs n (omega (arith, l))
