-- Rows put at fresh keys: what stands where.
use Rattle.std.proofs.Common.{◌≡◌, ◌⊎◌, ℕ, zero, suc, List, [], ◌∷◌, length, Some, sym, refl, ap, ◌∙◌, arith, inl, inr, length-set}
use Rattle.std.specs.List.{slice_get}
use Rattle.std.proofs.lemmas.Bool.{cases_eq}
use Rattle.cb_member.specs.declared.names.NodeId.{NodeId}
use Rattle.cb_member.specs.declared.names.Shard.{Shard}
use Rattle.cb_node.specs.NodesState.{NodesState, with_row, row_under}
use Rattle.cb_node.proofs.Laws.{put_keeps_other_rows}
use Rattle.cb_world.specs.Stored.{all_put}
use Rattle.cb_world.proofs.Storing.{InRange}

-- the shard names that row
abbrev pub NamesRowAt : List Shard → NodeId → ℕ → ℕ → Shard → Type 0
NamesRowAt shards node key p shard = (slice_get shards p ≡ Some shard) × (shard.node.n ≡ node.n)
    × (shard.key ≡ key)

pub named_or_not : (shards : List Shard) (node : NodeId) (key : ℕ)
    → ((p : ℕ) × (shard : Shard) × NamesRowAt shards node key p shard)
    ⊎ ((p : ℕ) (shard : Shard) → NamesRowAt shards node key p shard → ⊥)
named_or_not [] node key = inr (λ p shard is. none_some p shard is.0)
  where
    none_some : (p : ℕ) (shard : Shard) → slice_get [] p ≡ Some shard → ⊥
    none_some p shard e = cc
named_or_not (x ∷ xs) node key = elim (named_or_not xs node key) [
  | inl (p, shard, is) ↦ inl (suc p, shard, is)
  | inr none ↦ elim (cases_eq x.node.n node.n) [
    | inl n ↦ elim (cases_eq x.key key) [
      | inl k ↦ inl (0, x, (refl, n, k))
      | inr off ↦ inr (λ p shard is. first none (λ both. off both.1) p shard is)
    ]
    | inr off ↦ inr (λ p shard is. first none (λ both. off both.0) p shard is)
  ]
]
  where
    some_same : (a b : Shard) → Some a ≡ Some b → a ≡ b
    some_same a b e = cc

    first : ((p : ℕ) (shard : Shard) → NamesRowAt xs node key p shard → ⊥)
        → ((x.node.n ≡ node.n) × (x.key ≡ key) → ⊥) → (p : ℕ) (shard : Shard)
        → NamesRowAt (x ∷ xs) node key p shard → ⊥
    first none not zero shard is = let e =
        some_same x shard is.0 in
        not (ap (λ (s : Shard). s.node.n) e ∙ is.1, ap (λ (s : Shard). s.key) e ∙ is.2)
    first none not (suc p) shard is = none p shard is

-- a row that no shard names stays
pub put_past : (nodes : NodesState) (shards : List Shard) (rows : List (List ℕ)) (node : NodeId)
    (key : ℕ) → InRange nodes shards
    → ((p : ℕ) (shard : Shard) → NamesRowAt shards node key p shard → ⊥)
    → row_under (all_put nodes shards rows) node key ≡ row_under nodes node key
put_past nodes [] rows node key range none = refl
put_past nodes (x ∷ xs) [] node key range none = refl
put_past nodes (x ∷ xs) (row ∷ rows) node key range none =
    put_past (with_row nodes x.node x.key row) xs rows node key (λ p shard at.
    let n : length (with_row nodes x.node x.key row).nodes ≡ length nodes.nodes =
    length-set nodes.nodes x.node.n _ in
    omega (arith, n, range (suc p) shard at)) (λ p shard is. none (suc p) shard is)
    ∙ put_keeps_other_rows nodes x.node node x.key key row (range 0 x refl) (λ same.
    none 0 x (refl, sym same.0, sym same.1))

-- each row after the puts was there before, or is one of those that were put
pub put_only : (nodes : NodesState) (shards : List Shard) (rows : List (List ℕ)) (node : NodeId)
    (key : ℕ) (row : List ℕ) → InRange nodes shards
    → row_under (all_put nodes shards rows) node key ≡ Some row
    → (row_under nodes node key ≡ Some row)
    ⊎ ((p : ℕ) × (shard : Shard) × (slice_get shards p ≡ Some shard) × (shard.node.n ≡ node.n)
    × (shard.key ≡ key))
put_only nodes shards rows node key row range at = elim (named_or_not shards node key) [
  | inl (p, shard, is) ↦ inr (p, shard, is.0, is.1, is.2)
  | inr none ↦ inl (sym (put_past nodes shards rows node key range none) ∙ at)
]
