-- Which nodes a set names, and sets on distinct nodes.
use Rattle.std.proofs.Common.{◌≡◌, ◌≢◌, ℕ, ◌+◌, ◌-◌, ◌<◌, ◌||◌, Bool, true, false, List, drop, length, get_or, nat_eq, set, take, refl, sym, ap, ◌∙◌, inl, inr, arith}
use Rattle.std.specs.List.{list_any}
use Rattle.std.proofs.lemmas.Bool.{cases_eq, cases_lt, eq-eqb, false≢true}
use Rattle.std.proofs.lemmas.Grind.{get_or-set_at}
use Rattle.std.proofs.lemmas.List.{get_or-drop, get_or-set_other, get_or-take, length-drop, length-set, length-take}
use Rattle.std.proofs.lemmas.List.Folds.{list_any-append, list_any_at}
use Rattle.cb_member.specs.declared.names.NodeId.{NodeId}
use Rattle.cb_member.specs.declared.names.Shard.{Shard}
use Rattle.cb_set.specs.Nodes.{OnDistinctNodes, names_elsewhere}

-- a shard on a node that no other position names may stand in place of any one
pub OnDistinctNodes-set : (shards : List Shard) (i : ℕ) (shard : Shard) → OnDistinctNodes shards
    → ((k : ℕ) (d : Shard) → k < length shards → k ≢ i
    → (get_or shards k d).node.n ≢ shard.node.n)
    → OnDistinctNodes (set shards i shard)
OnDistinctNodes-set shards i shard distinct spare j k d before within same =
    let inside : k < length shards = omega (arith, length-set shards i shard) in
    elim (cases_eq j i) [
      | inl at_j ↦
          let apart : k ≢ i = omega arith in
          let e = get_or-set_other shards i k shard d apart in
          let here = get_or-set_at shards i j shard d at_j (omega arith) in
          spare k d inside apart (sym (ap (λ s. s.node.n) e) ∙ sym same ∙ ap (λ s. s.node.n) here)
      | inr off_j ↦
          let e = get_or-set_other shards i j shard d off_j in
          elim (cases_eq k i) [
            | inl at_k ↦
                let here = get_or-set_at shards i k shard d at_k (omega arith) in
                spare j d (omega arith) off_j
                (sym (ap (λ s. s.node.n) e) ∙ same ∙ ap (λ s. s.node.n) here)
            | inr off_k ↦
                let f = get_or-set_other shards i k shard d off_k in
                distinct j k d before inside
                (sym (ap (λ s. s.node.n) e) ∙ same ∙ ap (λ s. s.node.n) f)
          ]
    ]

or_true : (a b : Bool) → b ≡ true → (a || b) ≡ true
or_true true b holds = refl
or_true false b holds = holds

-- a node that no other position names is that of no other position
pub spare_node : (shards : List Shard) (node : NodeId) (i : ℕ)
    → names_elsewhere shards node i ≡ false
    → (k : ℕ) (d : Shard) → k < length shards → k ≢ i → (get_or shards k d).node.n ≢ node.n
spare_node shards node i spare k d within other same =
    let names = λ (shard : Shard). nat_eq shard.node.n node.n in
    let here : nat_eq (get_or shards k d).node.n node.n ≡ true =
    eq-eqb (get_or shards k d).node.n node.n same in
    let parts : names_elsewhere shards node i
    ≡ (list_any names (take i shards) || list_any names (drop (i + 1) shards)) =
    list_any-append names (take i shards) (drop (i + 1) shards) in
    elim (cases_lt k i) [
      | inl before ↦
          let found : list_any names (take i shards) ≡ true =
          list_any_at names (take i shards) k d
          (omega (arith, length-take i shards, before, within))
          (ap names (get_or-take i shards k d before) ∙ here) in
          false≢true (sym spare ∙ parts ∙ ap (λ b. b || list_any names (drop (i + 1) shards)) found)
      | inr after ↦
          let place : i + 1 + (k - (i + 1)) ≡ k = omega arith in
          let found : list_any names (drop (i + 1) shards) ≡ true =
          list_any_at names (drop (i + 1) shards) (k - (i + 1)) d
          (omega (arith, length-drop (i + 1) shards, within))
          (ap names (get_or-drop (i + 1) shards (k - (i + 1)) d
          ∙ ap (λ n. get_or shards n d) place) ∙ here) in
          false≢true (sym spare ∙ parts ∙ or_true (list_any names (take i shards)) _ found)
    ]

-- so a shard on such a node keeps the set on distinct nodes
pub spare_keeps_distinct : (shards : List Shard) (i : ℕ) (shard : Shard) → OnDistinctNodes shards
    → names_elsewhere shards shard.node i ≡ false → OnDistinctNodes (set shards i shard)
spare_keeps_distinct shards i shard distinct spare =
    OnDistinctNodes-set shards i shard distinct (spare_node shards shard.node i spare)
