-- The shards put at some positions, in order.
use Rattle.std.proofs.Common.{◌≡◌, ◌≢◌, ℕ, zero, suc, ◌+◌, ◌<◌, Bool, true, false, nat_eq, ◌||◌, List, [], ◌∷◌, ◌++◌, length, take, drop, get_or, Option, Some, None, refl, ap, sym, ◌∙◌, subst, arith, inl, inr, append_assoc, length-drop, ◌-◌, eq-eqb}
use Rattle.std.specs.List.{slice_get}
use Rattle.std.proofs.lemmas.Bool.{false≢true, cases_lt}
use Rattle.std.proofs.lemmas.List.{get_or-drop, get_or-take, length-take-le, take_more}
use Rattle.std.proofs.lemmas.List.Folds.{list_any-append}
use Rattle.std.proofs.lemmas.Option.{none-some, same_Some, slice_get-get_or, slice_get_within, get_or_from_slice_get}
use Rattle.cb_member.specs.declared.names.NodeId.{NodeId}
use Rattle.cb_member.specs.declared.names.Shard.{Shard}
use Rattle.cb_world.specs.Choices.{stands_on}
use Rattle.cb_world.specs.Reserved.{put_shards}
use Rattle.cb_evict.specs.ShipRule.{other_puts}

-- of positions one after another
pub puts_append : (xs ys : List (Option Shard))
    → put_shards (xs ++ ys) ≡ put_shards xs ++ put_shards ys
puts_append [] ys = refl
puts_append (None ∷ xs) ys = puts_append xs ys
puts_append (Some shard ∷ xs) ys = ap (λ (l : List Shard). shard ∷ l) (puts_append xs ys)

-- one position more
pub puts_more : (start : List Shard) (shards : List (Option Shard)) (n : ℕ) → n < length shards
    → start ++ put_shards (take (n + 1) shards)
    ≡ (start ++ put_shards (take n shards)) ++ put_shards (get_or shards n None ∷ [])
puts_more start shards n within =
    ap (λ (l : List (Option Shard)). start ++ put_shards l) (take_more shards n None within)
    ∙ ap (λ (l : List Shard). start ++ l) (puts_append (take n shards) (get_or shards n None ∷ []))
    ∙ sym (append_assoc start (put_shards (take n shards)) (put_shards (get_or shards n None ∷ [])))

neither : (a b : Bool) → a || b ≡ false → (a ≡ false) × (b ≡ false)
neither true b e = absurd (false≢true (sym e))
neither false b e = (refl, e)

-- a node on which none of them stands is not that of a shard among them
head_off : (a : Shard) (shards : List Shard) (node : NodeId) → stands_on (a ∷ shards) node ≡ false
    → (a.node.n ≢ node.n) × (stands_on shards node ≡ false)
head_off a shards node e =
    let x = neither (nat_eq a.node.n node.n) (stands_on shards node) e in
    ((λ same. false≢true (sym x.0 ∙ eq-eqb a.node.n node.n same)), x.1)

put_off : (shards : List (Option Shard)) (q : ℕ) (a : Shard) (node : NodeId)
    → stands_on (put_shards shards) node ≡ false → slice_get shards q ≡ Some (Some a)
    → a.node.n ≢ node.n
put_off [] q a node off at = absurd (none-some (Some a) at)
put_off (None ∷ shards) zero a node off at = absurd (none-some a (same_Some None (Some a) at))
put_off (None ∷ shards) (suc q) a node off at = put_off shards q a node off at
put_off (Some b ∷ shards) zero a node off at =
    subst (λ (c : Shard). c.node.n ≢ node.n)
    (same_Some b a (same_Some (Some b) (Some a) at)) (head_off b (put_shards shards) node off).0
put_off (Some b ∷ shards) (suc q) a node off at =
    put_off shards q a node (head_off b (put_shards shards) node off).1 at

-- a node on which no other position's shard stands is not that of another position
pub others_off : (shards : List (Option Shard)) (p q : ℕ) (a : Shard) (node : NodeId)
    → p < length shards → stands_on (other_puts shards p) node ≡ false → q ≢ p
    → slice_get shards q ≡ Some (Some a) → a.node.n ≢ node.n
others_off shards p q a node within off other at = elim (cases_lt q p) [
  | inl before ↦
      let n = length-take-le p shards (omega (arith, within)) in
      put_off (take p shards) q a node sides.0
      (slice_get-get_or (take p shards) q None (omega (arith, n, before))
      ∙ ap Some (get_or-take p shards q None before
      ∙ get_or_from_slice_get shards q (Some a) None at))
  | inr behind ↦
      let l = slice_get_within shards q (Some a) at in
      let n = length-drop (p + 1) shards in
      let e : (p + 1) + (q - (p + 1)) ≡ q = omega (arith, behind, other) in
      put_off (drop (p + 1) shards) (q - (p + 1)) a node sides.1
      (slice_get-get_or (drop (p + 1) shards) (q - (p + 1)) None
      (omega (arith, n, l, behind, other))
      ∙ ap Some (get_or-drop (p + 1) shards (q - (p + 1)) None
      ∙ ap (λ (k : ℕ). get_or shards k None) e
      ∙ get_or_from_slice_get shards q (Some a) None at))
]
  where
    sides : (stands_on (put_shards (take p shards)) node ≡ false)
        × (stands_on (put_shards (drop (p + 1) shards)) node ≡ false)
    sides = neither (stands_on (put_shards (take p shards)) node)
        (stands_on (put_shards (drop (p + 1) shards)) node)
        (sym (list_any-append (λ b. nat_eq b.node.n node.n) (put_shards (take p shards))
        (put_shards (drop (p + 1) shards))) ∙ off)
