-- The lost shards of a list: how many there are, and what a crash, a join and another shard change.
use Rattle.std.proofs.Common.{◌≡◌, ℕ, ◌+◌, ◌<◌, ◌≢◌, true, false, List, [], ◌∷◌, ◌++◌, length, take, get_or, set, Option, Some, None, is_some, zero, suc, if◌then◌else◌, refl, ap, sym, ◌∙◌, arith}
use Rattle.std.specs.List.{filter_map, cons_option, count_by, position_or_len}
use Rattle.std.specs.Prelude.{slice_get}
use Rattle.std.specs.Option.{option_map}
use Rattle.std.proofs.lemmas.Bool.{false≢true, le-ltb, lt-ltb}
use Rattle.std.proofs.lemmas.List.{nil_from_length, take_more}
use Rattle.std.proofs.lemmas.List.Elements.{filter_map-append}
use Rattle.std.proofs.lemmas.List.Sums.{position_or_len_is, sum_by-cons, sum_by-set}
use Rattle.std.proofs.lemmas.Option.{none-some, same_Some}
use Rattle.cb_member.specs.declared.names.Loss.{Loss}
use Rattle.cb_member.specs.declared.names.NodeId.{NodeId}
use Rattle.cb_member.specs.declared.names.Shard.{Shard}
use Rattle.cb_member.specs.Membership.{Membership, alive, incarnation, next_epoch, with_crash, with_join, crashed_at, IsMembership}
use Rattle.cb_member.proofs.Laws.{crash_ends_its_incarnation, crash_keeps_other_incarnations, crash_keeps_other_nodes, join_keeps_crashes}
use Rattle.cb_set.specs.Lost.{is_lost, least_lost, loss_of, lost}

-- one shard more
pub lost_more : (m : Membership) (shards : List Shard) (i : ℕ) (d : Shard) → i < length shards
    → lost m (take (i + 1) shards)
    ≡ lost m (take i shards) ++ cons_option (loss_of m (get_or shards i d)) []
lost_more m shards i d within =
    ap (filter_map (loss_of m)) (take_more shards i d within)
    ∙ filter_map-append (loss_of m) (take i shards) (get_or shards i d ∷ [])

pub length-cons_option : {X : Type 0} (o : Option X) (xs : List X)
    → length (cons_option o xs) ≡ (if is_some o then 1 else 0) + length xs
length-cons_option None xs = omega arith
length-cons_option (Some x) xs = omega arith

-- the lost list has an entry for each shard that is lost
pub length-lost : (m : Membership) (shards : List Shard)
    → length (lost m shards) ≡ count_by (is_lost m) shards
length-lost m [] = refl
length-lost m (x ∷ xs) =
    omega (
      arith,
      length-cons_option (loss_of m x) (lost m xs),
      length-lost m xs,
      sum_by-cons (λ s. if is_lost m s then 1 else 0) x xs,
    )

-- another shard in place of one changes the count by these two alone
pub length-lost-set : (m : Membership) (shards : List Shard) (i : ℕ) (shard d : Shard)
    → i < length shards
    → length (lost m (set shards i shard)) + (if is_lost m (get_or shards i d) then 1 else 0)
    ≡ length (lost m shards) + (if is_lost m shard then 1 else 0)
length-lost-set m shards i shard d within =
    omega (
      arith,
      length-lost m (set shards i shard),
      length-lost m shards,
      sum_by-set (λ s. if is_lost m s then 1 else 0) shards i shard d within,
    )

-- a crash loses the node's shards of the incarnation that it ends
pub loss_of-with_crash_here : (m : Membership) (shard : Shard) → IsMembership m
    → shard.node.n < length m.nodes → alive m shard.node ≡ true
    → shard.incarnation ≡ incarnation m shard.node
    → loss_of (with_crash m shard.node) shard
    ≡ Some (record { node = shard.node; epoch = next_epoch m })
loss_of-with_crash_here m shard valid within up current =
    ap (option_map (λ epoch. record { node = shard.node; epoch = epoch }))
    (ap (crashed_at (with_crash m shard.node) shard.node) current
    ∙ crash_ends_its_incarnation m shard.node valid within up)

-- and no others
pub loss_of-with_crash_other_incarnation : (m : Membership) (shard : Shard) → IsMembership m
    → shard.node.n < length m.nodes → alive m shard.node ≡ true
    → shard.incarnation ≢ incarnation m shard.node
    → loss_of (with_crash m shard.node) shard ≡ loss_of m shard
loss_of-with_crash_other_incarnation m shard valid within up other =
    ap (option_map (λ epoch. record { node = shard.node; epoch = epoch }))
    (crash_keeps_other_incarnations m shard.node shard.incarnation valid within up other)

pub loss_of-with_crash_other_node : (m : Membership) (node : NodeId) (shard : Shard)
    → shard.node.n ≢ node.n → loss_of (with_crash m node) shard ≡ loss_of m shard
loss_of-with_crash_other_node m node shard other =
    ap (option_map (λ epoch. record { node = shard.node; epoch = epoch }))
    (crash_keeps_other_nodes m node shard.node shard.incarnation other)

-- a join loses no shard and brings none back
pub lost-with_join : (m : Membership) (node : NodeId) (shards : List Shard)
    → node.n < length m.nodes → lost (with_join m node) shards ≡ lost m shards
lost-with_join m node [] within = refl
lost-with_join m node (x ∷ xs) within =
    let here : loss_of (with_join m node) x ≡ loss_of m x =
    ap (option_map (λ epoch. record { node = x.node; epoch = epoch }))
    (join_keeps_crashes m node x.node x.incarnation within) in
    ap (λ o. cons_option o (lost (with_join m node) xs)) here
    ∙ ap (cons_option (loss_of m x)) (lost-with_join m node xs within)

-- a lost position below which none is lost is the least
pub least_lost-is : (m : Membership) (shards : List Shard) (i : ℕ) (d : Shard) → i < length shards
    → is_lost m (get_or shards i d) ≡ true
    → ((k : ℕ) → k < i → is_lost m (get_or shards k d) ≡ false) → least_lost m shards ≡ Some i
least_lost-is m shards i d within here before =
    let place : position_or_len (is_lost m) shards ≡ i =
    position_or_len_is (is_lost m) shards i d (omega arith) before (λ _. here) in
    rw (place, lt-ltb i (length shards) within) refl

pub least_lost-none : (m : Membership) (shards : List Shard) (d : Shard)
    → ((k : ℕ) → k < length shards → is_lost m (get_or shards k d) ≡ false)
    → least_lost m shards ≡ None
least_lost-none m shards d kept =
    let place : position_or_len (is_lost m) shards ≡ length shards =
    position_or_len_is (is_lost m) shards (length shards) d (omega arith) kept
    (λ h. absurd (omega arith)) in
    rw (place, le-ltb (length shards) (length shards) (omega arith)) refl

-- where the lost list is empty, no shard is lost
pub whole_none : (m : Membership) (shards : List Shard) → lost m shards ≡ []
    → (p : ℕ) (shard : Shard) → slice_get shards p ≡ Some shard → is_lost m shard ≡ false
whole_none m [] none p shard at = absurd (none-some shard at)
whole_none m (x ∷ xs) none zero shard at =
    head (loss_of m x) none
    (ap (is_lost m) (same_Some x shard at))
  where
    head : (o : Option Loss) → cons_option o (lost m xs) ≡ [] → is_some o ≡ is_lost m shard
        → is_lost m shard ≡ false
    head None e same = sym same
    head (Some y) e same = absurd (omega (arith, ap length e))
whole_none m (x ∷ xs) none (suc p) shard at =
    whole_none m xs (tail (loss_of m x) none) p shard at
  where
    tail : (o : Option Loss) → cons_option o (lost m xs) ≡ [] → lost m xs ≡ []
    tail None e = e
    tail (Some y) e = absurd (omega (arith, ap length e))

-- and where no shard is lost, the list is empty
pub none_whole : (m : Membership) (shards : List Shard)
    → ((p : ℕ) (shard : Shard) → slice_get shards p ≡ Some shard → is_lost m shard ≡ false)
    → lost m shards ≡ []
none_whole m [] kept = refl
none_whole m (x ∷ xs) kept =
    head (loss_of m x) (kept 0 x refl) ∙ none_whole m xs (λ p shard at. kept (suc p) shard at)
  where
    head : (o : Option Loss) → is_some o ≡ false → cons_option o (lost m xs) ≡ lost m xs
    head None e = refl
    head (Some y) e = absurd (false≢true (sym e))

pub whole_by_count : (m : Membership) (shards : List Shard) → length (lost m shards) ≡ 0
    → lost m shards ≡ []
whole_by_count m shards none = nil_from_length (lost m shards) none
