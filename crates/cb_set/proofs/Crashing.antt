-- What a crash does to the lost shards of a list.
use Rattle.std.proofs.Common.{◌≡◌, ◌≢◌, ℕ, suc, ◌+◌, ◌≤◌, Bool, true, false, List, [], ◌∷◌, length, Option, Some, is_some, if◌then◌else◌, refl, ap, sym, ◌∙◌, inl, inr, arith}
use Rattle.std.specs.List.{slice_get, cons_option}
use Rattle.std.proofs.lemmas.Bool.{cases_eq}
use Rattle.std.proofs.lemmas.Option.{get_or_from_slice_get, slice_get_within}
use Rattle.cb_member.specs.declared.names.NodeId.{NodeId}
use Rattle.cb_member.specs.declared.names.Loss.{Loss}
use Rattle.cb_member.specs.declared.names.Shard.{Shard}
use Rattle.cb_member.specs.Membership.{Membership, with_crash}
use Rattle.cb_set.specs.Lost.{loss_of, lost}
use Rattle.cb_set.specs.Nodes.{OnDistinctNodes}
use Rattle.cb_set.proofs.Losing.{length-cons_option, loss_of-with_crash_other_node}

-- a crash of a node that no shard stands on leaves the lost list
pub crash_elsewhere : (m : Membership) (node : NodeId) (shards : List Shard)
    → ((p : ℕ) (shard : Shard) → slice_get shards p ≡ Some shard → shard.node.n ≢ node.n)
    → lost (with_crash m node) shards ≡ lost m shards
crash_elsewhere m node [] off = refl
crash_elsewhere m node (x ∷ xs) off =
    ap (λ o. cons_option o (lost (with_crash m node) xs))
    (loss_of-with_crash_other_node m node x (off 0 x refl))
    ∙ ap (cons_option (loss_of m x))
    (crash_elsewhere m node xs (λ p shard at. off (suc p) shard at))

flag-le : (b : Bool) → (if b then 1 else 0) ≤ 1
flag-le true = omega arith
flag-le false = omega arith

-- a crash lengthens the lost list of shards on distinct nodes by one at the most
pub crash_adds_one : (m : Membership) (node : NodeId) (shards : List Shard)
    → OnDistinctNodes shards
    → length (lost (with_crash m node) shards) ≤ length (lost m shards) + 1
crash_adds_one m node [] distinct = omega arith
crash_adds_one m node (x ∷ xs) distinct =
    let n = with_crash m node in
    elim (cases_eq x.node.n node.n) [
      | inl here ↦
          let rest : lost n xs ≡ lost m xs =
          crash_elsewhere m node xs (λ p shard at same.
          distinct 0 (suc p) shard (omega arith) (omega (arith, slice_get_within xs p shard at))
          (here ∙ sym same
          ∙ ap (λ (s : Shard). s.node.n) (sym (get_or_from_slice_get xs p shard shard at)))) in
          omega (
            arith,
            length-cons_option (loss_of n x) (lost n xs),
            length-cons_option (loss_of m x) (lost m xs),
            ap length rest,
            flag-le (is_some (loss_of n x)),
          )
      | inr off ↦
          let head : loss_of n x ≡ loss_of m x = loss_of-with_crash_other_node m node x off in
          let tail : length (lost n xs) ≤ length (lost m xs) + 1 =
          crash_adds_one m node xs (λ i j d before within.
          distinct (suc i) (suc j) d (omega arith) (omega arith)) in
          let first = ap {B = ℕ} (λ (o : Option Loss). if is_some o then 1 else 0) head in
          omega (
            arith,
            length-cons_option (loss_of n x) (lost n xs),
            length-cons_option (loss_of m x) (lost m xs),
            first,
            tail,
          )
    ]
