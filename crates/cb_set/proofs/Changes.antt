-- What another content of one position, and another shard at one, leave of a set.
use Rattle.std.proofs.Common.{◌≡◌, ◌≢◌, ℕ, ◌^◌, ◌<◌, ◌≤◌, Bool, true, false, if◌then◌else◌, List, length, get_or, set, Option, Some, None, is_some, ap, sym, ◌∙◌, inl, inr, arith, refl, subst, length-set, get_or-set_same, get_or-set_other}
use Rattle.std.specs.List.{list_any, slice_get}
use Rattle.std.specs.Option.{option_map_or}
use Rattle.std.proofs.lemmas.Bool.{cases_eq, cases_lt}
use Rattle.std.proofs.lemmas.List.{get_or_past, length-replicate, set-set}
use Rattle.std.proofs.lemmas.List.Folds.{list_any_at}
use Rattle.std.proofs.lemmas.Option.{get_or_from_slice_get, none-some, slice_get-get_or, slice_get_within}
use Rattle.cb_member.specs.declared.names.Shard.{Shard}
use Rattle.cb_member.specs.Membership.{Membership}
use Rattle.cb_set.specs.SetState.{IsSet, PositionState, SetState, dead_position, fresh_set, parities, position_of, slot_at, with_cleared, with_position, with_shard, without_object, IsRestOf}
use Rattle.cb_set.specs.Lost.{is_lost, lost_at}

-- one position has the new content, and every other its old one
pub position_here : (set : SetState) (p : ℕ) (content : PositionState) → p < length set.positions
    → position_of (with_position set p content) p ≡ content
position_here set p content within = get_or-set_same set.positions p content dead_position within

pub position_else : (set : SetState) (p q : ℕ) (content : PositionState) → q ≢ p
    → position_of (with_position set p content) q ≡ position_of set q
position_else set p q content off = get_or-set_other set.positions p q content dead_position off

-- the same of a position that died
pub dead_here : (set : SetState) (p : ℕ) → p < length set.positions
    → position_of (with_position set p dead_position) p ≡ dead_position
dead_here set p within = position_here set p dead_position within

pub dead_else : (set : SetState) (p q : ℕ) → q ≢ p
    → position_of (with_position set p dead_position) q ≡ position_of set q
dead_else set p q off = position_else set p q dead_position off

-- the last content of a position stays
pub position_twice : (set : SetState) (p : ℕ) (a b : PositionState)
    → with_position (with_position set p a) p b ≡ with_position set p b
position_twice set p a b =
    ap (λ (l : List PositionState). record set { positions = l }) (set-set set.positions p a b)

-- a position whose last object was taken out is dead
pub without_last : (content : PositionState) (slot : ℕ)
    → list_any (λ x. is_some x) (with_cleared content slot).slots ≡ false
    → without_object content slot ≡ dead_position
without_last content slot none =
    ap (λ (b : Bool). if b then with_cleared content slot else dead_position) none

-- what a position has that lost an object, or all
pub dead_is_rest : (old : PositionState) → IsRestOf old dead_position
dead_is_rest old = record {
  named = λ slot h e. absurd (no_slot slot h e);
  sized = λ slot h e. absurd (no_slot slot h e);
  live = refl;
}
  where
    no_slot : (slot h : ℕ) → get_or dead_position.slots slot None ≡ Some h → ⊥
    no_slot slot h e = none-some h (sym (get_or_past dead_position.slots slot None (omega arith))
        ∙ e)

pub rest_without : (old : PositionState) (slot : ℕ)
    → old.live ≡ list_any (λ x. is_some x) old.slots → old.live ≡ true
    → IsRestOf old (without_object old slot)
rest_without old slot live on = by (list_any (λ x. is_some x) (with_cleared old slot).slots) refl
  where
    left : PositionState
    left = with_cleared old slot

    still : (b : Bool) → list_any (λ x. is_some x) left.slots ≡ b → (q h : ℕ)
        → get_or left.slots q None ≡ Some h → get_or old.slots q None ≡ Some h
    still b any q h e = elim (cases_eq q slot) [
      | inl here ↦ elim (cases_lt q (length old.slots)) [
        | inl within ↦ absurd (none-some h (sym (ap (λ (n : ℕ). get_or left.slots n None) here
            ∙ get_or-set_same old.slots slot None None
            (subst (λ (n : ℕ). n < length old.slots) here within)) ∙ e))
        | inr past ↦ absurd (none-some h (sym (get_or_past left.slots q None
            (let n = length-set old.slots slot None in omega (arith, n, past))) ∙ e))
      ]
      | inr off ↦ sym (get_or-set_other old.slots slot q None None off) ∙ e
    ]

    by : (b : Bool) → list_any (λ x. is_some x) left.slots ≡ b
        → IsRestOf old (without_object old slot)
    by true any = subst (IsRestOf old) (sym (ap (λ (b : Bool). if b then left else dead_position) any))
        (record {
          named = still true any;
          sized = λ q h e. length-set old.slots slot None;
          live = on ∙ sym any;
        })
    by false any = subst (IsRestOf old) (sym (without_last old slot any)) (dead_is_rest old)

-- a slot that is still named stands at another position
pub named_else : (set : SetState) (p q slot h : ℕ) → p < length set.positions
    → slot_at (with_position set p dead_position) q slot ≡ Some h
    → (q ≢ p) × (slot_at set q slot ≡ Some h)
named_else set p q slot h within named =
    let new = with_position set p dead_position in
    let off : q ≢ p = λ here. none-some h (sym
    (ap (λ (n : ℕ). get_or (position_of new n).slots slot None) here
    ∙ ap (λ (c : PositionState). get_or c.slots slot None) (dead_here set p within)) ∙ named) in (
      off,
      ap (λ (c : PositionState). get_or c.slots slot None) (sym (dead_else set p q off)) ∙ named,
    )

-- a slot table of which a slot is named names a handle
pub named_live : (slots : List (Option ℕ)) (slot h : ℕ) → get_or slots slot None ≡ Some h
    → list_any (λ x. is_some x) slots ≡ true
named_live slots slot h named = elim (cases_lt slot (length slots)) [
  | inl within ↦ list_any_at (λ x. is_some x) slots slot None within (ap is_some named)
  | inr past ↦ absurd (none-some h (sym (get_or_past slots slot None past) ∙ named))
]

-- one position has the new shard, and every other its old one
pub shard_here : (shards : List Shard) (p : ℕ) (shard : Shard) → p < length shards
    → slice_get (set shards p shard) p ≡ Some shard
shard_here shards p shard within =
    slice_get-get_or (set shards p shard) p shard (omega (arith, length-set shards p shard, within))
    ∙ ap Some (get_or-set_same shards p shard shard within)

pub shard_else : (shards : List Shard) (p q : ℕ) (shard other : Shard) → q ≢ p
    → slice_get (set shards p shard) q ≡ Some other → slice_get shards q ≡ Some other
shard_else shards p q shard other off at =
    let within = slice_get_within (set shards p shard) q other at in
    slice_get-get_or shards q shard (omega (arith, length-set shards p shard, within))
    ∙ ap Some (sym (get_or-set_other shards p q shard shard off)
    ∙ get_or_from_slice_get (set shards p shard) q other shard at)

-- whether a position's shard is lost, by that shard
pub lost_at-shard : (m : Membership) (shards : List Shard) (p : ℕ) (shard : Shard)
    → slice_get shards p ≡ Some shard → lost_at m shards p ≡ is_lost m shard
lost_at-shard m shards p shard at = ap (λ o. option_map_or (is_lost m) o false) at

-- a set stays one
pub IsSet-fresh_set : (id k pages : ℕ) (shards : List Shard) → k ≤ length shards
    → length shards < 2 ^ 32 → IsSet (fresh_set id k pages shards)
IsSet-fresh_set id k pages shards fits small = record {
  data_first = omega (arith, fits, length-replicate {A = PositionState} k dead_position);
  numbered = small;
}

pub IsSet-with_position : (set : SetState) (p : ℕ) (content : PositionState) → IsSet set
    → IsSet (with_position set p content)
IsSet-with_position set p content valid = record {
  data_first = omega (arith, valid.data_first, length-set set.positions p content);
  numbered = valid.numbered;
}

pub IsSet-with_shard : (set : SetState) (p : ℕ) (shard : Shard) → IsSet set
    → IsSet (with_shard set p shard)
IsSet-with_shard set p shard valid = record {
  data_first = omega (arith, valid.data_first, length-set set.shards p shard);
  numbered = omega (arith, valid.numbered, length-set set.shards p shard);
}

-- changes of positions and of shards leave the parities
pub parities-with_position : (set : SetState) (p : ℕ) (content : PositionState)
    → parities (with_position set p content) ≡ parities set
parities-with_position set p content = omega (arith, length-set set.positions p content)

pub parities-with_shard : (set : SetState) (p : ℕ) (shard : Shard)
    → parities (with_shard set p shard) ≡ parities set
parities-with_shard set p shard = omega (arith, length-set set.shards p shard)
