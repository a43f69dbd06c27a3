-- What is known of a committed set of a sound world that has lost shards, and of the least position
-- that is lost.
use Rattle.std.proofs.Common.{◌≡◌, ℕ, ◌<◌, ◌≤◌, Bool, true, false, cond, nat_lt, List, IsSome, Option, Some, None, Bor, length, get_or, is_some, refl, sym, ap, ◌∙◌, arith, inl, inr}
use Rattle.std.specs.Option.{option_map}
use Rattle.std.specs.List.{slice_get, position_or_len}
use Rattle.std.proofs.lemmas.Bool.{cases_lt, false≢true, ltb-true, lt-ltb}
use Rattle.std.proofs.lemmas.List.Sums.{fails_before_first, passes_at_first}
use Rattle.std.proofs.lemmas.Option.{slice_get_within, get_or_from_slice_get}
use Rattle.cb_member.specs.declared.names.Shard.{Shard}
use Rattle.cb_member.specs.Membership.{Membership}
use Rattle.cb_set.specs.SetState.{SetState, parities}
use Rattle.cb_set.specs.Lost.{is_lost, least_lost, lost}
use Rattle.cb_set.proofs.Laws.{none_whole}
use Rattle.cb_world.specs.SetWord.{IsWeak, is_broken}

pub set_same : (a b : SetState) → Some a ≡ Some b → a ≡ b
set_same a b e = cc

-- the set that was looked up is the one that is there
pub found_set : (o : Option (Bor SetState)) (b : Bor SetState) (x : Option SetState)
    (set : SetState) → option_map (λ s. s.now) o ≡ x → o ≡ Some b → x ≡ Some set → b.now ≡ set
found_set o b x set e f there =
    set_same b.now set (sym (ap (λ q. option_map (λ s. s.now) q) f) ∙ e ∙ there)

-- ---- the least lost position
some_same : (a b : ℕ) → Some a ≡ Some b → a ≡ b
some_same a b e = cc

none_some : (a : ℕ) → None ≡ Some a → ⊥
none_some a e = cc

pub least_within : (m : Membership) (shards : List Shard) (p : ℕ) → least_lost m shards ≡ Some p
    → p < length shards
least_within m shards p e =
    by (nat_lt (position_or_len (is_lost m) shards) (length shards)) refl
  where
    n : ℕ
    n = position_or_len (is_lost m) shards

    by : (b : Bool) → nat_lt n (length shards) ≡ b → p < length shards
    by true t = let same = some_same n p (sym (ap (λ b. cond b (Some n) None) t) ∙ e) in
        let l = ltb-true n (length shards) t in omega (arith, same, l)
    by false t = absurd (none_some p (sym (ap (λ b. cond b (Some n) None) t) ∙ e))

pub least_is_lost : (m : Membership) (shards : List Shard) (p : ℕ) (shard : Shard)
    → least_lost m shards ≡ Some p → slice_get shards p ≡ Some shard → is_lost m shard ≡ true
least_is_lost m shards p shard e at =
    by (nat_lt (position_or_len (is_lost m) shards) (length shards)) refl
  where
    n : ℕ
    n = position_or_len (is_lost m) shards

    by : (b : Bool) → nat_lt n (length shards) ≡ b → is_lost m shard ≡ true
    by true t = let same = some_same n p (sym (ap (λ b. cond b (Some n) None) t) ∙ e) in
        ap (is_lost m) (sym (get_or_from_slice_get shards p shard shard at)
        ∙ ap (λ (k : ℕ). get_or shards k shard) (sym same))
        ∙ passes_at_first (is_lost m) shards shard (ltb-true n (length shards) t)
    by false t = absurd (none_some p (sym (ap (λ b. cond b (Some n) None) t) ∙ e))

-- where something is lost there is a least lost position
pub some_least : (m : Membership) (shards : List Shard) → 1 ≤ length (lost m shards)
    → IsSome (least_lost m shards)
some_least m shards some = by (nat_lt (position_or_len (is_lost m) shards) (length shards)) refl
  where
    n : ℕ
    n = position_or_len (is_lost m) shards

    by : (b : Bool) → nat_lt n (length shards) ≡ b → IsSome (least_lost m shards)
    by true t = ap (λ b. is_some (cond b (Some n) None)) t
    by false t = elim (cases_lt n (length shards)) [
      | inl l ↦ absurd (false≢true (sym t ∙ lt-ltb n (length shards) l))
      | inr past ↦
          let none = none_whole m shards (λ q shard at.
          let w = slice_get_within shards q shard at in
          ap (is_lost m) (sym (get_or_from_slice_get shards q shard shard at))
          ∙ fails_before_first (is_lost m) shards q shard (omega (arith, w, past))) in
          let zero = ap (λ l. length l) none in
          absurd (omega (arith, some, zero))
    ]

-- ---- a set that is weak is not broken
pub weak_not_broken : (m : Membership) (set : SetState) → IsWeak m set → is_broken m set ≡ false
weak_not_broken m set weak = by (is_broken m set) refl
  where
    by : (b : Bool) → is_broken m set ≡ b → is_broken m set ≡ false
    by false e = e
    by true e = let l = ltb-true (parities set) (length (lost m set.shards)) e in
        absurd (let f = weak.few_lost in omega (arith, l, f))
