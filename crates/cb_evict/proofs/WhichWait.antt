-- The positions that wait, and how they are found.
use Rattle.std.proofs.Common.{◌≡◌, ℕ, zero, suc, ◌+◌, ◌<◌, ◌≤◌, Bool, true, false, cond, List, [], ◌∷◌, ◌++◌, length, take, get_or, set, Option, Some, None, refl, ap, sym, ◌∙◌, arith, inl, inr, length-set}
use Rattle.std.specs.List.{filter, range_with_len, slice_get, position_or_len}
use Rattle.std.proofs.lemmas.Bool.{cases_eq, false≢true, le-ltb, lt-ltb}
use Rattle.std.proofs.lemmas.List.{append-nil, length-take-le, take_more_set, length-append}
use Rattle.std.proofs.lemmas.List.Elements.{filter-append}
use Rattle.std.proofs.lemmas.List.Sums.{position_or_len_is}
use Rattle.std.proofs.lemmas.List.Quantifiers.{position-Some}
use Rattle.std.proofs.lemmas.Option.{slice_get-get_or}
use Rattle.cb_member.specs.declared.names.Shard.{Shard}
use Rattle.cb_member.specs.Membership.{Membership}
use Rattle.cb_set.specs.Lost.{is_lost}
use Rattle.cb_world.proofs.Laws.{range_more}
use Rattle.cb_evict.specs.Waiting.{is_waiting, waits_at, waiting, least_waiting}

-- those of the first n positions that wait
abbrev pub waiting_below : Membership → List (Option Shard) → ℕ → List ℕ
waiting_below m shards n = filter (waits_at m shards) (range_with_len 0 n)

-- one position more
pub waiting_more : (m : Membership) (shards : List (Option Shard)) (n : ℕ)
    → waiting_below m shards (n + 1)
    ≡ waiting_below m shards n ++ cond (waits_at m shards n) (n ∷ []) []
waiting_more m shards n =
    ap (filter (waits_at m shards)) (range_more 0 n)
    ∙ filter-append (waits_at m shards) (range_with_len 0 n) ((0 + n) ∷ [])
    ∙ ap (λ (k : ℕ). waiting_below m shards n ++ cond (waits_at m shards k) (k ∷ []) [])
    (let e : 0 + n ≡ n = omega arith in e)

-- the waiting ones of the first n positions stand in the first places
pub record FoundWaiting (m : Membership) (shards : List (Option Shard)) (n : ℕ) (found : List ℕ)
    (count : ℕ) : Type 0 where
  pub size : length found ≡ 20
  pub behind : count ≤ n
  pub counted : count ≡ length (waiting_below m shards n)
  pub listed : take count found ≡ waiting_below m shards n

pub found_put : (m : Membership) (shards : List (Option Shard)) (n : ℕ) (found : List ℕ) (count : ℕ)
    → FoundWaiting m shards n found count → waits_at m shards n ≡ false → FoundWaiting m shards (n + 1) found count
found_put m shards n found count f put =
    let e : waiting_below m shards (n + 1) ≡ waiting_below m shards n =
    waiting_more m shards n
    ∙ ap (λ (b : Bool). waiting_below m shards n ++ cond b (n ∷ []) []) put
    ∙ append-nil (waiting_below m shards n) in
    record {
      size = f.size;
      behind = omega (arith, f.behind);
      counted = f.counted ∙ ap length (sym e);
      listed = f.listed ∙ sym e;
    }

pub found_more : (m : Membership) (shards : List (Option Shard)) (n : ℕ) (found : List ℕ) (count : ℕ)
    → FoundWaiting m shards n found count → n < 20 → waits_at m shards n ≡ true
    → FoundWaiting m shards (n + 1) (set found count n) (count + 1)
found_more m shards n found count f few waits =
    let e : waiting_below m shards (n + 1) ≡ waiting_below m shards n ++ n ∷ [] =
    waiting_more m shards n
    ∙ ap (λ (b : Bool). waiting_below m shards n ++ cond b (n ∷ []) []) waits in
    let room : count < length found = omega (arith, f.size, f.behind, few) in
    let l : take (count + 1) (set found count n) ≡ waiting_below m shards (n + 1) =
    take_more_set found count n room ∙ ap (λ (l : List ℕ). l ++ n ∷ []) f.listed ∙ sym e in
    let k = length-take-le (count + 1) (set found count n)
    (omega (arith, room, length-set found count n)) in
    record {
      size = length-set found count n ∙ f.size;
      behind = omega (arith, f.behind);
      counted = sym k ∙ ap length l;
      listed = l;
    }

-- a position that waits below which none does is the least
pub least_is : (m : Membership) (shards : List (Option Shard)) (p : ℕ) → p < length shards
    → waits_at m shards p ≡ true → ((k : ℕ) → k < p → waits_at m shards k ≡ false)
    → least_waiting m shards ≡ Some p
least_is m shards p within here before =
    let place : position_or_len (is_waiting m) shards ≡ p =
    position_or_len_is (is_waiting m) shards p None (omega arith) before (λ _. here) in
    rw (place, lt-ltb p (length shards) within) refl

pub least_none : (m : Membership) (shards : List (Option Shard))
    → ((k : ℕ) → k < length shards → waits_at m shards k ≡ false) → least_waiting m shards ≡ None
least_none m shards put =
    let place : position_or_len (is_waiting m) shards ≡ length shards =
    position_or_len_is (is_waiting m) shards (length shards) None (omega arith) put
    (λ h. absurd (omega arith)) in
    rw (place, le-ltb (length shards) (length shards) (omega arith)) refl

-- the least position that waits is one, and none before it waits
pub least_waits : (m : Membership) (shards : List (Option Shard)) (p : ℕ)
    → least_waiting m shards ≡ Some p → (p < length shards) × (waits_at m shards p ≡ true)
    × ((k : ℕ) → k < p → waits_at m shards k ≡ false)
least_waits m shards p e = position-Some (is_waiting m) shards p None e

-- where no position waits, the row of each stands
some_list : (xs : List ℕ) (n : ℕ) → xs ++ n ∷ [] ≡ [] → ⊥
some_list xs n e = omega (arith, length-append xs (n ∷ []), ap length e)

-- no one waits with one position more: none waited, and that one does not
none_more : (xs : List ℕ) (n : ℕ) (b : Bool) → xs ++ cond b (n ∷ []) [] ≡ []
    → (xs ≡ []) × (b ≡ false)
none_more xs n true e = absurd (some_list xs n e)
none_more xs n false e = (sym (append-nil xs) ∙ e, refl)

none_below : (m : Membership) (shards : List (Option Shard)) (n : ℕ)
    → waiting_below m shards n ≡ [] → (p : ℕ) → p < n → waits_at m shards p ≡ false
none_below m shards zero none p below = absurd (omega (arith, below))
none_below m shards (suc n) none p below =
    let e : n + 1 ≡ suc n = omega arith in
    let x = none_more (waiting_below m shards n) n (waits_at m shards n)
    (sym (waiting_more m shards n) ∙ ap (waiting_below m shards) e ∙ none) in
    elim (cases_eq p n) [
      | inl here ↦ ap (waits_at m shards) here ∙ x.1
      | inr off ↦ none_below m shards n x.0 p (omega (arith, below, off))
    ]

-- a position that does not wait has a shard that is not lost
pub stands : (m : Membership) (shards : List (Option Shard)) (p : ℕ) → p < length shards
    → waits_at m shards p ≡ false
    → (shard : Shard) × (slice_get shards p ≡ Some (Some shard)) × (is_lost m shard ≡ false)
stands m shards p within = by (get_or shards p None) refl
  where
    by : (o : Option Shard) → get_or shards p None ≡ o → waits_at m shards p ≡ false
        → (shard : Shard) × (slice_get shards p ≡ Some (Some shard)) × (is_lost m shard ≡ false)
    by None e put = absurd (false≢true (sym put ∙ ap (is_waiting m) e))
    by (Some shard) e put = (
      shard,
      slice_get-get_or shards p None within ∙ ap Some e,
      sym (ap (is_waiting m) e) ∙ put,
    )

-- so has each, where none waits
pub all_stand : (m : Membership) (shards : List (Option Shard)) → waiting m shards ≡ []
    → (p : ℕ) → p < length shards
    → (shard : Shard) × (slice_get shards p ≡ Some (Some shard)) × (is_lost m shard ≡ false)
all_stand m shards none p within =
    stands m shards p within (none_below m shards (length shards) none p within)
