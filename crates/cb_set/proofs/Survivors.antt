-- The positions of the shards that are not lost, and how they are found.
use Rattle.std.proofs.Common.{◌≡◌, ℕ, zero, suc, ◌+◌, ◌<◌, ◌≤◌, Bool, true, false, cond, List, [], ◌∷◌, ◌++◌, length, take, get_or, set, Option, Some, None, is_some, if◌then◌else◌, refl, ap, sym, ◌∙◌, arith, length-set}
use Rattle.std.specs.List.{slice_get, cons_option}
use Rattle.std.specs.List.Sorted.{IsStrictlyIncreasing}
use Rattle.std.proofs.lemmas.List.{append-nil, take_more, length-take-le, take_more_set}
use Rattle.cb_member.specs.declared.names.Loss.{Loss}
use Rattle.cb_member.specs.declared.names.Shard.{Shard}
use Rattle.cb_member.specs.Membership.{Membership}
use Rattle.cb_set.specs.Lost.{is_lost, loss_of, lost}
use Rattle.cb_set.specs.Surviving.{surviving, surviving_from}

-- as many survive as are not lost
pub count_surviving : (m : Membership) (p : ℕ) (shards : List Shard)
    → length (surviving_from m p shards) + length (lost m shards) ≡ length shards
count_surviving m p [] = refl
count_surviving m p (x ∷ xs) =
    step (loss_of m x) (surviving_from m (p + 1) xs) (count_surviving m (p + 1) xs)
  where
    step : (o : Option Loss) (rest : List ℕ)
        → length rest + length (lost m xs) ≡ length xs
        → length (if is_some o then rest else p ∷ rest) + length (cons_option o (lost m xs))
        ≡ length (x ∷ xs)
    step None rest e = omega (arith, e)
    step (Some loss) rest e = omega (arith, e)

-- lost and surviving shards are all
pub lost_and_surviving : (m : Membership) (shards : List Shard)
    → length (surviving m shards) + length (lost m shards) ≡ length shards
lost_and_surviving m shards = count_surviving m 0 shards

-- q is first and the place of a shard that is not lost
pub record SurvivesFirst (m : Membership) (first : ℕ) (shards : List Shard) (q : ℕ) : Type 0 where
  pub shard : Shard
  pub at : ℕ
  pub place : q ≡ first + at
  pub there : slice_get shards at ≡ Some shard
  pub kept : is_lost m shard ≡ false

survives_later : (m : Membership) (p : ℕ) (x : Shard) (xs : List Shard) (q : ℕ)
    → SurvivesFirst m (p + 1) xs q → SurvivesFirst m p (x ∷ xs) q
survives_later m p x xs q s = record {
  shard = s.shard;
  at = suc s.at;
  place = omega (arith, s.place);
  there = s.there;
  kept = s.kept;
}

survives_step : (m : Membership) (p : ℕ) (x : Shard) (xs : List Shard)
    → ((i : ℕ) → i < length (surviving_from m (p + 1) xs)
    → SurvivesFirst m (p + 1) xs (get_or (surviving_from m (p + 1) xs) i 0))
    → (b : Bool) → is_lost m x ≡ b → (j : ℕ)
    → j < length (cond b (surviving_from m (p + 1) xs) (p ∷ surviving_from m (p + 1) xs))
    → SurvivesFirst m p (x ∷ xs)
    (get_or (cond b (surviving_from m (p + 1) xs) (p ∷ surviving_from m (p + 1) xs)) j 0)
survives_step m p x xs later true e j l = survives_later m p x xs _ (later j l)
survives_step m p x xs later false e zero l = record {
  shard = x;
  at = 0;
  place = omega arith;
  there = refl;
  kept = e;
}
survives_step m p x xs later false e (suc j) l =
    survives_later m p x xs _ (later j (omega (arith, l)))

-- each of these positions has a shard that is not lost
pub survives : (m : Membership) (p : ℕ) (shards : List Shard) (i : ℕ)
    → i < length (surviving_from m p shards)
    → SurvivesFirst m p shards (get_or (surviving_from m p shards) i 0)
survives m p [] i within = absurd (omega (arith, within))
survives m p (x ∷ xs) i within =
    survives_step m p x xs (survives m (p + 1) xs) (is_lost m x) refl i within

increasing_step : (p : ℕ) (rest : List ℕ) → IsStrictlyIncreasing rest
    → (0 < length rest → p < get_or rest 0 0) → (b : Bool)
    → IsStrictlyIncreasing (cond b rest (p ∷ rest))
increasing_step p rest later least true j l = later j l
increasing_step p rest later least false zero l = least (omega (arith, l))
increasing_step p rest later least false (suc j) l =
    let n : suc j + 1 ≡ suc (j + 1) = omega arith in
    let e : get_or (p ∷ rest) (suc j + 1) 0 ≡ get_or rest (j + 1) 0 =
    ap (λ (n : ℕ). get_or (p ∷ rest) n 0) n in
    omega (arith, e, later j (omega (arith, l)))

-- and they ascend
pub surviving_ascend : (m : Membership) (p : ℕ) (shards : List Shard)
    → IsStrictlyIncreasing (surviving_from m p shards)
surviving_ascend m p [] i within = absurd (omega (arith, within))
surviving_ascend m p (x ∷ xs) i within =
    increasing_step p (surviving_from m (p + 1) xs) (surviving_ascend m (p + 1) xs)
    (λ some. let s = survives m (p + 1) xs 0 some in omega (arith, s.place)) (is_lost m x) i within

surviving_append : (m : Membership) (p : ℕ) (xs : List Shard) (x : Shard)
    → surviving_from m p (xs ++ (x ∷ []))
    ≡ surviving_from m p xs ++ cond (is_lost m x) [] ((p + length xs) ∷ [])
surviving_append m p [] x = ap (λ (q : ℕ). cond (is_lost m x) [] (q ∷ [])) (omega arith)
surviving_append m p (y ∷ ys) x =
    let e : (p + 1) + length ys ≡ p + length (y ∷ ys) = omega arith in
    ap (λ (l : List ℕ). cond (is_lost m y) l (p ∷ l))
    (surviving_append m (p + 1) ys x
    ∙ ap (λ (q : ℕ). surviving_from m (p + 1) ys ++ cond (is_lost m x) [] (q ∷ [])) e)
    ∙ split (is_lost m y) (surviving_from m (p + 1) ys)
    (cond (is_lost m x) [] ((p + length (y ∷ ys)) ∷ []))
  where
    split : (b : Bool) (l r : List ℕ) → cond b (l ++ r) (p ∷ (l ++ r)) ≡ cond b l (p ∷ l) ++ r
    split true l r = refl
    split false l r = refl

-- one shard more
pub surviving_more : (m : Membership) (shards : List Shard) (i : ℕ) (d : Shard)
    → i < length shards
    → surviving m (take (i + 1) shards)
    ≡ surviving m (take i shards) ++ cond (is_lost m (get_or shards i d)) [] (i ∷ [])
surviving_more m shards i d within =
    let size : 0 + length (take i shards) ≡ i =
    omega (arith, length-take-le i shards (omega (arith, within))) in
    ap (surviving m) (take_more shards i d within)
    ∙ surviving_append m 0 (take i shards) (get_or shards i d)
    ∙ ap (λ (q : ℕ). surviving m (take i shards)
    ++ cond (is_lost m (get_or shards i d)) [] (q ∷ [])) size

-- the surviving ones among the first i positions stand in the first places
pub record Found (m : Membership) (shards : List Shard) (i : ℕ) (present : List ℕ) (count : ℕ)
    : Type 0 where
  pub size : length present ≡ 20
  pub behind : count ≤ i
  pub counted : count ≡ length (surviving m (take i shards))
  pub listed : take count present ≡ surviving m (take i shards)

pub found_lost : (m : Membership) (shards : List Shard) (i : ℕ) (present : List ℕ) (count : ℕ)
    (d : Shard) → Found m shards i present count → i < length shards
    → is_lost m (get_or shards i d) ≡ true → Found m shards (i + 1) present count
found_lost m shards i present count d f within lost =
    let e : surviving m (take (i + 1) shards) ≡ surviving m (take i shards) =
    surviving_more m shards i d within
    ∙ ap (λ (b : Bool). surviving m (take i shards) ++ cond b [] (i ∷ [])) lost
    ∙ append-nil (surviving m (take i shards)) in
    record {
      size = f.size;
      behind = omega (arith, f.behind);
      counted = f.counted ∙ ap length (sym e);
      listed = f.listed ∙ sym e;
    }

pub found_more : (m : Membership) (shards : List Shard) (i : ℕ) (present : List ℕ) (count : ℕ)
    (d : Shard) → Found m shards i present count → i < length shards → length shards ≤ 20
    → is_lost m (get_or shards i d) ≡ false
    → Found m shards (i + 1) (set present count i) (count + 1)
found_more m shards i present count d f within few kept =
    let e : surviving m (take (i + 1) shards) ≡ surviving m (take i shards) ++ i ∷ [] =
    surviving_more m shards i d within
    ∙ ap (λ (b : Bool). surviving m (take i shards) ++ cond b [] (i ∷ [])) kept in
    let room : count < length present = omega (arith, f.size, f.behind, within, few) in
    let l : take (count + 1) (set present count i) ≡ surviving m (take (i + 1) shards) =
    take_more_set present count i room ∙ ap (λ (l : List ℕ). l ++ i ∷ []) f.listed ∙ sym e in
    let n = length-take-le (count + 1) (set present count i)
    (omega (arith, room, length-set present count i)) in
    record {
      size = length-set present count i ∙ f.size;
      behind = omega (arith, f.behind);
      counted = sym n ∙ ap length l;
      listed = l;
    }
