-- The count of each bucket is how many keys of the map belong into it.
use Rattle.std.proofs.Common.{◌≡◌, ◌⊎◌, ℕ, ◌+◌, ◌-◌, ◌<◌, ◌≤◌, Bool, true, false, true≢false, ◌&&◌, cond, List, [], ◌∷◌, length, Some, None, inl, inr, refl, sym, ap, ◌∙◌, subst, arith}
use Rattle.std.specs.Prelude.{slice_index, if◌then◌else◌, ◌==◌, is_some}
use Rattle.std.specs.FinMap as map
use Rattle.std.specs.Ordering.{nat_cmp, eq_by_cmp, is_eq}
use Rattle.std.specs.declared.cmp.Ordering.{Ordering}
use Rattle.std.specs.declared.cmp.Ordering.TheVariants as order
use Rattle.std.proofs.lemmas.Cmp.{nat_cmp_total}
use Rattle.std.proofs.lemmas.Bool.{eq-eqb, eqb-true, ne_eqb}
use Rattle.std.proofs.lemmas.List.{get_or-set_other, get_or-set_same, get_or-replicate}
use Rattle.cb_map_text.specs.Plain.{Plain, after_all, after_said, bucket_of, count_at, fresh, has_key, plain_after, with_pairs}
use Rattle.cb_map_text.specs.Tallied.{AreKeysIn, IsCounted, IsTallied, times_in}
use Rattle.cb_map_text.specs.declared.command.FarAnswer.{FarAnswer}
use Rattle.cb_map_text.specs.declared.command.FarAnswer.TheVariants.{Done, Number, Nothing, Outside, Refused}
use Rattle.cb_map_text.specs.declared.command.FarCommand.{FarCommand}
use Rattle.cb_map_text.specs.declared.command.FarCommand.TheVariants.{Push, Set, Get, Pop, Put, Look, Drop}
use Rattle.cb_map_text.proofs.Objects.{fresh_tallied, stays_tallied}

-- ---- lists of keys
abbrev one_if : Bool → ℕ
one_if b = cond b 1 0

-- without the key
abbrev without : ℕ → List ℕ → List ℕ
without key [] = []
without key (k ∷ ks) = if k == key then ks else k ∷ without key ks

same_test : (k key q : ℕ) → k ≡ key → one_if (k == q) ≡ one_if (key == q)
same_test k key q is = ap (λ (n : ℕ). one_if (n == q)) is

less_times : (key q : ℕ) (ks : List ℕ) → 1 ≤ times_in key ks
    → times_in q (without key ks) + one_if (key == q) ≡ times_in q ks
less_times key q [] some = absurd (omega (arith, some))
less_times key q (k ∷ ks) some = by (k == key) refl (less_times key q ks)
  where
    by : (b : Bool) → (k == key) ≡ b
        → (1 ≤ times_in key ks → times_in q (without key ks) + one_if (key == q) ≡ times_in q ks)
        → times_in q (if b then ks else k ∷ without key ks) + one_if (key == q) ≡ times_in q (k ∷ ks)
    by true is rest = let e = same_test k key q (eqb-true k key is) in omega (arith, e)
    by false is rest = let e = ap one_if is in
        let less = rest (omega (arith, some, e)) in omega (arith, less)

less_length : (key : ℕ) (ks : List ℕ) → 1 ≤ times_in key ks
    → length (without key ks) + 1 ≡ length ks
less_length key [] some = absurd (omega (arith, some))
less_length key (k ∷ ks) some = by (k == key) refl (less_length key ks)
  where
    by : (b : Bool) → (k == key) ≡ b
        → (1 ≤ times_in key ks → length (without key ks) + 1 ≡ length ks)
        → length (if b then ks else k ∷ without key ks) + 1 ≡ length (k ∷ ks)
    by true is rest = omega arith
    by false is rest = let e = ap one_if is in
        let less = rest (omega (arith, some, e)) in omega (arith, less)

-- ---- how often a key is to stand in a bucket
abbrev share : ℕ → ℕ → Bool → ℕ
share key bucket known = if (bucket_of key == bucket) && known then 1 else 0

share_off : (key bucket : ℕ) (known : Bool) → (bucket_of key ≡ bucket → ⊥)
    → share key bucket known ≡ 0
share_off key bucket known off =
    ap {B = ℕ} (λ b. if b && known then 1 else 0) (ne_eqb (bucket_of key) bucket off)

share_on : (key : ℕ) → share key (bucket_of key) true ≡ 1
share_on key = ap {B = ℕ} (λ b. if b && true then 1 else 0)
    (eq-eqb (bucket_of key) (bucket_of key) refl)

share_none : (key bucket : ℕ) → share key bucket false ≡ 0
share_none key bucket = by (bucket_of key == bucket)
  where
    by : (b : Bool) → ◌≡◌ {A = ℕ} (if b && false then 1 else 0) 0
    by true = refl
    by false = refl

-- either the numbers are one, or they are not
same_or_not : (a b : ℕ) → (a ≡ b) ⊎ (a ≡ b → ⊥)
same_or_not a b = by (a == b) refl
  where
    by : (t : Bool) → (a == b) ≡ t → (a ≡ b) ⊎ (a ≡ b → ⊥)
    by true is = inl (eqb-true a b is)
    by false is = inr (λ e. true≢false (sym (eq-eqb a b e) ∙ is))

-- ---- another map, in which one key alone may be known or not otherwise than before
module _ (s : Plain) (t : IsTallied s) (all : IsCounted s) (key count : ℕ)
    (pairs : map.FinMap nat_cmp ℕ)
    (others : (q : ℕ) → (q ≡ key → ⊥) → is_some (map.get pairs q) ≡ has_key s q)
    (mine : (keys : List ℕ) → AreKeysIn s (bucket_of key) keys → count_at s key ≡ length keys
    → (later : List ℕ) × AreKeysIn (with_pairs s key pairs count) (bucket_of key) later
    × (count ≡ length later)) where
  abbrev after : Plain
  after = with_pairs s key pairs count

  inside : bucket_of key < length s.counts
  inside = let e = t.buckets in omega (arith, e)

  own_bucket : (keys : List ℕ) × AreKeysIn after (bucket_of key) keys
      × (slice_index after.counts (bucket_of key) ≡ length keys)
  own_bucket = let old = all (bucket_of key) (omega arith) in
      let new = mine old.0 old.1 old.2 in
      (new.0, new.1, get_or-set_same s.counts (bucket_of key) count 0 inside ∙ new.2)

  other_bucket : (bucket : ℕ) → bucket < 64 → (bucket ≡ bucket_of key → ⊥)
      → (keys : List ℕ) × AreKeysIn after bucket keys × (slice_index after.counts bucket ≡ length keys)
  other_bucket bucket low off = let old = all bucket low in (
    old.0,
    λ q. old.1 q ∙ one q (same_or_not q key),
    get_or-set_other s.counts (bucket_of key) bucket count 0 off ∙ old.2,
  )
    where
      one : (q : ℕ) → (q ≡ key) ⊎ (q ≡ key → ⊥)
          → share q bucket (has_key s q) ≡ share q bucket (has_key after q)
      one q (inl is) = share_off q bucket (has_key s q) apart
          ∙ sym (share_off q bucket (has_key after q) apart)
        where
          apart : bucket_of q ≡ bucket → ⊥
          apart e = off (sym e ∙ ap bucket_of is)
      one q (inr ne) = ap (share q bucket) (sym (others q ne))

  pub counted_then : IsCounted after
  counted_then bucket low = by (same_or_not bucket (bucket_of key))
    where
      by : (bucket ≡ bucket_of key) ⊎ (bucket ≡ bucket_of key → ⊥)
          → (keys : List ℕ) × AreKeysIn after bucket keys
          × (slice_index after.counts bucket ≡ length keys)
      by (inl is) = subst (λ (b : ℕ). (keys : List ℕ) × AreKeysIn after b keys
          × (slice_index after.counts b ≡ length keys)) (sym is) own_bucket
      by (inr off) = other_bucket bucket low off

-- ---- a put, and a drop
not_same : (q k : ℕ) → (q ≡ k → ⊥) → eq_by_cmp nat_cmp q k ≡ false
not_same q k ne = by (nat_cmp q k) refl
  where
    by : (o : Ordering) → nat_cmp q k ≡ o → eq_by_cmp nat_cmp q k ≡ false
    by order.Less e = ap is_eq e
    by order.Greater e = ap is_eq e
    by order.Equal e = absurd (ne (map.nat_cmp-IsAntisymmetric q k e))

put_other : (pairs : map.FinMap nat_cmp ℕ) (key x q : ℕ) → (q ≡ key → ⊥)
    → map.get (map.insert pairs key x) q ≡ map.get pairs q
put_other pairs key x q off = map.get-insert nat_cmp_total pairs key x q
    ∙ ap (λ b. cond b (Some x) (map.get pairs q)) (not_same q key off)

put_same : (pairs : map.FinMap nat_cmp ℕ) (key x : ℕ)
    → map.get (map.insert pairs key x) key ≡ Some x
put_same pairs key x = grind (arith, map.gets)

drop_other : (pairs : map.FinMap nat_cmp ℕ) (key q : ℕ) → (q ≡ key → ⊥)
    → map.get (map.remove pairs key) q ≡ map.get pairs q
drop_other pairs key q off = map.get-remove nat_cmp_total pairs key q
    ∙ ap (λ b. cond b None (map.get pairs q)) (not_same q key off)

drop_same : (pairs : map.FinMap nat_cmp ℕ) (key : ℕ) → map.get (map.remove pairs key) key ≡ None
drop_same pairs key = grind (arith, map.gets)

module _ (s : Plain) (t : IsTallied s) (all : IsCounted s) (key : ℕ) where
  -- the keys are the same where each is known that was
  same_keys : (pairs : map.FinMap nat_cmp ℕ) (count : ℕ)
      → ((q : ℕ) → is_some (map.get pairs q) ≡ has_key s q) → count ≡ count_at s key
      → IsCounted (with_pairs s key pairs count)
  same_keys pairs count known is = counted_then s t all key count pairs (λ q off. known q)
      (λ keys old long. (keys, λ q. old q ∙ ap (share q (bucket_of key)) (sym (known q)), is ∙ long))

  put_keys : (x : ℕ) (known : Bool) → has_key s key ≡ known
      → IsCounted (with_pairs s key (map.insert s.pairs key x)
      (if known then count_at s key else count_at s key + 1))
  put_keys x true is = same_keys (map.insert s.pairs key x) (count_at s key)
      (λ q. by q (same_or_not q key)) refl
    where
      by : (q : ℕ) → (q ≡ key) ⊎ (q ≡ key → ⊥)
          → is_some (map.get (map.insert s.pairs key x) q) ≡ has_key s q
      by q (inl e) = subst (λ (n : ℕ). is_some (map.get (map.insert s.pairs key x) n) ≡ has_key s n)
          (sym e) (ap is_some (put_same s.pairs key x) ∙ sym is)
      by q (inr off) = ap is_some (put_other s.pairs key x q off)
  put_keys x false is = counted_then s t all key (count_at s key + 1) (map.insert s.pairs key x)
      (λ q off. ap is_some (put_other s.pairs key x q off))
      (λ keys old long. (key ∷ keys, λ q. one keys old q (same_or_not q key), omega (arith, long)))
    where
      one : (keys : List ℕ) → AreKeysIn s (bucket_of key) keys → (q : ℕ)
          → (q ≡ key) ⊎ (q ≡ key → ⊥) → times_in q (key ∷ keys)
          ≡ share q (bucket_of key) (is_some (map.get (map.insert s.pairs key x) q))
      one keys old q (inl e) = subst (λ (n : ℕ). times_in n (key ∷ keys)
          ≡ share n (bucket_of key) (is_some (map.get (map.insert s.pairs key x) n))) (sym e)
          (let here = ap one_if (eq-eqb key key refl) in
          let more : times_in key (key ∷ keys) ≡ one_if (key == key) + times_in key keys = refl in
          let none = old key ∙ ap (share key (bucket_of key)) is ∙ share_none key (bucket_of key) in
          let now = ap (λ o. share key (bucket_of key) (is_some o)) (put_same s.pairs key x)
          ∙ share_on key in omega (arith, here, more, none, now))
      one keys old q (inr off) =
          let here = ap one_if (ne_eqb key q (λ e. off (sym e))) in
          let rest = old q in
          let now = ap (λ o. share q (bucket_of key) (is_some o)) (put_other s.pairs key x q off) in
          omega (arith, here, rest, now)

  drop_keys : (known : Bool) → has_key s key ≡ known
      → IsCounted (with_pairs s key (map.remove s.pairs key)
      (if known then count_at s key - 1 else count_at s key))
  drop_keys false is = same_keys (map.remove s.pairs key) (count_at s key)
      (λ q. by q (same_or_not q key)) refl
    where
      by : (q : ℕ) → (q ≡ key) ⊎ (q ≡ key → ⊥)
          → is_some (map.get (map.remove s.pairs key) q) ≡ has_key s q
      by q (inl e) = subst (λ (n : ℕ). is_some (map.get (map.remove s.pairs key) n) ≡ has_key s n)
          (sym e) (ap is_some (drop_same s.pairs key) ∙ sym is)
      by q (inr off) = ap is_some (drop_other s.pairs key q off)
  drop_keys true is = counted_then s t all key (count_at s key - 1) (map.remove s.pairs key)
      (λ q off. ap is_some (drop_other s.pairs key q off))
      (λ keys old long. (
        without key keys,
        λ q. one keys old q (same_or_not q key),
        (let l = less_length key keys (some keys old) in omega (arith, long, l)),
      ))
    where
      stands : (keys : List ℕ) → AreKeysIn s (bucket_of key) keys → times_in key keys ≡ 1
      stands keys old = old key ∙ ap (share key (bucket_of key)) is ∙ share_on key

      some : (keys : List ℕ) → AreKeysIn s (bucket_of key) keys → 1 ≤ times_in key keys
      some keys old = let e = stands keys old in omega (arith, e)

      one : (keys : List ℕ) → AreKeysIn s (bucket_of key) keys → (q : ℕ)
          → (q ≡ key) ⊎ (q ≡ key → ⊥) → times_in q (without key keys)
          ≡ share q (bucket_of key) (is_some (map.get (map.remove s.pairs key) q))
      one keys old q (inl e) = subst (λ (n : ℕ). times_in n (without key keys)
          ≡ share n (bucket_of key) (is_some (map.get (map.remove s.pairs key) n))) (sym e)
          (let less = less_times key key keys (some keys old) in
          let here = ap one_if (eq-eqb key key refl) in
          let was = stands keys old in
          let now = ap (λ o. share key (bucket_of key) (is_some o)) (drop_same s.pairs key)
          ∙ share_none key (bucket_of key) in omega (arith, less, here, was, now))
      one keys old q (inr off) =
          let less = less_times key q keys (some keys old) in
          let here = ap one_if (ne_eqb key q (λ e. off (sym e))) in
          let was = old q in
          let now = ap (λ o. share q (bucket_of key) (is_some o)) (drop_other s.pairs key q off) in
          omega (arith, less, here, was, now)

-- ---- all commands
fresh_counted : IsCounted fresh
fresh_counted bucket low = (
  [],
  λ q. sym (ap (λ o. share q bucket (is_some o)) (none q)
      ∙ share_none q bucket),
  get_or-replicate 64 bucket 0 0 low,
)
  where
    none : (q : ℕ) → map.get fresh.pairs q ≡ None
    none q = map.get-empty nat_cmp q

stays_counted : (s : Plain) (command : FarCommand) → IsTallied s → IsCounted s
    → IsCounted (plain_after s command)
stays_counted s (Push x) t all = all
stays_counted s (Set i x) t all = all
stays_counted s (Get i) t all = all
stays_counted s Pop t all = all
stays_counted s (Put key x) t all = put_keys s t all key x (has_key s key) refl
stays_counted s (Look key) t all = all
stays_counted s (Drop key) t all = drop_keys s t all key (has_key s key) refl

pub counted : (commands : List FarCommand) (saids : List FarAnswer)
    → IsCounted (after_all fresh commands saids)
counted commands saids = go fresh fresh_tallied fresh_counted commands saids
  where
    by : (s : Plain) (command : FarCommand) (said : FarAnswer) → IsTallied s → IsCounted s
        → IsTallied (after_said s command said) × IsCounted (after_said s command said)
    by s command (Refused r) t all = (t, all)
    by s command Done t all = (stays_tallied s command t, stays_counted s command t all)
    by s command (Number n) t all = (stays_tallied s command t, stays_counted s command t all)
    by s command Nothing t all = (stays_tallied s command t, stays_counted s command t all)
    by s command (Outside n) t all = (stays_tallied s command t, stays_counted s command t all)

    go : (s : Plain) → IsTallied s → IsCounted s → (commands : List FarCommand)
        (saids : List FarAnswer) → IsCounted (after_all s commands saids)
    go s t all [] [] = all
    go s t all [] (said ∷ saids) = all
    go s t all (command ∷ commands) [] = all
    go s t all (command ∷ commands) (said ∷ saids) = let z = by s command said t all in
        go (after_said s command said) z.0 z.1 commands saids
