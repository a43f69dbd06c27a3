-- What a put and a drop make of the pairs of a bucket, by the place of the key.
use Rattle.std.proofs.Common.{◌≡◌, ℕ, ◌+◌, ◌-◌, ◌%◌, List, length, Option, Some, None, Ok, refl, sym, ap, ◌∙◌, arith}
use Rattle.std.specs.Prelude.{if◌then◌else◌, is_some}
use Rattle.std.proofs.lemmas.List.{length-set, length_push}
use Rattle.std.specs.FinMap as finite
use Rattle.std.specs.Ordering.{nat_cmp}
use Rattle.cb_farmap.specs.BucketChanges.{added_by, dropped_at, put_at, removed_by, value_in}
use Rattle.cb_farmap.specs.Pairs.{BelongTo, NoKeyTwice, Pair, place_of}
use Rattle.cb_farmap.proofs.Mapping.{len_less, len_new, len_old, remove_none}
use Rattle.cb_farmap.proofs.OneBucket.{Takes, adds_pair, drops_pair, one_less, tells_by, writes_pair}
use Rattle.cb_farmap.proofs.Places.{first_at, no_value, none_there, value_at, value_there}

module _ (many at : ℕ) (pairs : List Pair) (key : ℕ) (home : BelongTo many at pairs) (one : NoKeyTwice pairs) where
  -- the value of the key
  pub value_is : value_in pairs (place_of key pairs) ≡ value_at key pairs
  value_is = by (place_of key pairs) refl
    where
      by : (p : Option ℕ) → place_of key pairs ≡ p → value_in pairs p ≡ value_at key pairs
      by None at_ = sym (no_value key pairs (none_there key pairs at_))
      by (Some p) at_ = let first = first_at key pairs p at_ in
          sym (value_there key pairs p one first.0 first.1)

  pub put_takes : (x : ℕ) → key % many ≡ at
      → Takes many at key (Some x) pairs (put_at pairs (key, x) (place_of key pairs))
  put_takes x belongs = by (place_of key pairs) refl
    where
      by : (p : Option ℕ) → place_of key pairs ≡ p → Takes many at key (Some x) pairs (put_at pairs (key, x) p)
      by None at_ = adds_pair many at pairs key x home one at_ belongs
      by (Some p) at_ = writes_pair many at pairs p key x home one at_

  pub drop_takes : Takes many at key None pairs (dropped_at pairs (place_of key pairs))
  drop_takes = by (place_of key pairs) refl
    where
      by : (p : Option ℕ) → place_of key pairs ≡ p → Takes many at key None pairs (dropped_at pairs p)
      by None at_ = record {
        belong = home;
        single = one;
        tells = tells_by key None pairs pairs (no_value key pairs (none_there key pairs at_)) (λ q ne. refl);
      }
      by (Some p) at_ = drops_pair many at pairs p key home one at_

  -- how many pairs there are
  pub put_long : (x : ℕ) → length (put_at pairs (key, x) (place_of key pairs))
      ≡ length pairs + added_by (Ok (value_in pairs (place_of key pairs)))
  put_long x = by (place_of key pairs)
    where
      by : (p : Option ℕ) → length (put_at pairs (key, x) p) ≡ length pairs + added_by (Ok (value_in pairs p))
      by None = length_push pairs (key, x)
      by (Some p) = length-set pairs p (key, x) ∙ (let z : length pairs ≡ length pairs + 0 = omega arith in z)

  pub drop_long : length (dropped_at pairs (place_of key pairs))
      + removed_by (Ok (value_in pairs (place_of key pairs))) ≡ length pairs
  drop_long = by (place_of key pairs) refl
    where
      by : (p : Option ℕ) → place_of key pairs ≡ p
          → length (dropped_at pairs p) + removed_by (Ok (value_in pairs p)) ≡ length pairs
      by None at_ = let z : length pairs + 0 ≡ length pairs = omega arith in z
      by (Some p) at_ = let n = one_less many at pairs p key home one at_ in
          let low = (first_at key pairs p at_).0 in omega (arith, n, low)

-- how many keys a map has
abbrev FarPairs : Type 0
FarPairs = finite.FinMap nat_cmp ℕ

pub put_len : (m : FarPairs) (key x : ℕ) → finite.len (finite.insert m key x)
    ≡ finite.len m + added_by (Ok (finite.get m key))
put_len m key x = by (finite.get m key) refl
  where
    by : (o : Option ℕ) → finite.get m key ≡ o → finite.len (finite.insert m key x) ≡ finite.len m + added_by (Ok o)
    by None is = len_new m key x is
    by (Some old) is = len_old m key x old is ∙ (let z : finite.len m ≡ finite.len m + 0 = omega arith in z)

pub drop_len : (m : FarPairs) (key : ℕ) → finite.len (finite.remove m key) + removed_by (Ok (finite.get m key))
    ≡ finite.len m
drop_len m key = by (finite.get m key) refl
  where
    by : (o : Option ℕ) → finite.get m key ≡ o → finite.len (finite.remove m key) + removed_by (Ok o) ≡ finite.len m
    by None is = (let z : finite.len (finite.remove m key) + 0 ≡ finite.len (finite.remove m key) = omega arith in z)
        ∙ ap finite.len (remove_none m key is)
    by (Some old) is = len_less m key old is

-- and as the count says
pub added_if : (n : ℕ) (o : Option ℕ) → n + added_by (Ok o) ≡ if is_some o then n else n + 1
added_if n None = refl
added_if n (Some x) = let z : n + 0 ≡ n = omega arith in z

pub removed_if : (n : ℕ) (o : Option ℕ) → n - removed_by (Ok o) ≡ if is_some o then n - 1 else n
removed_if n None = let z : n - 0 ≡ n = omega arith in z
removed_if n (Some x) = refl
