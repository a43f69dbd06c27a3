-- A map without objects is one of every pass, and empty.
use Rattle.std.proofs.Common.{◌≡◌, ℕ, zero, suc, ◌+◌, ◌≤◌, List, [], length, replicate, None, refl, sym, ap, ◌∙◌, subst, arith}
use Rattle.std.proofs.lemmas.List.{length-replicate}
use Rattle.std.specs.FinMap as finite
use Rattle.std.specs.List.{AllByRecursion, IsDistinct, fold}
use Rattle.std.specs.Ordering.{nat_cmp}
use Rattle.cb_world.specs.declared.entry.Entry.{Entry}
use Rattle.cb_rule.specs.declared.view.View.{View}
use Rattle.cb_farmap.specs.declared.bucket.Bucket.{Bucket}
use Rattle.cb_farmap.specs.declared.map.FarMap.{FarMap}
use Rattle.cb_farmap.specs.Buckets.{IsBucket, no_bucket}
use Rattle.cb_farmap.specs.Maps.{IsMapOf, kept_of, map_of, pairs_of}
use Rattle.cb_farmap.specs.Objects.{AreApart}
use Rattle.cb_farmap.specs.Pairs.{AreAtHome, NoKeyTwice, map_of_pairs}

abbrev none : ℕ → List Bucket
none n = replicate n no_bucket

no_objects : (n : ℕ) → kept_of (none n) ≡ []
no_objects zero = refl
no_objects (suc n) = no_objects n

each_fresh : (es : List Entry) (n : ℕ) → AllByRecursion (IsBucket es) (none n)
each_fresh es zero = tt
each_fresh es (suc n) = (record { objects = tt; within = omega arith }, each_fresh es n)

at_home : (es : List Entry) (many i n : ℕ) → AreAtHome many i (pairs_of es (none n))
at_home es many i zero = tt
at_home es many i (suc n) = (tt, at_home es many (i + 1) n)

alone : NoKeyTwice []
alone i j a b same = absurd (omega (arith, a))

all_single : (es : List Entry) (n : ℕ) → AllByRecursion NoKeyTwice (pairs_of es (none n))
all_single es zero = tt
all_single es (suc n) = (alone, all_single es n)

no_pairs : (es : List Entry) (n : ℕ) → map_of_pairs (pairs_of es (none n)) ≡ finite.empty
no_pairs es zero = refl
no_pairs es (suc n) = no_pairs es n

no_count : (n a : ℕ) → fold (λ (s : ℕ) (b : Bucket). s + b.count) a (none n) ≡ a
no_count zero a = refl
no_count (suc n) a = no_count n (a + 0) ∙ (let z : a + 0 ≡ a = omega arith in z)

apart_none : AreApart []
unfolding IsDistinct
apart_none = tt

abbrev fresh : ℕ → FarMap
fresh n = record { buckets = none n; len = 0; stop = None }

pub fresh_map : (v : View) (n : ℕ) → 1 ≤ n → IsMapOf v (fresh n) × (map_of v (fresh n) ≡ finite.empty)
fresh_map v n some = (
  record {
    some = (let l = length-replicate {A = Bucket} n no_bucket in omega (arith, l, some));
    each = each_fresh v.written n;
    apart = subst AreApart (sym (no_objects n)) apart_none;
    keys = record {
      home = at_home v.written (length (pairs_of v.written (none n))) 0 n;
      single = all_single v.written n;
    };
    counts = sym (no_count n 0);
    len_is = sym (ap finite.len (no_pairs v.written n) ∙ finite.len-empty nat_cmp ℕ);
  },
  no_pairs v.written n,
)

pub fresh_by : (v : View) (n : ℕ) (buckets : List Bucket) → 1 ≤ n → buckets ≡ none n
    → IsMapOf v (record { buckets = buckets; len = 0; stop = None })
    × (map_of v (record { buckets = buckets; len = 0; stop = None }) ≡ finite.empty)
fresh_by v n buckets some is = subst (λ (l : List Bucket). IsMapOf v (record { buckets = l; len = 0; stop = None })
    × (map_of v (record { buckets = l; len = 0; stop = None }) ≡ finite.empty)) (sym is) (fresh_map v n some)
