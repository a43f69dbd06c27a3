-- What each call on a map comes to, by what the call on its bucket was answered.
use Rattle.std.proofs.Common.{◌≡◌, ℕ, ◌+◌, ◌-◌, ◌%◌, ◌<◌, ◌≤◌, List, [], length, get_or, slice_set, Option, None, Some, Result, Ok, Err, IfOk, OnErr, OnOk, refl, sym, ap, ◌∙◌, subst, arith}
use Rattle.std.specs.FinMap as finite
use Rattle.std.proofs.lemmas.List.{length-set}
use Rattle.cb_types.specs.declared.config.Config.{Config}
use Rattle.cb_rule.specs.declared.view.View.{View}
use Rattle.cb_farmap.specs.declared.bucket.Bucket.{Bucket}
use Rattle.cb_farmap.specs.declared.kept.Cannot.{Cannot}
use Rattle.cb_farmap.specs.declared.kept.Stop.{Stop}
use Rattle.cb_farmap.specs.declared.map.FarMap.{FarMap}
use Rattle.cb_farmap.specs.BucketChanges.{Becomes, added_by, dropped_in, put_in, removed_by, value_of}
use Rattle.cb_farmap.specs.Buckets.{IsBucket, bucket_in, pairs_in, with_bucket}
use Rattle.cb_farmap.specs.Calls.{Answers, Ask, Goes, trouble}
use Rattle.cb_farmap.specs.Changes.{AreLoose, AreSole, GoesOn, IsBehind, IsCalm, IsLoose, IsSole}
use Rattle.cb_farmap.specs.MapChanges.{IsDropped, IsLooked, IsPut, KeepsMap, StaysMap, reads_of}
use Rattle.cb_farmap.specs.Maps.{IsCalmMap, IsMapOf, kept_of, map_of, pairs_of, told_map}
use Rattle.cb_farmap.specs.Objects.{AreApart}
use Rattle.cb_farmap.specs.Pairs.{AreBuckets, BelongTo, NoKeyTwice, Pair, map_of_pairs}
use Rattle.cb_farmap.specs.Plans.{drop_plan, look_plan, put_plan}
use Rattle.cb_farmap.specs.Stops.{cannot_of, stop_behind}
use Rattle.cb_farmap.proofs.Behind.{goes_on, on_same, soles_same}
use Rattle.cb_farmap.proofs.BucketList.{all_own, apart_now, bucket_there, buckets_on, buckets_set, count_low, counts_set, one_behind, own_pairs, pairs_of_on, pairs_of_set, long_pairs_of, soles_now}
use Rattle.cb_farmap.proofs.FindIn.{long_in}
use Rattle.cb_farmap.proofs.Mapping.{buckets_later, get_is, map_inserted, map_removed, own_home, own_single}
use Rattle.cb_farmap.proofs.MapPairs.{added_if, drop_len, drop_long, drop_takes, put_len, put_long, put_takes, removed_if, value_is}
use Rattle.cb_farmap.proofs.Once.{apart_own, drop_once, look_once, put_once}
use Rattle.cb_farmap.proofs.OneBucket.{Takes}
use Rattle.cb_farmap.proofs.Places.{value_at}
use Rattle.cb_farmap.proofs.PlanLaws.{WritesLast, calm_same, drop_last, look_last, look_read, put_last}

-- ---- a map of a record that went on
module _ (v w : View) (a : FarMap) (of : IsMapOf v a) (on : IsBehind v.written w.written) where
  pub map_stays : (stop : Option Stop) → map_of w (record a { stop = stop }) ≡ map_of v a
  map_stays stop = ap map_of_pairs (pairs_of_on v.written w.written on a.buckets of.each)

  pub map_on : (stop : Option Stop) → IsMapOf w (record a { stop = stop })
  map_on stop = record {
    some = of.some;
    each = buckets_on v.written w.written on a.buckets of.each;
    apart = of.apart;
    keys = subst AreBuckets (sym (pairs_of_on v.written w.written on a.buckets of.each)) of.keys;
    counts = of.counts;
    len_is = of.len_is ∙ sym (ap finite.len (map_stays stop));
  }

-- ---- an answer that is given for good: no call is made, and nothing changes
module _ (c : Config) (first : ℕ) (plan : List Ask) (v w : View) (a : FarMap) (of : IsMapOf v a) (s : Stop)
    (stopped : a.stop ≡ Some s) (same : w ≡ v) (t : Option Cannot) (again : t ≡ Some (cannot_of s)) where
  on : GoesOn v w
  on = on_same v w same

  stays_stopped : told_map a t ≡ a
  stays_stopped = ap (λ (o : Option Stop). let z : FarMap = record a { stop = o } in z)
      (ap (stop_behind a.stop) again ∙ ap (λ (o : Option Stop). stop_behind o (Some (cannot_of s))) stopped
      ∙ sym stopped)

  none_some : (s : Stop) → None ≡ Some s → ⊥
  none_some s e = cc

  pub map_keeps_again : AreApart (reads_of plan) → KeepsMap c first plan t v a w a
  map_keeps_again once = record {
    map = map_on v w a of on.behind a.stop;
    calls = subst (λ (o : Option Stop). Answers c first o plan t v w) (sym stopped) (again, same);
    once = once;
    on = on;
    calm = λ x. absurd (none_some s (sym x.going ∙ stopped));
  }

  pub map_stays_again : StaysMap t v a w a
  map_stays_again = record { map = map_stays v w a of on.behind a.stop; left = sym stays_stopped }

-- ---- what was told and what is noted of it, where so many keys are counted then
pub map_noted : {X : Type 0} (stop : Option Stop) (now : List Bucket) (P : Result X Cannot → FarMap → Type 0)
    (r q : Result X Cannot) → q ≡ r → (s : Option Stop) → s ≡ stop_behind stop (trouble r) → (n m : ℕ) → n ≡ m
    → P r (record { buckets = now; len = m; stop = stop_behind stop (trouble r) })
    → P q (record { buckets = now; len = n; stop = s })
map_noted {X = X} stop now P r q same s is n m counted it =
    subst (λ (z : Result X Cannot). P z (record { buckets = now; len = n; stop = s })) (sym same)
    (subst (λ (o : Option Stop). P r (record { buckets = now; len = n; stop = o })) (sym is)
    (subst (λ (k : ℕ). P r (record { buckets = now; len = k; stop = stop_behind stop (trouble r) })) (sym counted) it))

-- ---- the bucket of a key
module _ (v : View) (a : FarMap) (of : IsMapOf v a) (key : ℕ) where
  abbrev old : Bucket
  old = bucket_in a.buckets key

  abbrev all : List (List Pair)
  all = pairs_of v.written a.buckets

  abbrev many : ℕ
  many = length a.buckets

  pub bucket_of : IsBucket v.written old
  bucket_of = bucket_there v.written a.buckets key of.some of.each

  pub room_of : a.len < 1000000000 → old.count < 1000000000
  room_of few = let z = count_low v.written a.buckets key of.some in let n = of.counts in omega (arith, z, n, few)

  long_all : length all ≡ many
  long_all = long_pairs_of v.written a.buckets key of.some

  some_all : 0 < length all
  some_all = let n = long_all in let s = of.some in omega (arith, n, s)

  home : BelongTo many (key % many) (pairs_in v.written old)
  home = subst (λ (l : List Pair). BelongTo many (key % many) l) (own_pairs v.written a.buckets key of.some)
      (subst (λ (n : ℕ). BelongTo n (key % n) (get_or all (key % length all) [])) long_all
      (own_home all key of.keys some_all))

  single : NoKeyTwice (pairs_in v.written old)
  single = subst NoKeyTwice (own_pairs v.written a.buckets key of.some) (own_single all key of.keys some_all)

  pub value_got : value_of v.written old key ≡ finite.get (map_of v a) key
  value_got = value_is many (key % many) (pairs_in v.written old) key home single
      ∙ sym (get_is all key of.keys.home some_all
      ∙ ap (λ (l : List Pair). value_at key l) (own_pairs v.written a.buckets key of.some))

  pub apart_of : AreApart old.kept
  apart_of = apart_own a.buckets key of.some of.apart

  -- one bucket is another
  module _ (w : View) (value : Option ℕ) (later : Bucket) (pairs : List Pair)
      (takes : Takes many (key % many) key value (pairs_in v.written old) pairs)
      (becomes : Becomes v.written old later pairs w.written) where
    abbrev now : List Bucket
    now = with_bucket a.buckets key later

    abbrev ours : List (List Pair)
    ours = slice_set all (key % length all) pairs

    front : IsBehind v.written w.written
    front = one_behind v.written w.written a.buckets key later of.some of.each becomes.objects

    pub pairs_now : pairs_of w.written now ≡ ours
    pairs_now = pairs_of_set v.written w.written front a.buckets key later pairs of.each becomes.pairs_are
        ∙ ap (λ (n : ℕ). slice_set all (key % n) pairs) (sym long_all)

    pub takes_all : Takes (length all) (key % length all) key value (get_or all (key % length all) []) pairs
    takes_all = subst (λ (l : List Pair). Takes (length all) (key % length all) key value l pairs)
        (sym (own_pairs v.written a.buckets key of.some))
        (subst (λ (n : ℕ). Takes n (key % n) key value (pairs_in v.written old) pairs) (sym long_all) takes)

    pub map_now : (len : ℕ) (stop : Option Stop) → len + old.count ≡ a.len + later.count
        → len ≡ finite.len (map_of_pairs ours)
        → IsMapOf w (record { buckets = now; len = len; stop = stop })
    map_now len stop counts len_is = record {
      some = (let n = length-set a.buckets (key % many) later in let s = of.some in omega (arith, n, s));
      each = buckets_set v.written w.written front a.buckets key later of.each becomes.bucket;
      apart = apart_now v.written w.written a.buckets key later of.some of.each becomes.objects of.apart;
      keys = subst AreBuckets (sym pairs_now) (buckets_later all of.keys some_all key value pairs takes_all);
      counts = (let z = counts_set v.written a.buckets key of.some later in let n = of.counts in
          omega (arith, z, n, counts));
      len_is = len_is ∙ sym (ap (λ (l : List (List Pair)). finite.len (map_of_pairs l)) pairs_now);
    }

    pub later_count : later.count ≡ length pairs
    later_count = sym (long_in w.written later becomes.bucket) ∙ ap length becomes.pairs_are

-- ---- else the call on the bucket was answered so
module _ (c : Config) (first : ℕ) (v w : View) (a : FarMap) (of : IsMapOf v a) (going : a.stop ≡ None) (key : ℕ) where
  abbrev b : Bucket
  b = bucket_in a.buckets key

  answers : (plan : List Ask) (t : Option Cannot) → Goes c first plan t v w
      → Answers c first a.stop plan t v w
  answers plan t goes = subst (λ (o : Option Stop). Answers c first o plan t v w) (sym going) goes

  own_sole : IsCalmMap v a → AreSole v b.kept
  own_sole x = all_own (IsSole v) a.buckets key of.some x.sole

  own_loose : IsCalmMap v a → AreLoose v b.kept
  own_loose x = all_own (IsLoose v) a.buckets key of.some x.loose

  -- one that failed left the map as it was
  failed_keeps : (plan : List Ask) (e : Cannot) → AreApart (reads_of plan) → WritesLast plan
      → Goes c first plan (Some e) v w → (AreSole v b.kept → AreLoose v b.kept → IsCalm (Some e))
      → KeepsMap c first plan (Some e) v a w (told_map a (Some e))
  failed_keeps plan e once last goes calm = let on = goes_on c first plan (Some e) v w goes in record {
    map = map_on v w a of on.behind (stop_behind a.stop (Some e));
    calls = answers plan (Some e) goes;
    once = once;
    on = on;
    calm = λ x. let quiet = calm (own_sole x) (own_loose x) in
        (quiet, soles_same v w (kept_of a.buckets) (calm_same c first plan e v w last goes quiet) on.share x.sole);
  }

  failed_stays : (plan : List Ask) (e : Cannot) → Goes c first plan (Some e) v w
      → StaysMap (Some e) v a w (told_map a (Some e))
  failed_stays plan e goes = record {
    map = map_stays v w a of (goes_on c first plan (Some e) v w goes).behind (stop_behind a.stop (Some e));
    left = refl;
  }

  -- ---- a look
  abbrev looks : List Ask
  looks = look_plan v.written b key

  pub look_ok : (r : Result (Option ℕ) Cannot) → Goes c first looks (trouble r) v w
      → IfOk r (λ o. o ≡ value_of v.written b key)
      → IfOk r (λ o. IsLooked key o v a w (told_map a (trouble r)))
  look_ok (Ok o) goes is = record {
    value = is ∙ value_got v a of key;
    map = map_stays v w a of (goes_on c first looks None v w goes).behind a.stop;
    left = refl;
  }
  look_ok (Err e) goes is = tt

  pub look_stays : (r : Result (Option ℕ) Cannot) → Goes c first looks (trouble r) v w
      → OnErr r (StaysMap (trouble r) v a w (told_map a (trouble r)))
  look_stays (Ok o) goes = tt
  look_stays (Err e) goes = failed_stays looks e goes

  pub look_keeps : (t : Option Cannot) → Goes c first looks t v w
      → (AreSole v b.kept → AreLoose v b.kept → IsCalm t)
      → KeepsMap c first looks t v a w (told_map a t)
  look_keeps None goes calm = let x = look_read c first v.written b key v w goes in record {
    map = map_on v w a of x.on.behind a.stop;
    calls = answers looks None goes;
    once = look_once v.written b (apart_of v a of key) key;
    on = x.on;
    calm = λ y. (tt, soles_same v w (kept_of a.buckets) x.written x.on.share y.sole);
  }
  look_keeps (Some e) goes calm = failed_keeps looks e (look_once v.written b (apart_of v a of key) key)
      (look_last v.written b key) goes calm

  -- ---- a put and a drop leave these buckets
  module _ (now : List Bucket) (one : now ≡ with_bucket a.buckets key (bucket_in now key)) where
    abbrev later : Bucket
    later = bucket_in now key

    abbrev left_with : ℕ → Option Cannot → FarMap
    left_with len t = record { buckets = now; len = len; stop = stop_behind a.stop t }

    -- where it failed, as they were
    err_keeps : (plan : List Ask) (e : Cannot) (len : ℕ) → len ≡ a.len → now ≡ a.buckets → AreApart (reads_of plan)
        → WritesLast plan → Goes c first plan (Some e) v w → (AreSole v b.kept → AreLoose v b.kept → IsCalm (Some e))
        → KeepsMap c first plan (Some e) v a w (left_with len (Some e))
    err_keeps plan e len same kept once last goes calm =
        subst (λ (n : ℕ). KeepsMap c first plan (Some e) v a w (left_with n (Some e))) (sym same)
        (subst (λ (l : List Bucket). KeepsMap c first plan (Some e) v a w
        (record { buckets = l; len = a.len; stop = stop_behind a.stop (Some e) })) (sym kept)
        (failed_keeps plan e once last goes calm))

    err_stays : (plan : List Ask) (e : Cannot) (len : ℕ) → len ≡ a.len → now ≡ a.buckets
        → Goes c first plan (Some e) v w → StaysMap (Some e) v a w (left_with len (Some e))
    err_stays plan e len same kept goes =
        subst (λ (n : ℕ). StaysMap (Some e) v a w (left_with n (Some e))) (sym same)
        (subst (λ (l : List Bucket). StaysMap (Some e) v a w
        (record { buckets = l; len = a.len; stop = stop_behind a.stop (Some e) })) (sym kept)
        (failed_stays plan e goes))

    abbrev set_to : ℕ → FarMap
    set_to len = record { buckets = with_bucket a.buckets key later; len = len; stop = a.stop }

    done : (len : ℕ) → left_with len None ≡ set_to len
    done len = ap (λ (l : List Bucket). let z : FarMap = record { buckets = l; len = len; stop = a.stop } in z) one

    -- where it was made
    ok_keeps : (plan : List Ask) (value : Option ℕ) (pairs : List Pair) (len : ℕ)
        → Takes (length a.buckets) (key % length a.buckets) key value (pairs_in v.written b) pairs
        → Becomes v.written b later pairs w.written → IsMapOf w (set_to len) → AreApart (reads_of plan)
        → Goes c first plan None v w → KeepsMap c first plan None v a w (left_with len None)
    ok_keeps plan value pairs len takes becomes map once goes =
        let on = goes_on c first plan None v w goes in
        subst (KeepsMap c first plan None v a w) (sym (done len)) (record {
          map = map;
          calls = answers plan None goes;
          once = once;
          on = on;
          calm = λ x. (
            tt,
            soles_now v.written w.written a.buckets key later of.some of.each becomes.objects
                v w refl refl on.share x.whole of.apart x.sole,
          );
        })

    -- ---- a put
    module _ (x : ℕ) where
      abbrev puts : List Ask
      puts = put_plan v.written b (key, x)

      put_there : Becomes v.written b later (put_in v.written b (key, x)) w.written
          → Takes (length a.buckets) (key % length a.buckets) key (Some x) (pairs_in v.written b)
          (put_in v.written b (key, x))
      put_there becomes = put_takes (length a.buckets) (key % length a.buckets) (pairs_in v.written b) key
          (home v a of key) (single v a of key) x refl

      put_map : (becomes : Becomes v.written b later (put_in v.written b (key, x)) w.written) (len : ℕ)
          (stop : Option Stop)
          → map_of w (record { buckets = with_bucket a.buckets key later; len = len; stop = stop })
          ≡ finite.insert (map_of v a) key x
      put_map becomes len stop = ap map_of_pairs (pairs_now v a of key w (Some x) later
          (put_in v.written b (key, x)) (put_there becomes) becomes)
          ∙ map_inserted (pairs_of v.written a.buckets) of.keys (some_all v a of key) key x
          (put_in v.written b (key, x))
          (takes_all v a of key w (Some x) later (put_in v.written b (key, x)) (put_there becomes) becomes)

      put_count : Becomes v.written b later (put_in v.written b (key, x)) w.written
          → a.len + added_by (Ok (value_of v.written b key)) + b.count ≡ a.len + later.count
      put_count becomes =
          let n = later_count v a of key w (Some x) later (put_in v.written b (key, x)) (put_there becomes) becomes in
          let m = put_long (length a.buckets) (key % length a.buckets) (pairs_in v.written b) key
          (home v a of key) (single v a of key) x in
          let l = long_in v.written b (bucket_of v a of key) in
          omega (arith, n, m, l)

      put_is : (o : Option ℕ) → o ≡ value_of v.written b key
          → Becomes v.written b later (put_in v.written b (key, x)) w.written
          → IsMapOf w (set_to (a.len + added_by (Ok o)))
      put_is o is becomes = map_now v a of key w (Some x) later (put_in v.written b (key, x))
          (put_there becomes) becomes
          (a.len + added_by (Ok o)) a.stop
          (ap (λ (q : Option ℕ). a.len + added_by (Ok q) + b.count) is ∙ put_count becomes)
          ((λ i. of.len_is i + added_by (Ok ((is ∙ value_got v a of key) i)))
          ∙ sym (put_len (map_of v a) key x)
          ∙ ap finite.len (sym (map_inserted (pairs_of v.written a.buckets) of.keys (some_all v a of key) key x
          (put_in v.written b (key, x))
          (takes_all v a of key w (Some x) later (put_in v.written b (key, x)) (put_there becomes) becomes))))

      pub put_ok : (r : Result (Option ℕ) Cannot) → IfOk r (λ o. o ≡ value_of v.written b key)
          → OnOk r (Becomes v.written b later (put_in v.written b (key, x)) w.written)
          → IfOk r (λ o. IsPut (key, x) o v a w (left_with (a.len + added_by r) (trouble r)))
      put_ok (Ok o) is becomes = subst (IsPut (key, x) o v a w) (sym (done (a.len + added_by (Ok o)))) (record {
        value = is ∙ value_got v a of key;
        map = put_map becomes (a.len + added_by (Ok o)) a.stop;
        bucket = later;
        becomes = becomes;
        left = ap (λ (n : ℕ). let z : FarMap = set_to n in z) (added_if a.len o);
      })
      put_ok (Err e) is becomes = tt

      pub put_stays : (r : Result (Option ℕ) Cannot) → OnErr r (now ≡ a.buckets) → Goes c first puts (trouble r) v w
          → OnErr r (StaysMap (trouble r) v a w (left_with (a.len + added_by r) (trouble r)))
      put_stays (Ok o) kept goes = tt
      put_stays (Err e) kept goes = err_stays puts e (a.len + 0)
          (let z : a.len + 0 ≡ a.len = omega arith in z) kept goes

      pub put_keeps : (r : Result (Option ℕ) Cannot) → IfOk r (λ o. o ≡ value_of v.written b key)
          → OnOk r (Becomes v.written b later (put_in v.written b (key, x)) w.written)
          → OnErr r (now ≡ a.buckets) → Goes c first puts (trouble r) v w
          → (AreSole v b.kept → AreLoose v b.kept → IsCalm (trouble r))
          → KeepsMap c first puts (trouble r) v a w (left_with (a.len + added_by r) (trouble r))
      put_keeps (Ok o) is becomes kept goes calm = ok_keeps puts (Some x) (put_in v.written b (key, x))
          (a.len + added_by (Ok o)) (put_there becomes) becomes (put_is o is becomes)
          (put_once v.written b (apart_of v a of key) (key, x)) goes
      put_keeps (Err e) is becomes kept goes calm = err_keeps puts e (a.len + 0)
          (let z : a.len + 0 ≡ a.len = omega arith in z) kept
          (put_once v.written b (apart_of v a of key) (key, x)) (put_last v.written b (key, x)) goes calm

    -- ---- a drop
    abbrev drops : List Ask
    drops = drop_plan v.written b key

    drop_there : Becomes v.written b later (dropped_in v.written b key) w.written
        → Takes (length a.buckets) (key % length a.buckets) key None (pairs_in v.written b) (dropped_in v.written b key)
    drop_there becomes = drop_takes (length a.buckets) (key % length a.buckets) (pairs_in v.written b) key
        (home v a of key) (single v a of key)

    removed_all : (becomes : Becomes v.written b later (dropped_in v.written b key) w.written)
        → map_of_pairs (slice_set (pairs_of v.written a.buckets) (key % length (pairs_of v.written a.buckets))
        (dropped_in v.written b key))
        ≡ finite.remove (map_of v a) key
    removed_all becomes = map_removed (pairs_of v.written a.buckets) of.keys (some_all v a of key) key
        (dropped_in v.written b key)
        (takes_all v a of key w None later (dropped_in v.written b key) (drop_there becomes) becomes)

    drop_count : Becomes v.written b later (dropped_in v.written b key) w.written
        → later.count + removed_by (Ok (value_of v.written b key)) ≡ b.count
    drop_count becomes =
        let n = later_count v a of key w None later (dropped_in v.written b key) (drop_there becomes) becomes in
        let m = drop_long (length a.buckets) (key % length a.buckets) (pairs_in v.written b) key
        (home v a of key) (single v a of key) in
        let l = long_in v.written b (bucket_of v a of key) in
        omega (arith, n, m, l)

    pub drop_fits : removed_by (Ok (value_of v.written b key)) ≤ a.len
    drop_fits = let z = drop_len (map_of v a) key in let n = of.len_is in
        subst (λ (o : Option ℕ). removed_by (Ok o) ≤ a.len) (sym (value_got v a of key)) (omega (arith, z, n))

    pub removed_low : (r : Result (Option ℕ) Cannot) → IfOk r (λ o. o ≡ value_of v.written b key) → removed_by r ≤ a.len
    removed_low (Ok o) is = subst (λ (q : Option ℕ). removed_by (Ok q) ≤ a.len) (sym is) drop_fits
    removed_low (Err e) is = omega arith

    drop_is : (o : Option ℕ) → o ≡ value_of v.written b key
        → Becomes v.written b later (dropped_in v.written b key) w.written
        → IsMapOf w (set_to (a.len - removed_by (Ok o)))
    drop_is o is becomes = map_now v a of key w None later (dropped_in v.written b key) (drop_there becomes) becomes
        (a.len - removed_by (Ok o)) a.stop
        (counted (removed_by (Ok o)) (ap (λ (q : Option ℕ). removed_by (Ok q)) is) (drop_count becomes) drop_fits)
        (fewer (removed_by (Ok o)) (ap (λ (q : Option ℕ). removed_by (Ok q)) (is ∙ value_got v a of key))
        (drop_len (map_of v a) key) of.len_is
        ∙ ap finite.len (sym (removed_all becomes)))
      where
        counted : (n : ℕ) {m : ℕ} → n ≡ m → later.count + m ≡ b.count → m ≤ a.len
            → a.len - n + b.count ≡ a.len + later.count
        counted n same less fits = omega (arith, same, less, fits)

        fewer : (n : ℕ) {m k l : ℕ} → n ≡ m → k + m ≡ l → a.len ≡ l → a.len - n ≡ k
        fewer n same less is = omega (arith, same, less, is)

    pub drop_ok : (r : Result (Option ℕ) Cannot) → IfOk r (λ o. o ≡ value_of v.written b key)
        → OnOk r (Becomes v.written b later (dropped_in v.written b key) w.written)
        → IfOk r (λ o. IsDropped key o v a w (left_with (a.len - removed_by r) (trouble r)))
    drop_ok (Ok o) is becomes = subst (IsDropped key o v a w) (sym (done (a.len - removed_by (Ok o)))) (record {
      value = is ∙ value_got v a of key;
      map = ap map_of_pairs (pairs_now v a of key w None later (dropped_in v.written b key)
          (drop_there becomes) becomes)
          ∙ removed_all becomes;
      bucket = later;
      becomes = becomes;
      left = ap (λ (n : ℕ). let z : FarMap = set_to n in z) (removed_if a.len o);
    })
    drop_ok (Err e) is becomes = tt

    pub drop_stays : (r : Result (Option ℕ) Cannot) → OnErr r (now ≡ a.buckets) → Goes c first drops (trouble r) v w
        → OnErr r (StaysMap (trouble r) v a w (left_with (a.len - removed_by r) (trouble r)))
    drop_stays (Ok o) kept goes = tt
    drop_stays (Err e) kept goes = err_stays drops e (a.len - 0)
        (let z : a.len - 0 ≡ a.len = omega arith in z) kept goes

    pub drop_keeps : (r : Result (Option ℕ) Cannot) → IfOk r (λ o. o ≡ value_of v.written b key)
        → OnOk r (Becomes v.written b later (dropped_in v.written b key) w.written)
        → OnErr r (now ≡ a.buckets) → Goes c first drops (trouble r) v w
        → (AreSole v b.kept → AreLoose v b.kept → IsCalm (trouble r))
        → KeepsMap c first drops (trouble r) v a w (left_with (a.len - removed_by r) (trouble r))
    drop_keeps (Ok o) is becomes kept goes calm = ok_keeps drops None (dropped_in v.written b key)
        (a.len - removed_by (Ok o)) (drop_there becomes) becomes (drop_is o is becomes)
        (drop_once v.written b (apart_of v a of key) (bucket_of v a of key) key) goes
    drop_keeps (Err e) is becomes kept goes calm = err_keeps drops e (a.len - 0)
        (let z : a.len - 0 ≡ a.len = omega arith in z) kept
        (drop_once v.written b (apart_of v a of key) (bucket_of v a of key) key) (drop_last v.written b key) goes calm

pub added_low : (r : Result (Option ℕ) Cannot) → added_by r ≤ 1
added_low (Ok None) = omega arith
added_low (Ok (Some x)) = omega arith
added_low (Err e) = omega arith
