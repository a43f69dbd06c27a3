-- Worked examples of what a call on a map comes to: what meets each definition, and what breaks one
-- part.
use Rattle.std.proofs.Common.{◌≡◌, ℕ, ◌*◌, ◌/◌, ◌≤◌, ◌<◌, Bool, true, false, true≢false, cond, List, [], ◌∷◌, length, replicate, slice_set, Option, None, Some, refl, sym, ap, ◌∙◌, inl, inr, arith}
use Rattle.std.proofs.lemmas.Option.{none-some, same_Some}
use Rattle.std.specs.Cmp.{nat_cmp_total}
use Rattle.std.specs.FinMap as finite
use Rattle.std.specs.List.{IsDistinct}
use Rattle.std.specs.Ordering.{eq_by_cmp, nat_cmp}
use Rattle.cb_types.specs.declared.config.Config.{Config}
use Rattle.cb_types.specs.declared.reply.Reply.TheVariants as answer
use Rattle.cb_world.specs.declared.entry.Entry.{Entry}
use Rattle.cb_world.specs.Memory.{bytes_in}
use Rattle.cb_world.specs.Written.{entry}
use Rattle.cb_rule.specs.declared.view.Stand.{Stand}
use Rattle.cb_rule.specs.declared.view.View.{View}
use Rattle.cb_farmap.specs.declared.bucket.Bucket.{Bucket}
use Rattle.cb_farmap.specs.declared.kept.Cannot.TheVariants as cannot
use Rattle.cb_farmap.specs.declared.kept.KeptObject.{KeptObject}
use Rattle.cb_farmap.specs.declared.kept.Stop.TheVariants as stop
use Rattle.cb_farmap.specs.declared.map.FarMap.{FarMap}
use Rattle.cb_farmap.specs.BucketChanges.{Becomes, ChangesOne, put_in}
use Rattle.cb_farmap.specs.Buckets.{IsBucket, no_bucket}
use Rattle.cb_farmap.specs.Calls.{AskRead}
use Rattle.cb_farmap.specs.Changes.{with_next}
use Rattle.cb_farmap.specs.MapChanges.{IsDropped, IsLooked, IsPut, KeepsMap, StaysMap}
use Rattle.cb_farmap.specs.Maps.{IsCalmMap, map_of, no_map}
use Rattle.cb_farmap.specs.Objects.{object_at}
use Rattle.cb_farmap.proofs.Behind.{on_same}
use Rattle.cb_farmap.proofs.FreshMap.{fresh_map}
use Rattle.cb_farmap.proofs.WorkedObjects.{early, kept, later}

-- object 5, of the pair of 1 and 6 alone
abbrev made : Entry
made = entry 5 1 1024 [] (1 ∷ 6 ∷ replicate 126 0)

-- with another value
abbrev strange : Entry
strange = entry 5 1 1024 [] (1 ∷ 7 ∷ replicate 126 0)

abbrev with_pair : ℕ → Bucket
with_pair count = record { kept = kept 5 1 ∷ []; count = count }

-- its next version, with another value
abbrev again : Entry
again = entry 5 2 1024 (1 ∷ 6 ∷ replicate 126 0) (1 ∷ 7 ∷ replicate 126 0)

-- twice that pair
abbrev double : Entry
double = entry 5 1 1024 [] (1 ∷ 6 ∷ 1 ∷ 6 ∷ replicate 124 0)

-- object 6, of the pair of 1 and 3 alone
abbrev far : Entry
far = entry 6 1 1024 [] (1 ∷ 3 ∷ replicate 126 0)

abbrev in_one : ℕ → FarMap
in_one count = record { buckets = with_pair count ∷ []; len = count; stop = None }

-- the pair of object 6 stands in the first of two buckets, to which its key does not belong
abbrev astray : Bucket → FarMap
astray b = record {
  buckets = record { kept = kept 6 1 ∷ []; count = 1 } ∷ b ∷ [];
  len = 1;
  stop = None;
}

abbrev first_of : List KeptObject → KeptObject
first_of [] = kept 0 0
first_of (k ∷ ks) = k

abbrev first_kept : List Bucket → List KeptObject
first_kept [] = []
first_kept (b ∷ bs) = b.kept

-- a map that has stopped
abbrev stopped : FarMap → FarMap
stopped a = record a { stop = Some stop.Freed }

not_stopped : (a : FarMap) → a.stop ≡ None → a ≡ stopped a → ⊥
not_stopped a going is = none-some stop.Freed (sym going ∙ ap (λ (z : FarMap). z.stop) is)

abbrev pair_map : ℕ → finite.FinMap nat_cmp ℕ
pair_map x = finite.from_entries ((1, x) ∷ [])

abbrev empty_map : finite.FinMap nat_cmp ℕ
empty_map = finite.from_entries []

value_in : (x : ℕ) → finite.get (pair_map x) 1 ≡ Some x
value_in x = finite.get-from_entries nat_cmp_total ((1, x) ∷ []) 1

none_in : finite.get (pair_map 6) 3 ≡ None
none_in = finite.get-from_entries nat_cmp_total ((1, 6) ∷ []) 3

none_at_all : finite.get empty_map 1 ≡ None
none_at_all = finite.get-from_entries nat_cmp_total [] 1

other_value : pair_map 7 ≡ pair_map 6 → ⊥
other_value is = let e : 7 ≡ 6 = same_Some 7 6
    (sym (value_in 7) ∙ ap (λ (m : finite.FinMap nat_cmp ℕ). finite.get m 1) is ∙ value_in 6) in omega (arith, e)

one_in : pair_map 6 ≡ finite.insert empty_map 1 6
one_in = finite.same_map nat_cmp_total finite.nat_cmp-IsAntisymmetric (pair_map 6) (finite.insert empty_map 1 6)
    (λ q. finite.get-from_entries nat_cmp_total ((1, 6) ∷ []) q
    ∙ sym (finite.get-insert nat_cmp_total empty_map 1 6 q
    ∙ ap (cond (eq_by_cmp nat_cmp q 1) (Some 6)) (finite.get-from_entries nat_cmp_total [] q)))

one_over : pair_map 7 ≡ finite.insert (pair_map 6) 1 7
one_over = finite.same_map nat_cmp_total finite.nat_cmp-IsAntisymmetric (pair_map 7) (finite.insert (pair_map 6) 1 7)
    (λ q. finite.get-from_entries nat_cmp_total ((1, 7) ∷ []) q
    ∙ sym (finite.get-insert nat_cmp_total (pair_map 6) 1 7 q
    ∙ ap (cond (eq_by_cmp nat_cmp q 1) (Some 7)) (finite.get-from_entries nat_cmp_total ((1, 6) ∷ []) q)
    ∙ twice (eq_by_cmp nat_cmp q 1)))
  where
    twice : (b : Bool) → cond {A = Option ℕ} b (Some 7) (cond b (Some 6) None) ≡ cond b (Some 7) None
    twice true = refl
    twice false = refl

one_out : empty_map ≡ finite.remove (pair_map 6) 1
one_out = finite.same_map nat_cmp_total finite.nat_cmp-IsAntisymmetric empty_map (finite.remove (pair_map 6) 1)
    (λ q. finite.get-from_entries nat_cmp_total [] q
    ∙ sym (finite.get-remove nat_cmp_total (pair_map 6) 1 q
    ∙ ap (cond (eq_by_cmp nat_cmp q 1) None) (finite.get-from_entries nat_cmp_total ((1, 6) ∷ []) q)
    ∙ twice (eq_by_cmp nat_cmp q 1)))
  where
    twice : (b : Bool) → cond {A = Option ℕ} b None (cond b (Some 6) None) ≡ None
    twice true = refl
    twice false = refl

-- any record of the whole share that wrote these
module _ (r : View) where
  abbrev wrote : List Entry → View
  wrote es = record r { written = es; share = 64; pins = [] }

  abbrev v : View
  v = wrote (made ∷ [])

  map_is : map_of v (in_one 1) ≡ pair_map 6
  unfolding bytes_in
  map_is = refl

  strange_is : map_of (wrote (strange ∷ [])) (in_one 1) ≡ pair_map 7
  unfolding bytes_in
  strange_is = refl

  strange_map : map_of (wrote (strange ∷ [])) (in_one 1) ≡ map_of v (in_one 1) → ⊥
  strange_map is = other_value (sym strange_is ∙ is ∙ map_is)

  -- ---- a look
  looked : IsLooked 1 (Some 6) v (in_one 1) v (in_one 1)
  looked = record {
    value = sym (ap (λ (m : finite.FinMap nat_cmp ℕ). finite.get m 1) map_is ∙ value_in 6);
    map = refl;
    left = refl;
  }

  looked_none : IsLooked 3 None v (in_one 1) v (in_one 1)
  looked_none = record {
    value = sym (ap (λ (m : finite.FinMap nat_cmp ℕ). finite.get m 3) map_is ∙ none_in);
    map = refl;
    left = refl;
  }

  looked_past : IsLooked 1 None v (in_one 1) v (in_one 1) → ⊥
  looked_past x = none-some 6 (x.value
      ∙ ap (λ (m : finite.FinMap nat_cmp ℕ). finite.get m 1) map_is ∙ value_in 6)

  looked_in_another : IsLooked 1 (Some 6) v (in_one 1) (wrote (strange ∷ [])) (in_one 1) → ⊥
  looked_in_another x = strange_map x.map

  looked_and_stopped : IsLooked 1 (Some 6) v (in_one 1) v (stopped (in_one 1)) → ⊥
  looked_and_stopped x = not_stopped (in_one 1) refl (sym x.left)

  -- ---- a put of a new key: an object is made
  is_bucket : IsBucket (made ∷ []) (with_pair 1)
  is_bucket = record {
    objects = (record { at = made; is = refl; held = refl; long = refl; wide = refl }, tt);
    within = omega arith;
  }

  becomes_one : Becomes [] no_bucket (with_pair 1) (put_in [] no_bucket (1, 6)) (made ∷ [])
  unfolding bytes_in
  becomes_one = record {
    bucket = is_bucket;
    pairs_are = refl;
    objects = inr (inr (
      (1, 6),
      record {
        entry = made;
        front = refl;
        made = kept 5 1;
        handle = refl;
        version = refl;
        fresh = λ e has. absurd has;
        more = refl;
        object = is_bucket.objects.0;
        bytes_are = refl;
      },
    ));
  }

  put_new : IsPut (1, 6) None (wrote []) (no_map 1) v (in_one 1)
  put_new = record {
    value = sym none_at_all;
    map = map_is ∙ one_in;
    bucket = with_pair 1;
    becomes = becomes_one;
    left = refl;
  }

  -- ---- a put of a known key: its object is written
  abbrev over : Bucket
  over = record { kept = kept 5 2 ∷ []; count = 1 }

  becomes_over : Becomes (made ∷ []) (with_pair 1) over (put_in (made ∷ []) (with_pair 1) (1, 7)) (again ∷ made ∷ [])
  unfolding bytes_in
  becomes_over = record {
    bucket = record {
      objects = (record { at = again; is = refl; held = refl; long = refl; wide = refl }, tt);
      within = omega arith;
    };
    pairs_are = refl;
    objects = inr (inl (
      0,
      (1, 7),
      omega arith,
      record {
        key_fits = omega arith;
        value_fits = omega arith;
        kept = refl;
        wrote = record {
          entry = again;
          front = refl;
          handle = refl;
          version = refl;
          next = refl;
          object = record { at = again; is = refl; held = refl; long = refl; wide = refl };
          bytes_are = refl;
        };
      },
    ));
  }

  over_is : map_of (wrote (again ∷ made ∷ [])) (record { buckets = over ∷ []; len = 1; stop = None }) ≡ pair_map 7
  unfolding bytes_in
  over_is = refl

  put_over : IsPut (1, 7) (Some 6) v (in_one 1) (wrote (again ∷ made ∷ []))
      (record { buckets = over ∷ []; len = 1; stop = None })
  put_over = record {
    value = sym (ap (λ (m : finite.FinMap nat_cmp ℕ). finite.get m 1) map_is ∙ value_in 6);
    map = over_is ∙ one_over ∙ ap (λ (m : finite.FinMap nat_cmp ℕ). finite.insert m 1 7) (sym map_is);
    bucket = over;
    becomes = becomes_over;
    left = refl;
  }

  -- ---- what is no put
  put_over_none : IsPut (1, 6) (Some 3) (wrote []) (no_map 1) v (record (in_one 1) { len = 0 }) → ⊥
  put_over_none x = none-some 3 (sym (x.value ∙ none_at_all))

  -- an entry of another object came too
  put_beside : IsPut (1, 6) None (wrote []) (no_map 1) (wrote (made ∷ far ∷ [])) (in_one 1) → ⊥
  put_beside x = by x.becomes.objects
    where
      its : x.bucket.kept ≡ kept 5 1 ∷ []
      its = ap (λ (z : FarMap). first_kept z.buckets) (sym x.left)

      by : ChangesOne [] [] x.bucket.kept (made ∷ far ∷ []) → ⊥
      by (inl (same, front)) = let e : 0 ≡ 1 = ap (λ (ks : List KeptObject). length ks) (sym same ∙ its) in
          omega (arith, e)
      by (inr (inl (place, p, low, put_in))) = let e : place < 64 * 0 = low in omega (arith, e)
      by (inr (inr (p, makes))) = let e : 2 ≡ 1 = ap (λ (l : List Entry). length l) makes.front in
          omega (arith, e)

  -- where the key stands in another bucket than its own, in front of that, the map is not told so
  put_astray : IsPut (1, 6) (Some 3) (wrote (far ∷ [])) (astray no_bucket)
      (wrote (made ∷ far ∷ [])) (astray (with_pair 1)) → ⊥
  unfolding bytes_in
  put_astray x = let e : 3 ≡ 6 = same_Some 3 6 (sym (finite.get-from_entries nat_cmp_total ((1, 3) ∷ (1, 6) ∷ []) 1)
      ∙ ap (λ (m : finite.FinMap nat_cmp ℕ). finite.get m 1) x.map
      ∙ finite.get-insert nat_cmp_total (pair_map 3) 1 6 1) in omega (arith, e)

  put_and_stopped : IsPut (1, 6) None (wrote []) (no_map 1) v (stopped (in_one 1)) → ⊥
  put_and_stopped x = none-some stop.Freed (sym (ap (λ (z : FarMap). z.stop) x.left))

  -- a new key that is not counted
  put_not_counted : IsPut (1, 6) None (wrote []) (no_map 1) v (record (in_one 1) { len = 0 }) → ⊥
  put_not_counted x = let e : 0 ≡ 1 = ap (λ (z : FarMap). z.len) x.left in omega (arith, e)

  -- ---- a drop of the last pair: nothing moves
  dropped_last : IsDropped 1 (Some 6) v (in_one 1) v (in_one 0)
  unfolding bytes_in
  dropped_last = record {
    value = sym (ap (λ (m : finite.FinMap nat_cmp ℕ). finite.get m 1) map_is ∙ value_in 6);
    map = one_out;
    bucket = with_pair 0;
    becomes = record {
      bucket = record { objects = is_bucket.objects; within = omega arith };
      pairs_are = refl;
      objects = inl (refl, refl);
    };
    left = refl;
  }

  dropped_none : IsDropped 1 None v (in_one 1) v (record (in_one 0) { len = 1 }) → ⊥
  dropped_none x = none-some 6 (x.value
      ∙ ap (λ (m : finite.FinMap nat_cmp ℕ). finite.get m 1) map_is ∙ value_in 6)

  -- something was written, and nothing is moved
  dropped_and_written : IsDropped 1 (Some 6) v (in_one 1) (wrote (later ∷ made ∷ [])) (in_one 0) → ⊥
  dropped_and_written x = by x.becomes.objects
    where
      its : x.bucket.kept ≡ kept 5 1 ∷ []
      its = ap (λ (z : FarMap). first_kept z.buckets) (sym x.left)

      by : ChangesOne (made ∷ []) (kept 5 1 ∷ []) x.bucket.kept (later ∷ made ∷ []) → ⊥
      by (inl (same, front)) = let e : 2 ≡ 1 = ap (λ (l : List Entry). length l) front in omega (arith, e)
      by (inr (inl (place, p, low, put_in))) = let e : 1 ≡ 2 = ap (λ (ks : List KeptObject). (first_of ks).version)
          (sym its ∙ put_in.kept ∙ ap (λ (o : ℕ). slice_set (kept 5 1 ∷ []) o (with_next (object_at (kept 5 1 ∷ []) o)))
          (let z : place / 64 ≡ 0 = omega (arith, low) in z)) in omega (arith, e)
      by (inr (inr (p, makes))) = let e : 1 ≡ 2 = ap (λ (ks : List KeptObject). length ks) (sym its ∙ makes.more) in
          omega (arith, e)

  -- where the key stands twice in its bucket, the map has it still
  dropped_once : IsDropped 1 (Some 6) (wrote (double ∷ [])) (in_one 2)
      (wrote (double ∷ [])) (in_one 1) → ⊥
  unfolding bytes_in
  dropped_once x = none-some 6 (sym (sym (value_in 6)
      ∙ ap (λ (m : finite.FinMap nat_cmp ℕ). finite.get m 1) x.map
      ∙ finite.get-remove nat_cmp_total (finite.from_entries ((1, 6) ∷ (1, 6) ∷ [])) 1 1))

  dropped_and_counted : IsDropped 1 (Some 6) v (in_one 1) v (record (in_one 0) { len = 1 }) → ⊥
  dropped_and_counted x = let e : 1 ≡ 0 = ap (λ (z : FarMap). z.len) x.left in omega (arith, e)

  -- ---- a call that is not answered
  stays : StaysMap (Some (cannot.Refused answer.Worn)) v (in_one 1) v (in_one 1)
  stays = record { map = refl; left = refl }

  stays_freed : StaysMap (Some (cannot.Refused answer.Freed)) v (in_one 1) v (stopped (in_one 1))
  stays_freed = record { map = refl; left = refl }

  stays_with_another :
      StaysMap (Some (cannot.Refused answer.Worn)) v (in_one 1) (wrote (strange ∷ [])) (in_one 1) → ⊥
  stays_with_another x = strange_map x.map

  stays_unstopped : StaysMap (Some (cannot.Refused answer.Freed)) v (in_one 1) v (in_one 1) → ⊥
  stays_unstopped x = not_stopped (in_one 1) refl x.left

  -- ---- a map that nobody else has
  calm : IsCalmMap v (in_one 1)
  calm = record {
    whole = refl;
    going = refl;
    sole = (record { whole = refl; last = ((λ of. omega arith), tt) }, tt);
    loose = (refl, tt);
  }

  half : IsCalmMap (record v { share = 32 }) (no_map 1) → ⊥
  half x = let e : 32 ≡ 64 = x.whole in omega (arith, e)

  has_stopped : IsCalmMap v (stopped (in_one 1)) → ⊥
  has_stopped x = none-some stop.Freed (sym x.going)

  written_since : IsCalmMap (wrote (later ∷ early ∷ [])) (in_one 1) → ⊥
  written_since x = let low : 2 ≤ 1 = x.sole.0.last.0 refl in omega (arith, low)

  abbrev a_pin : Stand
  a_pin = record { handle = 5; len = 1024; place = 0; version = 1; words = [] }

  with_a_pin : IsCalmMap (record v { pins = a_pin ∷ [] }) (in_one 1) → ⊥
  with_a_pin x = let e : 1 ≡ 0 = x.loose.0 in omega (arith, e)

  -- ---- what each call keeps to. No call is made of a look in an empty bucket.
  module _ (c : Config) where
    none_made : KeepsMap c 1 [] None v (no_map 1) v (no_map 1)
    unfolding IsDistinct
    none_made = record {
      map = (fresh_map v 1 (omega arith)).0;
      calls = refl;
      once = tt;
      on = on_same v v refl;
      calm = λ x. (tt, tt);
    }

    no_map_of_it : KeepsMap c 1 [] None v (no_map 1) v (record (no_map 1) { len = 1 }) → ⊥
    no_map_of_it x = let e : 1 ≡ 0 = x.map.counts in omega (arith, e)

    refused_by_none : KeepsMap c 1 [] (Some (cannot.Refused answer.Worn)) v (no_map 1) v (no_map 1) → ⊥
    refused_by_none x = x.calls

    -- no call is made where an answer is given again, so the plan alone reads twice
    read_twice : KeepsMap c 1 (AskRead (kept 5 1) ∷ AskRead (kept 5 1) ∷ []) (Some (cannot.Refused answer.Freed))
        v (stopped (no_map 1)) v (stopped (no_map 1)) → ⊥
    unfolding IsDistinct
    read_twice x = true≢false x.once.0.0

    -- an object below the version of its last entry
    not_sole : KeepsMap c 1 [] None (wrote (later ∷ early ∷ [])) (no_map 1) (wrote (later ∷ early ∷ [])) (in_one 0) → ⊥
    not_sole x = let z = x.calm (record { whole = refl; going = refl; sole = tt; loose = tt }) in
        let low : 2 ≤ 1 = z.1.0.last.0 refl in omega (arith, low)
