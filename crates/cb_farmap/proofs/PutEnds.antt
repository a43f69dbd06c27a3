-- What a put and a drop in a bucket come to, by the search and by what was done behind it.
use Rattle.std.proofs.Common.{◌≡◌, ◌≢◌, ℕ, ◌-◌, ◌*◌, ◌/◌, ◌%◌, ◌^◌, ◌<◌, ◌≤◌, Bool, true, false, eq-eqb, List, [], ◌∷◌, length, Option, None, Some, Result, Ok, Err, IfOk, OnOk, refl, sym, ap, ◌∙◌, subst, inl, arith}
use Rattle.std.specs.Prelude.{if◌then◌else◌}
use Rattle.std.proofs.lemmas.Bool.{ne_eqb}
use Rattle.std.proofs.lemmas.List.{get_or-take}
use Rattle.std.specs.List.{AllByRecursion}
use Rattle.cb_types.specs.declared.config.Config.{Config}
use Rattle.cb_world.specs.declared.entry.Entry.{Entry}
use Rattle.cb_rule.specs.declared.view.View.{View}
use Rattle.cb_farmap.specs.declared.bucket.Bucket.{Bucket}
use Rattle.cb_farmap.specs.declared.find.Found.{Found}
use Rattle.cb_farmap.specs.declared.kept.Cannot.{Cannot}
use Rattle.cb_farmap.specs.declared.kept.KeptObject.{KeptObject}
use Rattle.cb_farmap.specs.BucketChanges.{AddsPair, Becomes, FindsAt, IsFound, WritesPair, dropped_at, dropped_in, put_at, put_in, value_in, value_of, with_pair}
use Rattle.cb_farmap.specs.Buckets.{IsBucket, all_pairs, pairs_in}
use Rattle.cb_farmap.specs.Calls.{Ask, AskMake, AskWrite, Goes}
use Rattle.cb_farmap.specs.Changes.{AreLoose, AreSole, IsCalm, IsLoose, IsSole, Makes, Rewrites, with_next}
use Rattle.cb_farmap.specs.Numbers.{pair_at}
use Rattle.cb_farmap.specs.Objects.{IsObject, blank, object_at}
use Rattle.cb_farmap.specs.PairBytes.{object_bytes, pair_bytes}
use Rattle.cb_farmap.specs.Pairs.{Pair, dropped, place_of}
use Rattle.cb_farmap.specs.Plans.{add_ask, drop_asks, drop_plan, is_filled, look_plan, move_asks, put_ask, put_plan, write_at}
use Rattle.cb_farmap.proofs.Arrays.{object_long}
use Rattle.cb_farmap.proofs.BucketLaws.{pair_in_object}
use Rattle.cb_farmap.proofs.FindIn.{object_is}
use Rattle.cb_farmap.proofs.GoingOn.{goes_stop, goes_then}
use Rattle.cb_farmap.proofs.Lists.{all_at}
use Rattle.cb_farmap.proofs.PlanLaws.{look_read, loose_read, sole_read}

-- ---- what was found
module _ (es : List Entry) (b : Bucket) (found : Found) (is : IsBucket es b) (there : IsFound es b found) where
  pub inside : found.place < 64 * length b.kept
  inside = let w = is.within in let l = there.within in omega (arith, w, l)

  pub found_long : length found.bytes ≡ 1024
  found_long = ap length there.bytes_are ∙ object_long es (object_at b.kept (found.place / 64))
      (object_is es b (found.place / 64) is (let l = inside in omega (arith, l)))

  pub found_value : (x : ℕ) → x ≡ (pair_at found.bytes (found.place % 64)).1
      → Some x ≡ value_in (pairs_in es b) (Some found.place)
  found_value x told = ap Some (told
      ∙ ap (λ (l : List ℕ). (pair_at l (found.place % 64)).1) there.bytes_are
      ∙ ap (λ (p : Pair). p.1) (sym (get_or-take b.count (all_pairs es b.kept) found.place (0, 0) there.within
      ∙ pair_in_object es b.kept found.place inside)))

-- ---- behind a search that went
module _ (c : Config) (n : ℕ) (v u : View) (b : Bucket) (key : ℕ)
    (before : Goes c n (look_plan v.written b key) None v u) where
  same : u.written ≡ v.written
  same = (look_read c n v.written b key v u before).written

  pub bucket_after : IsBucket v.written b → IsBucket u.written b
  bucket_after is = subst (λ (l : List Entry). IsBucket l b) (sym same) is

  pub found_after : (f : Option Found) (found : Found) → f ≡ Some found → FindsAt v.written b key f
      → IsFound u.written b found
  found_after f found at finds = subst (λ (l : List Entry). IsFound l b found) (sym same)
      (subst (FindsAt v.written b key) at finds).1

  pub calm_after : (t : Option Cannot) → (AreSole u b.kept → AreLoose u b.kept → IsCalm t)
      → AreSole v b.kept → AreLoose v b.kept → IsCalm t
  calm_after t calm sole loose = let x = look_read c n v.written b key v u before in
      calm (sole_read v u b.kept x sole) (loose_read v u b.kept x loose)

  -- by the place of the key
  module _ (place : Option ℕ) (at : place_of key (pairs_in v.written b) ≡ place) where
    pub value_after : (r : Result (Option ℕ) Cannot) → IfOk r (λ o. o ≡ value_in (pairs_in u.written b) place)
        → IfOk r (λ o. o ≡ value_of v.written b key)
    value_after (Ok o) is = is ∙ (λ i. value_in (pairs_in (same i) b) (sym at i))
    value_after (Err e) is = tt

    pub put_after : (x : ℕ) (later : Bucket) (w : View) (r : Result (Option ℕ) Cannot)
        → OnOk r (Becomes u.written b later (put_at (pairs_in u.written b) (key, x) place) w.written)
        → OnOk r (Becomes v.written b later (put_in v.written b (key, x)) w.written)
    put_after x later w (Ok o) becomes = subst (λ (p : Option ℕ). Becomes v.written b later
        (put_at (pairs_in v.written b) (key, x) p) w.written) (sym at)
        (subst (λ (l : List Entry). Becomes l b later (put_at (pairs_in l b) (key, x) place) w.written) same becomes)
    put_after x later w (Err e) becomes = tt

    pub put_goes_after : (x : ℕ) (t : Option Cannot) (w : View) → Goes c n (put_ask b (key, x) place ∷ []) t u w
        → Goes c n (put_plan v.written b (key, x)) t v w
    put_goes_after x t w goes = goes_then c n (look_plan v.written b key)
        (put_ask b (key, x) (place_of key (pairs_in v.written b)) ∷ []) t v u w before
        (subst (λ (p : Option ℕ). Goes c n (put_ask b (key, x) p ∷ []) t u w) (sym at) goes)

  -- a drop of a pair that was found
  pub drop_after : (place : ℕ) → place_of key (pairs_in v.written b) ≡ Some place → (later : Bucket) (w : View)
      (r : Result (Option ℕ) Cannot)
      → OnOk r (Becomes u.written b later (dropped (pairs_in u.written b) place) w.written)
      → OnOk r (Becomes v.written b later (dropped_in v.written b key) w.written)
  drop_after place at later w (Ok o) becomes = subst (λ (p : Option ℕ). Becomes v.written b later
      (dropped_at (pairs_in v.written b) p) w.written) (sym at)
      (subst (λ (l : List Entry). Becomes l b later (dropped (pairs_in l b) place) w.written) same becomes)
  drop_after place at later w (Err e) becomes = tt

  pub drop_goes_after : (place : ℕ) → place_of key (pairs_in v.written b) ≡ Some place → (t : Option Cannot) (w : View)
      → Goes c n (move_asks u.written b.kept place (b.count - 1)) t u w → Goes c n (drop_plan v.written b key) t v w
  drop_goes_after place at t w goes = goes_then c n (look_plan v.written b key)
      (drop_asks v.written b (place_of key (pairs_in v.written b))) t v u w before
      (subst (λ (p : Option ℕ). Goes c n (drop_asks v.written b p) t u w) (sym at)
      (subst (λ (l : List Entry). Goes c n (move_asks l b.kept place (b.count - 1)) t u w) same goes))

  -- and of none
  module _ (at : place_of key (pairs_in v.written b) ≡ None) where
    pub none_dropped : IsBucket v.written b → Becomes v.written b b (dropped_in v.written b key) u.written
    none_dropped is = record {
      bucket = bucket_after is;
      pairs_are = ap (λ (l : List Entry). pairs_in l b) same ∙ ap (dropped_at (pairs_in v.written b)) (sym at);
      objects = inl (refl, same);
    }

    pub none_goes : Goes c n (drop_plan v.written b key) None v u
    none_goes = goes_then c n (look_plan v.written b key) (drop_asks v.written b (place_of key (pairs_in v.written b)))
        None v u u before (subst (λ (p : Option ℕ). Goes c n (drop_asks v.written b p) None u u) (sym at) refl)

-- ---- a search that failed
pub put_failed : (c : Config) (n : ℕ) (v u : View) (b : Bucket) (key x : ℕ) (e : Cannot)
    → Goes c n (look_plan v.written b key) (Some e) v u → Goes c n (put_plan v.written b (key, x)) (Some e) v u
put_failed c n v u b key x e goes = goes_stop c n (look_plan v.written b key)
    (put_ask b (key, x) (place_of key (pairs_in v.written b)) ∷ []) e v u goes

pub drop_failed : (c : Config) (n : ℕ) (v u : View) (b : Bucket) (key : ℕ) (e : Cannot)
    → Goes c n (look_plan v.written b key) (Some e) v u → Goes c n (drop_plan v.written b key) (Some e) v u
drop_failed c n v u b key e goes = goes_stop c n (look_plan v.written b key)
    (drop_asks v.written b (place_of key (pairs_in v.written b))) e v u goes

-- ---- a write of a pair
module _ (ks : List KeptObject) (place : ℕ) (within : place < 64 * length ks) where
  pub place_there : place / 64 < length ks
  place_there = omega (arith, within)

  pub object_there : (es : List Entry) (k : KeptObject) → k ≡ object_at ks (place / 64)
      → AllByRecursion (IsObject es) ks → IsObject es k
  object_there es k is all = subst (IsObject es) (sym is) (all_at (IsObject es) ks (place / 64) blank all place_there)

  pub sole_there : (v : View) (k : KeptObject) → k ≡ object_at ks (place / 64) → AreSole v ks → IsSole v k
  sole_there v k is all = subst (IsSole v) (sym is) (all_at (IsSole v) ks (place / 64) blank all place_there)

  pub loose_there : (v : View) (k : KeptObject) → k ≡ object_at ks (place / 64) → AreLoose v ks → IsLoose v k
  loose_there v k is all = subst (IsLoose v) (sym is) (all_at (IsLoose v) ks (place / 64) blank all place_there)

-- what was told of the write, and what was kept
pub pair_goes : (c : Config) (n : ℕ) (ks : List KeptObject) (place : ℕ) (p : Pair)
    (bytes : List ℕ) (t : Option Cannot) (v w : View) → bytes ≡ pair_bytes p
    → Goes c n (AskWrite (object_at ks (place / 64)) (16 * (place % 64)) bytes ∷ []) t v w
    → Goes c n (write_at ks place p ∷ []) t v w
pair_goes c n ks place p bytes t v w are goes = subst (λ (l : List ℕ). Goes c n
    (AskWrite (object_at ks (place / 64)) (16 * (place % 64)) l ∷ []) t v w) are goes

pub pair_wrote : (es new : List Entry) (ks later : List KeptObject) (place : ℕ) (p : Pair)
    (bytes : List ℕ) (q : Result (Unit {0}) Cannot) → p.0 < 2 ^ 64 → p.1 < 2 ^ 64
    → bytes ≡ pair_bytes p
    → OnOk q (Rewrites es (object_at ks (place / 64)) (with_next (object_at ks (place / 64)))
    (16 * (place % 64)) bytes new) → OnOk q (later ≡ with_pair ks place)
    → OnOk q (WritesPair es ks place p later new)
pair_wrote es new ks later place p bytes (Ok u) key_low value_low are wrote kept = record {
  key_fits = key_low;
  value_fits = value_low;
  kept = kept;
  wrote = subst (λ (l : List ℕ). Rewrites es (object_at ks (place / 64))
      (with_next (object_at ks (place / 64))) (16 * (place % 64)) l new) are wrote;
}
pair_wrote es new ks later place p bytes (Err e) key_low value_low are wrote kept = tt

-- ---- one pair more
module _ (ks : List KeptObject) (count : ℕ) (p : Pair) (within : count ≤ 64 * length ks) where
  -- where all objects are full
  pub full_now : count / 64 ≡ length ks → is_filled ks count ≡ true
  full_now e = eq-eqb count (64 * length ks) (let z : count ≡ 64 * length ks = omega (arith, within, e) in z)

  pub room_now : count / 64 ≢ length ks → count < 64 * length ks
  room_now ne = omega (arith, within, ne)

  pub not_filled : count / 64 ≢ length ks → is_filled ks count ≡ false
  not_filled ne = ne_eqb count (64 * length ks) (λ e. let low = room_now ne in omega (arith, low, e))

  abbrev add_by : Bool → Ask
  add_by t = if t then AskMake (object_bytes p) else write_at ks count p

  pub add_goes_full : (c : Config) (n : ℕ) (t : Option Cannot) (v w : View) (bytes : List ℕ) → count / 64 ≡ length ks
      → bytes ≡ object_bytes p → Goes c n (AskMake bytes ∷ []) t v w → Goes c n (add_ask ks count p ∷ []) t v w
  add_goes_full c n t v w bytes full are goes =
      subst (λ (s : Bool). Goes c n (add_by s ∷ []) t v w) (sym (full_now full))
      (subst (λ (l : List ℕ). Goes c n (AskMake l ∷ []) t v w) are goes)

  pub add_goes_room : (c : Config) (n : ℕ) (t : Option Cannot) (v w : View) → count / 64 ≢ length ks
      → Goes c n (write_at ks count p ∷ []) t v w → Goes c n (add_ask ks count p ∷ []) t v w
  add_goes_room c n t v w room goes =
      subst (λ (s : Bool). Goes c n (add_by s ∷ []) t v w) (sym (not_filled room)) goes

  pub adds_full : (es new : List Entry) (later : List KeptObject) (bytes : List ℕ) (r : Result (Unit {0}) Cannot)
      → count / 64 ≡ length ks → bytes ≡ object_bytes p → OnOk r (Makes es ks later bytes new)
      → OnOk r (AddsPair (is_filled ks count) es ks count p later new)
  adds_full es new later bytes (Ok u) full are made =
      subst (λ (s : Bool). AddsPair s es ks count p later new) (sym (full_now full))
      (subst (λ (l : List ℕ). Makes es ks later l new) are made)
  adds_full es new later bytes (Err e) full are made = tt

  pub adds_room : (es new : List Entry) (later : List KeptObject) (r : Result (Unit {0}) Cannot)
      → count / 64 ≢ length ks → OnOk r (WritesPair es ks count p later new)
      → OnOk r (AddsPair (is_filled ks count) es ks count p later new)
  adds_room es new later (Ok u) room wrote =
      subst (λ (s : Bool). AddsPair s es ks count p later new) (sym (not_filled room)) wrote
  adds_room es new later (Err e) room wrote = tt

-- ---- what a look tells
module _ (es : List Entry) (b : Bucket) (key : ℕ) (f : Option Found) where
  pub found_long_at : (found : Found) → f ≡ Some found → IsBucket es b → FindsAt es b key f → length found.bytes ≡ 1024
  found_long_at found at is finds = found_long es b found is (subst (FindsAt es b key) at finds).1

  pub found_value_at : (found : Found) → f ≡ Some found → IsBucket es b → FindsAt es b key f → (x : ℕ)
      → x ≡ (pair_at found.bytes (found.place % 64)).1 → Some x ≡ value_of es b key
  found_value_at found at is finds x told = let z = subst (FindsAt es b key) at finds in
      found_value es b found is z.1 x told ∙ ap (value_in (pairs_in es b)) (sym z.0)

  pub none_looked : f ≡ None → FindsAt es b key f → None ≡ value_of es b key
  none_looked at finds = ap (value_in (pairs_in es b)) (sym (subst (FindsAt es b key) at finds))

  pub place_found : (found : Found) → f ≡ Some found → FindsAt es b key f
      → place_of key (pairs_in es b) ≡ Some found.place
  place_found found at finds = (subst (FindsAt es b key) at finds).0

  pub place_none : f ≡ None → FindsAt es b key f → place_of key (pairs_in es b) ≡ None
  place_none at finds = subst (FindsAt es b key) at finds
