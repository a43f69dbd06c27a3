-- No object is read twice.
use Rattle.std.proofs.Common.{◌≡◌, ℕ, zero, suc, ◌+◌, ◌*◌, ◌/◌, ◌-◌, ◌%◌, ◌<◌, ◌≤◌, Bool, true, false, eqb, List, [], ◌∷◌, ◌++◌, length, get_or, map, take, Option, Some, None, refl, sym, ap, ◌∙◌, subst, arith}
use Rattle.std.specs.Prelude.{if◌then◌else◌}
use Rattle.std.proofs.lemmas.Bool.{eqb-false}
use Rattle.std.proofs.lemmas.List.{append-nil}
use Rattle.std.specs.List.{AllByRecursion, IsDistinct}
use Rattle.cb_world.specs.declared.entry.Entry.{Entry}
use Rattle.cb_farmap.specs.declared.bucket.Bucket.{Bucket}
use Rattle.cb_farmap.specs.declared.kept.KeptObject.{KeptObject}
use Rattle.cb_farmap.specs.Buckets.{IsBucket, all_pairs, bucket_in, no_bucket, pairs_in}
use Rattle.cb_farmap.specs.Calls.{Ask, AskMake, AskRead, AskWrite}
use Rattle.cb_farmap.specs.MapChanges.{reads_of}
use Rattle.cb_farmap.specs.Maps.{kept_of}
use Rattle.cb_farmap.specs.Objects.{AreApart, object_at}
use Rattle.cb_farmap.specs.PairBytes.{object_bytes}
use Rattle.cb_farmap.specs.Pairs.{Pair, pair_of, place_of}
use Rattle.cb_farmap.specs.Plans.{drop_asks, drop_plan, is_filled, look_plan, move_asks, objects_to, put_ask, put_plan, write_at}
use Rattle.cb_farmap.proofs.FindIn.{long_in}
use Rattle.cb_farmap.proofs.Places.{first_at}

abbrev handles : List KeptObject → List ℕ
handles ks = map (λ (k : KeptObject). k.handle.n) ks

abbrev off : ℕ → ℕ → Type 0
off n m = eqb n m ≡ false

off_take : (n m : ℕ) (ks : List KeptObject) → AllByRecursion (off n) (handles ks)
    → AllByRecursion (off n) (handles (take m ks))
off_take n zero ks all = tt
off_take n (suc m) [] all = tt
off_take n (suc m) (k ∷ ks) all = (all.0, off_take n m ks all.1)

off_at : (n o : ℕ) (ks : List KeptObject) → o < length ks → AllByRecursion (off n) (handles ks)
    → off n (object_at ks o).handle.n
off_at n o [] within all = absurd (omega (arith, within))
off_at n zero (k ∷ ks) within all = all.0
off_at n (suc o) (k ∷ ks) within all = off_at n o ks (omega (arith, within)) all.1

off_more : (n : ℕ) (xs : List KeptObject) (y : KeptObject) → AllByRecursion (off n) (handles xs) → off n y.handle.n
    → AllByRecursion (off n) (handles (xs ++ y ∷ []))
off_more n [] y all own = (own, tt)
off_more n (x ∷ xs) y all own = (all.0, off_more n xs y all.1 own)

apart_take : (m : ℕ) (ks : List KeptObject) → AreApart ks → AreApart (take m ks)
unfolding IsDistinct
apart_take zero ks apart = tt
apart_take (suc m) [] apart = tt
apart_take (suc m) (k ∷ ks) apart = (off_take k.handle.n m ks apart.0, apart_take m ks apart.1)

-- and one behind them
apart_and : (m o : ℕ) (ks : List KeptObject) → m ≤ o → o < length ks → AreApart ks
    → AreApart (take m ks ++ object_at ks o ∷ [])
unfolding IsDistinct
apart_and zero o ks most within apart = (tt, tt)
apart_and (suc m) o [] most within apart = absurd (omega (arith, within))
apart_and (suc m) zero (k ∷ ks) most within apart = absurd (omega (arith, most))
apart_and (suc m) (suc o) (k ∷ ks) most within apart = (
  off_more k.handle.n (take m ks) (object_at ks o) (off_take k.handle.n m ks apart.0)
      (off_at k.handle.n o ks (omega (arith, within)) apart.0),
  apart_and m o ks (omega (arith, most)) (omega (arith, within)) apart.1,
)

apart_left : (xs ys : List KeptObject) → AreApart (xs ++ ys) → AreApart xs
unfolding IsDistinct
apart_left [] ys apart = tt
apart_left (x ∷ xs) ys apart = (left xs apart.0, apart_left xs ys apart.1)
  where
    left : (l : List KeptObject) → AllByRecursion (off x.handle.n) (handles (l ++ ys))
        → AllByRecursion (off x.handle.n) (handles l)
    left [] all = tt
    left (k ∷ l) all = (all.0, left l all.1)

apart_right : (xs ys : List KeptObject) → AreApart (xs ++ ys) → AreApart ys
unfolding IsDistinct
apart_right [] ys apart = apart
apart_right (x ∷ xs) ys apart = apart_right xs ys apart.1

-- those of a bucket
pub apart_own : (bs : List Bucket) (key : ℕ) → 1 ≤ length bs → AreApart (kept_of bs) → AreApart (bucket_in bs key).kept
apart_own bs key some apart = at bs (key % length bs) (omega (arith, some)) apart
  where
    at : (l : List Bucket) (i : ℕ) → i < length l → AreApart (kept_of l) → AreApart (get_or l i no_bucket).kept
    at [] i within apart = absurd (omega (arith, within))
    at (b ∷ l) zero within apart = apart_left b.kept (kept_of l) apart
    at (b ∷ l) (suc i) within apart = at l i (omega (arith, within)) (apart_right b.kept (kept_of l) apart)

-- ---- the reads of a plan
reads_both : (xs ys : List Ask) → reads_of (xs ++ ys) ≡ reads_of xs ++ reads_of ys
reads_both [] ys = refl
reads_both (AskRead k ∷ xs) ys = ap (λ (l : List KeptObject). k ∷ l) (reads_both xs ys)
reads_both (AskWrite k at bytes ∷ xs) ys = reads_both xs ys
reads_both (AskMake bytes ∷ xs) ys = reads_both xs ys

reads_are : (ks : List KeptObject) → reads_of (map AskRead ks) ≡ ks
reads_are [] = refl
reads_are (k ∷ ks) = ap (λ (l : List KeptObject). k ∷ l) (reads_are ks)

reads_add : (ks : List KeptObject) (count : ℕ) (p : Pair) (t : Bool)
    → reads_of ((if t then AskMake (object_bytes p) else write_at ks count p) ∷ []) ≡ []
reads_add ks count p true = refl
reads_add ks count p false = refl

reads_put : (b : Bucket) (p : Pair) (place : Option ℕ) → reads_of (put_ask b p place ∷ []) ≡ []
reads_put b p None = reads_add b.kept b.count p (is_filled b.kept b.count)
reads_put b p (Some place) = refl

module _ (es : List Entry) (b : Bucket) (apart : AreApart b.kept) where
  pub look_once : (key : ℕ) → AreApart (reads_of (look_plan es b key))
  look_once key = let n : ℕ = objects_to b.count (place_of key (pairs_in es b)) in
      subst AreApart (sym (reads_are (take n b.kept))) (apart_take n b.kept apart)

  pub put_once : (p : Pair) → AreApart (reads_of (put_plan es b p))
  put_once p = subst AreApart (sym (reads_both (look_plan es b p.0) (put_ask b p place ∷ [])
      ∙ ap (λ (l : List KeptObject). reads_of (look_plan es b p.0) ++ l) (reads_put b p place)
      ∙ append-nil (reads_of (look_plan es b p.0)))) (look_once p.0)
    where
      place : Option ℕ
      place = place_of p.0 (pairs_in es b)

  -- the last pair's object, where it is another one than that of the key's place
  moves : (n place last : ℕ) (s t : Bool) → (eqb place last ≡ s) → (eqb (last / 64) (place / 64) ≡ t)
      → n ≡ place / 64 + 1
      → place ≤ last → last < 64 * length b.kept
      → AreApart (take n b.kept ++ reads_of (if s then [] else
      (if t then [] else AskRead (object_at b.kept (last / 64)) ∷ [])
      ++ write_at b.kept place (pair_of (all_pairs es b.kept) last) ∷ []))
  moves n place last true t same other is most within =
      subst AreApart (sym (append-nil (take n b.kept))) (apart_take n b.kept apart)
  moves n place last false true same other is most within =
      subst AreApart (sym (append-nil (take n b.kept))) (apart_take n b.kept apart)
  moves n place last false false same other is most within = apart_and n (last / 64) b.kept
      (ahead n place last is most other) (omega (arith, within)) apart
    where
      ahead : (n place last : ℕ) → n ≡ place / 64 + 1 → place ≤ last → eqb (last / 64) (place / 64) ≡ false
          → n ≤ last / 64
      ahead n place last is most other = let ne = eqb-false (last / 64) (place / 64) other in
          omega (arith, is, most, ne)

  pub drop_once : IsBucket es b → (key : ℕ) → AreApart (reads_of (drop_plan es b key))
  drop_once is key = by (place_of key (pairs_in es b)) refl
    where
      by : (p : Option ℕ) → place_of key (pairs_in es b) ≡ p
          → AreApart (reads_of (map AskRead (take (objects_to b.count p) b.kept) ++ drop_asks es b p))
      by None at = subst AreApart (sym (reads_both (map AskRead (take (objects_to b.count None) b.kept)) []
          ∙ append-nil (reads_of (map AskRead (take (objects_to b.count None) b.kept)))
          ∙ reads_are (take (objects_to b.count None) b.kept)))
          (apart_take (objects_to b.count None) b.kept apart)
      by (Some p) at = let low = (first_at key (pairs_in es b) p at).0 in let n = long_in es b is in
          let w = is.within in
          subst AreApart (sym (reads_both (map AskRead (take (p / 64 + 1) b.kept)) (move_asks es b.kept p (b.count - 1))
          ∙ ap (λ (l : List KeptObject). l ++ reads_of (move_asks es b.kept p (b.count - 1)))
          (reads_are (take (p / 64 + 1) b.kept))))
          (moves (p / 64 + 1) p (b.count - 1) (eqb p (b.count - 1)) (eqb ((b.count - 1) / 64) (p / 64)) refl refl refl
          (omega (arith, low, n)) (omega (arith, low, n, w)))
