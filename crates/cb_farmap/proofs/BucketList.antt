-- Buckets of which one is changed.
use Rattle.std.proofs.Common.{◌≡◌, ◌≢◌, ℕ, zero, suc, ◌+◌, ◌/◌, ◌%◌, ◌<◌, ◌≤◌, false, eqb, ne_eqb, List, [], ◌∷◌, ◌++◌, length, get_or, slice_set, map, take, drop, refl, sym, ap, ◌∙◌, subst, inl, inr, append_assoc, arith}
use Rattle.std.specs.Prelude.{sum_by}
use Rattle.std.proofs.lemmas.List.{get_or-append-add, get_or_append_left, length-append, length-map, map-set, set-append_left}
use Rattle.std.proofs.lemmas.List.Sums.{sum_by-set}
use Rattle.std.specs.List.{AllByRecursion, IsDistinct}
use Rattle.cb_world.specs.declared.entry.Entry.{Entry}
use Rattle.cb_rule.specs.declared.view.View.{View}
use Rattle.cb_rule.specs.Lists.{Has}
use Rattle.cb_farmap.specs.declared.bucket.Bucket.{Bucket}
use Rattle.cb_farmap.specs.declared.kept.KeptObject.{KeptObject}
use Rattle.cb_farmap.specs.BucketChanges.{ChangesOne}
use Rattle.cb_farmap.specs.Buckets.{IsBucket, bucket_in, no_bucket, pairs_in, with_bucket}
use Rattle.cb_farmap.specs.Changes.{AreSole, IsBehind, IsSole, with_next}
use Rattle.cb_farmap.specs.Maps.{kept_of, pairs_of}
use Rattle.cb_farmap.specs.Objects.{AreApart, IsObject, blank, object_at}
use Rattle.cb_farmap.specs.Pairs.{Pair}
use Rattle.cb_farmap.proofs.Behind.{apart_set, soles_more, soles_same, soles_set}
use Rattle.cb_farmap.proofs.BucketLaws.{bucket_on, pairs_in_on}
use Rattle.cb_farmap.proofs.Lists.{all_at, all_set}
use Rattle.cb_farmap.proofs.Objects.{found_there}
use Rattle.cb_farmap.proofs.Pieces.{set_behind}

-- ---- the bucket of a key
module _ (es : List Entry) (bs : List Bucket) (key : ℕ) (some : 1 ≤ length bs) where
  abbrev i : ℕ
  i = key % length bs

  within : i < length bs
  within = omega (arith, some)

  pub bucket_there : AllByRecursion (IsBucket es) bs → IsBucket es (bucket_in bs key)
  bucket_there all = all_at (IsBucket es) bs i no_bucket all within

  pairs_get : (l : List Bucket) (n : ℕ) → n < length l → get_or (map (pairs_in es) l) n []
      ≡ pairs_in es (get_or l n no_bucket)
  pairs_get [] n low = absurd (omega (arith, low))
  pairs_get (b ∷ l) zero low = refl
  pairs_get (b ∷ l) (suc n) low = pairs_get l n (omega (arith, low))

  pub long_pairs_of : length (pairs_of es bs) ≡ length bs
  long_pairs_of = length-map bs (pairs_in es)

  pub own_pairs : get_or (pairs_of es bs) (key % length (pairs_of es bs)) [] ≡ pairs_in es (bucket_in bs key)
  own_pairs = ap (λ (n : ℕ). get_or (pairs_of es bs) (key % n) []) long_pairs_of ∙ pairs_get bs i within

  -- its count is one of those that are summed
  pub count_low : (bucket_in bs key).count ≤ sum_by (λ (b : Bucket). b.count) bs
  count_low = let z = sum_by-set (λ (b : Bucket). b.count) bs i no_bucket no_bucket within in omega (arith, z)

  pub counts_set : (later : Bucket) → sum_by (λ (b : Bucket). b.count) (with_bucket bs key later)
      + (bucket_in bs key).count ≡ sum_by (λ (b : Bucket). b.count) bs + later.count
  counts_set later = sum_by-set (λ (b : Bucket). b.count) bs i later no_bucket within

-- ---- entries in front
module _ (es new : List Entry) (behind : IsBehind es new) where
  pub buckets_on : (bs : List Bucket) → AllByRecursion (IsBucket es) bs → AllByRecursion (IsBucket new) bs
  buckets_on [] all = tt
  buckets_on (b ∷ bs) all = (bucket_on es new behind b all.0, buckets_on bs all.1)

  pub pairs_of_on : (bs : List Bucket) → AllByRecursion (IsBucket es) bs → pairs_of new bs ≡ pairs_of es bs
  pairs_of_on [] all = refl
  pairs_of_on (b ∷ bs) all = (λ t. pairs_in_on es new behind b all.0 t ∷ pairs_of_on bs all.1 t)

  -- and one bucket more is another
  pub pairs_of_set : (bs : List Bucket) (key : ℕ) (later : Bucket) (pairs : List Pair)
      → AllByRecursion (IsBucket es) bs → pairs_in new later ≡ pairs
      → pairs_of new (with_bucket bs key later) ≡ slice_set (pairs_of es bs) (key % length bs) pairs
  pairs_of_set bs key later pairs all is = map-set (pairs_in new) bs (key % length bs) later
      ∙ (λ t. slice_set (pairs_of_on bs all t) (key % length bs) (is t))

  pub buckets_set : (bs : List Bucket) (key : ℕ) (later : Bucket) → AllByRecursion (IsBucket es) bs
      → IsBucket new later → AllByRecursion (IsBucket new) (with_bucket bs key later)
  buckets_set bs key later all is = all_set (IsBucket new) bs (key % length bs) later (buckets_on bs all) is

-- ---- all objects
abbrev front_of : List Bucket → ℕ → List KeptObject
front_of bs i = kept_of (take i bs)

abbrev back_of : List Bucket → ℕ → List KeptObject
back_of bs i = kept_of (drop (suc i) bs)

kept_there : (bs : List Bucket) (i : ℕ) → i < length bs
    → kept_of bs ≡ front_of bs i ++ ((get_or bs i no_bucket).kept ++ back_of bs i)
kept_there [] i within = absurd (omega (arith, within))
kept_there (b ∷ bs) zero within = refl
kept_there (b ∷ bs) (suc i) within = ap (λ (l : List KeptObject). b.kept ++ l) (kept_there bs i (omega (arith, within)))
    ∙ sym (append_assoc b.kept (front_of bs i) ((get_or bs i no_bucket).kept ++ back_of bs i))

kept_set : (bs : List Bucket) (i : ℕ) (later : Bucket) → i < length bs
    → kept_of (slice_set bs i later) ≡ front_of bs i ++ (later.kept ++ back_of bs i)
kept_set [] i later within = absurd (omega (arith, within))
kept_set (b ∷ bs) zero later within = refl
kept_set (b ∷ bs) (suc i) later within =
    ap (λ (l : List KeptObject). b.kept ++ l) (kept_set bs i later (omega (arith, within)))
    ∙ sym (append_assoc b.kept (front_of bs i) (later.kept ++ back_of bs i))

pub all_left : {A : Type 0} (P : A → Type 0) (xs ys : List A) → AllByRecursion P (xs ++ ys) → AllByRecursion P xs
all_left P [] ys all = tt
all_left P (x ∷ xs) ys all = (all.0, all_left P xs ys all.1)

pub all_right : {A : Type 0} (P : A → Type 0) (xs ys : List A) → AllByRecursion P (xs ++ ys) → AllByRecursion P ys
all_right P [] ys all = all
all_right P (x ∷ xs) ys all = all_right P xs ys all.1

pub all_both : {A : Type 0} (P : A → Type 0) (xs ys : List A) → AllByRecursion P xs → AllByRecursion P ys
    → AllByRecursion P (xs ++ ys)
all_both P [] ys a b = b
all_both P (x ∷ xs) ys a b = (a.0, all_both P xs ys a.1 b)

pub all_objects : (es : List Entry) (bs : List Bucket) → AllByRecursion (IsBucket es) bs
    → AllByRecursion (IsObject es) (kept_of bs)
all_objects es [] all = tt
all_objects es (b ∷ bs) all = all_both (IsObject es) b.kept (kept_of bs) all.0.objects (all_objects es bs all.1)

-- what holds of all objects holds of those of a bucket
pub all_own : (P : KeptObject → Type 0) (bs : List Bucket) (key : ℕ) → 1 ≤ length bs
    → AllByRecursion P (kept_of bs) → AllByRecursion P (bucket_in bs key).kept
all_own P bs key some all = let i = key % length bs in
    all_left P (bucket_in bs key).kept (back_of bs i)
    (all_right P (front_of bs i) ((bucket_in bs key).kept ++ back_of bs i)
    (subst (AllByRecursion P) (kept_there bs i (omega (arith, some))) all))

-- ---- an object between others
fresh_off : (es : List Entry) (n : ℕ) (k : KeptObject) → ((e : Entry) → Has e es → e.handle ≢ n)
    → IsObject es k → k.handle.n ≢ n
fresh_off es n k fresh o same = let z = found_there es k.handle.n k.version o.at o.is in
    fresh o.at z.0 (z.1 ∙ same)

module _ (es : List Entry) (y : KeptObject) (fresh : (e : Entry) → Has e es → e.handle ≢ y.handle.n) where
  abbrev off : ℕ → ℕ → Type 0
  off n m = eqb n m ≡ false

  abbrev handles : List KeptObject → List ℕ
  handles ks = map (λ (k : KeptObject). k.handle.n) ks

  others_off : (ks : List KeptObject) → AllByRecursion (IsObject es) ks → AllByRecursion (off y.handle.n) (handles ks)
  others_off [] all = tt
  others_off (k ∷ ks) all = (
    ne_eqb y.handle.n k.handle.n (λ same. fresh_off es y.handle.n k fresh all.0 (sym same)),
    others_off ks all.1,
  )

  between : (n : ℕ) (xs ys : List KeptObject) → off n y.handle.n → AllByRecursion (off n) (handles (xs ++ ys))
      → AllByRecursion (off n) (handles (xs ++ y ∷ ys))
  between n [] ys own all = (own, all)
  between n (x ∷ xs) ys own all = (all.0, between n xs ys own all.1)

  apart_between : (xs ys : List KeptObject) → AllByRecursion (IsObject es) (xs ++ ys) → AreApart (xs ++ ys)
      → AreApart (xs ++ y ∷ ys)
  unfolding IsDistinct
  apart_between [] ys all apart = (others_off ys all, apart)
  apart_between (x ∷ xs) ys all apart = (
    between x.handle.n xs ys (ne_eqb x.handle.n y.handle.n (fresh_off es y.handle.n x fresh all.0)) apart.0,
    apart_between xs ys all.1 apart.1,
  )

all_between : (P : KeptObject → Type 0) (xs ys : List KeptObject) (y : KeptObject)
    → AllByRecursion P ((xs ++ ys) ++ y ∷ []) → AllByRecursion P (xs ++ y ∷ ys)
all_between P xs ys y all = let both = all_left P (xs ++ ys) (y ∷ []) all in
    all_both P xs (y ∷ ys) (all_left P xs ys both)
    ((all_right P (xs ++ ys) (y ∷ []) all).0, all_right P xs ys both)

-- ---- the objects of all buckets, where those of one are changed
module _ (es new : List Entry) (bs : List Bucket) (key : ℕ) (later : Bucket) (some : 1 ≤ length bs)
    (all : AllByRecursion (IsBucket es) bs) (changes : ChangesOne es (bucket_in bs key).kept later.kept new) where
  abbrev at : ℕ
  at = key % length bs

  abbrev own : List KeptObject
  own = (bucket_in bs key).kept

  abbrev before : List KeptObject
  before = front_of bs at

  abbrev behind : List KeptObject
  behind = back_of bs at

  there : kept_of bs ≡ before ++ (own ++ behind)
  there = kept_there bs at (omega (arith, some))

  now : kept_of (with_bucket bs key later) ≡ before ++ (later.kept ++ behind)
  now = kept_set bs at later (omega (arith, some))

  set_there : (o : ℕ) (y : KeptObject) → o < length own
      → before ++ (slice_set own o y ++ behind) ≡ slice_set (before ++ (own ++ behind)) (length before + o) y
  set_there o y low = ap (λ (l : List KeptObject). before ++ l) (sym (set-append_left own behind o y low))
      ∙ sym (set_behind before (own ++ behind) o y)

  get_there : (o : ℕ) → o < length own → object_at (before ++ (own ++ behind)) (length before + o) ≡ object_at own o
  get_there o low = get_or-append-add before (own ++ behind) o blank ∙ get_or_append_left own behind blank o low

  low_there : (o : ℕ) → o < length own → length before + o < length (before ++ (own ++ behind))
  low_there o low = let a = length-append before (own ++ behind) in let b = length-append own behind in
      omega (arith, a, b, low)

  set_now : (o : ℕ) → o < length own → later.kept ≡ slice_set own o (with_next (object_at own o))
      → kept_of (with_bucket bs key later) ≡ slice_set (before ++ (own ++ behind)) (length before + o)
      (with_next (object_at (before ++ (own ++ behind)) (length before + o)))
  set_now o low is = now ∙ ap (λ (l : List KeptObject). before ++ (l ++ behind)) is
      ∙ set_there o (with_next (object_at own o)) low
      ∙ ap (λ (k : KeptObject). slice_set (before ++ (own ++ behind)) (length before + o) (with_next k))
      (sym (get_there o low))

  -- or one more
  more_there : before ++ (own ++ behind) ≡ (before ++ own) ++ behind
  more_there = sym (append_assoc before own behind)

  more_now : (y : KeptObject) → later.kept ≡ own ++ y ∷ []
      → kept_of (with_bucket bs key later) ≡ (before ++ own) ++ (y ∷ behind)
  more_now y is = now ∙ ap (λ (l : List KeptObject). before ++ (l ++ behind)) is
      ∙ ap (λ (l : List KeptObject). before ++ l) (append_assoc own (y ∷ []) behind)
      ∙ sym (append_assoc before own (y ∷ behind))

  objects_there : AllByRecursion (IsObject es) (before ++ (own ++ behind))
  objects_there = subst (AllByRecursion (IsObject es)) there (all_objects es bs all)

  same_now : later.kept ≡ own → kept_of (with_bucket bs key later) ≡ kept_of bs
  same_now is = now ∙ ap (λ (l : List KeptObject). before ++ (l ++ behind)) is ∙ sym there

  pub apart_now : AreApart (kept_of bs) → AreApart (kept_of (with_bucket bs key later))
  apart_now apart = by changes
    where
      known : AreApart (before ++ (own ++ behind))
      known = subst AreApart there apart

      by : ChangesOne es own later.kept new → AreApart (kept_of (with_bucket bs key later))
      by (inl (kept, same)) = subst AreApart (sym (same_now kept)) apart
      by (inr (inl (place, p, low, wrote))) =
          let o : ℕ = place / 64 in let less : o < length own = omega (arith, low) in
          subst AreApart (sym (set_now o less wrote.kept))
          (apart_set (before ++ (own ++ behind)) (length before + o)
          (with_next (object_at (before ++ (own ++ behind)) (length before + o))) refl known)
      by (inr (inr (p, made))) = subst AreApart (sym (more_now made.made made.more))
          (apart_between es made.made made.fresh (before ++ own) behind
          (subst (AllByRecursion (IsObject es)) more_there objects_there)
          (subst AreApart more_there known))

  pub soles_now : (v w : View) → v.written ≡ es → w.written ≡ new → w.share ≡ v.share → v.share ≡ 64
      → AreApart (kept_of bs) → AreSole v (kept_of bs) → AreSole w (kept_of (with_bucket bs key later))
  soles_now v w is_v is_w share whole apart sole = by changes
    where
      known : AreSole v (before ++ (own ++ behind))
      known = subst (AreSole v) there sole

      front : (e : Entry) → new ≡ e ∷ es → w.written ≡ e ∷ v.written
      front e is = is_w ∙ is ∙ ap (λ (l : List Entry). e ∷ l) (sym is_v)

      by : ChangesOne es own later.kept new → AreSole w (kept_of (with_bucket bs key later))
      by (inl (kept, same)) = subst (AreSole w) (sym (same_now kept))
          (soles_same v w (kept_of bs) (is_w ∙ same ∙ sym is_v) share sole)
      by (inr (inl (place, p, low, wrote))) =
          let o : ℕ = place / 64 in let less : o < length own = omega (arith, low) in
          let r = wrote.wrote in
          subst (AreSole w) (sym (set_now o less wrote.kept))
          (soles_set v w r.entry (before ++ (own ++ behind)) (length before + o) (front r.entry r.front) share
          (low_there o less) (r.handle ∙ ap (λ (k : KeptObject). k.handle.n) (sym (get_there o less)))
          (r.version ∙ ap (λ (k : KeptObject). k.version + 1) (sym (get_there o less)))
          (subst AreApart there apart) known)
      by (inr (inr (p, made))) = subst (AreSole w) (sym (more_now made.made made.more))
          (all_between (IsSole w) (before ++ own) behind made.made
          (soles_more v w made.entry ((before ++ own) ++ behind) made.made (front made.entry made.front) share whole
          made.handle made.version
          (subst (λ (l : List Entry). (x : Entry) → Has x l → x.handle ≢ made.made.handle.n) (sym is_v) made.fresh)
          (subst (λ (l : List Entry). AllByRecursion (IsObject l) ((before ++ own) ++ behind)) (sym is_v)
          (subst (AllByRecursion (IsObject es)) more_there objects_there))
          (subst (AreSole v) more_there known)))

  -- and what stood there stands behind
  pub one_behind : IsBehind es new
  one_behind = by changes
    where
      by : ChangesOne es own later.kept new → IsBehind es new
      by (inl (kept, same)) = ([], same)
      by (inr (inl (place, p, low, wrote))) = (wrote.wrote.entry ∷ [], wrote.wrote.front)
      by (inr (inr (p, made))) = (made.entry ∷ [], made.front)
