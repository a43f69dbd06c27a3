-- The pairs of one object of a bucket, among those of the bucket.
use Rattle.std.proofs.Common.{◌≡◌, ℕ, min, ◌+◌, ◌-◌, ◌*◌, ◌<◌, ◌≤◌, List, [], ◌∷◌, length, take, Some, None, refl, sym, ap, ◌∙◌, arith}
use Rattle.std.proofs.lemmas.List.{get_or-take, length-take-le}
use Rattle.std.specs.List.{AllByRecursion, flat_map}
use Rattle.cb_world.specs.declared.entry.Entry.{Entry}
use Rattle.cb_farmap.specs.declared.bucket.Bucket.{Bucket}
use Rattle.cb_farmap.specs.declared.kept.KeptObject.{KeptObject}
use Rattle.cb_farmap.specs.Buckets.{IsBucket, pairs_in}
use Rattle.cb_farmap.specs.Numbers.{pairs}
use Rattle.cb_farmap.specs.Objects.{IsObject, blank, bytes_at, object_at, pairs_at}
use Rattle.cb_farmap.specs.Pairs.{HasNot, IsFirst, Pair, pair_of}
use Rattle.cb_farmap.specs.Searching.{NoneFrom, SeeksIn}
use Rattle.cb_farmap.proofs.Lists.{all_at}
use Rattle.cb_farmap.proofs.Arrays.{object_long}
use Rattle.cb_farmap.proofs.PairNumbers.{long_pairs}
use Rattle.cb_farmap.proofs.Pieces.{IsPiece, get_piece, pieces_length}
use Rattle.cb_farmap.proofs.Seeking.{few_long}

-- each object has 64 pairs
pub all_pieces : (es : List Entry) (ks : List KeptObject) → AllByRecursion (IsPiece 64 (pairs_at es) (pairs_at es)) ks
all_pieces es [] = tt
all_pieces es (k ∷ ks) = ((long_pairs (bytes_at es k), refl), all_pieces es ks)

pub long_all : (es : List Entry) (ks : List KeptObject) → length (flat_map (pairs_at es) ks) ≡ 64 * length ks
long_all es ks = pieces_length 64 (pairs_at es) (pairs_at es) ks (all_pieces es ks)

pub long_in : (es : List Entry) (b : Bucket) → IsBucket es b → length (pairs_in es b) ≡ b.count
long_in es b is = length-take-le b.count (flat_map (pairs_at es) b.kept)
    (let n = long_all es b.kept in let w = is.within in omega (arith, n, w))

pub object_is : (es : List Entry) (b : Bucket) (o : ℕ) → IsBucket es b → o < length b.kept
    → IsObject es (object_at b.kept o)
object_is es b o is within = all_at (IsObject es) b.kept o blank is.objects within

-- a pair of the bucket stands in its object
pub pair_place : (es : List Entry) (b : Bucket) (o j : ℕ) → IsBucket es b → 64 * o + j < b.count → j < 64
    → pair_of (pairs_in es b) (64 * o + j) ≡ pair_of (pairs (bytes_at es (object_at b.kept o))) j
pair_place es b o j is within low =
    get_or-take b.count (flat_map (pairs_at es) b.kept) (64 * o + j) (0, 0) within
    ∙ get_piece 64 (pairs_at es) (pairs_at es) b.kept o j blank (0, 0) (all_pieces es b.kept)
    (let w = is.within in omega (arith, w, within)) low

module _ (es : List Entry) (b : Bucket) (o few key : ℕ) (bytes : List ℕ) (is : IsBucket es b)
    (some : 64 * o < b.count) (few_is : few ≡ min (b.count - 64 * o) 64)
    (bytes_are : bytes ≡ bytes_at es (object_at b.kept o)) where
  low : few ≤ 64
  low = omega (arith, few_is)

  abbrev ours : List Pair
  ours = take few (pairs bytes)

  same : (j : ℕ) → j < few → pair_of (pairs_in es b) (64 * o + j) ≡ pair_of ours j
  same j less = pair_place es b o j is (omega (arith, few_is, less, some)) (omega (arith, less, low))
      ∙ ap (λ (l : List ℕ). pair_of (pairs l) j) (sym bytes_are)
      ∙ sym (get_or-take few (pairs bytes) j (0, 0) less)

  -- none of them has the key, up to one index
  none_to : (n : ℕ) → n ≤ few → ((j : ℕ) → j < n → (pair_of ours j).0 ≡ key → ⊥)
      → NoneFrom es b key (64 * o) (64 * o + n)
  none_to n most none i from to within has = let j = i - 64 * o in
      let split : 64 * o + j ≡ i = omega (arith, from) in
      none j (omega (arith, split, to)) (ap (λ (p : Pair). p.0)
      (sym (same j (omega (arith, split, to, most))) ∙ ap (pair_of (pairs_in es b)) split) ∙ has)

  pub seeks_none : HasNot key ours → SeeksIn es b o key None
  seeks_none none i from to within has = none_to few (omega arith)
      (λ j less. none j (let n = few_long bytes few low in omega (arith, less, n)))
      i from (omega (arith, few_is, from, to, within)) within has

  pub seeks_some : (i : ℕ) → IsFirst key ours i
      → SeeksIn es b o key (Some (record { place = 64 * o + i; bytes = bytes }))
  seeks_some i (within, has, none) = (
    omega arith,
    omega (arith, less, low),
    omega (arith, less, few_is, some),
    ap (λ (p : Pair). p.0) (same i less) ∙ has,
    none_to i (omega (arith, less)) none,
    bytes_are,
  )
    where
      less : i < few
      less = let n = few_long bytes few low in omega (arith, within, n)

pub long_bytes : (es : List Entry) (b : Bucket) (o : ℕ) → IsBucket es b → 64 * o < b.count
    → length (bytes_at es (object_at b.kept o)) ≡ 1024
long_bytes es b o is some =
    object_long es (object_at b.kept o) (object_is es b o is (let w = is.within in omega (arith, w, some)))
