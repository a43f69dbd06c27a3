-- What becomes of the pairs of a bucket where one of its objects is written, or one is made.
use Rattle.std.proofs.Common.{◌≡◌, ◌⊎◌, ℕ, ◌+◌, ◌-◌, ◌*◌, ◌/◌, ◌%◌, ◌^◌, ◌<◌, ◌≤◌, Bool, true, false, eqb, eqb-true, eq-eqb, true≢false, List, [], ◌∷◌, ◌++◌, length, slice_set, take, refl, sym, ap, ◌∙◌, subst, inl, inr, arith}
use Rattle.std.proofs.lemmas.Bool.{cases_lt}
use Rattle.std.proofs.lemmas.Grind.{flat_map-append}
use Rattle.std.proofs.lemmas.List.{append-nil, length-append, length-set}
use Rattle.std.specs.List.{AllByRecursion}
use Rattle.cb_world.specs.declared.entry.Entry.{Entry}
use Rattle.cb_farmap.specs.declared.bucket.Bucket.{Bucket}
use Rattle.cb_farmap.specs.declared.kept.KeptObject.{KeptObject}
use Rattle.cb_farmap.specs.BucketChanges.{AddsPair, Becomes, FillsGap, WritesPair}
use Rattle.cb_farmap.specs.Buckets.{IsBucket, all_pairs, pairs_in}
use Rattle.cb_farmap.specs.Changes.{IsBehind, Makes, with_next}
use Rattle.cb_farmap.specs.Numbers.{pair_at, pairs}
use Rattle.cb_farmap.specs.Objects.{IsObject, blank, bytes_at, object_at, pairs_at}
use Rattle.cb_farmap.specs.PairBytes.{object_bytes}
use Rattle.cb_farmap.specs.Pairs.{Pair, dropped, pair_of}
use Rattle.cb_farmap.specs.Plans.{is_filled}
use Rattle.cb_farmap.proofs.FindIn.{all_pieces, long_all}
use Rattle.cb_farmap.proofs.FirstPairs.{take_added, take_dropped, take_last, take_next}
use Rattle.cb_farmap.proofs.Lists.{all_at, all_more, all_set}
use Rattle.cb_farmap.proofs.Arrays.{object_long}
use Rattle.cb_farmap.proofs.Objects.{bytes_behind, object_behind}
use Rattle.cb_farmap.proofs.PairNumbers.{first_pair, long_pairs, pair_is, pair_written}
use Rattle.cb_farmap.proofs.Pieces.{IsPiece, get_piece, same_pieces, set_piece, take_set}

-- ---- entries in front
module _ (es new : List Entry) (behind : IsBehind es new) where
  object_on : (k : KeptObject) → IsObject es k → IsObject new k
  object_on k o = subst (λ (l : List Entry). IsObject l k) (sym behind.1) (object_behind behind.0 es k o)

  bytes_on : (k : KeptObject) → IsObject es k → bytes_at new k ≡ bytes_at es k
  bytes_on k o = ap (λ (l : List Entry). bytes_at l k) behind.1 ∙ bytes_behind behind.0 es k o

  pub objects_on : (ks : List KeptObject) → AllByRecursion (IsObject es) ks → AllByRecursion (IsObject new) ks
  objects_on [] all = tt
  objects_on (k ∷ ks) all = (object_on k all.0, objects_on ks all.1)

  pub pieces_on : (ks : List KeptObject) → AllByRecursion (IsObject es) ks
      → AllByRecursion (IsPiece 64 (pairs_at es) (pairs_at new)) ks
  pieces_on [] all = tt
  pieces_on (k ∷ ks) all = ((long_pairs (bytes_at es k), ap pairs (bytes_on k all.0)), pieces_on ks all.1)

  pub pairs_on : (ks : List KeptObject) → AllByRecursion (IsObject es) ks → all_pairs new ks ≡ all_pairs es ks
  pairs_on ks all = same_pieces 64 (pairs_at es) (pairs_at new) ks (pieces_on ks all)

  pub bucket_on : (b : Bucket) → IsBucket es b → IsBucket new b
  bucket_on b is = record { objects = objects_on b.kept is.objects; within = is.within }

  pub pairs_in_on : (b : Bucket) → IsBucket es b → pairs_in new b ≡ pairs_in es b
  pairs_in_on b is = ap (take b.count) (pairs_on b.kept is.objects)

-- ---- one pair of all
pub pair_in_object : (es : List Entry) (ks : List KeptObject) (place : ℕ) → place < 64 * length ks
    → pair_of (all_pairs es ks) place ≡ pair_at (bytes_at es (object_at ks (place / 64))) (place % 64)
pair_in_object es ks place within =
    ap (pair_of (all_pairs es ks)) (let z : place ≡ 64 * (place / 64) + place % 64 = omega arith in z)
    ∙ get_piece 64 (pairs_at es) (pairs_at es) ks (place / 64) (place % 64) blank (0, 0) (all_pieces es ks)
    (omega (arith, within)) (omega arith)
    ∙ pair_is (bytes_at es (object_at ks (place / 64))) (place % 64) (omega arith)

-- ---- a pair is written
module _ (es : List Entry) (ks : List KeptObject) (place : ℕ) (p : Pair) (later : List KeptObject) (new : List Entry)
    (all : AllByRecursion (IsObject es) ks) (within : place < 64 * length ks)
    (wrote : WritesPair es ks place p later new) where
  abbrev o : ℕ
  o = place / 64

  abbrev k : KeptObject
  k = object_at ks o

  front : IsBehind es new
  front = (wrote.wrote.entry ∷ [], wrote.wrote.front)

  inside : o < length ks
  inside = omega (arith, within)

  pub written_objects : AllByRecursion (IsObject new) later
  written_objects = subst (AllByRecursion (IsObject new)) (sym wrote.kept)
      (all_set (IsObject new) ks o (with_next k) (objects_on es new front ks all) wrote.wrote.object)

  pub written_long : length later ≡ length ks
  written_long = ap length wrote.kept ∙ length-set ks o (with_next k)

  pub written_pairs : all_pairs new later ≡ slice_set (all_pairs es ks) place p
  written_pairs = ap (all_pairs new) wrote.kept
      ∙ set_piece 64 (pairs_at es) (pairs_at new) ks o (place % 64) p (with_next k) blank
      (pieces_on es new front ks all) inside (omega arith)
      (ap pairs wrote.wrote.bytes_are ∙ pair_written (bytes_at es k) (place % 64) p
      (object_long es k (all_at (IsObject es) ks o blank all inside)) (omega arith) wrote.key_fits wrote.value_fits)
      ∙ ap (λ (n : ℕ). slice_set (all_pairs es ks) n p)
      (let z : 64 * o + place % 64 ≡ place = omega arith in z)

-- ---- an object is made
module _ (es : List Entry) (ks : List KeptObject) (p : Pair) (later : List KeptObject) (new : List Entry)
    (all : AllByRecursion (IsObject es) ks) (made : Makes es ks later (object_bytes p) new) where
  made_front : IsBehind es new
  made_front = (made.entry ∷ [], made.front)

  pub made_objects : AllByRecursion (IsObject new) later
  made_objects = subst (AllByRecursion (IsObject new)) (sym made.more)
      (all_more (IsObject new) ks made.made (objects_on es new made_front ks all) made.object)

  pub made_long : length later ≡ length ks + 1
  made_long = ap length made.more ∙ length-append ks (made.made ∷ [])

  pub made_pairs : all_pairs new later ≡ all_pairs es ks ++ pairs (object_bytes p)
  made_pairs = ap (all_pairs new) made.more
      ∙ flat_map-append (pairs_at new) ks (made.made ∷ [])
      ∙ (λ i. pairs_on es new made_front ks all i ++ append-nil (pairs_at new made.made) i)
      ∙ ap (λ (l : List ℕ). all_pairs es ks ++ pairs l) made.bytes_are

-- ---- what becomes of a bucket
not_full : (n m : ℕ) → n ≤ m → eqb n m ≡ false → n < m
not_full n m most off = by (cases_lt n m)
  where
    by : (n < m) ⊎ (m ≤ n) → n < m
    by (inl less) = less
    by (inr more) = absurd (true≢false (sym (eq-eqb n m (let e : n ≡ m = omega (arith, most, more) in e)) ∙ off))

module _ (es new : List Entry) (b : Bucket) (later : List KeptObject) (is : IsBucket es b) where
  -- with a pair in the place of another
  pub over_becomes : (place : ℕ) (p : Pair) → place < b.count → WritesPair es b.kept place p later new
      → Becomes es b (record { kept = later; count = b.count }) (slice_set (pairs_in es b) place p) new
  over_becomes place p low wrote =
      let room : place < 64 * length b.kept = (let w = is.within in omega (arith, w, low)) in
      let long = written_long es b.kept place p later new is.objects room wrote in record {
        bucket = record {
          objects = written_objects es b.kept place p later new is.objects room wrote;
          within = (let w = is.within in omega (arith, w, long));
        };
        pairs_are = ap (take b.count) (written_pairs es b.kept place p later new is.objects room wrote)
            ∙ take_set (all_pairs es b.kept) b.count place p;
        objects = inr (inl (place, p, room, wrote));
      }

  -- with one more
  added_becomes : (p : Pair) → p.0 < 2 ^ 64 → p.1 < 2 ^ 64 → (t : Bool) → is_filled b.kept b.count ≡ t
      → AddsPair t es b.kept b.count p later new
      → Becomes es b (record { kept = later; count = b.count + 1 }) (pairs_in es b ++ p ∷ []) new
  added_becomes p key_low value_low true full made =
      let all : b.count ≡ 64 * length b.kept = eqb-true b.count (64 * length b.kept) full in
      let long = made_long es b.kept p later new is.objects made in record {
        bucket = record {
          objects = made_objects es b.kept p later new is.objects made;
          within = omega (arith, all, long);
        };
        pairs_are = ap (take (b.count + 1)) (made_pairs es b.kept p later new is.objects made)
            ∙ take_added (all_pairs es b.kept) (pairs (object_bytes p)) b.count (all ∙ sym (long_all es b.kept))
            (let n = long_pairs (object_bytes p) in omega (arith, n))
            ∙ ap (λ (q : Pair). take b.count (all_pairs es b.kept) ++ q ∷ []) (first_pair p key_low value_low);
        objects = inr (inr (p, made));
      }
  added_becomes p key_low value_low false room wrote =
      let low : b.count < 64 * length b.kept = not_full b.count (64 * length b.kept) is.within room in
      let long = written_long es b.kept b.count p later new is.objects low wrote in record {
        bucket = record {
          objects = written_objects es b.kept b.count p later new is.objects low wrote;
          within = omega (arith, low, long);
        };
        pairs_are = ap (take (b.count + 1)) (written_pairs es b.kept b.count p later new is.objects low wrote)
            ∙ take_next (all_pairs es b.kept) b.count p (let n = long_all es b.kept in omega (arith, n, low));
        objects = inr (inl (b.count, p, low, wrote));
      }

  pub new_becomes : (p : Pair) → p.0 < 2 ^ 64 → p.1 < 2 ^ 64
      → AddsPair (is_filled b.kept b.count) es b.kept b.count p later new
      → Becomes es b (record { kept = later; count = b.count + 1 }) (pairs_in es b ++ p ∷ []) new
  new_becomes p key_low value_low adds = added_becomes p key_low value_low (is_filled b.kept b.count) refl adds

  -- with one less
  left_becomes : (place : ℕ) → place < b.count → (t : Bool) → eqb place (b.count - 1) ≡ t
      → FillsGap t es b.kept place (pair_of (all_pairs es b.kept) (b.count - 1)) later new
      → Becomes es b (record { kept = later; count = b.count - 1 }) (dropped (pairs_in es b) place) new
  left_becomes place low true last (kept, same) = record {
    bucket = record {
      objects = subst (λ (l : List KeptObject). AllByRecursion (IsObject new) l) (sym kept)
          (subst (λ (l : List Entry). AllByRecursion (IsObject l) b.kept) (sym same) is.objects);
      within = (let n = ap length kept in let w = is.within in omega (arith, n, w));
    };
    pairs_are = (λ i. take (b.count - 1) (all_pairs (same i) (kept i)))
        ∙ take_last (all_pairs es b.kept) b.count place low
        (let n = long_all es b.kept in let w = is.within in omega (arith, n, w))
        (eqb-true place (b.count - 1) last);
    objects = inl (kept, same);
  }
  left_becomes place low false off wrote =
      let room : place < 64 * length b.kept = (let w = is.within in omega (arith, w, low)) in
      let p : Pair = pair_of (all_pairs es b.kept) (b.count - 1) in
      let long = written_long es b.kept place p later new is.objects room wrote in record {
        bucket = record {
          objects = written_objects es b.kept place p later new is.objects room wrote;
          within = (let w = is.within in omega (arith, w, long));
        };
        pairs_are = ap (take (b.count - 1)) (written_pairs es b.kept place p later new is.objects room wrote)
            ∙ take_dropped (all_pairs es b.kept) b.count place low
            (let n = long_all es b.kept in let w = is.within in omega (arith, n, w));
        objects = inr (inl (place, p, room, wrote));
      }

  pub less_becomes : (place : ℕ) → place < b.count
      → FillsGap (eqb place (b.count - 1)) es b.kept place (pair_of (all_pairs es b.kept) (b.count - 1)) later new
      → Becomes es b (record { kept = later; count = b.count - 1 }) (dropped (pairs_in es b) place) new
  less_becomes place low fills = left_becomes place low (eqb place (b.count - 1)) refl fills
