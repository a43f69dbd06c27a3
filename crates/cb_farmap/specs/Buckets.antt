-- A bucket of a far map in the record of a pass.
use Rattle.std.specs.Prelude.{ℕ, ◌*◌, ◌%◌, ◌≤◌, List, [], length, get_or, slice_set, take}
use Rattle.std.specs.List.{AllByRecursion, flat_map}
use Rattle.cb_world.specs.declared.entry.Entry.{Entry}
use Rattle.cb_farmap.specs.declared.bucket.Bucket.{Bucket}
use Rattle.cb_farmap.specs.declared.kept.KeptObject.{KeptObject}
use Rattle.cb_farmap.specs.Objects.{IsObject, pairs_at}
use Rattle.cb_farmap.specs.Pairs.{Pair}

-- a bucket without objects
abbrev pub no_bucket : Bucket
no_bucket = record { kept = []; count = 0 }

-- the bucket of a key
abbrev pub bucket_in : List Bucket → ℕ → Bucket
bucket_in buckets key = get_or buckets (key % length buckets) no_bucket

-- another bucket in its place
abbrev pub with_bucket : List Bucket → ℕ → Bucket → List Bucket
with_bucket buckets key b = slice_set buckets (key % length buckets) b

-- all pairs for which objects have room, at their kept versions
abbrev pub all_pairs : List Entry → List KeptObject → List Pair
all_pairs es ks = flat_map (pairs_at es) ks

-- the pairs of a bucket are the first of them
abbrev pub pairs_in : List Entry → Bucket → List Pair
pairs_in es b = take b.count (all_pairs es b.kept)

-- these entries have each of its objects, and its pairs have room in them
pub record IsBucket (es : List Entry) (b : Bucket) : Type 0 where
  pub objects : AllByRecursion (IsObject es) b.kept
  pub within : b.count ≤ 64 * length b.kept
