-- A far map, and the map that it is in the record of a pass.
use Rattle.std.specs.Prelude.{◌≡◌, ℕ, ◌≤◌, List, length, map, replicate, Option, None, sum_by}
use Rattle.std.specs.FinMap as finite
use Rattle.std.specs.List.{AllByRecursion, flat_map}
use Rattle.std.specs.Ordering.{nat_cmp}
use Rattle.cb_world.specs.declared.entry.Entry.{Entry}
use Rattle.cb_rule.specs.declared.view.View.{View}
use Rattle.cb_farmap.specs.declared.bucket.Bucket.{Bucket}
use Rattle.cb_farmap.specs.declared.kept.Cannot.{Cannot}
use Rattle.cb_farmap.specs.declared.kept.KeptObject.{KeptObject}
use Rattle.cb_farmap.specs.declared.map.FarMap.{FarMap}
use Rattle.cb_farmap.specs.Buckets.{IsBucket, no_bucket, pairs_in}
use Rattle.cb_farmap.specs.Changes.{AreLoose, AreSole}
use Rattle.cb_farmap.specs.Objects.{AreApart}
use Rattle.cb_farmap.specs.Pairs.{AreBuckets, Pair, map_of_pairs}
use Rattle.cb_farmap.specs.Stops.{stop_behind}

-- a map with so many buckets and no pair
abbrev pub no_map : ℕ → FarMap
no_map n = record { buckets = replicate n no_bucket; len = 0; stop = None }

-- all objects of buckets, of one after another
abbrev pub kept_of : List Bucket → List KeptObject
kept_of buckets = flat_map (λ (b : Bucket). b.kept) buckets

-- the pairs of each bucket
abbrev pub pairs_of : List Entry → List Bucket → List (List Pair)
pairs_of es buckets = map (pairs_in es) buckets

-- the map of them all: its pairs are the first ones of each bucket's objects at their kept versions
abbrev pub map_of : View → FarMap → finite.FinMap nat_cmp ℕ
map_of v a = map_of_pairs (pairs_of v.written a.buckets)

-- The pass has each object of the map at its kept version as written, none of them stands twice,
-- each key stands in its own bucket, and once, and the map has as many keys as are counted.
pub record IsMapOf (v : View) (a : FarMap) : Type 0 where
  pub some : 1 ≤ length a.buckets
  pub each : AllByRecursion (IsBucket v.written) a.buckets
  pub apart : AreApart (kept_of a.buckets)
  pub keys : AreBuckets (pairs_of v.written a.buckets)
  pub counts : a.len ≡ sum_by (λ (b : Bucket). b.count) a.buckets
  pub len_is : a.len ≡ finite.len (map_of v a)

-- with what was told
abbrev pub told_map : FarMap → Option Cannot → FarMap
told_map a t = record a { stop = stop_behind a.stop t }

-- nobody else has its objects, for the pass has the whole share and wrote each of them last; it has
-- no pin on them, and the map has not stopped
pub record IsCalmMap (v : View) (a : FarMap) : Type 0 where
  pub whole : v.share ≡ 64
  pub going : a.stop ≡ None
  pub sole : AreSole v (kept_of a.buckets)
  pub loose : AreLoose v (kept_of a.buckets)
