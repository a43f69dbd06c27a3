-- What each call on a map comes to: v and a are the record and the map before, w and b after it.
use Rattle.std.specs.Prelude.{◌≡◌, ℕ, ◌+◌, ◌-◌, if◌then◌else◌, List, [], ◌∷◌, Option, is_some}
use Rattle.std.specs.FinMap as finite
use Rattle.cb_types.specs.declared.config.Config.{Config}
use Rattle.cb_rule.specs.declared.view.View.{View}
use Rattle.cb_farmap.specs.declared.bucket.Bucket.{Bucket}
use Rattle.cb_farmap.specs.declared.kept.Cannot.{Cannot}
use Rattle.cb_farmap.specs.declared.kept.KeptObject.{KeptObject}
use Rattle.cb_farmap.specs.declared.map.FarMap.{FarMap}
use Rattle.cb_farmap.specs.BucketChanges.{Becomes, dropped_in, put_in}
use Rattle.cb_farmap.specs.Buckets.{bucket_in, with_bucket}
use Rattle.cb_farmap.specs.Calls.{Answers, Ask, AskMake, AskRead, AskWrite}
use Rattle.cb_farmap.specs.Changes.{AreSole, GoesOn, IsCalm}
use Rattle.cb_farmap.specs.Maps.{IsCalmMap, IsMapOf, kept_of, map_of, told_map}
use Rattle.cb_farmap.specs.Objects.{AreApart}
use Rattle.cb_farmap.specs.Pairs.{Pair}

-- the objects that a plan reads
abbrev pub reads_of : List Ask → List KeptObject
reads_of [] = []
reads_of (AskRead k ∷ plan) = k ∷ reads_of plan
reads_of (AskWrite k at bytes ∷ plan) = reads_of plan
reads_of (AskMake bytes ∷ plan) = reads_of plan

-- What each keeps to, whatever it is answered: the map stays one of the pass; the calls made are
-- those of the plan, and none where an answer is given for good; no object is read twice; and
-- nothing is told of other writers, of a freed object, of pins or of a range where nobody else has
-- its objects, which stays.
pub record KeepsMap (c : Config) (first : ℕ) (plan : List Ask) (t : Option Cannot) (v : View)
    (a : FarMap) (w : View) (b : FarMap) : Type 0 where
  pub map : IsMapOf w b
  pub calls : Answers c first a.stop plan t v w
  pub once : AreApart (reads_of plan)
  pub on : GoesOn v w
  pub calm : IsCalmMap v a → IsCalm t × AreSole w (kept_of b.buckets)

-- one that is not answered: the map is as it was, and so is the value, but for the stop
pub record StaysMap (t : Option Cannot) (v : View) (a : FarMap) (w : View) (b : FarMap) : Type 0
  where
    pub map : map_of w b ≡ map_of v a
    pub left : b ≡ told_map a t

-- the value of the key, if it has one
pub record IsLooked (key : ℕ) (o : Option ℕ) (v : View) (a : FarMap) (w : View) (b : FarMap)
    : Type 0 where
  pub value : o ≡ finite.get (map_of v a) key
  pub map : map_of w b ≡ map_of v a
  pub left : b ≡ a

-- the key's old value; then the map has the new one. The key's bucket alone has changed, and a new
-- key is counted
pub record IsPut (p : Pair) (o : Option ℕ) (v : View) (a : FarMap) (w : View) (b : FarMap) : Type 0
  where
    pub value : o ≡ finite.get (map_of v a) p.0
    pub map : map_of w b ≡ finite.insert (map_of v a) p.0 p.1
    pub bucket : Bucket
    pub becomes : Becomes v.written (bucket_in a.buckets p.0) bucket
        (put_in v.written (bucket_in a.buckets p.0) p) w.written
    pub left : b ≡ record {
      buckets = with_bucket a.buckets p.0 bucket;
      len = if is_some o then a.len else a.len + 1;
      stop = a.stop;
    }

-- the key's value; then the map has the key no more. The key's bucket alone has changed, and a key
-- that there was is not counted
pub record IsDropped (key : ℕ) (o : Option ℕ) (v : View) (a : FarMap) (w : View) (b : FarMap)
    : Type 0 where
  pub value : o ≡ finite.get (map_of v a) key
  pub map : map_of w b ≡ finite.remove (map_of v a) key
  pub bucket : Bucket
  pub becomes : Becomes v.written (bucket_in a.buckets key) bucket
      (dropped_in v.written (bucket_in a.buckets key) key) w.written
  pub left : b ≡ record {
    buckets = with_bucket a.buckets key bucket;
    len = if is_some o then a.len - 1 else a.len;
    stop = a.stop;
  }
