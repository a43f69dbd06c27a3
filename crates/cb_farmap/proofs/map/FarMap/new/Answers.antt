use Rattle.std.proofs.Common.{List, None, ap}
use Rattle.cb_farmap.specs.declared.bucket.Bucket.{Bucket}
use Rattle.cb_farmap.specs.declared.map.FarMap.{FarMap}
use Rattle.cb_farmap.proofs.FreshMap.{fresh_by}
use Rattle.cb_farmap.proofs.map.FarMap.new.Goals as goal

abbrev with_buckets : List Bucket → FarMap
with_buckets l = record { buckets = l; len = 0; stop = None }

pub returns-clause-empty : goal.returns-clause-empty
returns-clause-empty c = ap with_buckets c.in_ok-buckets.ensures.empty

pub returns-clause-map : goal.returns-clause-map
returns-clause-map c v = fresh_by v c.args.buckets c.in_ok-buckets.buckets c.requires.some
    c.in_ok-buckets.ensures.empty
