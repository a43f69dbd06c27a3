use Rattle.std.proofs.Common.{◌≡◌, replicate}
use Rattle.cb_farmap.specs.Buckets.{no_bucket}
use Rattle.cb_farmap.proofs.buckets.Buckets.new.Given as goal

abbrev pub invariant-loop : goal.invariant-loop
invariant-loop l = l.items.items ≡ replicate l.counter no_bucket
