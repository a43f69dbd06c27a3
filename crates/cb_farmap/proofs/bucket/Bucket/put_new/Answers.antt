use Rattle.cb_shared.specs.Passes.{record_of}
use Rattle.cb_farmap.proofs.BucketLaws.{new_becomes}
use Rattle.cb_farmap.proofs.bucket.Bucket.put_new.Goals as goal

pub add_pair-requires-clause-within : goal.add_pair-requires-clause-within
add_pair-requires-clause-within g c = c.requires.bucket.within

pub add_pair-requires-clause-objects : goal.add_pair-requires-clause-objects
add_pair-requires-clause-objects g c = c.requires.bucket.objects

pub returns-clause-put : goal.returns-clause-put
returns-clause-put g c = new_becomes (record_of c.args.pass.now).written (record_of c.add_pair.new.pass).written
    c.args.self.now c.add_pair.new.kept c.requires.bucket (c.args.key, c.args.x) c.ranges.key.fits c.ranges.x.fits
    c.in_ok-add_pair.ensures.added

pub returns-clause-goes : goal.returns-clause-goes
returns-clause-goes g c = c.in_ok-add_pair.ensures.goes
