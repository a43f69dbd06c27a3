use Rattle.cb_shared.specs.Passes.{record_of}
use Rattle.cb_farmap.proofs.BucketLaws.{over_becomes}
use Rattle.cb_farmap.proofs.PutEnds.{found_long, found_value, inside}
use Rattle.cb_farmap.proofs.bucket.Bucket.put_over.Goals as goal

pub value-old-requires : goal.value-old-requires
value-old-requires g c = record {
  long = found_long (record_of c.args.pass.now).written c.args.self.now
      c.args.found.now c.requires.bucket c.requires.found;
}

pub write_pair-requires-clause-within : goal.write_pair-requires-clause-within
write_pair-requires-clause-within g c = inside (record_of c.args.pass.now).written c.args.self.now c.args.found.now
    c.requires.bucket c.requires.found

pub write_pair-requires-clause-objects : goal.write_pair-requires-clause-objects
write_pair-requires-clause-objects g c = c.requires.bucket.objects

pub returns-clause-value : goal.returns-clause-value
returns-clause-value g c = found_value (record_of c.args.pass.now).written c.args.self.now c.args.found.now
    c.requires.bucket c.requires.found c.value-old.result c.value-old.ensures

pub returns-clause-put : goal.returns-clause-put
returns-clause-put g c = over_becomes (record_of c.args.pass.now).written (record_of c.write_pair.new.pass).written
    c.args.self.now c.write_pair.new.kept c.requires.bucket c.args.found.now.place (c.args.key, c.args.x)
    c.requires.found.within c.in_ok-write_pair.ensures.wrote

pub returns-clause-goes : goal.returns-clause-goes
returns-clause-goes g c = c.in_ok-write_pair.ensures.goes
