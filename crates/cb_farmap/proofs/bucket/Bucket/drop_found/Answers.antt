use Rattle.std.proofs.Common.{arith}
use Rattle.cb_shared.specs.Passes.{record_of}
use Rattle.cb_farmap.proofs.BucketLaws.{less_becomes}
use Rattle.cb_farmap.proofs.PutEnds.{found_long, found_value}
use Rattle.cb_farmap.proofs.bucket.Bucket.drop_found.Goals as goal

pub fill_gap-requires-clause-within : goal.fill_gap-requires-clause-within
fill_gap-requires-clause-within g c = let w = c.requires.bucket.within in let l = c.requires.found.within in
    omega (arith, w, l)

pub fill_gap-requires-clause-before : goal.fill_gap-requires-clause-before
fill_gap-requires-clause-before g c = let l = c.requires.found.within in omega (arith, l)

pub fill_gap-requires-clause-objects : goal.fill_gap-requires-clause-objects
fill_gap-requires-clause-objects g c = c.requires.bucket.objects

pub fill_gap-requires-clause-bytes : goal.fill_gap-requires-clause-bytes
fill_gap-requires-clause-bytes g c = c.requires.found.bytes_are

pub value-requires : goal.value-requires
value-requires g c = record {
  long = found_long (record_of c.args.pass.now).written c.args.self.now c.args.found.now
      c.requires.bucket c.requires.found;
}

pub returns-clause-value : goal.returns-clause-value
returns-clause-value g c = found_value (record_of c.args.pass.now).written c.args.self.now c.args.found.now
    c.requires.bucket c.requires.found c.value.result c.value.ensures

pub returns-clause-dropped : goal.returns-clause-dropped
returns-clause-dropped g c = less_becomes (record_of c.args.pass.now).written (record_of c.fill_gap.new.pass).written
    c.args.self.now c.fill_gap.new.kept c.requires.bucket c.args.found.now.place c.requires.found.within
    c.in_ok-fill_gap.ensures.filled

pub returns-clause-goes : goal.returns-clause-goes
returns-clause-goes g c = c.in_ok-fill_gap.ensures.goes
