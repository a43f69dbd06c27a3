use Rattle.cb_shared.specs.Passes.{record_of}
use Rattle.cb_farmap.proofs.PutEnds.{found_long_at, found_value_at, none_looked}
use Rattle.cb_farmap.proofs.bucket.Bucket.look.Goals as goal

pub value-requires : goal.value-requires
value-requires g c = record {
  long = found_long_at (record_of c.args.pass.now).written c.args.self.now c.args.key
      c.in_ok-found.found c.in-Some.found c.in-Some.is c.requires.bucket c.in_ok-found.ensures.found;
}

pub returns-in-Some-clause-value : goal.returns-in-Some-clause-value
returns-in-Some-clause-value g c = found_value_at (record_of c.args.pass.now).written c.args.self.now c.args.key
    c.in_ok-found.found c.in-Some.found c.in-Some.is c.requires.bucket c.in_ok-found.ensures.found c.value.result
    c.value.ensures

pub returns-in-Some-clause-goes : goal.returns-in-Some-clause-goes
returns-in-Some-clause-goes g c = c.in_ok-found.ensures.goes

pub returns-in-None-clause-value : goal.returns-in-None-clause-value
returns-in-None-clause-value g c = none_looked (record_of c.args.pass.now).written c.args.self.now c.args.key
    c.in_ok-found.found c.in-None.is c.in_ok-found.ensures.found

pub returns-in-None-clause-goes : goal.returns-in-None-clause-goes
returns-in-None-clause-goes g c = c.in_ok-found.ensures.goes
