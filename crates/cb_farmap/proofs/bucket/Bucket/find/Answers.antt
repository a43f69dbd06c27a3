use Rattle.std.proofs.lemmas.Result.{err_from_is_err_and}
use Rattle.cb_shared.specs.Passes.{record_of}
use Rattle.cb_shared.specs.Recalls.{first_version_of}
use Rattle.cb_farmap.proofs.Searched.{all_there, bucket_kept, ends_found, ends_none, goes_failed, goes_found, goes_more, goes_none, loose_at, none_more, sole_at, some_left}
use Rattle.cb_farmap.proofs.bucket.Bucket.find.Goals as goal

pub find_in-requires-clause-bucket : goal.find_in-requires-clause-bucket
find_in-requires-clause-bucket g c = bucket_kept c.args.shared.now.config (first_version_of c.args.shared.now)
    (record_of c.args.pass.now) (record_of c.loop-o.pass) c.args.self.now c.loop-o.o c.loop-o.invariant.goes
    c.requires.bucket

pub returns-in_err-found-clause-goes : goal.returns-in_err-found-clause-goes
returns-in_err-found-clause-goes g c =
    let p = err_from_is_err_and c.from_residual.result c.from_residual.ensures.1 in rw (p.1, p.2)
    (goes_failed c.args.shared.now.config (first_version_of c.args.shared.now) (record_of c.args.pass.now)
    (record_of c.loop-o.pass) c.args.self.now c.loop-o.o c.loop-o.invariant.goes c.args.key
    (record_of c.find_in.new.pass) c.requires.bucket c.loop-o.invariant.none c.in_err-found.field-0.0
    (some_left c.loop-o.o c.args.self.now.count c.div_ceil-o-end.result c.loop-o-test.true c.div_ceil-o-end.ensures)
    c.in_err-found.ensures.goes)

pub returns-in_err-found-clause-calm : goal.returns-in_err-found-clause-calm
returns-in_err-found-clause-calm g c sole loose =
    let p = err_from_is_err_and c.from_residual.result c.from_residual.ensures.1 in
    let some = some_left c.loop-o.o c.args.self.now.count c.div_ceil-o-end.result c.loop-o-test.true
    c.div_ceil-o-end.ensures in
    rw (p.1, p.2) (c.in_err-found.ensures.calm
    (sole_at c.args.shared.now.config (first_version_of c.args.shared.now) (record_of c.args.pass.now)
    (record_of c.loop-o.pass) c.args.self.now c.loop-o.o c.loop-o.invariant.goes c.requires.bucket some sole)
    (loose_at c.args.shared.now.config (first_version_of c.args.shared.now) (record_of c.args.pass.now)
    (record_of c.loop-o.pass) c.args.self.now c.loop-o.o c.loop-o.invariant.goes c.requires.bucket some loose))

pub returns-in-Some-clause-found : goal.returns-in-Some-clause-found
returns-in-Some-clause-found g c = ends_found c.args.shared.now.config (first_version_of c.args.shared.now)
    (record_of c.args.pass.now) (record_of c.loop-o.pass) c.args.self.now c.loop-o.o c.loop-o.invariant.goes
    c.args.key (record_of c.find_in.new.pass) c.requires.bucket c.loop-o.invariant.none
    c.in_ok-found.field-0 c.in-Some.found c.in-Some.is c.in_ok-found.ensures.sought

pub returns-in-Some-clause-goes : goal.returns-in-Some-clause-goes
returns-in-Some-clause-goes g c = goes_found c.args.shared.now.config (first_version_of c.args.shared.now)
    (record_of c.args.pass.now) (record_of c.loop-o.pass) c.args.self.now c.loop-o.o c.loop-o.invariant.goes
    c.args.key (record_of c.find_in.new.pass) c.requires.bucket c.loop-o.invariant.none
    c.in_ok-found.field-0 c.in-Some.found c.in-Some.is
    (some_left c.loop-o.o c.args.self.now.count c.div_ceil-o-end.result c.loop-o-test.true c.div_ceil-o-end.ensures)
    c.in_ok-found.ensures.sought c.in_ok-found.ensures.goes

pub loop-o-preserved : goal.loop-o-preserved
loop-o-preserved g c = record {
  of = c.find_in.ensures.of;
  none = none_more c.args.shared.now.config (first_version_of c.args.shared.now) (record_of c.args.pass.now)
      (record_of c.loop-o.pass) c.args.self.now c.loop-o.o c.loop-o.invariant.goes c.args.key
      c.in_ok-found.field-0 c.in_default.is c.loop-o.invariant.none c.in_ok-found.ensures.sought;
  goes = goes_more c.args.shared.now.config (first_version_of c.args.shared.now) (record_of c.args.pass.now)
      (record_of c.loop-o.pass) c.args.self.now c.loop-o.o c.loop-o.invariant.goes c.args.key
      (record_of c.find_in.new.pass) c.requires.bucket c.loop-o.invariant.none
      (some_left c.loop-o.o c.args.self.now.count c.div_ceil-o-end.result c.loop-o-test.true c.div_ceil-o-end.ensures)
      c.in_ok-found.ensures.goes;
}

pub returns-clause-found : goal.returns-clause-found
returns-clause-found g c = ends_none c.args.shared.now.config (first_version_of c.args.shared.now)
    (record_of c.args.pass.now) (record_of c.loop-o.pass) c.args.self.now c.loop-o.o c.loop-o.invariant.goes
    c.args.key (record_of c.loop-o.pass) c.requires.bucket c.loop-o.invariant.none
    (all_there c.loop-o.o c.args.self.now.count c.div_ceil-o-end.result c.loop-o-test.false c.loop-o.auto.o-end
    c.div_ceil-o-end.ensures).1

pub returns-clause-goes : goal.returns-clause-goes
returns-clause-goes g c = let end = all_there c.loop-o.o c.args.self.now.count c.div_ceil-o-end.result
    c.loop-o-test.false c.loop-o.auto.o-end c.div_ceil-o-end.ensures in
    goes_none c.args.shared.now.config (first_version_of c.args.shared.now)
    (record_of c.args.pass.now) (record_of c.loop-o.pass) c.args.self.now c.loop-o.o c.loop-o.invariant.goes
    c.args.key (record_of c.loop-o.pass) c.requires.bucket c.loop-o.invariant.none end.0 end.1
