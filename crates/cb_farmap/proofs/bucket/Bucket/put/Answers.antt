use Rattle.std.proofs.Common.{Some, None}
use Rattle.std.proofs.lemmas.Result.{err_from_is_err_and}
use Rattle.cb_shared.specs.Passes.{record_of}
use Rattle.cb_shared.specs.Recalls.{first_version_of}
use Rattle.cb_farmap.proofs.PutEnds.{bucket_after, calm_after, found_after, place_found, place_none, put_after, put_failed, put_goes_after, value_after}
use Rattle.cb_farmap.proofs.bucket.Bucket.put.Goals as goal

pub returns-in_err-found-clause-goes : goal.returns-in_err-found-clause-goes
returns-in_err-found-clause-goes g c =
    let p = err_from_is_err_and c.from_residual.result c.from_residual.ensures.1 in rw (p.1, p.2)
    (put_failed c.args.shared.now.config (first_version_of c.args.shared.now) (record_of c.args.pass.now)
    (record_of c.find.new.pass) c.args.self.now c.args.key c.args.x c.in_err-found.field-0.0
    c.in_err-found.ensures.goes)

pub returns-in_err-found-clause-calm : goal.returns-in_err-found-clause-calm
returns-in_err-found-clause-calm g c soles loose =
    let p = err_from_is_err_and c.from_residual.result c.from_residual.ensures.1 in rw (p.1, p.2)
    (c.in_err-found.ensures.calm soles loose)

pub put_over-requires-clause-bucket : goal.put_over-requires-clause-bucket
put_over-requires-clause-bucket g c = bucket_after c.args.shared.now.config (first_version_of
    c.args.shared.now) (record_of c.args.pass.now) (record_of c.find.new.pass) c.args.self.now c.args.key
    c.in_ok-found.ensures.goes c.requires.bucket

pub put_over-requires-clause-found : goal.put_over-requires-clause-found
put_over-requires-clause-found g c = found_after c.args.shared.now.config (first_version_of
    c.args.shared.now) (record_of c.args.pass.now) (record_of c.find.new.pass) c.args.self.now c.args.key
    c.in_ok-found.ensures.goes c.in_ok-found.found c.in-Some.found c.in-Some.is c.in_ok-found.ensures.found

pub returns-in-Some-clause-value : goal.returns-in-Some-clause-value
returns-in-Some-clause-value g c = value_after c.args.shared.now.config (first_version_of
    c.args.shared.now) (record_of c.args.pass.now) (record_of c.find.new.pass) c.args.self.now c.args.key
    c.in_ok-found.ensures.goes (Some c.in-Some.found.place) (place_found (record_of c.args.pass.now).written
    c.args.self.now c.args.key c.in_ok-found.found c.in-Some.found c.in-Some.is c.in_ok-found.ensures.found)
    c.put_over.result c.put_over.ensures.value

pub returns-in-Some-clause-put : goal.returns-in-Some-clause-put
returns-in-Some-clause-put g c = put_after c.args.shared.now.config (first_version_of c.args.shared.now)
    (record_of c.args.pass.now) (record_of c.find.new.pass) c.args.self.now c.args.key
    c.in_ok-found.ensures.goes (Some c.in-Some.found.place) (place_found (record_of c.args.pass.now).written
    c.args.self.now c.args.key c.in_ok-found.found c.in-Some.found c.in-Some.is c.in_ok-found.ensures.found)
    c.args.x c.put_over.new.self (record_of c.put_over.new.pass) c.put_over.result c.put_over.ensures.put

pub returns-in-Some-clause-stays : goal.returns-in-Some-clause-stays
returns-in-Some-clause-stays g c = c.put_over.ensures.stays

pub returns-in-Some-clause-goes : goal.returns-in-Some-clause-goes
returns-in-Some-clause-goes g c = put_goes_after c.args.shared.now.config (first_version_of
    c.args.shared.now) (record_of c.args.pass.now) (record_of c.find.new.pass) c.args.self.now c.args.key
    c.in_ok-found.ensures.goes (Some c.in-Some.found.place) (place_found (record_of c.args.pass.now).written
    c.args.self.now c.args.key c.in_ok-found.found c.in-Some.found c.in-Some.is c.in_ok-found.ensures.found)
    c.args.x _ (record_of c.put_over.new.pass) c.put_over.ensures.goes

pub returns-in-Some-clause-calm : goal.returns-in-Some-clause-calm
returns-in-Some-clause-calm g c soles loose = calm_after c.args.shared.now.config (first_version_of
    c.args.shared.now) (record_of c.args.pass.now) (record_of c.find.new.pass) c.args.self.now c.args.key
    c.in_ok-found.ensures.goes _ c.put_over.ensures.calm soles loose

pub put_new-requires-clause-bucket : goal.put_new-requires-clause-bucket
put_new-requires-clause-bucket g c = bucket_after c.args.shared.now.config (first_version_of
    c.args.shared.now) (record_of c.args.pass.now) (record_of c.find.new.pass) c.args.self.now c.args.key
    c.in_ok-found.ensures.goes c.requires.bucket

pub returns-in-None-clause-value : goal.returns-in-None-clause-value
returns-in-None-clause-value g c = value_after c.args.shared.now.config (first_version_of
    c.args.shared.now) (record_of c.args.pass.now) (record_of c.find.new.pass) c.args.self.now c.args.key
    c.in_ok-found.ensures.goes None (place_none (record_of c.args.pass.now).written c.args.self.now
    c.args.key c.in_ok-found.found c.in-None.is c.in_ok-found.ensures.found) c.put_new.result
    c.put_new.ensures.value

pub returns-in-None-clause-put : goal.returns-in-None-clause-put
returns-in-None-clause-put g c = put_after c.args.shared.now.config (first_version_of c.args.shared.now)
    (record_of c.args.pass.now) (record_of c.find.new.pass) c.args.self.now c.args.key
    c.in_ok-found.ensures.goes None (place_none (record_of c.args.pass.now).written c.args.self.now
    c.args.key c.in_ok-found.found c.in-None.is c.in_ok-found.ensures.found) c.args.x c.put_new.new.self
    (record_of c.put_new.new.pass) c.put_new.result c.put_new.ensures.put

pub returns-in-None-clause-stays : goal.returns-in-None-clause-stays
returns-in-None-clause-stays g c = c.put_new.ensures.stays

pub returns-in-None-clause-goes : goal.returns-in-None-clause-goes
returns-in-None-clause-goes g c = put_goes_after c.args.shared.now.config (first_version_of
    c.args.shared.now) (record_of c.args.pass.now) (record_of c.find.new.pass) c.args.self.now c.args.key
    c.in_ok-found.ensures.goes None (place_none (record_of c.args.pass.now).written c.args.self.now
    c.args.key c.in_ok-found.found c.in-None.is c.in_ok-found.ensures.found) c.args.x _ (record_of
    c.put_new.new.pass) c.put_new.ensures.goes

pub returns-in-None-clause-calm : goal.returns-in-None-clause-calm
returns-in-None-clause-calm g c soles loose = calm_after c.args.shared.now.config (first_version_of
    c.args.shared.now) (record_of c.args.pass.now) (record_of c.find.new.pass) c.args.self.now c.args.key
    c.in_ok-found.ensures.goes _ c.put_new.ensures.calm soles loose
