use Rattle.std.proofs.Common.{Some}
use Rattle.std.proofs.lemmas.Result.{err_from_is_err_and}
use Rattle.cb_shared.specs.Passes.{record_of}
use Rattle.cb_shared.specs.Recalls.{first_version_of}
use Rattle.cb_farmap.proofs.PutEnds.{bucket_after, calm_after, drop_after, drop_failed, drop_goes_after, found_after, none_dropped, none_goes, none_looked, place_found, place_none, value_after}
use Rattle.cb_farmap.proofs.bucket.Bucket.drop_key.Goals as goal

pub returns-in_err-found-clause-goes : goal.returns-in_err-found-clause-goes
returns-in_err-found-clause-goes g c =
    let p = err_from_is_err_and c.from_residual.result c.from_residual.ensures.1 in rw (p.1, p.2)
    (drop_failed c.args.shared.now.config (first_version_of c.args.shared.now) (record_of c.args.pass.now)
    (record_of c.find.new.pass) c.args.self.now c.args.key c.in_err-found.field-0.0
    c.in_err-found.ensures.goes)

pub returns-in_err-found-clause-calm : goal.returns-in_err-found-clause-calm
returns-in_err-found-clause-calm g c soles loose =
    let p = err_from_is_err_and c.from_residual.result c.from_residual.ensures.1 in rw (p.1, p.2)
    (c.in_err-found.ensures.calm soles loose)

pub drop_found-requires-clause-bucket : goal.drop_found-requires-clause-bucket
drop_found-requires-clause-bucket g c = bucket_after c.args.shared.now.config (first_version_of
    c.args.shared.now) (record_of c.args.pass.now) (record_of c.find.new.pass) c.args.self.now c.args.key
    c.in_ok-found.ensures.goes c.requires.bucket

pub drop_found-requires-clause-found : goal.drop_found-requires-clause-found
drop_found-requires-clause-found g c = found_after c.args.shared.now.config (first_version_of
    c.args.shared.now) (record_of c.args.pass.now) (record_of c.find.new.pass) c.args.self.now c.args.key
    c.in_ok-found.ensures.goes c.in_ok-found.found c.in-Some.found c.in-Some.is c.in_ok-found.ensures.found

pub returns-in-Some-clause-value : goal.returns-in-Some-clause-value
returns-in-Some-clause-value g c = value_after c.args.shared.now.config (first_version_of
    c.args.shared.now) (record_of c.args.pass.now) (record_of c.find.new.pass) c.args.self.now c.args.key
    c.in_ok-found.ensures.goes (Some c.in-Some.found.place) (place_found (record_of c.args.pass.now).written
    c.args.self.now c.args.key c.in_ok-found.found c.in-Some.found c.in-Some.is c.in_ok-found.ensures.found)
    c.drop_found.result c.drop_found.ensures.value

pub returns-in-Some-clause-dropped : goal.returns-in-Some-clause-dropped
returns-in-Some-clause-dropped g c = drop_after c.args.shared.now.config (first_version_of
    c.args.shared.now) (record_of c.args.pass.now) (record_of c.find.new.pass) c.args.self.now c.args.key
    c.in_ok-found.ensures.goes c.in-Some.found.place (place_found (record_of c.args.pass.now).written
    c.args.self.now c.args.key c.in_ok-found.found c.in-Some.found c.in-Some.is c.in_ok-found.ensures.found)
    c.drop_found.new.self (record_of c.drop_found.new.pass) c.drop_found.result c.drop_found.ensures.dropped

pub returns-in-Some-clause-stays : goal.returns-in-Some-clause-stays
returns-in-Some-clause-stays g c = c.drop_found.ensures.stays

pub returns-in-Some-clause-goes : goal.returns-in-Some-clause-goes
returns-in-Some-clause-goes g c = drop_goes_after c.args.shared.now.config (first_version_of
    c.args.shared.now) (record_of c.args.pass.now) (record_of c.find.new.pass) c.args.self.now c.args.key
    c.in_ok-found.ensures.goes c.in-Some.found.place (place_found (record_of c.args.pass.now).written
    c.args.self.now c.args.key c.in_ok-found.found c.in-Some.found c.in-Some.is c.in_ok-found.ensures.found)
    _ (record_of c.drop_found.new.pass) c.drop_found.ensures.goes

pub returns-in-Some-clause-calm : goal.returns-in-Some-clause-calm
returns-in-Some-clause-calm g c soles loose = calm_after c.args.shared.now.config (first_version_of
    c.args.shared.now) (record_of c.args.pass.now) (record_of c.find.new.pass) c.args.self.now c.args.key
    c.in_ok-found.ensures.goes _ c.drop_found.ensures.calm soles loose

pub returns-in-None-clause-value : goal.returns-in-None-clause-value
returns-in-None-clause-value g c = none_looked (record_of c.args.pass.now).written c.args.self.now
    c.args.key c.in_ok-found.found c.in-None.is c.in_ok-found.ensures.found

pub returns-in-None-clause-dropped : goal.returns-in-None-clause-dropped
returns-in-None-clause-dropped g c = none_dropped c.args.shared.now.config (first_version_of
    c.args.shared.now) (record_of c.args.pass.now) (record_of c.find.new.pass) c.args.self.now c.args.key
    c.in_ok-found.ensures.goes (place_none (record_of c.args.pass.now).written c.args.self.now c.args.key
    c.in_ok-found.found c.in-None.is c.in_ok-found.ensures.found) c.requires.bucket

pub returns-in-None-clause-goes : goal.returns-in-None-clause-goes
returns-in-None-clause-goes g c = none_goes c.args.shared.now.config (first_version_of
    c.args.shared.now) (record_of c.args.pass.now) (record_of c.find.new.pass) c.args.self.now c.args.key
    c.in_ok-found.ensures.goes (place_none (record_of c.args.pass.now).written c.args.self.now c.args.key
    c.in_ok-found.found c.in-None.is c.in_ok-found.ensures.found)
