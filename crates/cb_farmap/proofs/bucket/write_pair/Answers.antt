use Rattle.std.proofs.Common.{refl}
use Rattle.cb_shared.specs.Passes.{record_of}
use Rattle.cb_shared.specs.Recalls.{first_version_of}
use Rattle.cb_farmap.proofs.PutEnds.{loose_there, object_there, pair_goes, pair_wrote, place_there, sole_there}
use Rattle.cb_farmap.proofs.bucket.write_pair.Goals as goal

pub write_kept-requires-clause-there : goal.write_kept-requires-clause-there
write_kept-requires-clause-there g c = place_there c.args.kept.now c.args.place c.requires.within

pub write_kept-requires-clause-object : goal.write_kept-requires-clause-object
write_kept-requires-clause-object g c = object_there c.args.kept.now c.args.place
    c.requires.within (record_of c.args.pass.now).written _ refl c.requires.objects

pub returns-clause-wrote : goal.returns-clause-wrote
returns-clause-wrote g c = pair_wrote (record_of c.args.pass.now).written
    (record_of c.write_kept.new.pass).written c.args.kept.now c.write_kept.new.kept c.args.place
    (c.args.key, c.args.x) c.pair_bytes-bytes.result c.write_kept.result c.ranges.key.fits
    c.ranges.x.fits c.pair_bytes-bytes.ensures c.write_kept.ensures.wrote c.write_kept.ensures.done

pub returns-clause-stays : goal.returns-clause-stays
returns-clause-stays g c = c.write_kept.ensures.stays

pub returns-clause-goes : goal.returns-clause-goes
returns-clause-goes g c = pair_goes c.args.shared.now.config (first_version_of c.args.shared.now)
    c.args.kept.now c.args.place (c.args.key, c.args.x) c.pair_bytes-bytes.result _
    (record_of c.args.pass.now) (record_of c.write_kept.new.pass) c.pair_bytes-bytes.ensures
    c.write_kept.ensures.goes

pub returns-clause-calm : goal.returns-clause-calm
returns-clause-calm g c soles loose = c.write_kept.ensures.calm
    (sole_there c.args.kept.now c.args.place c.requires.within (record_of c.args.pass.now) _ refl
    soles)
    (loose_there c.args.kept.now c.args.place c.requires.within (record_of c.args.pass.now) _ refl
    loose)
