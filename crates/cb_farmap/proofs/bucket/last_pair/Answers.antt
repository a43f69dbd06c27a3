use Rattle.std.proofs.Common.{length, sym, ap, ◌∙◌, subst}
use Rattle.cb_shared.specs.Passes.{record_of}
use Rattle.cb_shared.specs.Recalls.{first_version_of}
use Rattle.cb_farmap.specs.Changes.{IsCalm}
use Rattle.cb_farmap.proofs.Moving.{found_bytes, last_here, last_read, last_told, pair_here, pair_told}
use Rattle.cb_farmap.proofs.PutEnds.{loose_there, object_there, place_there, sole_there}
use Rattle.cb_farmap.proofs.bucket.last_pair.Goals as goal

pub pair_of-requires-clause-long : goal.pair_of-requires-clause-long
pair_of-requires-clause-long g c = ap length c.as_slice.ensures.items ∙ found_bytes
    (record_of c.args.pass.now).written c.args.kept.now c.args.found.now.place c.args.last c.args.found.now.bytes
    c.requires.within c.if-last-found.true c.requires.objects c.requires.bytes

pub returns-then-last-found-clause-pair : goal.returns-then-last-found-clause-pair
returns-then-last-found-clause-pair g c = c.pair_of.ensures ∙ pair_here (record_of c.args.pass.now).written
    c.args.kept.now
    c.args.found.now.place c.args.last c.args.found.now.bytes c.as_slice.result.now c.requires.within
    c.if-last-found.true
    c.requires.bytes c.as_slice.ensures.items

pub returns-then-last-found-clause-goes : goal.returns-then-last-found-clause-goes
returns-then-last-found-clause-goes g c = last_here c.args.shared.now.config (first_version_of c.args.shared.now)
    c.args.kept.now c.args.found.now.place c.args.last (record_of c.args.pass.now) c.if-last-found.true

pub at-requires : goal.at-requires
at-requires g c = record { within = place_there c.args.kept.now c.args.last c.requires.within }

pub read_kept-bytes-requires-clause-object : goal.read_kept-bytes-requires-clause-object
read_kept-bytes-requires-clause-object g c = object_there c.args.kept.now c.args.last c.requires.within
    (record_of c.args.pass.now).written c.at.result c.at.ensures c.requires.objects

pub pair_in-requires-clause-long : goal.pair_in-requires-clause-long
pair_in-requires-clause-long g c = last_told (record_of c.args.pass.now).written c.at.result
    (object_there c.args.kept.now c.args.last c.requires.within (record_of c.args.pass.now).written c.at.result
    c.at.ensures c.requires.objects) c.read_kept-bytes.result c.read_kept-bytes.ensures.bytes

pub returns-clause-pair : goal.returns-clause-pair
returns-clause-pair g c = pair_told (record_of c.args.pass.now).written c.args.kept.now c.args.last c.at.result
    c.read_kept-bytes.result c.pair_in.result c.requires.within c.at.ensures c.read_kept-bytes.ensures.bytes
    c.pair_in.ensures.same c.pair_in.ensures.pair

pub returns-clause-goes : goal.returns-clause-goes
returns-clause-goes g c = last_read c.args.shared.now.config (first_version_of c.args.shared.now) c.args.kept.now
    c.args.found.now.place c.args.last _ _ (record_of c.args.pass.now) (record_of c.read_kept-bytes.new.pass)
    c.at.result c.at.ensures c.pair_in.ensures.same c.if-last-found.false c.read_kept-bytes.ensures.goes

pub returns-clause-calm : goal.returns-clause-calm
returns-clause-calm g c soles loose = subst IsCalm (sym c.pair_in.ensures.same) (c.read_kept-bytes.ensures.calm
    (sole_there c.args.kept.now c.args.last c.requires.within (record_of c.args.pass.now) c.at.result
    c.at.ensures soles)
    (loose_there c.args.kept.now c.args.last c.requires.within (record_of c.args.pass.now) c.at.result
    c.at.ensures loose))
