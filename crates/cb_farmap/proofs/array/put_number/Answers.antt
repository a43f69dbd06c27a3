use Rattle.std.proofs.Common.{◌/◌, ◌<◌, length, sym, ◌∙◌}
use Rattle.cb_shared.specs.Passes.{record_of}
use Rattle.cb_shared.specs.Recalls.{first_version_of}
use Rattle.cb_farmap.specs.Calls.{trouble}
use Rattle.cb_farmap.specs.Changes.{IsLoose, IsSole}
use Rattle.cb_farmap.specs.Objects.{IsObject, blank}
use Rattle.cb_farmap.proofs.Lists.{all_at}
use Rattle.cb_farmap.proofs.Telling.{goes_full, goes_room, place_is, put_full, put_room}
use Rattle.cb_farmap.proofs.array.put_number.Goals as goal

pub write_number-requires-clause-within : goal.write_number-requires-clause-within
write_number-requires-clause-within g c = place_is c.args.shared.now.config
    (first_version_of c.args.shared.now) c.args.kept.now c.args.len c.args.x c.requires.within
    c.args.kept.now (record_of c.args.pass.now) (record_of c.args.pass.now)
    (λ e. c.if-len.false (e ∙ sym c.len.ensures))

pub write_number-requires-clause-object : goal.write_number-requires-clause-object
write_number-requires-clause-object g c = all_at (IsObject (record_of c.args.pass.now).written)
    c.args.kept.now (c.args.len / 128) blank c.requires.objects
    (place_is c.args.shared.now.config (first_version_of c.args.shared.now) c.args.kept.now
    c.args.len c.args.x c.requires.within c.args.kept.now (record_of c.args.pass.now)
    (record_of c.args.pass.now) (λ e. c.if-len.false (e ∙ sym c.len.ensures)))

pub returns-then-len-clause-goes : goal.returns-then-len-clause-goes
returns-then-len-clause-goes g c = goes_full c.args.shared.now.config
    (first_version_of c.args.shared.now) c.args.kept.now c.args.len c.args.x c.requires.within
    c.make_number.new.kept (record_of c.args.pass.now) (record_of c.make_number.new.pass)
    (trouble c.make_number.result) (c.if-len.true ∙ c.len.ensures) c.make_number.ensures.goes

pub returns-then-len-clause-put : goal.returns-then-len-clause-put
returns-then-len-clause-put g c = put_full c.args.shared.now.config
    (first_version_of c.args.shared.now) c.args.kept.now c.args.len c.args.x c.requires.within
    c.make_number.new.kept (record_of c.args.pass.now) (record_of c.make_number.new.pass)
    c.make_number.result (c.if-len.true ∙ c.len.ensures) c.make_number.ensures.made

pub returns-then-len-clause-stays : goal.returns-then-len-clause-stays
returns-then-len-clause-stays g c = c.make_number.ensures.stays

pub returns-then-len-clause-calm : goal.returns-then-len-clause-calm
returns-then-len-clause-calm g c soles loose = c.make_number.ensures.calm

pub returns-else-len-clause-goes : goal.returns-else-len-clause-goes
returns-else-len-clause-goes g c = goes_room c.args.shared.now.config
    (first_version_of c.args.shared.now) c.args.kept.now c.args.len c.args.x c.requires.within
    c.write_number.new.kept (record_of c.args.pass.now) (record_of c.write_number.new.pass)
    (trouble c.write_number.result) (λ e. c.if-len.false (e ∙ sym c.len.ensures))
    c.write_number.ensures.goes

pub returns-else-len-clause-put : goal.returns-else-len-clause-put
returns-else-len-clause-put g c = put_room c.args.shared.now.config
    (first_version_of c.args.shared.now) c.args.kept.now c.args.len c.args.x c.requires.within
    c.write_number.new.kept (record_of c.args.pass.now) (record_of c.write_number.new.pass)
    c.write_number.result (λ e. c.if-len.false (e ∙ sym c.len.ensures)) c.write_number.ensures.wrote

pub returns-else-len-clause-stays : goal.returns-else-len-clause-stays
returns-else-len-clause-stays g c = c.write_number.ensures.stays

pub returns-else-len-clause-calm : goal.returns-else-len-clause-calm
returns-else-len-clause-calm g c soles loose =
    let place : c.args.len / 128 < length c.args.kept.now = place_is c.args.shared.now.config
    (first_version_of c.args.shared.now) c.args.kept.now c.args.len c.args.x c.requires.within
    c.args.kept.now (record_of c.args.pass.now) (record_of c.args.pass.now)
    (λ e. c.if-len.false (e ∙ sym c.len.ensures)) in
    c.write_number.ensures.calm
    (all_at (IsSole (record_of c.args.pass.now)) c.args.kept.now (c.args.len / 128) blank soles place)
    (all_at (IsLoose (record_of c.args.pass.now)) c.args.kept.now (c.args.len / 128) blank loose place)
