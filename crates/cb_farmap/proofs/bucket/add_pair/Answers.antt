use Rattle.std.proofs.Common.{sym, ◌∙◌}
use Rattle.cb_shared.specs.Passes.{record_of}
use Rattle.cb_shared.specs.Recalls.{first_version_of}
use Rattle.cb_farmap.proofs.PutEnds.{add_goes_full, add_goes_room, adds_full, adds_room, room_now}
use Rattle.cb_farmap.proofs.bucket.add_pair.Goals as goal

pub returns-then-count-len-clause-added : goal.returns-then-count-len-clause-added
returns-then-count-len-clause-added g c = adds_full c.args.kept.now c.args.count (c.args.key, c.args.x)
    c.requires.within
    (record_of c.args.pass.now).written (record_of c.make_kept.new.pass).written c.make_kept.new.kept
    c.object_bytes.result c.make_kept.result (c.if-count-len.true ∙ c.len.ensures) c.object_bytes.ensures
    c.make_kept.ensures.made

pub returns-then-count-len-clause-stays : goal.returns-then-count-len-clause-stays
returns-then-count-len-clause-stays g c = c.make_kept.ensures.stays

pub returns-then-count-len-clause-goes : goal.returns-then-count-len-clause-goes
returns-then-count-len-clause-goes g c = add_goes_full c.args.kept.now c.args.count (c.args.key, c.args.x)
    c.requires.within
    c.args.shared.now.config (first_version_of c.args.shared.now) _ (record_of c.args.pass.now)
    (record_of c.make_kept.new.pass) c.object_bytes.result (c.if-count-len.true ∙ c.len.ensures) c.object_bytes.ensures
    c.make_kept.ensures.goes

pub returns-then-count-len-clause-calm : goal.returns-then-count-len-clause-calm
returns-then-count-len-clause-calm g c soles loose = c.make_kept.ensures.calm

pub write_pair-requires-clause-within : goal.write_pair-requires-clause-within
write_pair-requires-clause-within g c = room_now c.args.kept.now c.args.count (c.args.key, c.args.x) c.requires.within
    (λ e. c.if-count-len.false (e ∙ sym c.len.ensures))

pub returns-else-count-len-clause-added : goal.returns-else-count-len-clause-added
returns-else-count-len-clause-added g c = adds_room c.args.kept.now c.args.count (c.args.key, c.args.x)
    c.requires.within
    (record_of c.args.pass.now).written (record_of c.write_pair.new.pass).written c.write_pair.new.kept
    c.write_pair.result (λ e. c.if-count-len.false (e ∙ sym c.len.ensures)) c.write_pair.ensures.wrote

pub returns-else-count-len-clause-stays : goal.returns-else-count-len-clause-stays
returns-else-count-len-clause-stays g c = c.write_pair.ensures.stays

pub returns-else-count-len-clause-goes : goal.returns-else-count-len-clause-goes
returns-else-count-len-clause-goes g c = add_goes_room c.args.kept.now c.args.count (c.args.key, c.args.x)
    c.requires.within
    c.args.shared.now.config (first_version_of c.args.shared.now) _ (record_of c.args.pass.now)
    (record_of c.write_pair.new.pass) (λ e. c.if-count-len.false (e ∙ sym c.len.ensures)) c.write_pair.ensures.goes

pub returns-else-count-len-clause-calm : goal.returns-else-count-len-clause-calm
returns-else-count-len-clause-calm g c soles loose = c.write_pair.ensures.calm soles loose
