use Rattle.std.proofs.Common.{arith}
use Rattle.std.proofs.lemmas.Result.{err_from_is_err_and}
use Rattle.cb_shared.specs.Passes.{record_of}
use Rattle.cb_shared.specs.Recalls.{first_version_of}
use Rattle.cb_farmap.proofs.Moving.{calm_last, fills_last, fills_none, move_behind, move_fails, no_move, objects_last}
use Rattle.cb_farmap.proofs.bucket.fill_gap.Goals as goal

pub returns-then-found-last-clause-filled : goal.returns-then-found-last-clause-filled
returns-then-found-last-clause-filled g c = fills_none (record_of c.args.pass.now).written c.args.kept.now
    c.args.found.now.place c.args.last _ c.if-found-last.true

pub returns-then-found-last-clause-goes : goal.returns-then-found-last-clause-goes
returns-then-found-last-clause-goes g c = no_move c.args.shared.now.config (first_version_of c.args.shared.now)
    (record_of c.args.pass.now).written c.args.kept.now c.args.found.now.place c.args.last (record_of c.args.pass.now)
    c.if-found-last.true

pub returns-in_err-pair-clause-goes : goal.returns-in_err-pair-clause-goes
returns-in_err-pair-clause-goes g c =
    let p = err_from_is_err_and c.from_residual.result c.from_residual.ensures.1 in rw (p.1, p.2)
    (move_fails c.args.shared.now.config (first_version_of c.args.shared.now) (record_of c.args.pass.now).written
    c.args.kept.now c.args.found.now.place c.args.last c.in_err-pair.field-0.0 (record_of c.args.pass.now)
    (record_of c.last_pair.new.pass) c.if-found-last.false c.in_err-pair.ensures.goes)

pub returns-in_err-pair-clause-calm : goal.returns-in_err-pair-clause-calm
returns-in_err-pair-clause-calm g c soles loose =
    let p = err_from_is_err_and c.from_residual.result c.from_residual.ensures.1 in rw (p.1, p.2)
    (c.in_err-pair.ensures.calm soles loose)

pub write_pair-requires-clause-within : goal.write_pair-requires-clause-within
write_pair-requires-clause-within g c = omega arith

pub write_pair-requires-clause-objects : goal.write_pair-requires-clause-objects
write_pair-requires-clause-objects g c = objects_last c.args.shared.now.config (first_version_of c.args.shared.now)
    c.args.kept.now c.args.found.now.place c.args.last (record_of c.args.pass.now) (record_of c.last_pair.new.pass)
    c.in_ok-pair.ensures.goes c.requires.objects

pub returns-clause-filled : goal.returns-clause-filled
returns-clause-filled g c = fills_last c.args.shared.now.config (first_version_of c.args.shared.now)
    c.args.kept.now c.args.found.now.place c.args.last (record_of c.args.pass.now) (record_of c.last_pair.new.pass)
    c.in_ok-pair.ensures.goes _ _ c.write_pair.new.kept (record_of c.write_pair.new.pass).written c.write_pair.result
    c.if-found-last.false c.in_ok-pair.ensures.pair c.write_pair.ensures.wrote

pub returns-clause-stays : goal.returns-clause-stays
returns-clause-stays g c = c.write_pair.ensures.stays

pub returns-clause-goes : goal.returns-clause-goes
returns-clause-goes g c = move_behind c.args.shared.now.config (first_version_of c.args.shared.now)
    (record_of c.args.pass.now).written c.args.kept.now c.args.found.now.place c.args.last _ (record_of c.args.pass.now)
    (record_of c.last_pair.new.pass) (record_of c.write_pair.new.pass) _ c.if-found-last.false
    c.in_ok-pair.ensures.goes c.write_pair.ensures.goes c.in_ok-pair.ensures.pair

pub returns-clause-calm : goal.returns-clause-calm
returns-clause-calm g c soles loose = calm_last c.args.shared.now.config (first_version_of c.args.shared.now)
    c.args.kept.now c.args.found.now.place c.args.last (record_of c.args.pass.now) (record_of c.last_pair.new.pass)
    c.in_ok-pair.ensures.goes _ c.write_pair.ensures.calm soles loose
