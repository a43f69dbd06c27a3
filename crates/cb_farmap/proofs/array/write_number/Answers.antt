use Rattle.std.proofs.Common.{◌*◌, ◌/◌, ◌%◌, List, ◌∷◌, [], ℕ, subst}
use Rattle.cb_shared.specs.Passes.{record_of}
use Rattle.cb_shared.specs.Recalls.{first_version_of}
use Rattle.cb_farmap.specs.Calls.{AskWrite, Goes, trouble}
use Rattle.cb_farmap.specs.Objects.{object_at}
use Rattle.cb_farmap.proofs.Telling.{wrote_told}
use Rattle.cb_farmap.proofs.array.write_number.Goals as goal

pub returns-clause-goes : goal.returns-clause-goes
returns-clause-goes g c = subst (λ (l : List ℕ). Goes c.args.shared.now.config
    (first_version_of c.args.shared.now)
    (AskWrite (object_at c.args.kept.now (c.args.i / 128)) (8 * (c.args.i % 128)) l ∷ [])
    (trouble c.write_kept.result) (record_of c.args.pass.now) (record_of c.write_kept.new.pass))
    c.write_u64.ensures c.write_kept.ensures.goes

pub returns-clause-wrote : goal.returns-clause-wrote
returns-clause-wrote g c = wrote_told c.args.kept.now c.args.i c.args.x c.write_u64.new.buf
    c.write_kept.new.kept (record_of c.args.pass.now) (record_of c.write_kept.new.pass)
    c.write_kept.result c.write_u64.ensures c.write_kept.ensures.wrote c.write_kept.ensures.done

pub returns-clause-stays : goal.returns-clause-stays
returns-clause-stays g c = c.write_kept.ensures.stays

pub returns-clause-calm : goal.returns-clause-calm
returns-clause-calm g c = c.write_kept.ensures.calm
