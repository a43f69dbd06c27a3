use Rattle.std.proofs.Common.{◌≡◌, ◌%◌, ◌∷◌, [], Option, IfOk, sym, subst}
use Rattle.cb_shared.specs.Passes.{record_of}
use Rattle.cb_shared.specs.Recalls.{first_version_of}
use Rattle.cb_farmap.specs.declared.kept.Cannot.{Cannot}
use Rattle.cb_farmap.specs.declared.kept.KeptObject.{KeptObject}
use Rattle.cb_farmap.specs.Arrays.{get_plan}
use Rattle.cb_farmap.specs.Calls.{AskRead, Goes, trouble}
use Rattle.cb_farmap.specs.Changes.{IsCalm, IsLoose, IsSole}
use Rattle.cb_farmap.specs.Numbers.{number_at}
use Rattle.cb_farmap.specs.Objects.{IsObject, bytes_at}
use Rattle.cb_farmap.proofs.Telling.{long_told, number_told}
use Rattle.cb_farmap.proofs.array.number_kept.Goals as goal

pub number_in-requires-clause-long : goal.number_in-requires-clause-long
number_in-requires-clause-long g c = long_told (record_of c.args.pass.now).written c.at.result
    (subst (IsObject (record_of c.args.pass.now).written) (sym c.at.ensures) c.requires.object)
    c.read_kept-bytes.result c.read_kept-bytes.ensures.bytes

pub returns-clause-goes : goal.returns-clause-goes
returns-clause-goes g c = subst (λ (t : Option Cannot). Goes c.args.shared.now.config
    (first_version_of c.args.shared.now) (get_plan c.args.kept.now c.args.i) t
    (record_of c.args.pass.now) (record_of c.read_kept-bytes.new.pass)) (sym c.number_in.ensures.same)
    (subst (λ (k : KeptObject). Goes c.args.shared.now.config (first_version_of c.args.shared.now)
    (AskRead k ∷ []) (trouble c.read_kept-bytes.result) (record_of c.args.pass.now)
    (record_of c.read_kept-bytes.new.pass)) c.at.ensures c.read_kept-bytes.ensures.goes)

pub returns-clause-number : goal.returns-clause-number
returns-clause-number g c = subst (λ (k : KeptObject). IfOk c.number_in.result (λ x. x
    ≡ number_at (bytes_at (record_of c.args.pass.now).written k) (c.args.i % 128))) c.at.ensures
    (number_told (record_of c.args.pass.now).written c.at.result (c.args.i % 128)
    c.read_kept-bytes.result c.number_in.result c.read_kept-bytes.ensures.bytes
    c.number_in.ensures.same c.number_in.ensures.number)

pub returns-clause-calm : goal.returns-clause-calm
returns-clause-calm g c sole loose = subst IsCalm (sym c.number_in.ensures.same)
    (c.read_kept-bytes.ensures.calm
    (subst (IsSole (record_of c.args.pass.now)) (sym c.at.ensures) sole)
    (subst (IsLoose (record_of c.args.pass.now)) (sym c.at.ensures) loose))
