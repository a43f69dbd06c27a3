use Rattle.std.proofs.Common.{◌∷◌, [], sym, subst, Option}
use Rattle.cb_shared.specs.Passes.{record_of}
use Rattle.cb_shared.specs.Recalls.{first_version_of}
use Rattle.cb_farmap.specs.declared.kept.Cannot.{Cannot}
use Rattle.cb_farmap.specs.Calls.{AskMake, Goes, trouble}
use Rattle.cb_farmap.specs.Changes.{IsCalm}
use Rattle.cb_farmap.proofs.Calm.{make_calm}
use Rattle.cb_farmap.proofs.Going.{goes_by, make_gives, no_place_told}
use Rattle.cb_farmap.proofs.Making.{blank_gone, made_told}
use Rattle.cb_farmap.proofs.object.make_kept.Goals as goal

pub returns-in_err-push_blank-clause-goes : goal.returns-in_err-push_blank-clause-goes
returns-in_err-push_blank-clause-goes g c = no_place_told c.args.shared.now.config
    (first_version_of c.args.shared.now) c.args.bytes.now (record_of c.args.pass.now)
    c.from_residual.result c.from_residual.ensures.1

pub returns-clause-goes : goal.returns-clause-goes
returns-clause-goes g c = subst
    (λ (t : Option Cannot). Goes c.args.shared.now.config (first_version_of c.args.shared.now)
    (AskMake c.args.bytes.now ∷ []) t (record_of c.args.pass.now) (record_of c.recall.new.pass))
    (sym c.settle.ensures.same) (goes_by c.args.shared.now.config
    (first_version_of c.args.shared.now) (AskMake c.args.bytes.now) (record_of c.args.pass.now)
    (record_of c.make-made.new.pass) (record_of c.recall.new.pass) c.recall.ensures.same
    c.make-made.result (trouble c.made_of-answer.result)
    (c.made_of-answer.ensures.tells c.args.bytes.now)
    (make_gives c.args.shared.now.config (first_version_of c.args.shared.now) c.args.bytes.now
    c.make-made.result (record_of c.args.pass.now) (record_of c.make-made.new.pass)
    c.make-made.ensures.make c.make-made.ensures.new) c.make-made.ensures.error)

pub returns-clause-made : goal.returns-clause-made
returns-clause-made g c = made_told c.args.shared.now.config (first_version_of c.args.shared.now)
    c.args.bytes.now (record_of c.args.pass.now) (record_of c.make-made.new.pass)
    (record_of c.recall.new.pass) c.recall.ensures.same c.recall.ensures.own.stands
    c.requires.size c.args.kept.now c.make-made.result c.made_of-answer.result c.settle.result
    c.push_blank.new.self c.settle.new.kept c.in_ok-push_blank.ensures.ok c.make-made.ensures.make
    c.make-made.ensures.new c.made_of-answer.ensures.made c.settle.ensures.done

pub returns-clause-stays : goal.returns-clause-stays
returns-clause-stays g c = blank_gone c.args.kept.now c.push_blank.new.self c.settle.new.kept
    c.settle.result c.in_ok-push_blank.ensures.ok c.settle.ensures.undone

pub returns-clause-calm : goal.returns-clause-calm
returns-clause-calm g c = subst IsCalm (sym c.settle.ensures.same) (make_calm
    c.args.shared.now.config c.args.bytes.now (record_of c.args.pass.now)
    (record_of c.make-made.new.pass) c.make-made.result (trouble c.made_of-answer.result)
    (c.made_of-answer.ensures.tells c.args.bytes.now) c.make-made.ensures.make)
