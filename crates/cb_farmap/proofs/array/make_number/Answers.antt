use Rattle.std.proofs.Common.{List, ◌∷◌, [], ℕ, IfOk, subst}
use Rattle.cb_shared.specs.Passes.{record_of}
use Rattle.cb_shared.specs.Recalls.{first_version_of}
use Rattle.cb_farmap.specs.Calls.{AskMake, Goes, trouble}
use Rattle.cb_farmap.specs.Changes.{Makes}
use Rattle.cb_farmap.proofs.array.make_number.Goals as goal

pub returns-clause-goes : goal.returns-clause-goes
returns-clause-goes g c = subst (λ (l : List ℕ). Goes c.args.shared.now.config
    (first_version_of c.args.shared.now) (AskMake l ∷ []) (trouble c.make_kept.result)
    (record_of c.args.pass.now) (record_of c.make_kept.new.pass)) c.write_u64.ensures
    c.make_kept.ensures.goes

pub returns-clause-made : goal.returns-clause-made
returns-clause-made g c = subst (λ (l : List ℕ). IfOk c.make_kept.result (λ _. Makes
    (record_of c.args.pass.now).written c.args.kept.now c.make_kept.new.kept l
    (record_of c.make_kept.new.pass).written)) c.write_u64.ensures c.make_kept.ensures.made
