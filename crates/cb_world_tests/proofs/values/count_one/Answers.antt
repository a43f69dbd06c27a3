use Rattle.cb_farmap.proofs.Laws.{on_then}
use Rattle.cb_world_tests.proofs.values.count_one.Goals as goal
use Rattle.cb_world_tests.proofs.values.count_one.Goals.{then-len-lt-MOST+in_ok-put, else-len-lt-MOST}
use Rattle.std.proofs.Common.{subst, sym}
use Rattle.cb_shared.specs.declared.pass.Pass.{Pass}
use Rattle.cb_shared.specs.Passes.{record_of}
use Rattle.cb_farmap.specs.Changes.{GoesOn}

pub returns-in_err-put-clause-on : goal.returns-in_err-put-clause-on
returns-in_err-put-clause-on g c = on_then _ _ _ c.look.ensures.keeps.on c.put.ensures.keeps.on

pub returns-clause-on : goal.returns-clause-on
returns-clause-on g c = elim c.if-len-lt-MOST.branch [
  | then-len-lt-MOST+in_ok-put w ↦
      subst (λ (p : Pass). GoesOn (record_of c.args.pass.now) (record_of p)) (sym w.pass-is)
      (on_then _ _ _ c.look.ensures.keeps.on w.put.ensures.keeps.on)
  | else-len-lt-MOST w ↦
      subst (λ (p : Pass). GoesOn (record_of c.args.pass.now) (record_of p)) (sym w.pass-is)
      c.look.ensures.keeps.on
]
