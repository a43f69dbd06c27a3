use Rattle.std.proofs.Common.{List, sym, subst}
use Rattle.cb_lanes.specs.declared.body.Named.{Named}
use Rattle.cb_lanes.specs.Bodies.{AreNamesOf}
use Rattle.cb_app.proofs.Records.{names_are}
use Rattle.cb_app.proofs.threads.run_all.Goals as goal

pub run_crew-requires-clause-names : goal.run_crew-requires-clause-names
run_crew-requires-clause-names g c = λ κs within.
    subst (λ (ns : List Named). AreNamesOf ns c.in_ok-end.end.answers) (sym c.in_ok-names.ensures)
    (names_are c.in_ok-end.end.answers)
