use Rattle.std.proofs.lemmas.Result.{on_err_weaker}
use Rattle.cb_lanes.proofs.Compacted.{compacted_stays, lacking_is, lacking_stays, turn_compacted}
use Rattle.cb_lanes.proofs.Compacted.{turn_refused}
use Rattle.cb_lanes.proofs.Shown.{either_way, ok_then}
use Rattle.cb_lanes.proofs.compacting.compact_here.Goals as goal

pub returns-in-Some-clause-step : goal.returns-in-Some-clause-step
returns-in-Some-clause-step c =
    turn_refused c.args.seat c.args.world.now c.admit_turn.new.world c.in-Some.reply
    c.in-Some.ensures.same c.in-Some.ensures.refused

pub returns-in-None-clause-step : goal.returns-in-None-clause-step
returns-in-None-clause-step c = ok_then c.compact.result (λ r step.
    turn_compacted c.args.seat c.args.world.now c.admit_turn.new.world c.compact.new.world
    c.requires.sound c.in-None.ensures.admitted c.compact.ensures.desk c.compact.ensures.seats r
    step)
    c.compact.ensures.step

pub returns-in-None-clause-error : goal.returns-in-None-clause-error
returns-in-None-clause-error c = on_err_weaker c.compact.result (λ lacks.
    lacking_is c.args.seat c.args.world.now c.admit_turn.new.world c.compact.new.world
    c.requires.sound c.in-None.ensures.admitted c.compact.ensures.desk c.compact.ensures.seats
    lacks.0 lacks.1 lacks.2)
    c.compact.ensures.error

pub returns-in-None-clause-sound : goal.returns-in-None-clause-sound
returns-in-None-clause-sound c = either_way c.compact.result
    (λ r step. compacted_stays c.args.seat c.args.world.now c.admit_turn.new.world
    c.compact.new.world c.requires.sound c.in-None.ensures.admitted c.compact.ensures.desk
    c.compact.ensures.seats r step c.compact.ensures.sound)
    (λ lacks. lacking_stays c.args.seat c.args.world.now c.admit_turn.new.world
    c.compact.new.world c.requires.sound c.in-None.ensures.admitted c.compact.ensures.desk
    c.compact.ensures.seats lacks.0 lacks.1 lacks.2 c.compact.ensures.sound)
    c.compact.ensures.step c.compact.ensures.error
