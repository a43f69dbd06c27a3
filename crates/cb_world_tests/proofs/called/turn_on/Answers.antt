use Rattle.std.proofs.Common.{◌<◌, sym, subst}
use Rattle.cb_types.specs.declared.config.Config.{Config}
use Rattle.cb_core.specs.Jobs.{IsJob}
use Rattle.cb_world_tests.proofs.Calling.{caller_keeps, known_in_range}
use Rattle.cb_shared.proofs.Laws.{turn_keeps}
use Rattle.cb_world_tests.proofs.called.turn_on.Goals as goal

pub job_of-requires : goal.job_of-requires
job_of-requires g c = subst (λ (k : Config). c.args.h.n < k.handles) (sym c.config.ensures)
    (known_in_range c.args.shared.now c.args.pass.now c.args.h.n c.requires.caller.of
    (c.requires.among c.args.pass.now.seat.me.0 c.requires.caller.knows))

pub turn-requires-clause-job : goal.turn-requires-clause-job
turn-requires-clause-job g c =
    subst (λ (k : Config). IsJob k c.in-Some.job) c.config.ensures c.in-Some.ensures.job

pub turn-requires-clause-alone : goal.turn-requires-clause-alone
turn-requires-clause-alone g c = c.in-Some.ensures.alone

pub turn-requires-clause-knows : goal.turn-requires-clause-knows
turn-requires-clause-knows g c =
    c.in-Some.ensures.object c.args.pass.now.seat.me.0 (c.requires.among c.args.pass.now.seat.me.0 c.requires.caller.knows)

pub returns-in-Some : goal.returns-in-Some
returns-in-Some g c = record {
  caller = caller_keeps c.args.shared.now c.args.objects.now c.args.pass.now c.turn.new.pass
      c.requires.caller c.turn.ensures.of
      (turn_keeps c.args.shared.now.config c.in-Some.job c.turn.result _ _ c.turn.ensures.turn);
}
