use Rattle.std.proofs.Common.{◌+◌, ◌<◌, List, sym, subst, arith}
use Rattle.cb_shared.specs.Passes.{record_of}
use Rattle.std.specs.List.{AllByRecursion}
use Rattle.cb_app.specs.Crew.{IsDealt}
use Rattle.cb_app.specs.CrewTurns.{IsLane, bodies_of}
use Rattle.cb_app.specs.declared.crew.Task.{Task}
use Rattle.cb_app.proofs.Crews.{dealt_none}
use Rattle.cb_app.proofs.crew.deal_lanes.Goals as goal

pub loop-before-init : goal.loop-before-init
loop-before-init c =
    let s = c.args.shared.now in
    let p = c.args.pass.now in
    record {
      dealt = subst (λ (ts : List Task). IsDealt s c.args.lines.now 0 0 (record_of p) ts p)
          (sym c.requires.none) (dealt_none s c.args.lines.now p c.requires.of c.requires.whole);
      lanes = subst (λ (ts : List Task). AllByRecursion IsLane (bodies_of ts))
          (sym c.requires.none) tt;
    }

pub loop-before-preserved : goal.loop-before-preserved
loop-before-preserved c =
    let n = c.loop-before.before in
    let low : n + 1 < 256 = omega (arith, c.loop-before-test.true) in
    record {
      dealt = c.in_ok-deal_lane.ensures.dealt c.args.lines.now (record_of c.args.pass.now)
          (rw c.from.ensures (sym (c.used_lanes-used.ensures (n + 1) low)))
          c.loop-before.invariant.dealt;
      lanes = c.in_ok-deal_lane.ensures.lane c.loop-before.invariant.lanes;
    }
