use Rattle.std.proofs.Common.{◌+◌, ap, arith, refl, sym, subst}
use Rattle.cb_types.specs.declared.reply.Reply.TheVariants as answer
use Rattle.cb_world.specs.Seats.{OpenWriteState}
use Rattle.cb_world.specs.World.{WorldState, IsSoundWorld}
use Rattle.cb_core.specs.Claiming.{SettleStep}
use Rattle.cb_core.proofs.ClaimAnswers.{open_small, settle_refused, settle_done}
use Rattle.cb_core.proofs.claiming.settle.Goals as goal

pub left-left-requires-clause-end : goal.left-left-requires-clause-end
left-left-requires-clause-end c =
    let w : WorldState =
    record { desk = c.world.inside.desk; far = c.world.inside.far; seats = c.world.inside.seats } in
    let small = open_small w c.args.seat c.in-Some.at c.claim-write.result.now
    (subst IsSoundWorld (sym c.world.view_is) c.requires.sound) c.claim-write.ensures in
    omega (arith, small.end)

pub left-left-requires-clause-few : goal.left-left-requires-clause-few
left-left-requires-clause-few c =
    let w : WorldState =
    record { desk = c.world.inside.desk; far = c.world.inside.far; seats = c.world.inside.seats } in
    (open_small w c.args.seat c.in-Some.at c.claim-write.result.now
    (subst IsSoundWorld (sym c.world.view_is) c.requires.sound) c.claim-write.ensures).few

pub returns-then-left-gt0 : goal.returns-then-left-gt0
returns-then-left-gt0 c =
    let w : WorldState =
    record { desk = c.world.inside.desk; far = c.world.inside.far; seats = c.world.inside.seats } in
    record {
      step = subst (λ (v : WorldState).
          SettleStep c.args.seat c.args.h.n v (answer.NotStored c.left-left.result) v) c.world.view_is
          (settle_refused w c.args.seat c.args.h.n c.in-Some.at c.left-left.result
          c.claim-write.result.now c.in-Some.ensures.found c.claim-write.ensures c.left-left.ensures
          (omega (arith, c.if-left-gt0.true)));
    }

pub returns : goal.returns
returns c =
    let w : WorldState =
    record { desk = c.world.inside.desk; far = c.world.inside.far; seats = c.world.inside.seats } in
    let new : WorldState =
    record { desk = c.settle_here.new.self; far = c.world.inside.far; seats = c.close.new.self } in
    record {
      step = subst (λ (v : WorldState).
          SettleStep c.args.seat c.args.h.n v (answer.Version (c.write.inside.version + 1)) new)
          c.world.view_is
          (settle_done w new c.args.seat c.args.h.n c.in-Some.at c.left-left.result
          c.write.inside.version c.claim-write.result.now c.in-Some.ensures.found
          c.claim-write.ensures c.left-left.ensures (omega (arith, c.if-left-gt0.false))
          (ap (λ (z : OpenWriteState). z.version) c.write.view_is)
          (record { word = c.settle_here.ensures; seats = c.close.ensures; far = refl }));
    }
