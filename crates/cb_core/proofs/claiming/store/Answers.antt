use Rattle.std.proofs.Common.{◌-◌, arith, refl, sym, subst}
use Rattle.cb_types.specs.declared.reply.Reply.TheVariants as answer
use Rattle.cb_world.specs.World.{WorldState, IsSoundWorld}
use Rattle.cb_core.specs.Claiming.{StoreStep}
use Rattle.cb_core.proofs.ClaimAnswers.{open_small, store_done, store_nothing, store_within}
use Rattle.cb_core.proofs.claiming.store.Goals as goal

pub left-left-requires-clause-end : goal.left-left-requires-clause-end
left-left-requires-clause-end c =
    let w : WorldState =
    record { desk = c.world.inside.desk; far = c.world.inside.far; seats = c.world.inside.seats } in
    let small = open_small w c.args.seat c.in-Some.at c.claim-write.result.now
    (subst IsSoundWorld (sym c.world.view_is) c.requires.sound) c.claim-write.ensures in
    omega (arith, small.end)

pub left-left-requires-clause-few : goal.left-left-requires-clause-few
left-left-requires-clause-few c =
    let w : WorldState =
    record { desk = c.world.inside.desk; far = c.world.inside.far; seats = c.world.inside.seats } in
    (open_small w c.args.seat c.in-Some.at c.claim-write.result.now
    (subst IsSoundWorld (sym c.world.view_is) c.requires.sound) c.claim-write.ensures).few

pub returns-then-left-eq0 : goal.returns-then-left-eq0
returns-then-left-eq0 c =
    let w : WorldState =
    record { desk = c.world.inside.desk; far = c.world.inside.far; seats = c.world.inside.seats } in
    record {
      step = subst (λ (v : WorldState).
          StoreStep c.args.seat c.args.h.n v (answer.Stored c.left-left.result) v) c.world.view_is
          (store_nothing w c.args.seat c.args.h.n c.in-Some.at c.left-left.result
          c.claim-write.result.now c.in-Some.ensures.found c.claim-write.ensures c.left-left.ensures
          (omega (arith, c.if-left-eq0.true)));
    }

pub store_next-requires-clause-small : goal.store_next-requires-clause-small
store_next-requires-clause-small c =
    let w : WorldState =
    record { desk = c.world.inside.desk; far = c.world.inside.far; seats = c.world.inside.seats } in
    let small = open_small w c.args.seat c.in-Some.at c.claim-write.result.now
    (subst IsSoundWorld (sym c.world.view_is) c.requires.sound) c.claim-write.ensures in
    (omega (arith, small.next), omega (arith, small.end), omega (arith, small.end))

pub store_next-requires-clause-next : goal.store_next-requires-clause-next
store_next-requires-clause-next c =
    let w : WorldState =
    record { desk = c.world.inside.desk; far = c.world.inside.far; seats = c.world.inside.seats } in
    (open_small w c.args.seat c.in-Some.at c.claim-write.result.now
    (subst IsSoundWorld (sym c.world.view_is) c.requires.sound) c.claim-write.ensures).version

pub store_next-requires-clause-within : goal.store_next-requires-clause-within
store_next-requires-clause-within c = λ two.
    let w : WorldState =
    record { desk = c.world.inside.desk; far = c.world.inside.far; seats = c.world.inside.seats } in
    store_within w c.args.seat c.args.h.n c.in-Some.at c.left-left.result c.claim-write.result.now
    (subst IsSoundWorld (sym c.world.view_is) c.requires.sound) c.in-Some.ensures.found
    c.claim-write.ensures c.left-left.ensures two

pub count_stored-requires-clause-few : goal.count_stored-requires-clause-few
count_stored-requires-clause-few c = λ d there.
    let w : WorldState =
    record { desk = c.world.inside.desk; far = c.world.inside.far; seats = c.world.inside.seats } in
    let small = open_small w c.args.seat c.in-Some.at d
    (subst IsSoundWorld (sym c.world.view_is) c.requires.sound) there in
    omega (arith, small.stored)

pub returns : goal.returns
returns c =
    let w : WorldState =
    record { desk = c.world.inside.desk; far = c.world.inside.far; seats = c.world.inside.seats } in
    let new : WorldState = record {
      desk = c.store_next.new.desk;
      far = c.world.inside.far;
      seats = c.count_stored.new.self;
    } in
    record {
      step = subst (λ (v : WorldState).
          StoreStep c.args.seat c.args.h.n v (answer.Stored (c.left-left.result - 1)) new)
          c.world.view_is
          (store_done w new c.args.seat c.args.h.n c.in-Some.at c.left-left.result
          c.claim-write.result.now c.in-Some.ensures.found c.claim-write.ensures c.left-left.ensures
          (omega (arith, c.if-left-eq0.false)) c.store_next.ensures.word
          c.store_next.ensures.version
          (c.count_stored.ensures c.claim-write.result.now c.claim-write.ensures) refl);
    }
