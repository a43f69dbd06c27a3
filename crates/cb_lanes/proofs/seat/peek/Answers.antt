use Rattle.std.proofs.Common.{sym, subst}
use Rattle.cb_world.specs.World.{WorldState, IsSoundWorld}
use Rattle.cb_lanes.specs.LineStep.{PeekStep}
use Rattle.cb_lanes.proofs.Shown.{ok_then, either_way, PeekedAt, peek_is, peek_sound, peek_stopped}
use Rattle.cb_lanes.proofs.seat.peek.Goals as goal

pub returns-in-Some-clause-peek : goal.returns-in-Some-clause-peek
returns-in-Some-clause-peek c =
    let w : WorldState =
    record { desk = c.world.inside.desk; far = c.world.inside.far; seats = c.world.inside.seats } in
    let sound : IsSoundWorld w = subst IsSoundWorld (sym c.world.view_is) c.requires.sound in
    let newest = c.in-Some.ensures.found in
    let p : PeekedAt w c.args.seat c.args.handle.n c.in-Some.field-0 c.read.new.desk
    c.read.new.far = record {
      sound = sound;
      seat_is = c.requires.seat;
      newest = newest;
      same = c.read.ensures.far;
    } in
    ok_then c.read.result (λ r performs.
    subst (λ (v : WorldState). PeekStep c.args.seat c.args.handle.n v r
    (record { desk = c.read.new.desk; far = c.read.new.far; seats = c.world.inside.seats }))
    c.world.view_is
    (peek_is w c.args.seat c.args.handle.n c.in-Some.field-0 c.read.new.desk c.read.new.far r p
    performs))
    c.read.ensures.read

pub returns-in-Some-clause-sound : goal.returns-in-Some-clause-sound
returns-in-Some-clause-sound c =
    let w : WorldState =
    record { desk = c.world.inside.desk; far = c.world.inside.far; seats = c.world.inside.seats } in
    let sound : IsSoundWorld w = subst IsSoundWorld (sym c.world.view_is) c.requires.sound in
    let newest = c.in-Some.ensures.found in
    let p : PeekedAt w c.args.seat c.args.handle.n c.in-Some.field-0 c.read.new.desk
    c.read.new.far = record {
      sound = sound;
      seat_is = c.requires.seat;
      newest = newest;
      same = c.read.ensures.far;
    } in
    either_way c.read.result
    (λ r performs. peek_sound w c.args.seat c.args.handle.n c.in-Some.field-0 c.read.new.desk
    c.read.new.far r p performs)
    (λ performs. peek_stopped w c.args.seat c.args.handle.n c.in-Some.field-0 c.read.new.desk
    c.read.new.far p performs)
    c.read.ensures.read c.read.ensures.error
