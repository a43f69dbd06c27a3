use Rattle.std.proofs.lemmas.Result.{IfOk-from_err}
use Rattle.std.proofs.Common.{[], refl, subst, arith, inl, inr}
use Rattle.cb_types.specs.declared.config.Field.TheVariants.{Nodes}
use Rattle.cb_evict.specs.Shipping.{IsNextPut, Waits}
use Rattle.cb_evict.proofs.Composed.{any_err}
use Rattle.cb_evict.proofs.ShipParts.{refused, shipped, reads_alone}
use Rattle.cb_evict.proofs.shipping.ship.Goals as goal

pub next_put-requires-clause-few : goal.next_put-requires-clause-few
next_put-requires-clause-few g c =
    let n = c.requires.config Nodes in let nodes = c.requires.configured.nodes in omega (arith, n.1, nodes)

pub returns-in_err-next_put-clause-error : goal.returns-in_err-next_put-clause-error
returns-in_err-next_put-clause-error g c =
    any_err _ _ (reads_alone (λ es. g.D.Desk.run c.args.desk.now es c.args.desk.now)
    (λ s. g.D.Desk.shows c.args.desk.now s) c.args.far.now c.args.far.now refl
    ([], g.met.D.Desk.none _, tt))

pub returns-in_err-ship_row-in-Put-clause-error : goal.returns-in_err-ship_row-in-Put-clause-error
returns-in_err-ship_row-in-Put-clause-error g c =
    any_err _ _ (reads_alone (λ es. g.D.Desk.run c.args.desk.now es c.ship_row.new.desk)
    (λ s. g.D.Desk.shows c.args.desk.now s) c.args.far.now c.ship_row.new.far
    c.in_err-ship_row-in-Put.ensures.unchanged c.in_err-ship_row-in-Put.ensures.err)

pub returns-in-NoBatch-clause-ship : goal.returns-in-NoBatch-clause-ship
returns-in-NoBatch-clause-ship g c =
    let far = c.args.far.now in
    let x = subst (IsNextPut far) c.in-NoBatch.is c.in_ok-next_put.ensures.next in
    refused (λ es. g.D.Desk.run c.args.desk.now es c.args.desk.now)
    (λ s. g.D.Desk.shows c.args.desk.now s) far far _ (g.met.D.Desk.none _) refl
    (λ row. inl (record { none = x; reply = refl; state = refl }))

pub returns-in-AllShipped-clause-ship : goal.returns-in-AllShipped-clause-ship
returns-in-AllShipped-clause-ship g c =
    let far = c.args.far.now in
    let x = subst (IsNextPut far) c.in-AllShipped.is c.in_ok-next_put.ensures.next in
    refused (λ es. g.D.Desk.run c.args.desk.now es c.args.desk.now)
    (λ s. g.D.Desk.shows c.args.desk.now s) far far _ (g.met.D.Desk.none _) refl
    (λ row. inr (inl (record {
      batch = x.0;
      there = x.1;
      none = x.2;
      reply = refl;
      state = refl;
    })))

pub returns-in-NoNode-clause-ship : goal.returns-in-NoNode-clause-ship
returns-in-NoNode-clause-ship g c =
    let far = c.args.far.now in
    let x = subst (IsNextPut far) c.in-NoNode.is c.in_ok-next_put.ensures.next in
    refused (λ es. g.D.Desk.run c.args.desk.now es c.args.desk.now)
    (λ s. g.D.Desk.shows c.args.desk.now s) far far _ (g.met.D.Desk.none _) refl
    (λ row. inr (inr (inl (record {
      batch = x.0;
      there = x.1;
      position = x.2.0;
      least = x.2.1;
      none = x.2.2;
      reply = refl;
      state = refl;
    }))))

pub returns-in_ok-ship_row-in-Put-clause-ship : goal.returns-in_ok-ship_row-in-Put-clause-ship
returns-in_ok-ship_row-in-Put-clause-ship g c =
    let far = c.args.far.now in
    let x = subst (IsNextPut far) c.in-Put.is c.in_ok-next_put.ensures.next in
    shipped (λ es. g.D.Desk.run c.args.desk.now es c.ship_row.new.desk)
    (λ s. g.D.Desk.shows c.args.desk.now s) far c.ship_row.new.far x.0 c.in-Put.position
    c.in-Put.shard x.1 x.2.0 x.2.1 (c.in_ok-ship_row-in-Put.ensures.ok x.0 x.1)

pub next_put-requires-clause-sound : goal.next_put-requires-clause-sound
next_put-requires-clause-sound g c = (c.requires.sound.0, c.requires.sound.2)

pub returns-in_err-next_put-clause-ship : goal.returns-in_err-next_put-clause-ship
returns-in_err-next_put-clause-ship g c = IfOk-from_err _ _ c.from_residual.ensures.0

pub returns-in_err-next_put-clause-unchanged : goal.returns-in_err-next_put-clause-unchanged
returns-in_err-next_put-clause-unchanged g c = any_err _ _ refl

pub ship_row-requires-clause-config : goal.ship_row-requires-clause-config
ship_row-requires-clause-config g c = c.requires.config

pub ship_row-requires-clause-configured : goal.ship_row-requires-clause-configured
ship_row-requires-clause-configured g c = c.requires.configured

pub ship_row-requires-clause-keys : goal.ship_row-requires-clause-keys
ship_row-requires-clause-keys g c = c.requires.keys

pub ship_row-requires-clause-sound : goal.ship_row-requires-clause-sound
ship_row-requires-clause-sound g c = (c.requires.sound.0, c.requires.sound.2)

pub returns-in_err-next_put-clause-waits : goal.returns-in_err-next_put-clause-waits
returns-in_err-next_put-clause-waits g c = any_err _ _ c.in_err-next_put.ensures.waits

pub returns-in_err-ship_row-in-Put-clause-waits : goal.returns-in_err-ship_row-in-Put-clause-waits
returns-in_err-ship_row-in-Put-clause-waits g c =
    let x = subst (IsNextPut c.args.far.now) c.in-Put.is c.in_ok-next_put.ensures.next in
    let waits : Waits c.args.far.now = (x.0, c.in-Put.position, x.1, x.2.0) in any_err _ _ waits

pub returns-in-NoBatch-clause-error : goal.returns-in-NoBatch-clause-error
returns-in-NoBatch-clause-error g c = tt

pub returns-in-NoBatch-clause-unchanged : goal.returns-in-NoBatch-clause-unchanged
returns-in-NoBatch-clause-unchanged g c = tt

pub returns-in-AllShipped-clause-error : goal.returns-in-AllShipped-clause-error
returns-in-AllShipped-clause-error g c = tt

pub returns-in-AllShipped-clause-unchanged : goal.returns-in-AllShipped-clause-unchanged
returns-in-AllShipped-clause-unchanged g c = tt

pub returns-in-NoNode-clause-error : goal.returns-in-NoNode-clause-error
returns-in-NoNode-clause-error g c = tt

pub returns-in-NoNode-clause-unchanged : goal.returns-in-NoNode-clause-unchanged
returns-in-NoNode-clause-unchanged g c = tt

pub returns-in_ok-ship_row-in-Put-clause-error : goal.returns-in_ok-ship_row-in-Put-clause-error
returns-in_ok-ship_row-in-Put-clause-error g c = tt

pub returns-in_ok-ship_row-in-Put-clause-unchanged : goal.returns-in_ok-ship_row-in-Put-clause-unchanged
returns-in_ok-ship_row-in-Put-clause-unchanged g c = tt
