use Rattle.std.proofs.Common.{◌∙◌, sym, ap}
use Rattle.cb_shared.specs.Handles.{handles_of}
use Rattle.cb_shared.specs.Passes.{record_of}
use Rattle.cb_shared.specs.Seats.{record_at}
use Rattle.cb_shared.proofs.Glanced.{kept_glance, of_kept, of_pass, pin_tries, pinned_gives}
use Rattle.cb_shared.proofs.ReadKept.{IsSeatKept}
use Rattle.cb_shared.proofs.Resting.{known_below, knows_glance, refused_gives}
use Rattle.cb_shared.proofs.runtime.Shared.pin.Goals as goal
use Rattle.cb_shared.proofs.runtime.Shared.pin.Goals.{After-glance-saw}

pub glance-saw-requires-clause-of : goal.glance-saw-requires-clause-of
glance-saw-requires-clause-of c = of_pass c.args.self.now c.args.pass.now c.requires.of

pub glance-saw-requires-clause-handle : goal.glance-saw-requires-clause-handle
glance-saw-requires-clause-handle c = known_below c.args.self.now.config c.args.h.n
    (record_of c.args.pass.now) c.requires.of.rest c.requires.knows

-- what the look leaves
kept : (c : After-glance-saw)
    → IsSeatKept c.args.self.now.config c.args.pass.now.seat c.glance-saw.new.seat
kept c = kept_glance c.args.self.now.config c.args.h.n c.glance-saw.result c.args.pass.now.seat
    c.glance-saw.new.seat c.glance-saw.ensures
    (known_below c.args.self.now.config c.args.h.n (record_of c.args.pass.now) c.requires.of.rest
    c.requires.knows) c.requires.of.rest

pub returns-in-Some-clause-of : goal.returns-in-Some-clause-of
returns-in-Some-clause-of c = let k = kept (goal.at.returns-in-Some-clause-of c).After-glance-saw in record {
  accepted = c.requires.of.accepted;
  table = k.table ∙ c.requires.of.table;
  rest = k.rest;
}

pub returns-in-Some-clause-pin : goal.returns-in-Some-clause-pin
returns-in-Some-clause-pin c = refused_gives c.args.h.n c.glance-saw.result c.in-Some.answer
    c.args.pass.now.seat c.glance-saw.new.seat c.glance-saw.ensures
    (c.refuse_pin.ensures.refused c.in-Some.answer c.in-Some.is)

pub pin_at-requires-clause-of : goal.pin_at-requires-clause-of
pin_at-requires-clause-of c = let s = c.args.self.now in
    of_kept s.board.shared.table_id s.board.shared.key s.config c.args.pass.now.seat
    c.glance-saw.new.seat (of_pass s c.args.pass.now c.requires.of)
    (kept (goal.at.pin_at-requires-clause-of c).After-glance-saw)

pub pin_at-requires-clause-rest : goal.pin_at-requires-clause-rest
pin_at-requires-clause-rest c =
    (kept (goal.at.pin_at-requires-clause-rest c).After-glance-saw).rest

pub pin_at-requires-clause-handle : goal.pin_at-requires-clause-handle
pin_at-requires-clause-handle c = known_below c.args.self.now.config c.args.h.n
    (record_of c.args.pass.now) c.requires.of.rest c.requires.knows

pub pin_at-requires-clause-knows : goal.pin_at-requires-clause-knows
pin_at-requires-clause-knows c = knows_glance c.args.h.n c.args.h.n c.glance-saw.result
    c.args.pass.now.seat c.glance-saw.new.seat c.glance-saw.ensures c.requires.knows

pub pin_at-requires-clause-pins : goal.pin_at-requires-clause-pins
pin_at-requires-clause-pins c = c.args.pass.now.pinned
    ∙ sym (ap handles_of (kept (goal.at.pin_at-requires-clause-pins c).After-glance-saw).pins)

pub invariant_of-pass-in-Some-1 : goal.invariant_of-pass-in-Some-1
invariant_of-pass-in-Some-1 c =
    let k = kept (goal.at.invariant_of-pass-in-Some-1 c).After-glance-saw in
    let p = c.args.pass.now in record {
      shares = p.shares ∙ sym k.share;
      carries = k.carries ∙ p.carries;
      pinned = p.pinned ∙ sym (ap handles_of k.pins);
      tried = p.tried ∙ sym k.tries;
    }

pub invariant_of-pass-in-None : goal.invariant_of-pass-in-None
invariant_of-pass-in-None c =
    let k = kept (goal.at.invariant_of-pass-in-None c).After-glance-saw in
    let p = c.args.pass.now in let x = c.pin_at.ensures in record {
      shares = p.shares ∙ sym k.share ∙ sym x.share;
      carries = x.table.1 ∙ k.carries ∙ p.carries;
      pinned = x.pins;
      tried = p.tried ∙ sym k.tries ∙ sym (pin_tries c.args.h.n c.glance-saw.result c.pin_at.result
          (record_at c.glance-saw.new.seat) (record_at c.pin_at.new.seat) x.pin);
    }

pub returns-in-None-clause-of : goal.returns-in-None-clause-of
returns-in-None-clause-of c = let k = kept (goal.at.returns-in-None-clause-of c).After-glance-saw in record {
  accepted = c.requires.of.accepted;
  table = c.pin_at.ensures.table.0 ∙ k.table ∙ c.requires.of.table;
  rest = c.pin_at.ensures.rest;
}

pub returns-in-None-clause-pin : goal.returns-in-None-clause-pin
returns-in-None-clause-pin c = pinned_gives c.args.h.n c.glance-saw.result c.pin_at.result
    c.args.pass.now.seat c.glance-saw.new.seat c.pin_at.new.seat c.glance-saw.ensures
    (c.refuse_pin.ensures.room c.in-None.is).0 c.pin_at.ensures.pin
