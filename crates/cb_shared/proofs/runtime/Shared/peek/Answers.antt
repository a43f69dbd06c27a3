use Rattle.std.proofs.Common.{◌∙◌, ◌+◌, sym, ap, subst, arith}
use Rattle.cb_types.specs.declared.config.Config.{Config}
use Rattle.cb_rule.specs.Slot.{Sat}
use Rattle.cb_rule.specs.Steps.{with_peek}
use Rattle.cb_rule.specs.Words.{base}
use Rattle.cb_shared.specs.Handles.{handles_of}
use Rattle.cb_shared.specs.Passes.{IsAtRest, PinFits, record_of, stand_of}
use Rattle.cb_shared.specs.Seats.{Moves}
use Rattle.cb_shared.specs.Trying.{tries_of}
use Rattle.cb_shared.proofs.PinsAlone.{peeks_at}
use Rattle.cb_shared.proofs.Resting.{each_has}
use Rattle.cb_shared.proofs.runtime.Shared.peek.Goals as goal
use Rattle.cb_shared.proofs.runtime.Shared.peek.Goals.{After-load}

pub load-requires : goal.load-requires
load-requires c = let s = c.args.self.now in let p = c.requires.pin in (
  c.requires.of.table,
  (let all = s.counts in
      let l = (each_has (PinFits s.config) (stand_of c.args.pin.now p.0)
      (record_of c.args.pass.now).pins c.requires.of.rest.pins p.1).1 c.args.index
      c.requires.index in
      omega arith),
  peeks_at s.board.shared.key.first s.config _ s.key _ _ _ c.requires.of.rest.live
      (stand_of c.args.pin.now p.0) _ p.1 c.requires.index,
)

-- where the load leaves the seat
moved : (c : After-load) → Moves c.args.pass.now.seat c.load.new.seat
    (with_peek c.args.pin.now.handle.n c.args.pin.now.version c.args.index c.load.result
    (record_of c.args.pass.now))
moved c = let p = c.requires.pin in (
  c.load.ensures.0,
  c.load.ensures.1,
  (c.load.ensures.2 (stand_of c.args.pin.now p.0) c.args.index p.1 c.requires.index
      (ap (λ (x : Config). base x + c.args.pin.now.place + c.args.index)
      (sym c.requires.of.rest.config))).1,
)

pub invariant_of-pass : goal.invariant_of-pass
invariant_of-pass c = let z = (moved c).2 in let p = c.args.pass.now in record {
  shares = p.shares ∙ sym (ap (λ (m : Sat). m.0.share) z);
  carries = ap (λ (m : Sat). m.1) z ∙ p.carries;
  pinned = p.pinned ∙ sym (ap (λ (m : Sat). handles_of m.0.pins) z);
  tried = p.tried ∙ sym (ap (λ (m : Sat). tries_of m.0) z);
}

pub returns-clause-of : goal.returns-clause-of
returns-clause-of c = let m = moved (goal.at.returns-clause-of c).After-load in
    let r = c.requires.of.rest in record {
      accepted = c.requires.of.accepted;
      table = m.0 ∙ c.requires.of.table;
      rest = subst (λ (x : Sat). IsAtRest c.args.self.now.config x.0) (sym m.2) (record {
        config = r.config;
        live = r.live;
        most = r.most;
        claims = r.claims;
        out = r.out;
        fresh = r.fresh;
        written = r.written;
        seen = r.seen;
        pins = r.pins;
        orders = r.orders;
      });
    }

pub returns-clause-word : goal.returns-clause-word
returns-clause-word c words has =
    (c.load.ensures.2 (stand_of c.args.pin.now words) c.args.index has c.requires.index
    (ap (λ (x : Config). base x + c.args.pin.now.place + c.args.index)
    (sym c.requires.of.rest.config))).0

pub returns-clause-peeked : goal.returns-clause-peeked
returns-clause-peeked c =
    ap (λ (m : Sat). m.0) (moved (goal.at.returns-clause-peeked c).After-load).2
