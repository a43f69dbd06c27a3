use Rattle.std.proofs.Common.{◌∙◌}
use Rattle.cb_rule.specs.Steps.{without_pin}
use Rattle.cb_shared.specs.Passes.{PinFits, record_of, stand_of}
use Rattle.cb_shared.proofs.Resting.{each_has, pins_some, rest_moved, rest_unpin}
use Rattle.cb_shared.proofs.runtime.Shared.unpin.Goals as goal

pub unpin_one-requires-clause-handle : goal.unpin_one-requires-clause-handle
unpin_one-requires-clause-handle c = let p = c.requires.pin in
    (each_has (PinFits c.args.self.now.config) (stand_of c.args.pin p.0)
    (record_of c.args.pass.now).pins c.requires.of.rest.pins p.1).0

pub unpin_one-requires-clause-held : goal.unpin_one-requires-clause-held
unpin_one-requires-clause-held c = let p = c.requires.pin in
    pins_some (stand_of c.args.pin p.0) (record_of c.args.pass.now).pins p.1

pub returns-clause-of : goal.returns-clause-of
returns-clause-of c = let m = c.unpin_one.ensures.moved in record {
  accepted = c.requires.of.accepted;
  table = m.0 ∙ c.requires.of.table;
  rest = rest_moved c.args.self.now.config c.args.pass.now.seat c.unpin_one.new.seat
      (without_pin c.args.pin.handle.n (record_of c.args.pass.now)) m
      (rest_unpin c.args.self.now.config c.args.pin.handle.n (record_of c.args.pass.now)
      c.requires.of.rest);
}
