use Rattle.std.proofs.Common.{◌∙◌, sym, ap, inl, inr, refl}
use Rattle.cb_shared.specs.Handles.{handles_of}
use Rattle.cb_shared.specs.Passes.{record_of}
use Rattle.cb_shared.specs.Seats.{record_at}
use Rattle.cb_shared.proofs.Glanced.{of_pass, write_tries}
use Rattle.cb_shared.proofs.Resting.{known_below}
use Rattle.cb_shared.proofs.runtime.Shared.write_from.Goals as goal

pub write_at-requires-clause-of : goal.write_at-requires-clause-of
write_at-requires-clause-of c = of_pass c.args.self.now c.args.pass.now c.requires.of

pub write_at-requires-clause-rest : goal.write_at-requires-clause-rest
write_at-requires-clause-rest c = c.requires.of.rest

pub write_at-requires-clause-handle : goal.write_at-requires-clause-handle
write_at-requires-clause-handle c = known_below c.args.self.now.config c.args.h.n
    (record_of c.args.pass.now) c.requires.of.rest c.requires.knows

pub returns-in-Some-clause-of : goal.returns-in-Some-clause-of
returns-in-Some-clause-of c = c.requires.of

pub returns-in-Some-clause-write : goal.returns-in-Some-clause-write
returns-in-Some-clause-write c =
    inl (c.refuse_write.ensures.refused c.in-Some.answer c.in-Some.is, refl)

pub returns-in-None-clause-of : goal.returns-in-None-clause-of
returns-in-None-clause-of c = record {
  accepted = c.requires.of.accepted;
  table = c.write_at.ensures.table.0 ∙ c.requires.of.table;
  rest = c.write_at.ensures.rest;
}

pub returns-in-None-clause-write : goal.returns-in-None-clause-write
returns-in-None-clause-write c = let fit = c.refuse_write.ensures.room c.in-None.is in
    inr (fit.0, fit.1, c.write_at.ensures.write)

pub invariant_of-pass : goal.invariant_of-pass
invariant_of-pass c =
    let p = c.args.pass.now in let x = c.write_at.ensures in record {
      shares = p.shares ∙ sym x.share;
      carries = x.table.1 ∙ p.carries;
      pinned = p.pinned ∙ sym (ap handles_of x.pins);
      tried = p.tried ∙ sym (write_tries c.args.h.n c.args.saw c.args.at c.args.bytes.now
          c.write_at.result (record_at p.seat) (record_at c.write_at.new.seat) x.write);
    }
