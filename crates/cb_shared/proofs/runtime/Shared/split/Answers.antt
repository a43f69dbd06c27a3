use Rattle.std.proofs.Common.{◌∙◌}
use Rattle.cb_rule.specs.Slot.{Sat}
use Rattle.std.proofs.Common.{sym, subst}
use Rattle.cb_shared.specs.Passes.{IsAtRest, record_of}
use Rattle.cb_shared.proofs.Parting.{rest_right}
use Rattle.cb_shared.proofs.runtime.Shared.split.Goals as goal

pub returns-clause-new : goal.returns-clause-new
returns-clause-new c = let r = c.split_seat-seat.ensures.right in record {
  accepted = c.requires.of.accepted;
  table = r.0 ∙ c.requires.of.table;
  rest = subst (λ (m : Sat). IsAtRest c.args.self.now.config m.0) (sym r.1)
      (rest_right c.args.self.now.config c.args.share (record_of c.args.pass.now) c.requires.of.rest
      c.requires.share.0 c.requires.share.1);
}
