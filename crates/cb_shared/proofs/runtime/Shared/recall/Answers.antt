use Rattle.std.proofs.Common.{◌∙◌, sym, ap, subst}
use Rattle.cb_rule.specs.Slot.{Sat}
use Rattle.cb_rule.specs.declared.view.View.{View}
use Rattle.cb_shared.specs.Passes.{record_of}
use Rattle.cb_shared.specs.Recalls.{Recalls}
use Rattle.cb_shared.proofs.Resting.{rest_moved}
use Rattle.cb_shared.proofs.runtime.Shared.recall.Goals as goal

pub returns-clause-of : goal.returns-clause-of
returns-clause-of c = let m = c.recall_at.ensures.same in record {
  accepted = c.requires.of.accepted;
  table = m.0 ∙ c.requires.of.table;
  rest = rest_moved c.args.self.now.config c.args.pass.now.seat c.recall_at.new.seat
      (record_of c.args.pass.now) m c.requires.of.rest;
}

pub returns-clause-same : goal.returns-clause-same
returns-clause-same c = ap (λ (m : Sat). m.0) c.recall_at.ensures.same.2

pub returns-clause-own : goal.returns-clause-own
returns-clause-own c = subst (λ (v : View). Recalls c.args.self.now.board.shared.key.first v)
    (sym (returns-clause-same c)) c.recall_at.ensures.own
