use Rattle.std.proofs.Common.{◌∙◌, List, sym, ap}
use Rattle.cb_rule.specs.declared.turn.Turn.{Turn}
use Rattle.cb_rule.specs.declared.view.View.{View}
use Rattle.cb_record.specs.Parts.{grown, keeps_after}
use Rattle.cb_shared.specs.Handles.{handles_of}
use Rattle.cb_shared.specs.Passes.{record_of}
use Rattle.cb_shared.proofs.Glanced.{of_pass}
use Rattle.cb_shared.proofs.Resting.{view_of}
use Rattle.cb_shared.proofs.Seeking.{kept_known}
use Rattle.cb_shared.proofs.runtime.Shared.find_swapped.Goals as goal

pub find_known-requires-clause-of : goal.find_known-requires-clause-of
find_known-requires-clause-of g c = of_pass c.args.self.now c.args.pass.now c.requires.of

pub returns-clause-of : goal.returns-clause-of
returns-clause-of g c = let k = kept_known c.args.self.now.config c.args.freed c.args.pass.now.seat
    c.find_known.new.seat c.requires.of.rest c.find_known.ensures in record {
      accepted = c.requires.of.accepted;
      table = k.table ∙ c.requires.of.table;
      rest = k.rest;
    }

pub returns-clause-finds : goal.returns-clause-finds
returns-clause-finds g c = let x = c.find_known.ensures in (
  x.0,
  view_of c.args.pass.now.seat c.find_known.new.seat (grown x.0 (record_of c.args.pass.now)) x.1,
  x.4,
)

pub invariant_of-pass : goal.invariant_of-pass
invariant_of-pass g c = let k = kept_known c.args.self.now.config c.args.freed
    c.args.pass.now.seat c.find_known.new.seat c.requires.of.rest c.find_known.ensures in record {
      shares = c.args.pass.now.shares ∙ sym k.share;
      carries = k.carries ∙ c.args.pass.now.carries;
      pinned = c.args.pass.now.pinned ∙ sym (ap handles_of k.pins);
      tried = c.args.pass.now.tried ∙ sym k.tries;
    }

pub returns-clause-order : goal.returns-clause-order
returns-clause-order g c = let x = c.find_known.ensures in let v = record_of c.args.pass.now in
    ap (λ (u : View). u.order) (view_of c.args.pass.now.seat c.find_known.new.seat (grown x.0 v) x.1)
    ∙ ap (λ (l : List Turn). keeps_after l v.order) x.2.1
