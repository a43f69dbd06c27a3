use Rattle.std.proofs.Common.{◌∙◌, sym, ap}
use Rattle.cb_shared.specs.Handles.{handles_of}
use Rattle.cb_shared.specs.Passes.{record_of}
use Rattle.cb_shared.proofs.Glanced.{kept_glance, of_pass}
use Rattle.cb_shared.proofs.ReadKept.{IsSeatKept}
use Rattle.cb_shared.proofs.Resting.{known_below}
use Rattle.cb_shared.proofs.runtime.Shared.look.Goals as goal
use Rattle.cb_shared.proofs.runtime.Shared.look.Goals.{After-glance}

pub glance-requires-clause-of : goal.glance-requires-clause-of
glance-requires-clause-of c = of_pass c.args.self.now c.args.pass.now c.requires.of

pub glance-requires-clause-handle : goal.glance-requires-clause-handle
glance-requires-clause-handle c = known_below c.args.self.now.config c.args.h.n
    (record_of c.args.pass.now) c.requires.of.rest c.requires.knows

-- what the look leaves
kept : (c : After-glance) → IsSeatKept c.args.self.now.config c.args.pass.now.seat c.glance.new.seat
kept c = kept_glance c.args.self.now.config c.args.h.n c.glance.result c.args.pass.now.seat
    c.glance.new.seat c.glance.ensures
    (known_below c.args.self.now.config c.args.h.n (record_of c.args.pass.now) c.requires.of.rest
    c.requires.knows) c.requires.of.rest

pub returns-clause-of : goal.returns-clause-of
returns-clause-of c = let k = kept (goal.at.returns-clause-of c).After-glance in record {
  accepted = c.requires.of.accepted;
  table = k.table ∙ c.requires.of.table;
  rest = k.rest;
}

pub returns-clause-look : goal.returns-clause-look
returns-clause-look c = c.glance.ensures

pub invariant_of-pass : goal.invariant_of-pass
invariant_of-pass c =
    let k = kept (goal.at.invariant_of-pass c).After-glance in let p = c.args.pass.now in record {
      shares = p.shares ∙ sym k.share;
      carries = k.carries ∙ p.carries;
      pinned = p.pinned ∙ sym (ap handles_of k.pins);
      tried = p.tried ∙ sym k.tries;
    }
