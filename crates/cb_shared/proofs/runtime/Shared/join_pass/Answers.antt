use Rattle.std.proofs.Common.{◌≡◌, ◌∙◌, ◌+◌, ◌≤◌, ap, sym, subst, arith}
use Rattle.std.specs.Option.{option_or}
use Rattle.cb_rule.specs.Slot.{Sat}
use Rattle.cb_rule.specs.Steps.{joined}
use Rattle.cb_rule.specs.declared.view.View.{View}
use Rattle.cb_shared.specs.Handles.{handles_of}
use Rattle.cb_shared.specs.Joining.{unpinned_all}
use Rattle.cb_shared.specs.Passes.{IsAtRest, record_of}
use Rattle.cb_shared.specs.Seats.{record_at}
use Rattle.cb_shared.specs.Trying.{tries_of}
use Rattle.cb_shared.proofs.Glanced.{of_pass}
use Rattle.cb_shared.proofs.Parting.{rest_joined, tries_joined}
use Rattle.cb_shared.proofs.Tallying.{tallies}
use Rattle.cb_shared.proofs.runtime.Shared.join_pass.Goals as goal
use Rattle.cb_shared.proofs.runtime.Shared.join_pass.Goals.{After-load}

pub give_back-requires-clause-of : goal.give_back-requires-clause-of
give_back-requires-clause-of c = of_pass c.args.self.now c.args.other c.requires.other

pub give_back-requires-clause-pins : goal.give_back-requires-clause-pins
give_back-requires-clause-pins c = c.requires.other.rest.pins

pub overflow_add-pass : goal.overflow_add-pass
overflow_add-pass c =
    let a = c.requires.of.rest.most in let b = c.requires.other.rest.most in
    let p = c.args.pass.now.shares in let o = c.give_back.new.pass.shares in
    let s = ap (λ (m : Sat). m.0.share) c.give_back.ensures.2 in omega (arith, a, b, p, o, s)

pub join_seats-requires-clause-of : goal.join_seats-requires-clause-of
join_seats-requires-clause-of c = of_pass c.args.self.now c.args.pass.now c.requires.of

pub join_seats-requires-clause-other : goal.join_seats-requires-clause-other
join_seats-requires-clause-other c = let o = c.requires.other in let g = c.give_back.ensures in record {
  table = g.0 ∙ o.table;
  carries = ap (λ (m : Sat). m.1) g.2 ∙ c.args.other.carries;
  live = subst (λ (m : Sat). 1 ≤ m.0.share) (sym g.2) o.rest.live;
  no_pins = ap (λ (m : Sat). m.0.pins) g.2;
  no_claims = ap (λ (m : Sat). m.0.claims) g.2 ∙ o.rest.claims;
  free = ap (λ (m : Sat). m.0.holds) g.2 ∙ c.requires.free;
}

pub join_seats-requires-clause-fresh : goal.join_seats-requires-clause-fresh
join_seats-requires-clause-fresh c = c.requires.of.rest.fresh

pub join_seats-requires-clause-out : goal.join_seats-requires-clause-out
join_seats-requires-clause-out c = c.requires.of.rest.out.0

pub load-requires : goal.load-requires
load-requires c = let s = c.args.self.now in (
  c.join_seats.ensures.0 ∙ c.requires.of.table,
  (let z = s.counts in omega arith),
  tallies s.board.shared.key.first s.board.shared.key.config _ _ _ _,
)

-- what the look leaves
left : (c : After-load) → c.load.new.seat.me ≡ (let z : Sat = (
  joined (record_of c.args.pass.now) (unpinned_all (record_of c.args.other)),
  c.args.pass.now.seat.me.1,
) in z)
left c = let p = c.args.pass.now.seat.me in
    c.load.ensures.2.0 ∙ c.join_seats.ensures.2
    ∙ ap (λ (m : Sat). let z : Sat = (joined p.0 m.0, p.1) in z) c.give_back.ensures.2

pub invariant_of-pass : goal.invariant_of-pass
invariant_of-pass c = let p = c.args.pass.now in let o = c.give_back.new.pass in
    let v = record_of p in let g = c.give_back.ensures.2 in let z = left c in record {
      shares = (λ i. p.shares i + o.shares i)
          ∙ ap (λ (m : Sat). v.share + m.0.share) g ∙ sym (ap (λ (m : Sat). m.0.share) z);
      carries = ap (λ (m : Sat). m.1) z ∙ p.carries;
      pinned = p.pinned ∙ sym (ap (λ (m : Sat). handles_of m.0.pins) z);
      tried = c.or-pass.ensures ∙ (λ i. option_or (o.tried i) (p.tried i))
          ∙ ap (λ (m : Sat). option_or (tries_of m.0) (tries_of v)) g
          ∙ tries_joined v (record_of c.args.other)
          ∙ sym (ap (λ (m : Sat). tries_of m.0) z);
    }

pub returns-clause-of : goal.returns-clause-of
returns-clause-of c =
    let cfg = c.args.self.now.config in let v = record_of c.args.pass.now in
    let w = record_of c.args.other in let t = c.load.ensures in
    let z = left (goal.at.returns-clause-of c).After-load in
    let back : record_at c.join_seats.new.seat ≡ joined v (unpinned_all w) =
    ap (λ (m : Sat). m.0) c.join_seats.ensures.2
    ∙ ap (λ (m : Sat). joined v m.0) c.give_back.ensures.2 in record {
      accepted = c.requires.of.accepted;
      table = t.0 ∙ c.join_seats.ensures.0 ∙ c.requires.of.table;
      rest = subst (λ (m : Sat). IsAtRest cfg m.0) (sym z) (rest_joined cfg v w
          c.requires.of.rest c.requires.other.rest
          (subst (λ (x : View). x.share ≤ 64) back t.2.1));
    }

pub returns-clause-joined : goal.returns-clause-joined
returns-clause-joined c =
    ap (λ (m : Sat). m.0) (left (goal.at.returns-clause-joined c).After-load)
