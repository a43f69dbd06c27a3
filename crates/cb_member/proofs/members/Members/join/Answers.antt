use Rattle.std.proofs.Common.{◌≡◌, false, subst, sym, ◌∙◌, rules}
use Rattle.cb_member.specs.Membership.{Membership, alive}
use Rattle.cb_member.proofs.Valid.{join_written}
use Rattle.cb_member.proofs.members.Members.join.Goals as goal

pub invariant_of-self : goal.invariant_of-self
invariant_of-self c =
    let m : Membership =
    record { epoch = c.self.inside.epoch; nodes = c.self.inside.nodes.items } in
    let was : alive c.args.self.now c.args.node ≡ false = search rules in
    join_written m c.args.node c.from.result _ c.index_mut-state.result.now c.self.invariant
    (search rules)
    (subst (λ (x : Membership). alive x c.args.node ≡ false) (sym c.self.view_is) was)
    c.from.ensures (c.state.view_is ∙ c.index_mut-state.ensures.value)

pub returns-clause-valid : goal.returns-clause-valid
returns-clause-valid c =
    let m : Membership =
    record { epoch = c.self.inside.epoch; nodes = c.self.inside.nodes.items } in
    let was : alive c.args.self.now c.args.node ≡ false = search rules in
    join_written m c.args.node c.from.result _ c.index_mut-state.result.now c.self.invariant
    (search rules)
    (subst (λ (x : Membership). alive x c.args.node ≡ false) (sym c.self.view_is) was)
    c.from.ensures (c.state.view_is ∙ c.index_mut-state.ensures.value)
