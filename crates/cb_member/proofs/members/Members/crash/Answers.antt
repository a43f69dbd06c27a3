use Rattle.std.proofs.Common.{◌≡◌, true, subst, sym, ◌∙◌, rules}
use Rattle.cb_member.specs.Membership.{Membership, alive}
use Rattle.cb_member.proofs.Valid.{crash_written}
use Rattle.cb_member.proofs.members.Members.crash.Goals as goal

pub invariant_of-self-2 : goal.invariant_of-self-2
invariant_of-self-2 c =
    let m : Membership =
    record { epoch = c.self.inside.epoch; nodes = c.self.inside.nodes.items } in
    let was : alive c.args.self.now c.args.node ≡ true = search rules in
    crash_written m c.args.node c.from.result _ c.index_mut-state.result.now c.push.new.self.items
    c.self.invariant
    (search rules)
    (subst (λ (x : Membership). alive x c.args.node ≡ true) (sym c.self.view_is) was)
    c.from.ensures (c.state.view_is ∙ c.index_mut-state.ensures.value) c.in_ok-push.ensures.items

pub returns-clause-valid : goal.returns-clause-valid
returns-clause-valid c =
    let m : Membership =
    record { epoch = c.self.inside.epoch; nodes = c.self.inside.nodes.items } in
    let was : alive c.args.self.now c.args.node ≡ true = search rules in
    crash_written m c.args.node c.from.result _ c.index_mut-state.result.now c.push.new.self.items
    c.self.invariant
    (search rules)
    (subst (λ (x : Membership). alive x c.args.node ≡ true) (sym c.self.view_is) was)
    c.from.ensures (c.state.view_is ∙ c.index_mut-state.ensures.value) c.in_ok-push.ensures.items
