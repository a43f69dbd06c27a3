use Rattle.std.proofs.Common.{◌≡◌, ℕ, List, [], ◌∷◌, ◌++◌, true, replicate, sym, ap, ◌∙◌, subst, arith}
use Rattle.std.proofs.lemmas.List.{replicate_more}
use Rattle.cb_member.specs.Membership.{IsMembership, NodeState, fresh_node}
use Rattle.cb_member.proofs.Fresh.{fresh-IsMembership}
use Rattle.cb_member.proofs.members.Members.new.Goals as goal

pub loop-preserved : goal.loop-preserved
loop-preserved c =
    c.in_ok-push.ensures.items
    ∙ (λ i. c.loop.all.items
    ++ record { up = true; incarnation = 0; crashes = c.new.ensures.items i } ∷ [])
    ∙ ap (λ (nodes : List NodeState). nodes ++ fresh_node ∷ []) c.loop.invariant
    ∙ replicate_more c.loop.counter fresh_node

pub invariant_of-result : goal.invariant_of-result
invariant_of-result c =
    subst (λ (nodes : List NodeState). IsMembership (record { epoch = 0; nodes = nodes }))
    (sym c.loop.invariant)
    (fresh-IsMembership c.loop.counter
    (omega (arith, c.loop.auto.counter-end, c.ranges.nodes.fits)))

pub returns-clause-fresh : goal.returns-clause-fresh
returns-clause-fresh c =
    let all : c.loop.counter ≡ c.args.nodes =
    omega (arith, c.loop.auto.counter-end, c.loop-test.false) in
    let are : c.loop.all.items ≡ replicate c.args.nodes fresh_node =
    c.loop.invariant ∙ ap (λ (n : ℕ). replicate n fresh_node) all in
    λ i. record { epoch = 0; nodes = are i }

pub returns-clause-valid : goal.returns-clause-valid
returns-clause-valid c =
    subst (λ (nodes : List NodeState). IsMembership (record { epoch = 0; nodes = nodes }))
    (sym c.loop.invariant)
    (fresh-IsMembership c.loop.counter
    (omega (arith, c.loop.auto.counter-end, c.ranges.nodes.fits)))
