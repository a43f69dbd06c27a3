use Rattle.std.proofs.Common.{◌≡◌, IfOk, OnOk, sym, subst, ◌∙◌, rules}
use Rattle.std.proofs.lemmas.Bool.{le-ltb, lt-ltb}
use Rattle.cb_gen.specs.Drawn.{Drawn}
use Rattle.cb_gen.proofs.Actions.{action_makes, action_seldom, action_writes}
use Rattle.cb_gen.proofs.request.draw_request.Goals as goal

pub returns-then-is_make-clause-request : goal.returns-then-is_make-clause-request
returns-then-is_make-clause-request c =
    let is =
    action_makes c.args.action c.args.draws.now.state c.args.lane c.args.lengths.now
    (sym c.is_make.ensures ∙ c.if-is_make.true) in
    subst (λ (d : Drawn). IfOk c.draw_make.result (λ request. request ≡ d.request))
    (sym is) c.draw_make.ensures.request

pub returns-then-is_make-clause-left : goal.returns-then-is_make-clause-left
returns-then-is_make-clause-left c =
    let is =
    action_makes c.args.action c.args.draws.now.state c.args.lane c.args.lengths.now
    (sym c.is_make.ensures ∙ c.if-is_make.true) in
    subst (λ (d : Drawn). OnOk c.draw_make.result (c.draw_make.new.draws.state ≡ d.left))
    (sym is) c.draw_make.ensures.left

pub returns-then-action-lt14-clause-request : goal.returns-then-action-lt14-clause-request
returns-then-action-lt14-clause-request c =
    let is =
    action_writes c.args.action c.args.draws.now.state c.args.lane c.args.lengths.now
    (sym c.is_make.ensures ∙ c.if-is_make.false)
    (le-ltb c.args.action 10 c.if-action-lt10.false)
    (lt-ltb c.args.action 14 c.if-action-lt14.true) in
    subst (λ (d : Drawn). IfOk c.draw_write.result (λ request. request ≡ d.request))
    (sym is) c.draw_write.ensures.request

pub returns-then-action-lt14-clause-left : goal.returns-then-action-lt14-clause-left
returns-then-action-lt14-clause-left c =
    let is =
    action_writes c.args.action c.args.draws.now.state c.args.lane c.args.lengths.now
    (sym c.is_make.ensures ∙ c.if-is_make.false)
    (le-ltb c.args.action 10 c.if-action-lt10.false)
    (lt-ltb c.args.action 14 c.if-action-lt14.true) in
    subst (λ (d : Drawn). OnOk c.draw_write.result (c.draw_write.new.draws.state ≡ d.left))
    (sym is) c.draw_write.ensures.left

pub returns-clause-request : goal.returns-clause-request
returns-clause-request c =
    let is =
    action_seldom c.args.action c.args.draws.now.state c.args.lane c.args.lengths.now
    c.below-what.result c.below-what.new.self.state c.below-what.ensures.drawn
    c.below-what.ensures.left
    (sym c.is_make.ensures ∙ c.if-is_make.false)
    (le-ltb c.args.action 10 c.if-action-lt10.false)
    (le-ltb c.args.action 14 c.if-action-lt14.false) (search rules) in
    subst (λ (d : Drawn). IfOk c.draw_seldom.result (λ request. request ≡ d.request))
    (sym is) c.draw_seldom.ensures.request

pub returns-clause-left : goal.returns-clause-left
returns-clause-left c =
    let is =
    action_seldom c.args.action c.args.draws.now.state c.args.lane c.args.lengths.now
    c.below-what.result c.below-what.new.self.state c.below-what.ensures.drawn
    c.below-what.ensures.left
    (sym c.is_make.ensures ∙ c.if-is_make.false)
    (le-ltb c.args.action 10 c.if-action-lt10.false)
    (le-ltb c.args.action 14 c.if-action-lt14.false) (search rules) in
    subst (λ (d : Drawn). OnOk c.draw_seldom.result (c.draw_seldom.new.draws.state ≡ d.left))
    (sym is) c.draw_seldom.ensures.left
